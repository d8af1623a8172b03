-- What a test of a kind says of the word that stands for it.
use Prim.Native.Nat.{ℕ, ◌<◌, ◌≤◌}
use native.Mathlib.Omega.{arith}
use mathlib.Core.Bool.{Bool, true, false, not}
use mathlib.Core.Path.{◌≡◌, refl, sym, ap, ◌∙◌}
use lib.Dec.{eqb}
use borrow.Author.Tests.{eqb-true, eqb-false, ne_eqb, not-true, not-false}
use denote.Enum.Bare.{sameb}
use denote.Enum.Declared.{Declared, tag_of}
use Rattle.std.specs.Prelude.{Option, None, Some}
use Rattle.std.specs.Option.{option_eq}
use Rattle.pool.specs.Codes.{Stands, name_code, level_code, expr_code}
use Rattle.pool.specs.Tables.{Pool, N, L, E, name_word, level_word, expr_word}
use Rattle.pool.specs.Sound.{Sound}
use Rattle.pool.proofs.RowUnfolds.{name_kind_small, level_kind_small}
use Rattle.pool.proofs.ExprUnfolds.{kind_small}
use Rattle.pool.specs.declared.kinds.NameKind.TheVariants.{Anonymous, String as StringName, Number}
use Rattle.pool.specs.declared.kinds.LevelKind.TheVariants.{Zero, Succ, Max, IMax, Param}
use Rattle.pool.specs.declared.kinds.ExprKind.TheVariants.{Var, Sort, Const, App, Pi, Lambda, Let, Proj, Nat, String}
use Rattle.pool.specs.contracts.kinds.NameKind.{the_type as NameType}
use Rattle.pool.specs.contracts.kinds.LevelKind.{the_type as LevelType}
use Rattle.pool.specs.contracts.kinds.ExprKind.{the_type as ExprType}

-- the words that stand for the variants of an enum: each its place among them
pub record Places (D : Declared) (code : D.D → ℕ) (last : ℕ) : Type 0 where
  pub place : (k : D.D) → tag_of D k ≡ code k
  pub low : (k : D.D) → code k ≤ last

module _ (D : Declared) (code : D.D → ℕ) (last w : ℕ) (places : Places D code last) (o : Option D.D) (s : Stands code last w o) where
  -- one kind and a variant
  module _ (k : D.D) (b : Bool) (e : b ≡ option_eq (sameb D) o (Some k)) where
    pub kind_test : b ≡ eqb w (code k)
    kind_test = e ∙ by o s
      where
        by : (o : Option D.D) → Stands code last w o → option_eq (sameb D) o (Some k) ≡ eqb w (code k)
        by None s = sym (ne_eqb w (code k) (λ e. let l = places.low k in omega arith))
        by (Some j) s = rw (← s, places.place j, places.place k)

    pub kind_is : b ≡ true → w ≡ code k
    kind_is t = eqb-true w (code k) (sym kind_test ∙ t)

    pub kind_not : b ≡ false → w ≡ code k → ⊥
    kind_not t = eqb-false w (code k) (sym kind_test ∙ t)

  -- two kinds, of which the first is one
  module _ (v : ℕ) (p : Option D.D) (t : Stands code last v p) (h : w ≤ last) (b : Bool) (e : b ≡ not (option_eq (sameb D) o p)) where
    kinds_test : b ≡ not (eqb w v)
    kinds_test = e ∙ ap not (by o p s t)
      where
        by : (o p : Option D.D) → Stands code last w o → Stands code last v p → option_eq (sameb D) o p ≡ eqb w v
        by None p s t = absurd (omega arith)
        by (Some i) None s t = sym (ne_eqb w v (λ e. omega arith))
        by (Some i) (Some j) s t = rw (← s, ← t, places.place i, places.place j)

    pub kinds_one : b ≡ false → w ≡ v
    kinds_one q = eqb-true w v (not-false _ (sym kinds_test ∙ q))

    pub kinds_two : b ≡ true → w ≡ v → ⊥
    kinds_two q = eqb-false w v (not-true _ (sym kinds_test ∙ q))

-- a kind that was found
pub found_kind : {K : Type 0} (code : K → ℕ) (last w : ℕ) (o : Option K) → Stands code last w o → (j k : K) → o ≡ Some j → j ≡ k → w ≡ code k
found_kind code last w None s j k e f = let d : ⊥ = cc in absurd d
found_kind code last w (Some i) s j k e f = let d : i ≡ k = cc in sym s ∙ ap code d

-- ---- names

name_place : (k : NameType.D) → tag_of NameType k ≡ name_code k
name_place Anonymous = refl
name_place StringName = refl
name_place Number = refl

pub names_placed : Places NameType name_code 2
names_placed = record { place = name_place; low = λ k. grind arith }

module _ (w : ℕ) (o : Option NameType.D) (s : Stands name_code 2 w o) (k : NameType.D) (b : Bool) (e : b ≡ option_eq (sameb NameType) o (Some k)) where
  pub name_test : b ≡ eqb w (name_code k)
  name_test = kind_test NameType name_code 2 w names_placed o s k b e

  pub name_is : b ≡ true → w ≡ name_code k
  name_is = kind_is NameType name_code 2 w names_placed o s k b e

  pub name_not : b ≡ false → w ≡ name_code k → ⊥
  name_not = kind_not NameType name_code 2 w names_placed o s k b e

module _ (p : Pool) (sound : Sound p) (a b : ℕ) (h : a < N p.names) (o q : Option NameType.D) (s : Stands name_code 2 (name_word p.names a 0) o)
    (t : Stands name_code 2 (name_word p.names b 0) q) (v : Bool) (e : v ≡ not (option_eq (sameb NameType) o q)) where
  low_name : name_word p.names a 0 ≤ 2
  low_name = let l = name_kind_small p sound a h in omega arith

  pub names_one : v ≡ false → name_word p.names a 0 ≡ name_word p.names b 0
  names_one = kinds_one NameType name_code 2 _ names_placed o s _ q t low_name v e

  pub names_two : v ≡ true → name_word p.names a 0 ≡ name_word p.names b 0 → ⊥
  names_two = kinds_two NameType name_code 2 _ names_placed o s _ q t low_name v e

-- ---- levels

level_place : (k : LevelType.D) → tag_of LevelType k ≡ level_code k
level_place Zero = refl
level_place Succ = refl
level_place Max = refl
level_place IMax = refl
level_place Param = refl

pub levels_placed : Places LevelType level_code 4
levels_placed = record { place = level_place; low = λ k. grind arith }

module _ (w : ℕ) (o : Option LevelType.D) (s : Stands level_code 4 w o) (k : LevelType.D) (b : Bool) (e : b ≡ option_eq (sameb LevelType) o (Some k)) where
  pub level_is : b ≡ true → w ≡ level_code k
  level_is = kind_is LevelType level_code 4 w levels_placed o s k b e

  pub level_not : b ≡ false → w ≡ level_code k → ⊥
  level_not = kind_not LevelType level_code 4 w levels_placed o s k b e

module _ (p : Pool) (sound : Sound p) (a b : ℕ) (h : a < L p.words) (o q : Option LevelType.D) (s : Stands level_code 4 (level_word p.words a 0) o)
    (t : Stands level_code 4 (level_word p.words b 0) q) (v : Bool) (e : v ≡ not (option_eq (sameb LevelType) o q)) where
  low_level : level_word p.words a 0 ≤ 4
  low_level = let l = level_kind_small p sound a h in omega arith

  pub levels_one : v ≡ false → level_word p.words a 0 ≡ level_word p.words b 0
  levels_one = kinds_one LevelType level_code 4 _ levels_placed o s _ q t low_level v e

  pub levels_two : v ≡ true → level_word p.words a 0 ≡ level_word p.words b 0 → ⊥
  levels_two = kinds_two LevelType level_code 4 _ levels_placed o s _ q t low_level v e

-- ---- expressions

expr_place : (k : ExprType.D) → tag_of ExprType k ≡ expr_code k
expr_place Var = refl
expr_place Sort = refl
expr_place Const = refl
expr_place App = refl
expr_place Pi = refl
expr_place Lambda = refl
expr_place Let = refl
expr_place Proj = refl
expr_place Nat = refl
expr_place String = refl

pub exprs_placed : Places ExprType expr_code 9
exprs_placed = record { place = expr_place; low = λ k. grind arith }

module _ (p : Pool) (sound : Sound p) (a b : ℕ) (h : a < E p.words) (o q : Option ExprType.D) (s : Stands expr_code 9 (expr_word p.words a 0) o)
    (t : Stands expr_code 9 (expr_word p.words b 0) q) (v : Bool) (e : v ≡ not (option_eq (sameb ExprType) o q)) where
  low_expr : expr_word p.words a 0 ≤ 9
  low_expr = let l = kind_small p sound a h in omega arith

  pub exprs_one : v ≡ false → expr_word p.words a 0 ≡ expr_word p.words b 0
  exprs_one = kinds_one ExprType expr_code 9 _ exprs_placed o s _ q t low_expr v e

  pub exprs_two : v ≡ true → expr_word p.words a 0 ≡ expr_word p.words b 0 → ⊥
  exprs_two = kinds_two ExprType expr_code 9 _ exprs_placed o s _ q t low_expr v e
