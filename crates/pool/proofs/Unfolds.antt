-- Unfolding does not depend on the bound once it is above the row, where references go to lower rows: so the tree of a row is
-- its node over the trees of the rows it refers to.
use Prim.Native.Nat.{ℕ, zero, suc, ◌+◌, ◌*◌, ◌^◌, ◌<◌, max}
use native.Mathlib.Omega.{arith}
use native.Mathlib.Numerals.{one-add}
use mathlib.Core.Bool.{true}
use mathlib.Core.List.{List}
use mathlib.Core.Path.{◌≡◌, refl, sym, ap, ap₂, ◌∙◌}
use lib.ListN.{length, get_or, set}
use lib.Seq.{get_or-set_same, get_or-set_other}
use borrow.Author.Count.{below_more}
use lib.Dec.{ltb}
use borrow.Author.Tests.{ltb-true}
use Rattle.pool.specs.Tables.{Pool, name_word, level_word, expr_word, string_at}
use Rattle.pool.specs.Kinds.{NameKind, name_kind, anonymousᵏ, stringᵏ, numberᵏ, noNameᵏ, LevelKind, level_kind, zeroᵏ, succᵏ, maxᵏ, imaxᵏ, paramᵏ}
use Rattle.pool.specs.Kinds.{noLevelᵏ, expr_kind}
use Rattle.pool.specs.Tree.{Name, name_depth, Level, level_depth, string, number, succˡ, maxˡ, imaxˡ}
use Rattle.pool.specs.Unfold.{name_node, name_to, name_at, level_node, level_to, level_at}
use Rattle.pool.specs.Rules.{name_fields_ok, level_fields_ok, expr_fields_ok}
use Rattle.pool.specs.Depths.{name_depth_by, level_depth_by}
use Rattle.basics.proofs.Booleans.{and_left, and_right}

-- the rows below n keep the rules of their fields
abbrev pub NamesKept : Pool → ℕ → Type 0
NamesKept p n = (j : ℕ) → j < n → name_fields_ok p.names j (name_kind (name_word p.names j 0)) ≡ true

abbrev pub LevelsKept : Pool → ℕ → Type 0
LevelsKept p n = (j : ℕ) → j < n → level_fields_ok p j (level_kind (level_word p.words j 0)) ≡ true

abbrev pub ExprsKept : Pool → ℕ → Type 0
ExprsKept p n = (j : ℕ) → j < n → expr_fields_ok p j (expr_kind (expr_word p.words j 0)) ≡ true

-- a node looks at lower rows only
name_node_lem : (p : Pool) (f g : ℕ → Name) (i : ℕ) (k : NameKind) → name_fields_ok p.names i k ≡ true → ((j : ℕ) → j < i → f j ≡ g j)
    → name_node p f i k ≡ name_node p g i k
unfolding name_node name_fields_ok
name_node_lem p f g i anonymousᵏ ok e = refl
name_node_lem p f g i stringᵏ ok e =
    ap (λ (n : Name). string n (string_at p (name_word p.names i 2))) (e _ (ltb-true (name_word p.names i 1) i (and_left (ltb (name_word p.names i 1) i) _ ok)))
name_node_lem p f g i numberᵏ ok e = ap (λ (n : Name). number n (name_word p.names i 2 + name_word p.names i 3 * 2 ^ 32)) (e _ (ltb-true (name_word p.names i 1) i ok))
name_node_lem p f g i noNameᵏ ok e = refl

-- the same tree at every bound above the row
pub name_bound : (p : Pool) (n : ℕ) → NamesKept p n → (b c i : ℕ) → i < n → i < b → i < c → name_to b p i ≡ name_to c p i
unfolding name_to
name_bound p n kept zero c i h hb hc = absurd (omega arith)
name_bound p n kept (suc b) zero i h hb hc = absurd (omega arith)
name_bound p n kept (suc b) (suc c) i h hb hc =
    name_node_lem p (name_to b p) (name_to c p) i _ (kept i h) (λ j l. name_bound p n kept b c j (omega arith) (omega arith) (omega arith))

-- the tree of a name row is its node over the trees of lower rows
pub name_unfolds : (p : Pool) (n : ℕ) → NamesKept p n → (r : ℕ) → r < n → name_at p r ≡ name_node p (name_at p) r (name_kind (name_word p.names r 0))
unfolding name_at name_to
name_unfolds p n kept r h =
    name_node_lem p (name_to r p) (name_at p) r _ (kept r h) (λ j l. name_bound p n kept r (suc j) j (omega arith) l (omega arith))

level_node_lem : (p : Pool) (f g : ℕ → Level) (i : ℕ) (k : LevelKind) → level_fields_ok p i k ≡ true → ((j : ℕ) → j < i → f j ≡ g j)
    → level_node p f i k ≡ level_node p g i k
unfolding level_node level_fields_ok
level_node_lem p f g i zeroᵏ ok e = refl
level_node_lem p f g i succᵏ ok e = ap succˡ (e _ (ltb-true (level_word p.words i 1) i (and_left (ltb (level_word p.words i 1) i) _ ok)))
level_node_lem p f g i maxᵏ ok e =
    ap₂ maxˡ (e _ (ltb-true (level_word p.words i 1) i (and_left (ltb (level_word p.words i 1) i) _ ok)))
    (e _ (ltb-true (level_word p.words i 2) i (and_right (ltb (level_word p.words i 1) i) _ ok)))
level_node_lem p f g i imaxᵏ ok e =
    ap₂ imaxˡ (e _ (ltb-true (level_word p.words i 1) i (and_left (ltb (level_word p.words i 1) i) _ ok)))
    (e _ (ltb-true (level_word p.words i 2) i (and_right (ltb (level_word p.words i 1) i) _ ok)))
level_node_lem p f g i paramᵏ ok e = refl
level_node_lem p f g i noLevelᵏ ok e = refl

pub level_bound : (p : Pool) (n : ℕ) → LevelsKept p n → (b c i : ℕ) → i < n → i < b → i < c → level_to b p i ≡ level_to c p i
unfolding level_to
level_bound p n kept zero c i h hb hc = absurd (omega arith)
level_bound p n kept (suc b) zero i h hb hc = absurd (omega arith)
level_bound p n kept (suc b) (suc c) i h hb hc =
    level_node_lem p (level_to b p) (level_to c p) i _ (kept i h) (λ j l. level_bound p n kept b c j (omega arith) (omega arith) (omega arith))

pub level_unfolds : (p : Pool) (n : ℕ) → LevelsKept p n → (r : ℕ) → r < n → level_at p r ≡ level_node p (level_at p) r (level_kind (level_word p.words r 0))
unfolding level_at level_to
level_unfolds p n kept r h =
    level_node_lem p (level_to r p) (level_at p) r _ (kept r h) (λ j l. level_bound p n kept r (suc j) j (omega arith) l (omega arith))

-- the depth of a name row from those of lower rows
name_depth_at : (p : Pool) (ds : List ℕ) (r : ℕ) (k : NameKind) → name_fields_ok p.names r k ≡ true
    → ((j : ℕ) → j < r → get_or ds j 0 ≡ name_depth (name_at p j)) → name_depth_by p.names ds r k ≡ name_depth (name_node p (name_at p) r k)
unfolding name_depth_by name_depth name_node name_fields_ok
name_depth_at p ds r anonymousᵏ ok e = refl
name_depth_at p ds r stringᵏ ok e =
    one-add _ ∙ ap suc (e _ (ltb-true (name_word p.names r 1) r (and_left (ltb (name_word p.names r 1) r) _ ok)))
name_depth_at p ds r numberᵏ ok e = one-add _ ∙ ap suc (e _ (ltb-true (name_word p.names r 1) r ok))
name_depth_at p ds r noNameᵏ ok e = refl

level_depth_at : (p : Pool) (ds : List ℕ) (r : ℕ) (k : LevelKind) → level_fields_ok p r k ≡ true
    → ((j : ℕ) → j < r → get_or ds j 0 ≡ level_depth (level_at p j)) → level_depth_by p.words ds r k ≡ level_depth (level_node p (level_at p) r k)
unfolding level_depth_by level_depth level_node level_fields_ok
level_depth_at p ds r zeroᵏ ok e = refl
level_depth_at p ds r succᵏ ok e =
    one-add _ ∙ ap suc (e _ (ltb-true (level_word p.words r 1) r (and_left (ltb (level_word p.words r 1) r) _ ok)))
level_depth_at p ds r maxᵏ ok e =
    one-add _
    ∙ ap suc (ap₂ max (e _ (ltb-true (level_word p.words r 1) r (and_left (ltb (level_word p.words r 1) r) _ ok)))
    (e _ (ltb-true (level_word p.words r 2) r (and_right (ltb (level_word p.words r 1) r) _ ok))))
level_depth_at p ds r imaxᵏ ok e =
    one-add _
    ∙ ap suc (ap₂ max (e _ (ltb-true (level_word p.words r 1) r (and_left (ltb (level_word p.words r 1) r) _ ok)))
    (e _ (ltb-true (level_word p.words r 2) r (and_right (ltb (level_word p.words r 1) r) _ ok))))
level_depth_at p ds r paramᵏ ok e = refl
level_depth_at p ds r noLevelᵏ ok e = refl

-- the depth of a name row is told by those of lower rows, where its fields and theirs are right
pub name_depth_told : (p : Pool) (ds : List ℕ) (r : ℕ) → NamesKept p (r + 1) → ((j : ℕ) → j < r → get_or ds j 0 ≡ name_depth (name_at p j))
    → name_depth_by p.names ds r (name_kind (name_word p.names r 0)) ≡ name_depth (name_at p r)
name_depth_told p ds r kept known = name_depth_at p ds r _ (kept r (omega arith)) known ∙ sym (ap name_depth (name_unfolds p (r + 1) kept r (omega arith)))

pub level_depth_told : (p : Pool) (ds : List ℕ) (r : ℕ) → LevelsKept p (r + 1) → ((j : ℕ) → j < r → get_or ds j 0 ≡ level_depth (level_at p j))
    → level_depth_by p.words ds r (level_kind (level_word p.words r 0)) ≡ level_depth (level_at p r)
level_depth_told p ds r kept known = level_depth_at p ds r _ (kept r (omega arith)) known ∙ sym (ap level_depth (level_unfolds p (r + 1) kept r (omega arith)))

-- the depths of one more row
pub depths_more : (ds : List ℕ) (f : ℕ → ℕ) (r d : ℕ) → r < length ds → ((j : ℕ) → j < r → get_or ds j 0 ≡ f j) → d ≡ f r
    → (j : ℕ) → j < r + 1 → get_or (set ds r d) j 0 ≡ f j
depths_more ds f r d h known e =
    below_more (λ (j : ℕ). get_or (set ds r d) j 0 ≡ f j) r
    (λ j l. get_or-set_other ds r j d 0 (λ q. let z : j ≡ r = q in omega arith) ∙ known j l) (get_or-set_same ds r d 0 h ∙ e)
