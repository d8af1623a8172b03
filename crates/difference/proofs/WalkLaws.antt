-- Laws of the walk from the back.
use Prim.Native.Nat.{ℕ, zero, suc, ◌+◌, ◌<◌, ◌≤◌}
use native.Mathlib.Omega.{arith}
use native.Mathlib.Numerals.{add-one}
use mathlib.Core.Bool.{Bool, true, false, not}
use mathlib.Core.List.{List}
use mathlib.Core.Logic.{◌⊎◌, inl, inr}
use mathlib.Core.Path.{◌≡◌, refl, sym, ap, ◌∙◌, subst}
use Rattle.std.specs.Prelude.{Option, Some, None}
use Rattle.std.specs.Option.{option_eq}
use denote.Enum.Bare.{sameb}
use Rattle.pool.specs.Tables.{Pool, E, expr_word}
use Rattle.pool.specs.Sound.{Sound}
use Rattle.pool.proofs.ExprUnfolds.{kind_small}
use Rattle.pool.specs.Codes.{Stands, expr_code}
use Rattle.pool.specs.contracts.kinds.ExprKind.{the_type as ExprType}
use Rattle.pool.proofs.Standing.{exprs_one, exprs_two}
use Rattle.occurrence.specs.Parts.{part_of, first_part, second_part, body_part}
use Rattle.occurrence.proofs.PartLaws.{first_lower, second_lower, body_lower}
use Rattle.compare.specs.Equal.{fields_same, OneKind}
use Rattle.links.specs.Links.{Owes}
use Rattle.equality.specs.Sweep.{tree_at}
use Rattle.difference.specs.declared.walk.Found.{Found}
use Rattle.difference.specs.declared.walk.Found.TheVariants.{Equal, Unknown}
use Rattle.difference.specs.Order.{Comparison, equal, differ, ◌and_then◌, first_to}
use Rattle.difference.specs.Walks.{is_plain, Classed, KeepsIf, TwoRows, first_at, parts_at, AtOnce, Tells, TwoParts, pair_unless, Walked}
use Rattle.difference.proofs.OrderLaws.{kinds_differ, fields_differ, by_parts, known_equal, equal_known}

-- ---- two rows by themselves

module _ (pool : Pool) (sound : Sound pool) (known : Bool) (d c a b : ℕ) (s : TwoRows pool known a b) where
  small : expr_word pool.words a 0 < 10
  small = kind_small pool sound a s.a_row

  -- they are equal, and so say no other answers
  equal_at_once : ((n : ℕ) → a < n → first_to n pool d c a b ≡ equal) → AtOnce pool d c a b (Some true)
  equal_at_once f = record { no = λ e. cc; yes = λ e. f; one = λ e. cc; left = λ e. cc }

  differ_at_once : ((n : ℕ) → first_to (suc n) pool d c a b ≡ differ a b) → AtOnce pool d c a b (Some false)
  differ_at_once f = record { no = λ e. f; yes = λ e. cc; one = λ e. cc; left = λ e. cc }

  pub known_at_once : known ≡ true → is_plain pool.words d c a ≡ true → AtOnce pool d c a b (Some true)
  known_at_once k plain = equal_at_once (known_equal pool sound d c a b s.a_row s.b_row plain (s.known_so k))

  -- the rows' kinds are read as o and q, and tested
  module _ (o q : Option ExprType.D) (stands : Stands expr_code 9 (expr_word pool.words a 0) o) (stands' : Stands expr_code 9 (expr_word pool.words b 0) q)
      (u : Bool) (tested : u ≡ not (option_eq (sameb ExprType) o q)) where
    pub kinds_at_once : u ≡ true → AtOnce pool d c a b (Some false)
    kinds_at_once e =
        differ_at_once (λ n. kinds_differ n pool d c a b small (exprs_two pool sound a b s.a_row o q stands stands' u tested e))

    module _ (agree : u ≡ false) where
      one : expr_word pool.words a 0 ≡ expr_word pool.words b 0
      one = exprs_one pool sound a b s.a_row o q stands stands' u tested agree

      pub one_kind : OneKind pool a b (expr_word pool.words a 0)
      one_kind = record { a_row = s.a_row; b_row = s.b_row; a_kind = refl; b_kind = one }

      module _ (v : Bool) (ev : v ≡ fields_same pool d c a b (expr_word pool.words a 0)) where
        pub fields_at_once : v ≡ false → AtOnce pool d c a b (Some false)
        fields_at_once e = differ_at_once (λ n. fields_differ n pool d c a b small one (sym ev ∙ e))

        pub parts_at_once : v ≡ true → AtOnce pool d c a b None
        parts_at_once e = record { no = λ z. cc; yes = λ z. cc; one = λ z. one; left = λ z n. by_parts n pool d c a b small one (sym ev ∙ e) }

-- ---- parts that are not there

pair_told : (k : Comparison) (v : Found) (same : Bool) (a b : ℕ) → v ≡ pair_unless same a b → (same ≡ true → k ≡ equal) → (same ≡ false → k ≡ differ a b) → Tells k v
pair_told k v true a b e f g = record { no = λ x y z. cc; yes = λ z. f refl }
pair_told k v false a b e f g = record { no = λ x y z. g refl ∙ cc; yes = λ z. cc }

pair_sure : (v : Found) (same : Bool) (a b : ℕ) → v ≡ pair_unless same a b → v ≡ Unknown → ⊥
pair_sure v true a b e z = cc
pair_sure v false a b e z = cc

module _ (pool : Pool) (d c : ℕ) where
  none_there : (x y : ℕ) → (x ≡ 0) ⊎ (y ≡ 0) → x ≡ y → (n : ℕ) → first_at n pool d c x y ≡ equal
  unfolding first_at
  none_there zero zero h e n = refl
  none_there zero (suc y) h e n = absurd (omega arith)
  none_there (suc x) zero h e n = absurd (omega arith)
  none_there (suc x) (suc y) h e n = absurd (elim h [ inl p ↦ (omega arith) | inr p ↦ (omega arith) ])

  one_there : (x y : ℕ) → (x ≡ 0) ⊎ (y ≡ 0) → (x ≡ y → ⊥) → (n : ℕ) → first_at n pool d c x y ≡ differ 0 0
  unfolding first_at
  one_there zero zero h e n = absurd (e refl)
  one_there zero (suc y) h e n = refl
  one_there (suc x) zero h e n = refl
  one_there (suc x) (suc y) h e n = absurd (elim h [ inl p ↦ (omega arith) | inr p ↦ (omega arith) ])

  pub walked_absent : {x y : ℕ} {kept : List ℕ} → (x ≡ 0) ⊎ (y ≡ 0) → TwoParts pool kept x y c → {steps : Option ℕ} {v : Found} {same : Bool} → v ≡ pair_unless same 0 0
      → (same ≡ true → x ≡ y) → (same ≡ false → x ≡ y → ⊥) → Walked pool d c x y steps steps kept v
  walked_absent {x = x} {y = y} h s {v = v} {same = same} e f g =
      record {
        told = λ n l. pair_told _ v same 0 0 e (λ q. none_there x y h (f q) n) (λ q. one_there x y h (g q) n);
        true_still = s.true_so_far;
        unlimited = λ z. z;
        sure = λ z. pair_sure v same 0 0 e;
      }

-- ---- two rows

-- two rows that are there, before the step s and after it
pub record Rows (pool : Pool) (d x y c a b : ℕ) (s s' : Option ℕ) : Type 0 where
  pub x_is : x ≡ suc a
  pub y_is : y ≡ suc b
  pub x_row : x ≤ E pool.words
  pub y_row : y ≤ E pool.words
  pub room : c + x ≤ 1099511627776
  pub unlimited : s ≡ None → s' ≡ None

pub rows_of : (pool : Pool) (kept : List ℕ) (d : ℕ) (x y : Option ℕ) (c a b : ℕ) (s s' : Option ℕ) (r : Bool) → TwoParts pool kept (part_of x) (part_of y) c → x ≡ Some a
    → y ≡ Some b → (s ≡ None → (r ≡ true) × (s' ≡ None)) → Rows pool d (part_of x) (part_of y) c a b s s'
rows_of pool kept d x y c a b s s' r t ex ey u =
    record { x_is = ap part_of ex; y_is = ap part_of ey; x_row = t.x_row; y_row = t.y_row; room = t.room; unlimited = λ e. (u e).1 }

module _ {pool : Pool} {d x y c a b : ℕ} {s s' : Option ℕ} (r : Rows pool d x y c a b s s') where
  rows_there : (a < E pool.words) × (b < E pool.words)
  rows_there = (omega (arith, r.x_row, r.x_is), omega (arith, r.y_row, r.y_is))

  at_both : (n : ℕ) → first_at n pool d c x y ≡ first_to n pool d c a b
  unfolding first_at
  at_both n = rw (r.x_is, r.y_is)

  pub ask_rows : {kept kept' : List ℕ} {known : Bool} → TwoParts pool kept x y c → Classed kept kept' a b known → TwoRows pool known a b
  ask_rows t k =
      record { a_row = rows_there.0; b_row = rows_there.1; known_so = λ e. k.one e (tree_at pool) t.true_so_far }

  pub still : {kept kept' : List ℕ} {known : Bool} → TwoParts pool kept x y c → Classed kept kept' a b known → Owes (tree_at pool) (tree_at pool) kept'
  still t k = k.keeps (tree_at pool) t.true_so_far

  told_of : (f : Found) → ((n : ℕ) → x ≤ suc n → Tells (first_to (suc n) pool d c a b) f) → (n : ℕ) → x ≤ n → Tells (first_at n pool d c x y) f
  told_of f t zero g = absurd (omega (arith, r.x_is))
  told_of f t (suc n) g = subst (λ (k : Comparison). Tells k f) (sym (at_both (suc n))) (t n g)

  module _ {kept : List ℕ} (true_still : Owes (tree_at pool) (tree_at pool) kept) {v : Option Bool} (quick : AtOnce pool d c a b v) where
    pub walked_quick : {same : Bool} → v ≡ Some same → {f : Found} → f ≡ pair_unless same a b → Walked pool d c x y s s' kept f
    walked_quick {same = same} i {f = f} e =
        record {
          told = told_of f (λ n g. pair_told _ f same _ _ e (λ q. quick.yes (i ∙ ap Some q) (suc n) (omega (arith, g, r.x_is))) (λ q. quick.no (i ∙ ap Some q) n));
          true_still = true_still;
          unlimited = r.unlimited;
          sure = λ z. pair_sure f same _ _ e;
        }

-- ---- the parts of two rows of one kind

-- what is looked at first decides, unless it is equal
told_first : (k l : Comparison) (v : Found) → Tells k v → (v ≡ Equal → ⊥) → Tells (k and_then l) v
unfolding ◌and_then◌
told_first k l v t n = record { no = λ a b e. rw (t.no a b e); yes = λ e. absurd (n e) }

told_next : (k l : Comparison) (v : Found) → k ≡ equal → Tells l v → Tells (k and_then l) v
unfolding ◌and_then◌
told_next k l v e t = rw e t

-- two rows of the kind k whose parts say whether they are equal
pub record Open (pool : Pool) (d x y c a b : ℕ) (s s' : Option ℕ) (kind : ℕ) : Type 0 where
  pub rows : Rows pool d x y c a b s s'
  pub x_kind : kind ≡ expr_word pool.words a 0
  pub y_kind : kind ≡ expr_word pool.words b 0
  pub by : (n : ℕ) → first_to (suc n) pool d c a b ≡ parts_at n pool d c a b kind

pub open_rows : {pool : Pool} {d x y c a b : ℕ} {s s' : Option ℕ} → Rows pool d x y c a b s s' → {v : Option Bool} → AtOnce pool d c a b v → v ≡ None
    → Open pool d x y c a b s s' (expr_word pool.words a 0)
open_rows r quick e =
    record { rows = r; x_kind = refl; y_kind = quick.one e; by = quick.left e }

module _ {pool : Pool} (sound : Sound pool) {d x y c a b : ℕ} {s s' : Option ℕ} {kind : ℕ} (o : Open pool d x y c a b s s' kind) where
  abbrev ws : List ℕ
  ws = pool.words

  there : (a < E ws) × (b < E ws)
  there = rows_there o.rows

  -- parts that are lower are asked for
  abbrev Asks : List ℕ → ℕ → ℕ → ℕ → Type 0
  Asks l u w e = (u < x) × TwoParts pool l u w e

  below : (l : List ℕ) (u w e : ℕ) → Owes (tree_at pool) (tree_at pool) l → u ≤ a → w ≤ b → e ≤ c + 1 → Asks l u w e
  below l u w e q g f r = (
    omega (arith, o.rows.x_is),
    record {
      x_row = omega (arith, there.0);
      y_row = omega (arith, there.1);
      room = omega (arith, o.rows.room, o.rows.x_is);
      true_so_far = q;
    },
  )

  -- what the parts tell, at each bound
  abbrev Says : (ℕ → Comparison) → Found → Type 0
  Says k v = (n : ℕ) → x ≤ suc n → Tells (k n) v

  abbrev body : ℕ → Comparison
  body n = first_at n pool d (suc c) (body_part ws a kind) (body_part ws b kind)

  abbrev second : ℕ → Comparison
  second n = first_at n pool d c (second_part ws a kind) (second_part ws b kind)

  abbrev first : ℕ → Comparison
  first n = first_at n pool d c (first_part ws a kind) (first_part ws b kind)

  told : (v : Found) → Says (λ n. body n and_then (second n and_then first n)) v → (n : ℕ) → x ≤ n → Tells (first_at n pool d c x y) v
  unfolding parts_at
  told v t zero g = absurd (omega (arith, o.rows.x_is))
  told v t (suc n) g =
      subst (λ (k : Comparison). Tells k v) (sym (at_both o.rows (suc n) ∙ o.by n)) (t n g)

  module _ {u w : ℕ} (eu : u ≡ body_part ws a kind) (ew : w ≡ body_part ws b kind) where
    body_low : (u ≤ a) × (w ≤ b)
    body_low = (rw (eu, o.x_kind) (body_lower pool sound a there.0), rw (ew, o.y_kind) (body_lower pool sound b there.1))

    pub ask_bodies : {l : List ℕ} → Owes (tree_at pool) (tree_at pool) l → Asks l u w (c + 1)
    ask_bodies {l = l} q = below l u w (c + 1) q body_low.0 body_low.1 (omega arith)

    pub bodies : {t t' : Option ℕ} {l : List ℕ} {v : Found} → Walked pool d (c + 1) u w t t' l v → Says body v
    bodies k n g = rw (← add-one c, ← eu, ← ew) (k.told n (omega (arith, body_low.0, o.rows.x_is)))

  module _ {u w : ℕ} (eu : u ≡ second_part ws a kind) (ew : w ≡ second_part ws b kind) where
    second_low : (u ≤ a) × (w ≤ b)
    second_low = (rw (eu, o.x_kind) (second_lower pool sound a there.0), rw (ew, o.y_kind) (second_lower pool sound b there.1))

    pub ask_seconds : {l : List ℕ} → Owes (tree_at pool) (tree_at pool) l → Asks l u w c
    ask_seconds {l = l} q = below l u w c q second_low.0 second_low.1 (omega arith)

    pub seconds : {t t' : Option ℕ} {l : List ℕ} {v : Found} → Walked pool d c u w t t' l v → Says second v
    seconds k n g = rw (← eu, ← ew) (k.told n (omega (arith, second_low.0, o.rows.x_is)))

  module _ {u w : ℕ} (eu : u ≡ first_part ws a kind) (ew : w ≡ first_part ws b kind) where
    first_low : (u ≤ a) × (w ≤ b)
    first_low = (rw (eu, o.x_kind) (first_lower pool sound a there.0), rw (ew, o.y_kind) (first_lower pool sound b there.1))

    pub ask_firsts : {l : List ℕ} → Owes (tree_at pool) (tree_at pool) l → Asks l u w c
    ask_firsts {l = l} q = below l u w c q first_low.0 first_low.1 (omega arith)

    pub firsts : {t t' : Option ℕ} {l : List ℕ} {v : Found} → Walked pool d c u w t t' l v → Says first v
    firsts k n g = rw (← eu, ← ew) (k.told n (omega (arith, first_low.0, o.rows.x_is)))

  -- from a walk of parts to one of the rows: what it leaves of the steps and of what was kept
  module _ {u w e : ℕ} {t t' : Option ℕ} {l : List ℕ} {v : Found} (k : Walked pool d e u w t t' l v) (on : s ≡ None → t ≡ None) where
    ended : (l' : List ℕ) → Owes (tree_at pool) (tree_at pool) l' → Says (λ n. body n and_then (second n and_then first n)) v → Walked pool d c x y s t' l' v
    ended l' q z = record { told = told v z; true_still = q; unlimited = λ i. k.unlimited (on i); sure = λ i. k.sure (on i) }

    pub walked_body : Says body v → (v ≡ Equal → ⊥) → Walked pool d c x y s t' l v
    walked_body z n = ended l k.true_still (λ i g. told_first (body i) (second i and_then first i) v (z i g) n)

    pub walked_second : {v₁ : Found} → Says body v₁ → v₁ ≡ Equal → Says second v → (v ≡ Equal → ⊥) → Walked pool d c x y s t' l v
    walked_second h p z n =
        ended l k.true_still
        (λ i g. told_next (body i) (second i and_then first i) v ((h i g).yes p) (told_first (second i) (first i) v (z i g) n))

    pub walked_first : {v₁ v₂ : Found} → Says body v₁ → v₁ ≡ Equal → Says second v₂ → v₂ ≡ Equal → Says first v → {l' : List ℕ} → KeepsIf ws l l' v d c a b → Walked pool d c x y s t' l' v
    walked_first h p z q f {l' = l'} m =
        let says : Says (λ n. body n and_then (second n and_then first n)) v =
        λ i g. told_next (body i) (second i and_then first i) v ((h i g).yes p) (told_next (second i) (first i) v ((z i g).yes q) (f i g)) in
        ended l'
        (m.keeps (tree_at pool) k.true_still
        (λ e plain.
        equal_known pool sound d c a b there.0 there.1 plain x (omega (arith, o.rows.x_is))
        (sym (at_both o.rows x) ∙ (told v says x (omega arith)).yes e)))
        says
