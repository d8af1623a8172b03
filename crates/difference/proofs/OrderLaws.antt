-- Laws of the first pair that differs: by the parts of two rows, and equal exactly where their trees are.
use Prim.Native.Nat.{ℕ, zero, suc, ◌<◌, ◌≤◌}
use native.Mathlib.Omega.{arith}
use native.Mathlib.Numerals.{add-one}
use mathlib.Core.Bool.{Bool, true, false, ◌&&◌, ◌||◌, cond}
use mathlib.Core.Path.{◌≡◌, refl, sym, ap, ◌∙◌, subst}
use lib.Dec.{eqb, leb}
use borrow.Author.Tests.{eq-eqb, ne_eqb, eqb-true, eqb-false, leb-true}
use Rattle.basics.proofs.Booleans.{false-true}
use Rattle.pool.specs.Kinds.{expr_kind}
use Rattle.pool.specs.Tables.{Pool, E, expr_word, string_at}
use Rattle.pool.specs.Sound.{Sound}
use Rattle.pool.specs.Tree.{shape, lift}
use Rattle.pool.specs.Unfold.{expr_at}
use Rattle.pool.proofs.TreeLaws.{lift_none, lift_closed}
use Rattle.pool.proofs.ExprUnfolds.{kind_small, loose-word}
use Rattle.occurrence.specs.Parts.{first_part, second_part, body_part}
use Rattle.occurrence.proofs.PartLaws.{ten, first_lower, second_lower, body_lower}
use Rattle.compare.specs.Equal.{trees_same, same_at, fields_same, parts_same}
use Rattle.compare.proofs.EqualLaws.{by_kind, other_labels}
use Rattle.equality.specs.Sweep.{tree_at}
use Rattle.equality.proofs.SweepLaws.{same_is, is_same}
use Rattle.difference.specs.Order.{Comparison, equal, differ, ◌and_then◌, fields_equal, children, first_to}
use Rattle.difference.specs.Walks.{is_plain, first_at, parts_at}

-- ---- whether it says equal

unfoldable pub is_equal : Comparison → Bool
is_equal equal = true
is_equal (differ a b) = false

pub equal_is : (k : Comparison) → is_equal k ≡ true → k ≡ equal
unfolding is_equal
equal_is equal e = refl
equal_is (differ a b) e = false-true e

equal_both : (k l : Comparison) → is_equal (k and_then l) ≡ is_equal k && is_equal l
unfolding is_equal ◌and_then◌
equal_both equal l = refl
equal_both (differ a b) l = refl

turned : (x y z : Bool) → x && (y && z) ≡ z && (y && x)
turned true true true = refl
turned true true false = refl
turned true false true = refl
turned true false false = refl
turned false true true = refl
turned false true false = refl
turned false false true = refl
turned false false false = refl

-- ---- by parts

module _ (n : ℕ) (p : Pool) (d c a b : ℕ) where
  abbrev wa : ℕ → ℕ
  wa k = expr_word p.words a k

  abbrev wb : ℕ → ℕ
  wb k = expr_word p.words b k

  abbrev Fields : ℕ → Type 0
  Fields k = fields_equal p d c (expr_kind k) (expr_word p.words a) (expr_word p.words b) ≡ fields_same p d c a b k

  fields_are : (k : ℕ) → k < 10 → Fields k
  unfolding fields_equal fields_same expr_kind string_at
  fields_are k h = ten Fields refl refl refl refl refl refl refl refl refl refl k h

  abbrev Parts : ℕ → Type 0
  Parts k = children (first_to n p d) c (expr_kind k) (expr_word p.words a) (expr_word p.words b) ≡ parts_at n p d c a b k

  leaf_parts : (Parts 0) × (Parts 1) × (Parts 2) × (Parts 8) × (Parts 9)
  unfolding children parts_at first_at first_part second_part body_part expr_kind ◌and_then◌
  leaf_parts = (refl, refl, refl, refl, refl)

  app_parts : Parts 3
  unfolding children parts_at first_at first_part second_part body_part expr_kind ◌and_then◌
  app_parts = rw (add-one (wa 1), add-one (wb 1), add-one (wa 2), add-one (wb 2))

  binder_parts : (Parts 4) × (Parts 5)
  unfolding children parts_at first_at first_part second_part body_part expr_kind ◌and_then◌
  binder_parts = (rw (add-one (wa 3), add-one (wb 3), add-one (wa 4), add-one (wb 4)), rw (add-one (wa 3), add-one (wb 3), add-one (wa 4), add-one (wb 4)))

  let_parts : Parts 6
  unfolding children parts_at first_at first_part second_part body_part expr_kind ◌and_then◌
  let_parts = rw (add-one (wa 2), add-one (wb 2), add-one (wa 3), add-one (wb 3), add-one (wa 4), add-one (wb 4))

  proj_parts : Parts 7
  unfolding children parts_at first_at first_part second_part body_part expr_kind ◌and_then◌
  proj_parts = rw (add-one (wa 3), add-one (wb 3))

  parts_are : (k : ℕ) → k < 10 → Parts k
  parts_are k h =
      ten Parts leaf_parts.0 leaf_parts.1 leaf_parts.2 app_parts binder_parts.0 binder_parts.1 let_parts proj_parts leaf_parts.3 leaf_parts.4 k h

  module _ (h : wa 0 < 10) where
    by_rows : first_to (suc n) p d c a b ≡ cond (eqb (wa 0) (wb 0) && fields_same p d c a b (wa 0)) (parts_at n p d c a b (wa 0)) (differ a b)
    unfolding first_to
    by_rows = rw (fields_are (wa 0) h, parts_are (wa 0) h)

    pub kinds_differ : (wa 0 ≡ wb 0 → ⊥) → first_to (suc n) p d c a b ≡ differ a b
    kinds_differ q = by_rows ∙ rw (ne_eqb (wa 0) (wb 0) q)

    pub fields_differ : wa 0 ≡ wb 0 → fields_same p d c a b (wa 0) ≡ false → first_to (suc n) p d c a b ≡ differ a b
    fields_differ q f = by_rows ∙ rw (eq-eqb (wa 0) (wb 0) q, f)

    pub by_parts : wa 0 ≡ wb 0 → fields_same p d c a b (wa 0) ≡ true → first_to (suc n) p d c a b ≡ parts_at n p d c a b (wa 0)
    by_parts q f = by_rows ∙ rw (eq-eqb (wa 0) (wb 0) q, f)

-- ---- equal exactly where the trees are

module _ (pool : Pool) (sound : Sound pool) where
  abbrev EqualTo : ℕ → ℕ → Type 0
  EqualTo n d = (c a b : ℕ) → a < E pool.words → b < E pool.words → a < n → is_equal (first_to n pool d c a b) ≡ trees_same pool d c a b

  module _ (n d : ℕ) (below : EqualTo n d) where
    equal_parts : (c a b : ℕ) → a < E pool.words → b < E pool.words → a ≤ n → (x y : ℕ) → x ≤ a → y ≤ b → is_equal (first_at n pool d c x y) ≡ same_at pool d c x y
    unfolding is_equal first_at same_at
    equal_parts c a b ha hb h zero zero gx gy = refl
    equal_parts c a b ha hb h zero (suc y) gx gy = refl
    equal_parts c a b ha hb h (suc x) zero gx gy = refl
    equal_parts c a b ha hb h (suc x) (suc y) gx gy = below c x y (omega arith) (omega arith) (omega arith)

    module _ (c a b : ℕ) (ha : a < E pool.words) (hb : b < E pool.words) (h : a ≤ n) where
      abbrev kind : ℕ
      kind = expr_word pool.words a 0

      one_lower : kind ≡ expr_word pool.words b 0
          → (body_part pool.words b kind ≤ b) × (second_part pool.words b kind ≤ b) × (first_part pool.words b kind ≤ b)
      one_lower e =
          rw e (body_lower pool sound b hb, second_lower pool sound b hb, first_lower pool sound b hb)

      all_parts : kind ≡ expr_word pool.words b 0 → is_equal (parts_at n pool d c a b kind) ≡ parts_same pool d c a b kind
      unfolding parts_at parts_same
      all_parts e =
          let lower = one_lower e in
          let body = equal_parts (suc c) a b ha hb h (body_part pool.words a kind) (body_part pool.words b kind) (body_lower pool sound a ha) lower.0 in
          let second = equal_parts c a b ha hb h (second_part pool.words a kind) (second_part pool.words b kind) (second_lower pool sound a ha) lower.1 in
          let first = equal_parts c a b ha hb h (first_part pool.words a kind) (first_part pool.words b kind) (first_lower pool sound a ha) lower.2 in
          equal_both _ _ ∙ ap (λ (v : Bool). is_equal (first_at n pool d (suc c) (body_part pool.words a kind) (body_part pool.words b kind)) && v) (equal_both _ _)
          ∙ rw (body, second, first)
          (turned (same_at pool d (suc c) (body_part pool.words a kind) (body_part pool.words b kind)) (same_at pool d c (second_part pool.words a kind) (second_part pool.words b kind))
          (same_at pool d c (first_part pool.words a kind) (first_part pool.words b kind)))

      equal_next : is_equal (first_to (suc n) pool d c a b) ≡ trees_same pool d c a b
      unfolding is_equal
      equal_next = by (eqb kind (expr_word pool.words b 0)) refl
        where
          small : kind < 10
          small = kind_small pool sound a ha

          fields : kind ≡ expr_word pool.words b 0 → (v : Bool) → fields_same pool d c a b kind ≡ v → is_equal (first_to (suc n) pool d c a b) ≡ trees_same pool d c a b
          fields e true f =
              ap is_equal (by_parts n pool d c a b small e f) ∙ all_parts e
              ∙ sym (by_kind pool sound a b ha hb d c kind refl (sym e) ∙ rw f)
          fields e false f =
              ap is_equal (fields_differ n pool d c a b small e f) ∙ sym (by_kind pool sound a b ha hb d c kind refl (sym e) ∙ rw f)

          by : (v : Bool) → eqb kind (expr_word pool.words b 0) ≡ v → is_equal (first_to (suc n) pool d c a b) ≡ trees_same pool d c a b
          by true e = fields (eqb-true _ _ e) (fields_same pool d c a b kind) refl
          by false e =
              let q = eqb-false kind (expr_word pool.words b 0) e in
              ap is_equal (kinds_differ n pool d c a b small q)
              ∙ sym ((other_labels pool sound a b ha hb d c q).told false refl)

  pub equal_trees : (n d : ℕ) → EqualTo n d
  equal_trees zero d c a b ha hb h = absurd (omega arith)
  equal_trees (suc n) d c a b ha hb h = equal_next n d (equal_trees n d) c a b ha hb (omega arith)

  -- ---- what lifting leaves as it is

  plain-lift : (d c a : ℕ) → a < E pool.words → is_plain pool.words d c a ≡ true → lift d c (expr_at pool a) ≡ expr_at pool a
  plain-lift d c a h e = by (eqb d 0) refl
    where
      by : (v : Bool) → eqb d 0 ≡ v → lift d c (expr_at pool a) ≡ expr_at pool a
      by true q = ap (λ (i : ℕ). lift i c (expr_at pool a)) (eqb-true d 0 q) ∙ lift_none c (expr_at pool a)
      by false q =
          let l : leb (expr_word pool.words a 7) c ≡ true = ap (λ (v : Bool). v || leb (expr_word pool.words a 7) c) (sym q) ∙ e in
          lift_closed d c (expr_at pool a) (subst (λ (i : ℕ). i ≤ c) (loose-word pool sound a h) (leb-true (expr_word pool.words a 7) c l))

  module _ (d c a b : ℕ) (ha : a < E pool.words) (hb : b < E pool.words) (plain : is_plain pool.words d c a ≡ true) where
    pub known_equal : tree_at pool a ≡ tree_at pool b → (n : ℕ) → a < n → first_to n pool d c a b ≡ equal
    known_equal e n h =
        equal_is _ (equal_trees n d c a b ha hb h ∙ is_same pool d c a b (ap shape (plain-lift d c a ha plain) ∙ e))

    pub equal_known : (n : ℕ) → a < n → first_to n pool d c a b ≡ equal → tree_at pool a ≡ tree_at pool b
    unfolding is_equal
    equal_known n h e =
        sym (ap shape (plain-lift d c a ha plain)) ∙ same_is pool d c a b (sym (equal_trees n d c a b ha hb h) ∙ ap is_equal e)
