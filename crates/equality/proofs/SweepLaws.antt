-- Laws of the sweep by levels.
use Prim.Native.Nat.{ℕ, zero, suc, ◌+◌}
use native.Mathlib.Omega.{arith}
use native.Mathlib.Numerals.{add-one}
use mathlib.Core.Bool.{Bool, true, false}
use mathlib.Core.List.{List}
use Rattle.std.specs.Prelude.{Option, Some, None}
use Rattle.std.specs.Bool.{then_some}
use mathlib.Core.Path.{◌≡◌, refl, sym, ap, ◌∙◌, subst}
use lib.ListN.{get_or, set}
use Rattle.basics.proofs.Booleans.{and_both, true-false, not_so}
use Rattle.pool.specs.Tables.{Pool, expr_word}
use Rattle.pool.specs.Tree.{Shape, shape, same_shape}
use Rattle.pool.specs.Unfold.{expr_at}
use Rattle.pool.proofs.TreeLaws.{shape_same, shape_equal, lift_none}
use Rattle.occurrence.specs.Asked.{Told}
use Rattle.occurrence.specs.Parts.{body_part}
use Rattle.links.specs.Links.{Owes, Clear, Put, Stepped, Settled}
use Rattle.links.proofs.LinkLaws.{take_down, take-up, clear_owes, step_quick, step_where}
use Rattle.compare.specs.Equal.{Quick, ByParts, trees_same, same_at, parts_same}
use Rattle.equality.specs.Sweep.{tree_at, lifted_at, Tied, PartsTied, Owed, Moved, PutParts, LinkParts, Level}

-- ---- equality as a test and as an equation

module _ (p : Pool) (d c : ℕ) where
  pub same_is : (a b : ℕ) → trees_same p d c a b ≡ true → lifted_at p d c a ≡ tree_at p b
  same_is a b e = shape_equal _ _ e

  pub is_same : (a b : ℕ) → lifted_at p d c a ≡ tree_at p b → trees_same p d c a b ≡ true
  is_same a b e = subst (λ (z : Shape). same_shape (lifted_at p d c a) z ≡ true) e (shape_same _)

  at_is : (x y : ℕ) → same_at p d c x y ≡ true → Tied (lifted_at p d c) (tree_at p) x y
  unfolding same_at Tied
  at_is zero zero e = refl
  at_is zero (suc y) e = true-false (sym e)
  at_is (suc x) zero e = true-false (sym e)
  at_is (suc x) (suc y) e = same_is x y e

  is_at : (x y : ℕ) → Tied (lifted_at p d c) (tree_at p) x y → same_at p d c x y ≡ true
  unfolding same_at Tied
  is_at zero zero h = refl
  is_at zero (suc y) h = absurd h
  is_at (suc x) zero h = absurd h
  is_at (suc x) (suc y) h = is_same x y h

module _ (p : Pool) (d c a b : ℕ) where
  abbrev k : ℕ
  k = expr_word p.words a 0

  parts_is : parts_same p d c a b k ≡ true → PartsTied (lifted_at p d c) (lifted_at p d (c + 1)) (tree_at p) p.words a b
  unfolding parts_same
  parts_is e =
      let h = and_both _ _ e in
      let g = and_both _ _ h.1 in
      record {
        first = at_is p d c _ _ h.0;
        second = at_is p d c _ _ g.0;
        body = subst (λ (i : ℕ). Tied (lifted_at p d i) (tree_at p) (body_part p.words a k) (body_part p.words b k)) (sym (add-one c)) (at_is p d (suc c) _ _ g.1);
      }

  is_parts : PartsTied (lifted_at p d c) (lifted_at p d (c + 1)) (tree_at p) p.words a b → parts_same p d c a b k ≡ true
  unfolding parts_same
  is_parts h =
      rw (
        is_at p d c _ _ h.first,
        is_at p d c _ _ h.second,
        is_at p d (suc c) _ _
            (subst (λ (i : ℕ). Tied (lifted_at p d i) (tree_at p) (body_part p.words a k) (body_part p.words b k)) (add-one c) h.body),
      )

  module _ (q : Option Bool) (quick : Quick (trees_same p d c a b) (ByParts p d c a b) q) where
    pub quick_not : q ≡ Some false → lifted_at p d c a ≡ tree_at p b → ⊥
    quick_not e h = true-false (sym (is_same p d c a b h) ∙ quick.told false e)

    pub quick_is : q ≡ Some true → lifted_at p d c a ≡ tree_at p b
    quick_is e = same_is p d c a b (quick.told true e)

    module _ (n : q ≡ None) where
      pub tied_is : PartsTied (lifted_at p d c) (lifted_at p d (c + 1)) (tree_at p) p.words a b → lifted_at p d c a ≡ tree_at p b
      tied_is h = same_is p d c a b ((quick.left n).both ∙ is_parts h)

      pub is_tied : lifted_at p d c a ≡ tree_at p b → PartsTied (lifted_at p d c) (lifted_at p d (c + 1)) (tree_at p) p.words a b
      is_tied h = parts_is (sym (quick.left n).both ∙ is_same p d c a b h)

-- ---- a row of a level

-- an answer that is true where there is room
pub where_room : (P : Option Bool → Type 0) (b : Bool) (v : Option Bool) → v ≡ then_some b true → P None → (b ≡ true → P (Some true)) → P v
where_room P true v e n f = subst P (sym e) (f refl)
where_room P false v e n f = subst P (sym e) n

pub unknown : (A B : Type 0) → Moved A B None
unknown A B = record { refuted = λ e. cc; down = λ e. cc; up = λ e. cc }

module _ (p : Pool) (d c : ℕ) (cur next owed mid : List ℕ) (a : ℕ) (e : mid ≡ set cur a 0) where
  abbrev F : ℕ → Shape
  F = lifted_at p d c

  forth : Owed p d c cur next owed → Owed p d c mid next owed
  forth o = record { here = subst (Owes F (tree_at p)) (sym e) (take-up F (tree_at p) cur a o.here); below = o.below; plain = o.plain }

  back : Owed p d c mid next owed → ((i : ℕ) → get_or cur a 0 ≡ suc i → F a ≡ tree_at p i) → Owed p d c cur next owed
  back o f =
      record { here = take_down F (tree_at p) cur a (subst (Owes F (tree_at p)) e o.here) f; below = o.below; plain = o.plain }

  module _ (m : ℕ) (em : suc m ≡ get_or cur a 0) where
    its : Owed p d c cur next owed → F a ≡ tree_at p m
    its o = o.here a m (sym em)

    so : F a ≡ tree_at p m → (i : ℕ) → get_or cur a 0 ≡ suc i → F a ≡ tree_at p i
    so h i q = h ∙ ap (tree_at p) (let s : suc m ≡ suc i = em ∙ q in let n : m ≡ i = omega arith in n)

    module _ (q : Option Bool) (quick : Quick (trees_same p d c a m) (ByParts p d c a m) q) where
      pub row_quick : Moved (Owed p d c cur next owed) (Owed p d c mid next owed) q
      row_quick =
          record {
            refuted = λ z o. quick_not p d c a m q quick z (its o);
            down = λ z o. back o (so (quick_is p d c a m q quick z));
            up = λ z o. forth o;
          }

      pub row_parts : q ≡ None → (cur' next' owed' : List ℕ) → PutParts p.words a m mid next owed cur' next' owed'
          → Moved (Owed p d c cur next owed) (Owed p d c cur' next' owed') (Some true)
      row_parts n cur' next' owed' w =
          let g = w.moved F (lifted_at p d (c + 1)) (tree_at p) in
          record {
            refuted = λ z. cc;
            down = λ z o.
                let r = g.1 (o.here, o.below, o.plain) in
                back (record { here = r.0.0; below = r.0.1; plain = r.0.2 }) (so (tied_is p d c a m q quick n r.1));
            up = λ z o.
                let f = forth o in
                let r = g.0 ((f.here, f.below, f.plain), is_tied p d c a m q quick n (its o)) in
                record { here = r.0; below = r.1; plain = r.2 };
          }

-- ---- two levels

-- a level that ends is the one above the next
module _ (p : Pool) (d c : ℕ) (cur next owed : List ℕ) (clear : Clear cur) where
  pub level_on : Owed p d c cur next owed → Owed p d (c + 1) next cur owed
  level_on o = record { here = o.below; below = clear_owes _ _ cur clear; plain = o.plain }

  pub level_back : Owed p d (c + 1) next cur owed → Owed p d c cur next owed
  level_back o = record { here = clear_owes _ _ cur clear; below = o.here; plain = o.plain }

pub two_on : (p : Pool) (d c : ℕ) (cur next owed : List ℕ) → Owed p d (c + 1 + 1) cur next owed → Owed p d (c + 2) cur next owed
two_on p d c cur next owed o = subst (λ (i : ℕ). Owed p d i cur next owed) (let e : c + 1 + 1 ≡ c + 2 = omega arith in e) o

pub two_back : (p : Pool) (d c : ℕ) (cur next owed : List ℕ) → Owed p d (c + 2) cur next owed → Owed p d (c + 1 + 1) cur next owed
two_back p d c cur next owed o = subst (λ (i : ℕ). Owed p d i cur next owed) (let e : c + 2 ≡ c + 1 + 1 = omega arith in e) o

module _ (p : Pool) (d c : ℕ) (Start : Type 0) (cur next owed : List ℕ) (down : Owed p d c cur next owed → Start) (up : Start → Owed p d c cur next owed)
    (cur₁ next₁ owed₁ : List ℕ) (v : Option Bool) (l₁ : Level p d c cur next owed cur₁ next₁ owed₁ v) (e₁ : v ≡ Some true)
    (cur₂ next₂ owed₂ : List ℕ) (w : Option Bool) (l₂ : Level p d (c + 1) next₁ cur₁ owed₁ next₂ cur₂ owed₂ w) where
  down₁ : Owed p d (c + 1) next₁ cur₁ owed₁ → Start
  down₁ o = down (l₁.moved.down e₁ (level_back p d c cur₁ next₁ owed₁ (l₁.clear e₁) o))

  up₁ : Start → Owed p d (c + 1) next₁ cur₁ owed₁
  up₁ s = level_on p d c cur₁ next₁ owed₁ (l₁.clear e₁) (l₁.moved.up e₁ (up s))

  pub two_down : w ≡ Some true → Owed p d (c + 2) cur₂ next₂ owed₂ → Start
  two_down e o = down₁ (l₂.moved.down e (level_back p d (c + 1) next₂ cur₂ owed₂ (l₂.clear e) (two_back p d c cur₂ next₂ owed₂ o)))

  pub two_up : w ≡ Some true → Start → Owed p d (c + 2) cur₂ next₂ owed₂
  two_up e s = two_on p d c cur₂ next₂ owed₂ (level_on p d (c + 1) next₂ cur₂ owed₂ (l₂.clear e) (l₂.moved.up e (up₁ s)))

-- ---- rows as they are

module _ (p : Pool) where
  abbrev S : ℕ → Shape
  S = tree_at p

  none_lifted : (c x : ℕ) → lifted_at p 0 c x ≡ S x
  none_lifted c x = ap shape (lift_none c (expr_at p x))

  tied_plain : (c x y : ℕ) → Tied (lifted_at p 0 c) S x y → Tied S S x y
  unfolding Tied
  tied_plain c zero zero h = h
  tied_plain c zero (suc y) h = h
  tied_plain c (suc x) zero h = h
  tied_plain c (suc x) (suc y) h = sym (none_lifted c x) ∙ h

  plain_tied : (c x y : ℕ) → Tied S S x y → Tied (lifted_at p 0 c) S x y
  unfolding Tied
  plain_tied c zero zero h = h
  plain_tied c zero (suc y) h = h
  plain_tied c (suc x) zero h = h
  plain_tied c (suc x) (suc y) h = none_lifted c x ∙ h

  module _ (before mid : List ℕ) (x : ℕ) (e : mid ≡ set before x 0) (m : ℕ) (em : suc m ≡ get_or before x 0) (q : Option Bool)
      (quick : Quick (trees_same p 0 0 x m) (ByParts p 0 0 x m) q) where
    pub plain_quick : Stepped S before mid q
    plain_quick =
        step_quick S before mid x m em e q (λ z h. quick_not p 0 0 x m q quick z (none_lifted 0 x ∙ h))
        (λ z. sym (none_lifted 0 x) ∙ quick_is p 0 0 x m q quick z)

    pub plain_parts : q ≡ None → (after : List ℕ) → LinkParts p.words x m mid after → Stepped S before after (Some true)
    plain_parts n after w =
        let g = w.moved S in
        step_where S before mid x m em e (PartsTied S S S p.words x m)
        (λ h. sym (none_lifted 0 x) ∙ tied_is p 0 0 x m q quick n
        (record { first = plain_tied 0 _ _ h.first; second = plain_tied 0 _ _ h.second; body = plain_tied (0 + 1) _ _ h.body }))
        (λ h.
        let r = is_tied p 0 0 x m q quick n (none_lifted 0 x ∙ h) in
        record { first = tied_plain 0 _ _ r.first; second = tied_plain 0 _ _ r.second; body = tied_plain (0 + 1) _ _ r.body })
        after (Some true) (λ z. cc) (λ z o. g.1 o) (λ z o h. g.0 (o, h))

-- ---- the answer

pub told : (asked : Bool) (v : Option Bool) → (v ≡ Some false → asked ≡ false) → (v ≡ Some true → asked ≡ true) → Told asked v
told asked v n y false e = n e
told asked v n y true e = y e

pub told_swept : (p : Pool) (d a b : ℕ) (cur next owed cur₁ owed₁ owed₂ : List ℕ) → Clear cur → Clear next → Clear owed → Put cur owed cur₁ owed₁ a b → (v w : Option Bool)
    → v ≡ Some true → Settled (tree_at p) owed₂ w → Moved (Owed p d 0 cur₁ next owed₁) (Owes (tree_at p) (tree_at p) owed₂) v → Told (trees_same p d 0 a b) w
told_swept p d a b cur next owed cur₁ owed₁ owed₂ c₁ c₂ c₃ put v w one s mv =
    told _ w (λ z. not_so _ (λ e.
    let r = put.up (lifted_at p d 0) (tree_at p) (clear_owes _ _ cur c₁) (clear_owes _ _ owed c₃) (same_is p d 0 a b e) in
    s.refuted z (mv.up one (record { here = r.0; below = clear_owes _ _ next c₂; plain = r.1 }))))
    (λ z.
    let o : Owed p d 0 cur₁ next owed₁ = mv.down one (s.holds z) in
    is_same p d 0 a b (put.tied (lifted_at p d 0) (tree_at p) o.here o.plain))

pub told_stopped : (p : Pool) (d a b : ℕ) (cur next owed cur₁ owed₁ : List ℕ) → Clear cur → Clear next → Clear owed → Put cur owed cur₁ owed₁ a b
    → (End : Type 0) (v : Option Bool) → Moved (Owed p d 0 cur₁ next owed₁) End v → (v ≡ Some true → ⊥) → Told (trees_same p d 0 a b) v
told_stopped p d a b cur next owed cur₁ owed₁ c₁ c₂ c₃ put End v mv n =
    told _ v (λ z. not_so _ (λ e.
    let r = put.up (lifted_at p d 0) (tree_at p) (clear_owes _ _ cur c₁) (clear_owes _ _ owed c₃) (same_is p d 0 a b e) in
    mv.refuted z (record { here = r.0; below = clear_owes _ _ next c₂; plain = r.1 })))
    (λ z. absurd (n z))
