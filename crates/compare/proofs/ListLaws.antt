-- Laws of lists of levels that are compared all at once.
use Prim.Native.Nat.{ℕ, zero, suc, ◌+◌, ◌<◌}
use native.Mathlib.Omega.{arith}
use mathlib.Core.Bool.{Bool, true, false, ◌&&◌}
use Rattle.std.specs.Prelude.{Option, Some}
use mathlib.Core.List.{List}
use mathlib.Core.Path.{◌≡◌, refl, sym, ap, ◌∙◌, subst}
use borrow.Author.Count.{below_more}
use Rattle.basics.proofs.Booleans.{and_both, not_so}
use Rattle.pool.specs.Tables.{Pool, list_entry}
use Rattle.pool.specs.Tree.{Shape, level_shapes, same_shape}
use Rattle.pool.specs.Unfold.{levels_from}
use Rattle.pool.proofs.TreeLaws.{shape_same, shape_equal}
use Rattle.links.specs.Links.{Clear, Linked, Settled}
use Rattle.links.proofs.LinkLaws.{clear_owes}
use Rattle.occurrence.specs.Asked.{Told}
use Rattle.compare.specs.Equal.{levels_same, level_shape_at, lists_same, LinkedLists}

-- ---- what is owed of two lists

pub lists_none : (ws l : List ℕ) (x y : ℕ) → LinkedLists ws l l x y 0
lists_none ws l x y = record { down = λ S o. o; tied = λ S o i h. absurd (omega arith); up = λ S o e. o }

pub lists_more : (ws before now after : List ℕ) (x y i l m : ℕ) → LinkedLists ws before now x y i → l ≡ list_entry ws (x + i)
    → m ≡ list_entry ws (y + i) → Linked now after l m → LinkedLists ws before after x y (i + 1)
lists_more ws before now after x y i l m k el em n =
    record {
      down = λ S o. k.down S (n.down S o);
      tied = λ S o. below_more (λ (j : ℕ). S (list_entry ws (x + j)) ≡ S (list_entry ws (y + j))) i (k.tied S (n.down S o))
          (ap S (sym el) ∙ n.tied S o ∙ ap S em);
      up = λ S o e. n.up S (k.up S o (λ j h. e j (omega arith))) (ap S el ∙ e i (omega arith) ∙ ap S (sym em));
    }

-- ---- lists are equal where their levels are

module _ (p : Pool) where
  abbrev S : ℕ → Shape
  S = level_shape_at p

  abbrev entry : ℕ → ℕ
  entry = list_entry p.words

  same_first : (x y : ℕ) → S (entry (x + 0)) ≡ S (entry (y + 0)) → levels_same p (entry x) (entry y) ≡ true
  same_first x y e =
      let ex : x + 0 ≡ x = omega arith in
      let ey : y + 0 ≡ y = omega arith in
      let h : S (entry x) ≡ S (entry y) = ap (λ (k : ℕ). S (entry k)) (sym ex) ∙ e ∙ ap (λ (k : ℕ). S (entry k)) ey in
      subst (λ (z : Shape). same_shape (S (entry x)) z ≡ true) h (shape_same (S (entry x)))

  moved : (x i : ℕ) → S (entry (x + suc i)) ≡ S (entry (suc x + i))
  moved x i = let e : x + suc i ≡ suc x + i = omega arith in ap (λ (k : ℕ). S (entry k)) e

  lists_step : (n x y : ℕ) → lists_same p x y (suc n) ≡ levels_same p (entry x) (entry y) && lists_same p (suc x) (suc y) n
  unfolding levels_from level_shapes same_shape
  lists_step n x y = refl

  lists_agree : (n x y : ℕ) → ((i : ℕ) → i < n → S (entry (x + i)) ≡ S (entry (y + i))) → lists_same p x y n ≡ true
  unfolding levels_from level_shapes same_shape
  lists_agree zero x y h = refl
  lists_agree (suc n) x y h =
      let rest = lists_agree n (suc x) (suc y) (λ i l. sym (moved x i) ∙ h (suc i) (omega arith) ∙ moved y i) in
      lists_step n x y ∙ rw (same_first x y (h 0 (omega arith)), rest)

  lists_agreed : (n x y : ℕ) → lists_same p x y n ≡ true → (i : ℕ) → i < n → S (entry (x + i)) ≡ S (entry (y + i))
  lists_agreed zero x y e i h = absurd (omega arith)
  lists_agreed (suc n) x y e zero h =
      let both = and_both (levels_same p (entry x) (entry y)) (lists_same p (suc x) (suc y) n) (sym (lists_step n x y) ∙ e) in
      let ex : x + 0 ≡ x = omega arith in
      let ey : y + 0 ≡ y = omega arith in
      ap (λ (k : ℕ). S (entry k)) ex ∙ shape_equal (S (entry x)) (S (entry y)) both.0 ∙ ap (λ (k : ℕ). S (entry k)) (sym ey)
  lists_agreed (suc n) x y e (suc i) h =
      let both = and_both (levels_same p (entry x) (entry y)) (lists_same p (suc x) (suc y) n) (sym (lists_step n x y) ∙ e) in
      moved x i ∙ lists_agreed n (suc x) (suc y) both.1 i (omega arith) ∙ sym (moved y i)

  -- a pass over what a clear array and two lists owe
  pub told_lists : (x y n : ℕ) (before after : List ℕ) (v : Option Bool) → Clear before → LinkedLists p.words before after x y n → Settled S after v
      → Told (lists_same p x y n) v
  told_lists x y n before after v c l s = by
    where
      by : (b : Bool) → v ≡ Some b → lists_same p x y n ≡ b
      by false e = not_so _ (λ q. s.refuted e (l.up S (clear_owes _ _ before c) (lists_agreed n x y q)))
      by true e = lists_agree n x y (l.tied S (s.holds e))
