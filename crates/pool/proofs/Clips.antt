-- Parts of lists that are cut off at the end.
use Prim.Native.Nat.{ℕ, zero, suc, ◌+◌, ◌-◌, ◌≤◌, ◌<◌, min}
use native.Mathlib.Omega.{arith}
use mathlib.Core.Bool.{Bool, true, false}
use mathlib.Core.List.{List, [], ◌∷◌}
use mathlib.Core.Path.{◌≡◌, refl, sym, ap, ap₂, ◌∙◌}
use lib.ListN.{length, take, drop, length-drop}
use lib.Seq.{take_all, take-nil}
use lib.Dec.{leb}
use borrow.Author.Tests.{leb-true, leb-false}

-- a part that is cut off at the end of the list
take_clip : (n : ℕ) (l : List ℕ) → take (min n (length l)) l ≡ take n l
take_clip n l = cut (leb n (length l)) refl
  where
    cut : (b : Bool) → leb n (length l) ≡ b → take (min n (length l)) l ≡ take n l
    cut true p = let h : min n (length l) ≡ n = omega (arith, leb-true n (length l) p) in ap (λ (k : ℕ). take k l) h
    cut false p =
        let g : length l < n = leb_lt p in
        let h : min n (length l) ≡ length l = omega arith in
        ap (λ (k : ℕ). take k l) h ∙ take_all (length l) l (omega arith) ∙ sym (take_all n l (omega arith))
      where
        leb_lt : leb n (length l) ≡ false → length l < n
        leb_lt q = leb-false n (length l) q

pub drop_all : (n : ℕ) (l : List ℕ) → length l ≤ n → drop n l ≡ []
drop_all zero [] h = refl
drop_all zero (x ∷ l) h = absurd (omega arith)
drop_all (suc n) [] h = refl
drop_all (suc n) (x ∷ l) h = drop_all n l (omega arith)

pub part_clip : (l : List ℕ) (a b from to : ℕ) → from ≡ min a (length l) → to ≡ min (a + b) (length l) → take (to - from) (drop from l) ≡ take b (drop a l)
part_clip l a b from to p q = cut (leb a (length l)) refl
  where
    cut : (x : Bool) → leb a (length l) ≡ x → take (to - from) (drop from l) ≡ take b (drop a l)
    cut true y =
        let g : a ≤ length l = leb-true a (length l) y in
        let f : from ≡ a = omega arith in
        let d : length (drop a l) ≡ length l - a = length-drop a l in
        let t : to - from ≡ min b (length (drop a l)) = omega arith in
        ap₂ (λ (m k : ℕ). take m (drop k l)) t f ∙ take_clip b (drop a l)
    cut false y =
        let g : length l < a = leb-false a (length l) y in
        let f : from ≡ length l = omega arith in
        ap (take (to - from)) (drop_all from l (omega arith)) ∙ take-nil (to - from) ∙ sym (ap (take b) (drop_all a l (omega arith)) ∙ take-nil b)
