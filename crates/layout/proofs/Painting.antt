-- Laws of `paint`, and of what is put into an area.
use Prim.Native.Nat.{ℕ, zero, suc, ◌+◌, ◌-◌, ◌≤◌, min}
use native.Mathlib.Nat.{zero-add, suc-add, add-zero}
use native.Mathlib.Omega.{arith}
use mathlib.Core.Path.{◌≡◌, refl, sym, ap, ◌∙◌}
use mathlib.Core.List.{List, [], ◌∷◌, ◌++◌}
use lib.ListN.{length, take, drop, length-drop, length-take, replicate, length-replicate}
use Rattle.std.proofs.lemmas.List.{take-replicate}
use Rattle.layout.specs.Paint.{paint}

pub paint-nil : (l : List ℕ) (at : ℕ) → paint l at [] ≡ l
unfolding paint
paint-nil [] at = refl
paint-nil (x ∷ l) zero = refl
paint-nil (x ∷ l) (suc at) = ap (λ (t : List ℕ). x ∷ t) (paint-nil l at)

pub length-paint : (l : List ℕ) (at : ℕ) (s : List ℕ) → length (paint l at s) ≡ length l
unfolding paint
length-paint [] at s = refl
length-paint (x ∷ l) (suc at) s = ap suc (length-paint l at s)
length-paint (x ∷ l) zero [] = refl
length-paint (x ∷ l) zero (y ∷ s) = ap suc (length-paint l zero s)

-- past the end of what is painted over
pub paint_past : (l : List ℕ) (at : ℕ) (s : List ℕ) → length l ≤ at → paint l at s ≡ l
unfolding paint
paint_past [] at s p = refl
paint_past (x ∷ l) zero s p = absurd (omega arith)
paint_past (x ∷ l) (suc at) s p = ap (λ (t : List ℕ). x ∷ t) (paint_past l at s (omega arith))

-- a part that starts at a place is painted from its front
pub paint_part : (l : List ℕ) (at : ℕ) (s : List ℕ) → take at l ++ paint (drop at l) 0 s ≡ paint l at s
unfolding paint
paint_part [] zero s = refl
paint_part [] (suc at) s = refl
paint_part (x ∷ l) zero s = refl
paint_part (x ∷ l) (suc at) s = ap (λ (t : List ℕ). x ∷ t) (paint_part l at s)

-- one after the other
pub paint-append : (l : List ℕ) (at : ℕ) (s t : List ℕ) → paint (paint l at s) (at + length s) t ≡ paint l at (s ++ t)
unfolding paint
paint-append [] at s t = refl
paint-append (x ∷ l) (suc at) s t = ap (λ (n : ℕ). paint (x ∷ paint l at s) n t) (suc-add at (length s)) ∙ ap (λ (r : List ℕ). x ∷ r) (paint-append l at s t)
paint-append (x ∷ l) zero [] t = ap (λ (n : ℕ). paint (x ∷ l) n t) (add-zero zero)
paint-append (x ∷ l) zero (y ∷ s) t =
    ap (λ (n : ℕ). paint (y ∷ paint l zero s) n t) (zero-add (suc (length s)))
    ∙ ap (λ (r : List ℕ). y ∷ r) (ap (λ (n : ℕ). paint (paint l zero s) n t) (sym (zero-add (length s))) ∙ paint-append l zero s t)

-- as many as fit are put to the front
front : (l s : List ℕ) (n : ℕ) → n ≡ min (length s) (length l) → take n s ++ drop n l ≡ paint l 0 s
unfolding paint
front [] s zero e = refl
front [] s (suc n) e = absurd (omega arith)
front (x ∷ l) [] zero e = refl
front (x ∷ l) [] (suc n) e = absurd (omega arith)
front (x ∷ l) (y ∷ s) zero e = absurd (omega arith)
front (x ∷ l) (y ∷ s) (suc n) e = ap (λ (t : List ℕ). y ∷ t) (front l s n (omega arith))

-- as many as fit are put in, from a place on
pub put_in : (l s k : List ℕ) (at n : ℕ) → n ≡ min (length s) (length l - at) → k ≡ take n s → take at l ++ (k ++ drop (at + n - at) (drop at l)) ≡ paint l at s
put_in l s k at n e q =
    let m : at + n - at ≡ n = omega arith in
    let f : n ≡ min (length s) (length (drop at l)) = rw length-drop e in
    rw (q, m, front (drop at l) s n f) (paint_part l at s)

pub fill_in : (l k : List ℕ) (at n count b : ℕ) → n ≡ min count (length l - at) → k ≡ replicate (length (take (at + n - at) (drop at l))) b
    → take at l ++ (k ++ drop (at + n - at) (drop at l)) ≡ paint l at (replicate count b)
fill_in l k at n count b e q =
    let m : length (take (at + n - at) (drop at l)) ≡ n = simp (length-take, length-drop) (omega arith) in
    let least : n ≤ count = omega arith in
    put_in l (replicate count b) k at n (rw length-replicate e) (q ∙ ap (λ (i : ℕ). replicate i b) m ∙ sym (take-replicate n count b least))

-- what fits is the front, and the rest stands
pub paint-whole : (l s : List ℕ) → length s ≤ length l → paint l 0 s ≡ s ++ drop (length s) l
unfolding paint
paint-whole [] [] h = refl
paint-whole [] (y ∷ s) h = absurd (omega arith)
paint-whole (x ∷ l) [] h = refl
paint-whole (x ∷ l) (y ∷ s) h = ap (λ (t : List ℕ). y ∷ t) (paint-whole l s (omega arith))

-- the part of the area that was written
pub written : (l s : List ℕ) → length s ≤ length l → take (length s) (paint l 0 s) ≡ s
unfolding paint
written [] [] h = refl
written [] (y ∷ s) h = absurd (omega arith)
written (x ∷ l) [] h = refl
written (x ∷ l) (y ∷ s) h = ap (λ (t : List ℕ). y ∷ t) (written l s (omega arith))

-- the painting of a piece that is nothing, and of two pieces one after the other
pub ruleset painted = (paint-nil, paint-append)
