-- Laws of the scan for a table's first bad row, and of the test of a natural.
use Prim.Native.Nat.{ℕ, zero, suc, ◌+◌, ◌-◌, ◌≤◌, ◌<◌}
use native.Mathlib.Omega.{arith}
use mathlib.Core.Bool.{Bool, true, false, ◌&&◌, ◌||◌, not}
use mathlib.Core.List.{List, [], ◌∷◌}
use mathlib.Core.Path.{◌≡◌, refl, ap, ◌∙◌}
use Rattle.std.specs.Prelude.{Option, None, Some, MatchOption}
use lib.ListN.{length, get_or}
use lib.Dec.{eqb}
use borrow.Author.Tests.{ne_eqb, lt-ltb, le-ltb}
use Rattle.basics.proofs.Booleans.{and-true}
use Rattle.pool.specs.Rules.{all_digits, natural, is_digit}
use Rattle.byte_check.specs.Scan.{first_bad, found}

-- tests that agree on the rows of a table find the same row
pub bad_agrees : (f g : ℕ → Bool) (left r : ℕ) → ((k : ℕ) → r ≤ k → k < r + left → f k ≡ g k) → first_bad f left r ≡ first_bad g left r
unfolding first_bad
bad_agrees f g zero r h = refl
bad_agrees f g (suc left) r h = rw (h r (omega arith) (omega arith), bad_agrees f g left (suc r) (λ k p q. h k (omega arith) (omega arith)))

-- a table of so many rows, each from row r on
module _ (ok : ℕ → Bool) where
  -- where all rows before i are right, the scan from row r on goes on at row i
  bad_after : (n r : ℕ) → ((k : ℕ) → r ≤ k → k < r + n → ok k ≡ true) → (left : ℕ) → first_bad ok (n + left) r ≡ first_bad ok left (r + n)
  unfolding first_bad
  bad_after zero r h left = let e : r + 0 ≡ r = omega arith in rw (e) (let g : 0 + left ≡ left = omega arith in rw g)
  bad_after (suc n) r h left =
      let e : suc n + left ≡ suc (n + left) = omega arith in
      let g : r + suc n ≡ suc r + n = omega arith in
      rw (e, h r (omega arith) (omega arith), g) (bad_after n (suc r) (λ k p q. h k (omega arith) (omega arith)) left)

  pub bad_at : (count r : ℕ) → r < count → ((k : ℕ) → k < r → ok k ≡ true) → ok r ≡ false → first_bad ok count 0 ≡ r
  unfolding first_bad
  bad_at count r l h f =
      let e : count ≡ r + suc (count - (r + 1)) = omega arith in
      let g : 0 + r ≡ r = omega arith in
      ap (λ (n : ℕ). first_bad ok n 0) e ∙ bad_after r 0 (λ k p q. h k (omega arith)) (suc (count - (r + 1))) ∙ rw (g, f)

  pub bad_none : (count : ℕ) → ((k : ℕ) → k < count → ok k ≡ true) → first_bad ok count 0 ≡ count
  unfolding first_bad
  bad_none count h =
      let e : count ≡ count + 0 = omega arith in
      let g : 0 + count ≡ count = omega arith in
      ap (λ (n : ℕ). first_bad ok n 0) e ∙ bad_after count 0 (λ k p q. h k (omega arith)) 0 ∙ g

  pub found_at : (count r : ℕ) → r < count → ((k : ℕ) → k < r → ok k ≡ true) → ok r ≡ false → Some r ≡ found ok count
  unfolding found
  found_at count r l h f = rw (bad_at count r l h f, lt-ltb r count l)

  pub found_none : (count : ℕ) → ((k : ℕ) → k < count → ok k ≡ true) → None ≡ found ok count
  unfolding found
  found_none count h = let e : count ≤ count = omega arith in rw (bad_none count h, le-ltb count count e)

-- the same of what `find` says of the rows
pub found_is : (ok : ℕ → Bool) (count : ℕ) (v : Option ℕ) → MatchOption v ((k : ℕ) → 0 ≤ k → k < count → ok k ≡ true)
    (λ r. (0 ≤ r) × (r < count) × (ok r ≡ false) × ((k : ℕ) → 0 ≤ k → k < r → ok k ≡ true)) → v ≡ found ok count
found_is ok count None h = found_none ok count (λ k l. h k (omega arith) l)
found_is ok count (Some r) h = found_at ok count r h.1 (λ k l. h.3 k (omega arith) l) h.2

pub natural_none : (s : List ℕ) → length s ≡ 0 → false ≡ natural s
unfolding natural
natural_none [] h = refl
natural_none (b ∷ s) h = absurd (omega arith)

pub natural_is : (s : List ℕ) → (length s ≡ 0 → ⊥) → (eqb (length s) 1 || not (eqb (get_or s 0 0) 48)) && all_digits s ≡ natural s
unfolding natural all_digits
natural_is [] h = absurd (h refl)
natural_is (b ∷ []) h = and-true (is_digit b)
natural_is (b ∷ c ∷ s) h =
    let e : eqb (suc (suc (length s))) 1 ≡ false = ne_eqb (suc (suc (length s))) 1 (λ q. omega arith) in
    ap (λ (x : Bool). (x || not (eqb b 48)) && (is_digit b && (is_digit c && all_digits s))) e
