-- Laws of the tests of a row.
use Prim.Native.Nat.{ℕ, zero, suc, ◌-◌}
use native.Mathlib.Omega.{arith}
use mathlib.Core.Bool.{true}
use mathlib.Core.Path.{◌≡◌, refl, sym, ap}
use lib.Dec.{leb}
use Rattle.pool.specs.Rules.{rising}

pub rising-start : (f : ℕ → ℕ) (r : ℕ) → r ≡ 0 → true ≡ rising f r
unfolding rising
rising-start f r e = sym (ap (rising f) e)

pub rising_on : (f : ℕ → ℕ) (r : ℕ) → (r ≡ 0 → ⊥) → leb (f (r - 1)) (f r) ≡ rising f r
unfolding rising
rising_on f zero h = absurd (h refl)
rising_on f (suc r) h = let e : suc r - 1 ≡ r = omega arith in ap (λ (k : ℕ). leb (f k) (f (suc r))) e
