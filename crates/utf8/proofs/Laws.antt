-- Laws of the scan of code points.
use Prim.Native.Nat.{ℕ, zero, suc, ◌-◌, ◌≤◌, ◌<◌}
use native.Mathlib.Omega.{arith}
use mathlib.Core.Bool.{Bool, true, false, cond}
use mathlib.Core.List.{List, [], ◌∷◌}
use mathlib.Core.Path.{◌≡◌, refl, sym, ap}
use lib.Dec.{ltb}
use borrow.Author.Tests.{ltb-true, lt-ltb, le-ltb}
use Rattle.std.specs.Prelude.{None, Some}
use Rattle.utf8.specs.Utf8.{points_from, followers, lead_bits, with_bits}
use Rattle.utf8.specs.Steps.{cap, Step}

-- before a code point the bits do not matter
pub fresh_points : (bits : ℕ) (s : List ℕ) → points_from 0 bits s ≡ points_from 0 0 s
unfolding points_from
fresh_points bits [] = refl
fresh_points bits (b ∷ s) = refl

-- a byte that starts a code point, and ends it or does not
pub step_whole : (need bits b next next_bits : ℕ) → need ≡ 0 → b < 0x80 → next ≡ followers b → next_bits ≡ lead_bits b
    → Step need bits b next next_bits (Some b)
unfolding points_from
step_whole need bits b next next_bits n h p q s = let t : ltb b 0x80 ≡ true = lt-ltb b 0x80 h in rw (n, p, q, t) refl

pub step_begun : (need bits b next next_bits : ℕ) → need ≡ 0 → 0x80 ≤ b → next ≡ followers b → next_bits ≡ lead_bits b
    → Step need bits b next next_bits None
unfolding points_from
step_begun need bits b next next_bits n h p q s = let t : ltb b 0x80 ≡ false = le-ltb b 0x80 h in rw (n, p, q, t) refl

-- a byte that goes on with one, and ends it or does not
pub step_last : (need bits b next next_bits : ℕ) → need ≡ suc next → next ≡ 0 → next_bits ≡ with_bits bits b
    → Step need bits b next next_bits (Some next_bits)
unfolding points_from
step_last need bits b next next_bits n z q s =
    rw (n, z, q) (ap (λ (t : List ℕ). with_bits bits b ∷ t) (sym (fresh_points (with_bits bits b) s)))

pub step_on : (need bits b next next_bits : ℕ) → need ≡ suc next → 0 < next → next_bits ≡ with_bits bits b
    → Step need bits b next next_bits None
unfolding points_from
step_on need bits b zero next_bits n h q s = absurd (omega arith)
step_on need bits b (suc next) next_bits n h q s = rw (n, q) refl

-- the room for the bits
pub room_start : 0 < cap 0
unfolding cap
room_start = omega arith

pub room_begun : (b next next_bits : ℕ) → b < 256 → next ≡ followers b → next_bits ≡ lead_bits b → next_bits < cap next
unfolding cap
room_begun b next next_bits h p q = rw (p, q) (at (ltb b 0xc0) (ltb b 0xe0) (ltb b 0xf0) refl refl refl)
  where
    at : (x y z : Bool) → ltb b 0xc0 ≡ x → ltb b 0xe0 ≡ y → ltb b 0xf0 ≡ z
        → cond x b (cond y (b - 0xc0) (cond z (b - 0xe0) (b - 0xf0))) < cap (cond x 0 (cond y 1 (cond z 2 3)))
    at true y z p q r = omega arith
    at false true z p q r = omega (arith, ltb-true)
    at false false true p q r = omega (arith, ltb-true)
    at false false false p q r = omega arith

pub room_on : (need bits b next next_bits : ℕ) → bits < cap need → b < 256 → need ≡ suc next → next_bits ≡ with_bits bits b
    → next_bits < cap next
unfolding cap
room_on need bits b next next_bits h k n q = rw q (at next (rw n at h))
  where
    at : (n : ℕ) → bits < cap (suc n) → with_bits bits b < cap n
    at zero h = omega arith
    at (suc zero) h = omega arith
    at (suc (suc zero)) h = omega arith
    at (suc (suc (suc n))) h = absurd (omega arith)

pub bits_fit : (need bits : ℕ) → 0 < need → bits < cap need → bits < 70600
unfolding cap
bits_fit zero bits p h = absurd (omega arith)
bits_fit (suc zero) bits p h = h
bits_fit (suc (suc zero)) bits p h = omega arith
bits_fit (suc (suc (suc zero))) bits p h = omega arith
bits_fit (suc (suc (suc (suc n)))) bits p h = absurd (omega arith)
