-- Laws of the bits of a word.
use Prim.Native.Nat.{ℕ, zero, suc, ◌+◌, ◌*◌, ◌/◌, ◌%◌, ◌^◌, ◌<◌, ◌≤◌, max}
use native.Mathlib.Omega.{arith}
use native.Mathlib.Nat.{mul-mod_left, mul-div_cancel, mod-lt, zero-lt-suc, pow-suc}
use mathlib.Core.Bool.{Bool, true, false, ◌||◌}
use mathlib.Core.Path.{◌≡◌, refl, sym, ap, ◌∙◌, subst}
use lib.Arith.{digits_div, digits_mod}
use lib.Bits.{bit_or, or_step, block_half, block_odd}
use lib.Dec.{eqb}
use borrow.Author.Tests.{eq-eqb, ne_eqb, eqb-true, eqb-false}
use Rattle.occurrence.specs.Sets.{bit}

-- two digits
digit_or : (x y : ℕ) → x < 2 → y < 2 → (max x y < 2) × (eqb (max x y) 1 ≡ eqb x 1 || eqb y 1)
digit_or zero zero h g = (omega arith, refl)
digit_or zero (suc zero) h g = (omega arith, refl)
digit_or (suc zero) zero h g = (omega arith, refl)
digit_or (suc zero) (suc zero) h g = (omega arith, refl)
digit_or zero (suc (suc y)) h g = absurd (omega arith)
digit_or (suc zero) (suc (suc y)) h g = absurd (omega arith)
digit_or (suc (suc x)) y h g = absurd (omega arith)

pub bit-or : (k a b : ℕ) → bit k (bit_or a b) ≡ bit k a || bit k b
unfolding bit
bit-or zero a b =
    let d = digit_or (a % 2) (b % 2) (mod-lt a (zero-lt-suc 1)) (mod-lt b (zero-lt-suc 1)) in
    ap (λ (w : ℕ). eqb (w % 2) 1) (or_step a b) ∙ ap (λ (w : ℕ). eqb w 1) (digits_mod (bit_or (a / 2) (b / 2)) d.0) ∙ d.1
bit-or (suc k) a b =
    let d = digit_or (a % 2) (b % 2) (mod-lt a (zero-lt-suc 1)) (mod-lt b (zero-lt-suc 1)) in
    ap (λ (w : ℕ). bit k (w / 2)) (or_step a b) ∙ ap (bit k) (digits_div (bit_or (a / 2) (b / 2)) d.0) ∙ bit-or k (a / 2) (b / 2)

pub bit_none : (k : ℕ) → bit k 0 ≡ false
unfolding bit
bit_none zero = refl
bit_none (suc k) = bit_none k

same-suc : (n k : ℕ) → eqb n k ≡ eqb (suc n) (suc k)
same-suc n k = by (eqb n k) refl
  where
    by : (b : Bool) → eqb n k ≡ b → b ≡ eqb (suc n) (suc k)
    by true e = sym (eq-eqb (suc n) (suc k) (ap suc (eqb-true n k e)))
    by false e = sym (ne_eqb (suc n) (suc k) (λ q. eqb-false n k e (omega arith)))

pub bit-one : (k n : ℕ) → bit k (2 ^ n) ≡ eqb n k
unfolding bit
bit-one zero zero = refl
bit-one zero (suc n) = ap (λ (w : ℕ). eqb w 1) (ap (λ (w : ℕ). w % 2) (pow-suc 2 n) ∙ mul-mod_left (2 ^ n) 2) ∙ sym (ne_eqb (suc n) 0 (λ q. omega arith))
bit-one (suc k) zero = bit_none k ∙ sym (ne_eqb 0 (suc k) (λ q. omega arith))
bit-one (suc k) (suc n) = ap (bit k) (ap (λ (w : ℕ). w / 2) (pow-suc 2 n) ∙ mul-div_cancel (2 ^ n) (zero-lt-suc 1)) ∙ bit-one k n ∙ same-suc n k

-- a word of n bits, and a number before it
bit_below : (n k c x : ℕ) → k < n → bit k (c * 2 ^ n + x) ≡ bit k x
unfolding bit
bit_below zero k c x h = absurd (omega arith)
bit_below (suc n) zero c x h = ap (λ (w : ℕ). eqb w 1) (block_odd c n x)
bit_below (suc n) (suc k) c x h = ap (bit k) (block_half c n x) ∙ bit_below n k c (x / 2) (omega arith)

bit_first : (n c x : ℕ) → x < 2 ^ n → bit n (c * 2 ^ n + x) ≡ bit 0 c
unfolding bit
bit_first zero c x h = ap (λ (w : ℕ). eqb (w % 2) 1) (let e : c * 1 + x ≡ c = omega arith in e)
bit_first (suc n) c x h =
    let g : x < 2 ^ n * 2 = subst (λ (w : ℕ). x < w) (pow-suc 2 n) h in
    ap (bit n) (block_half c n x) ∙ bit_first n c (x / 2) (omega arith)

digit_bit : (c : ℕ) → bit 0 (c % 2) ≡ bit 0 c
unfolding bit
digit_bit c = ap (λ (w : ℕ). eqb w 1) (let e : c % 2 % 2 ≡ c % 2 = omega arith in e)

pub sum_small : (x y : ℕ) → x ≤ 9223372036854775807 → y ≤ 9223372036854775808 → x + y < 18446744073709551616
sum_small x y h g = omega arith

-- a word of 64 bits moved down by one, with a carry from above
module _ (w c : ℕ) where
  abbrev moved : ℕ
  moved = w / 2 + c % 2 * 9223372036854775808

  swapped : moved ≡ c % 2 * 2 ^ 63 + w / 2
  swapped = omega arith

  pub bit_moved : (k : ℕ) → k < 63 → bit k moved ≡ bit (suc k) w
  unfolding bit
  bit_moved k h = ap (bit k) swapped ∙ bit_below 63 k (c % 2) (w / 2) h

  pub bit_carried : w < 18446744073709551616 → bit 63 moved ≡ bit 0 c
  bit_carried h = ap (bit 63) swapped ∙ bit_first 63 (c % 2) (w / 2) (let g : w / 2 < 9223372036854775808 = omega arith in g) ∙ digit_bit c

  pub moved_small : w < 18446744073709551616 → moved < 18446744073709551616
  moved_small h = omega arith
