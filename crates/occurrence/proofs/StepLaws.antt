-- Laws of the steps of a sweep, in the words of its code.
use Prim.Native.Nat.{ℕ, zero, suc, ◌+◌, ◌-◌, ◌*◌, ◌%◌, ◌^◌, ◌<◌, ◌≤◌}
use native.Mathlib.Omega.{arith}
use native.Mathlib.Numerals.{add-one}
use native.Mathlib.Nat.{one-mul}
use mathlib.Core.List.{List}
use mathlib.Core.Path.{◌≡◌, sym, ap, ap₂, ◌∙◌, subst}
use borrow.Author.Tests.{lt-ltb, le-ltb, le-leb, lt-leb}
use lib.Bits.{bit_or}
use lib.ListN.{length, get_or, set}
use lib.Pow.{shl_exact}
use Rattle.std.specs.Prelude.{Option, Some, None}
use Rattle.std.proofs.lemmas.List.{get_or_past, get_or_default}
use Rattle.pool.specs.Tables.{expr_word}
use Rattle.occurrence.specs.Parts.{part_of, first_part, second_part, body_part}
use Rattle.occurrence.specs.Sets.{Kept, kept, entry_at, part_word, body_word, last_bit, row_word, row_step, sweep_rows, sweeps}

-- what a table has of a part, as code has it
module _ {A : Type 0} (none : A) (l : List A) where
  pub entry_none : {part : Option ℕ} → part ≡ None → none ≡ entry_at none l (part_of part)
  unfolding entry_at
  entry_none e = rw e

  pub entry_past : {part : Option ℕ} {r : ℕ} → part ≡ Some r → length l ≤ r → none ≡ entry_at none l (part_of part)
  unfolding entry_at
  entry_past {r = r} e h = rw e (sym (get_or_past l r none h))

  pub entry_there : {part : Option ℕ} {r : ℕ} {x : A} → part ≡ Some r → r < length l → x ≡ get_or l r x → x ≡ entry_at none l (part_of part)
  unfolding entry_at
  entry_there {r = r} {x = x} e h q = rw e (q ∙ get_or_default l r x none h)

pub no_last : (loose base : ℕ) → 64 < loose - base → 0 ≡ last_bit loose base
unfolding last_bit
no_last loose base h = rw (lt-ltb (base + 64) loose (omega arith))

pub a_last : (loose base : ℕ) → base < loose → loose - base ≤ 64 → (1 * 2 ^ (loose - base - 1)) % 2 ^ 64 ≡ last_bit loose base
unfolding last_bit
a_last loose base h g =
    let f : loose - base - 1 < 64 = omega arith in
    shl_exact 1 (loose - base - 1) 64 (omega arith) (omega arith) ∙ one-mul (2 ^ (loose - base - 1)) ∙ rw (le-ltb (base + 64) loose (omega arith))

-- a loop of steps: what is left of it
module _ (ws : List ℕ) (base n : ℕ) where
  pub steps-start : (k : Kept) → sweep_rows ws base (n - 0) 0 k ≡ sweep_rows ws base n 0 k
  steps-start k = ap (λ (m : ℕ). sweep_rows ws base m 0 k) (let e : n - 0 ≡ n = omega arith in e)

  pub steps_on : (r : ℕ) (k k' end : Kept) → r < n → k' ≡ row_step ws base r k → sweep_rows ws base (n - r) r k ≡ end → sweep_rows ws base (n - (r + 1)) (r + 1) k' ≡ end
  unfolding sweep_rows
  steps_on r k k' end h e q =
      let f : n - r ≡ suc (n - (r + 1)) = omega arith in
      ap₂ (λ (s : ℕ) (x : Kept). sweep_rows ws base (n - (r + 1)) s x) (add-one r) e ∙ ap (λ (m : ℕ). sweep_rows ws base m r k) (sym f) ∙ q

  pub steps_end : (r : ℕ) (k end : Kept) → n ≤ r → sweep_rows ws base (n - r) r k ≡ end → k ≡ end
  unfolding sweep_rows
  steps_end r k end h q = ap (λ (m : ℕ). sweep_rows ws base m r k) (let f : 0 ≡ n - r = omega arith in f) ∙ q

-- and a loop of sweeps
module _ (ws : List ℕ) (i n : ℕ) where
  pub sweeps_on : (s : ℕ) (k k' end : Kept) → 0 < s → k' ≡ sweep_rows ws (i + (s - 1) * 64) n 0 k → sweeps ws i n s k ≡ end → sweeps ws i n (s - 1) k' ≡ end
  unfolding sweeps
  sweeps_on zero k k' end h e q = absurd (omega arith)
  sweeps_on (suc s) k k' end h e q =
      let f : suc s - 1 ≡ s = omega arith in
      ap₂ (λ (m : ℕ) (x : Kept). sweeps ws i n m x) f (e ∙ ap (λ (m : ℕ). sweep_rows ws (i + m * 64) n 0 k) f) ∙ q

  pub sweeps_end : (s : ℕ) (k end : Kept) → s ≤ 0 → sweeps ws i n s k ≡ end → k ≡ end
  unfolding sweeps
  sweeps_end zero k end h q = q
  sweeps_end (suc s) k end h q = absurd (omega arith)
