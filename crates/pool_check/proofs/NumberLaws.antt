-- The case that is refused under a number has that number, and its place.
use Prim.Native.Nat.{ℕ}
use mathlib.Core.Path.{◌≡◌, refl}
use native.Mathlib.Omega.{arith}
use Rattle.std.specs.Prelude.{Err}
use Rattle.pool_check.specs.declared.PoolError.{PoolError}
use Rattle.pool_check.specs.declared.PoolError.TheVariants.{Words, Limit, Strings, Rows, Notation}
use Rattle.pool_check.specs.Check.{number, place, refusal}

-- the numbers of check, with the places they may have: "for 3, 4 .. the first faulty row in its table .., else 0"
pub data Refuses : ℕ → ℕ → Type 0 where
  words : Refuses 1 0
  limit : Refuses 2 0
  string : (row : ℕ) → Refuses 3 row
  other_row : (row : ℕ) → Refuses 4 row
  notation : Refuses 31 0

pub refusal_reports : {n at : ℕ} → Refuses n at → (number (Err (refusal n at)) ≡ n) × (place (Err (refusal n at)) ≡ at)
unfolding number place
refusal_reports words = (refl, refl)
refusal_reports limit = (refl, refl)
refusal_reports (string row) = (refl, refl)
refusal_reports (other_row row) = (refl, refl)
refusal_reports notation = (refl, refl)

-- what is refused has a number
pub some_number : (e : PoolError) → number (Err e) ≡ 0 → ⊥
unfolding number
some_number Words h = absurd (omega arith)
some_number Limit h = absurd (omega arith)
some_number (Strings row) h = absurd (omega arith)
some_number (Rows row) h = absurd (omega arith)
some_number Notation h = absurd (omega arith)
