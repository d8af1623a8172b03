-- The case that is refused under a number has that number, and its place; an answer that is no refusal has none.
use Prim.Native.Nat.{ℕ}
use mathlib.Core.Path.{◌≡◌, refl}
use Rattle.pool_check.proofs.NumberLaws as checks
use Rattle.pool_check.specs.Check as check
use Rattle.difference.specs.Order.{Comparison, equal, differ}
use Rattle.comparison.specs.Call.{number, place, refusal, answer_of}

-- "5 if either is missing", at no place
pub missing_reports : (number (refusal 5 0) ≡ 5) × (place (refusal 5 0) ≡ 0)
unfolding number place
missing_reports = (refl, refl)

-- 1 to 4 and 31: check's
pub refusal_reports : {n at : ℕ} → checks.Refuses n at → (number (refusal n at) ≡ n) × (place (refusal n at) ≡ at)
unfolding number place check.number check.place
refusal_reports checks.words = (refl, refl)
refusal_reports checks.limit = (refl, refl)
refusal_reports (checks.string row) = (refl, refl)
refusal_reports (checks.other_row row) = (refl, refl)
refusal_reports checks.notation = (refl, refl)

pub answers_report : (c : Comparison) → (number (answer_of c) ≡ 0) × (place (answer_of c) ≡ 0)
unfolding number place answer_of
answers_report equal = (refl, refl)
answers_report (differ a b) = (refl, refl)
