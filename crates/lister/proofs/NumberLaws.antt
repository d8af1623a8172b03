-- The case that a print refuses under a number has that number, and its place. What check refuses has check's in a print too; so has layout's
-- success, and its 22, the one number under which a printed document can be refused there.
use Prim.Native.Nat.{ℕ}
use mathlib.Core.Path.{◌≡◌, refl}
use Rattle.layout.specs.declared.Counts.{Counts}
use Rattle.layout.specs.Call as layout
use Rattle.std.specs.Prelude.{Ok, Err}
use Rattle.pool_check.specs.declared.PoolError.{PoolError}
use Rattle.pool_check.specs.Check as check
use Rattle.lister.specs.Answers.{of_pool, number, place, refusal, stop_answer, of_laid}

-- the numbers of the prints from 5 on, with the places they may have: "for 7 the row of the chain's start or the let, for 8, 20 and 21 the
-- document rows written so far, else 0"
pub data Refuses : ℕ → ℕ → Type 0 where
  root : Refuses 5 0
  size : Refuses 6 0
  names : (row : ℕ) → Refuses 7 row
  document : (rows : ℕ) → Refuses 8 rows
  row_area : (rows : ℕ) → Refuses 20 rows
  text_area : (rows : ℕ) → Refuses 21 rows
  listing : Refuses 22 0

pub refusal_reports : {n at : ℕ} → Refuses n at → (number (refusal n at) ≡ n) × (place (refusal n at) ≡ at)
unfolding number place stop_answer
refusal_reports root = (refl, refl)
refusal_reports size = (refl, refl)
refusal_reports (names row) = (refl, refl)
refusal_reports (document rows) = (refl, refl)
refusal_reports (row_area rows) = (refl, refl)
refusal_reports (text_area rows) = (refl, refl)
refusal_reports listing = (refl, refl)

-- 1 to 4 and 31: check's
pub pool_reports : (e : PoolError) → (number (Err (of_pool e)) ≡ check.number (Err e)) × (place (Err (of_pool e)) ≡ check.place (Err e))
unfolding number place
pool_reports e = (refl, refl)

-- none, or 22: layout's
pub done_reports : (counts : Counts)
    → (number (of_laid (Ok counts)) ≡ layout.number (Ok counts)) × (place (of_laid (Ok counts)) ≡ layout.place (Ok counts))
unfolding number place of_laid
done_reports counts = (refl, refl)

pub short_reports :
    (number (of_laid (layout.refusal 22 0)) ≡ layout.number (layout.refusal 22 0)) × (place (of_laid (layout.refusal 22 0)) ≡ layout.place (layout.refusal 22 0))
unfolding number place of_laid
short_reports = (refl, refl)
