-- The case that is refused under a number has that number, and its place.
use Prim.Native.Nat.{ℕ}
use mathlib.Core.Path.{◌≡◌, refl}
use Rattle.layout.specs.Call.{number, place, refusal}

-- the numbers of layout, with the places they may have: "for .. 9 the first faulty row in its table (0 for counts), .. else 0"
pub data Refuses : ℕ → ℕ → Type 0 where
  document : (row : ℕ) → Refuses 9 row
  width : Refuses 6 0
  listing : Refuses 22 0

pub refusal_reports : {n at : ℕ} → Refuses n at → (number (refusal n at) ≡ n) × (place (refusal n at) ≡ at)
refusal_reports (document row) = (refl, refl)
refusal_reports width = (refl, refl)
refusal_reports listing = (refl, refl)
