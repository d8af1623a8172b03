-- What the call `layout_pending` answers, and what it leaves in the listing area and the pending area (document 02, P2).
use Rattle.std.specs.Prelude.{ℕ, ◌*◌, Bool, ◌||◌, cond, List, Result, Ok, Err, length, replicate, ltb, eqb}
use Rattle.layout.specs.declared.Counts.{Counts}
use Rattle.layout.specs.declared.LayoutError.{LayoutError}
use Rattle.layout.specs.Call as first
use Rattle.layout.specs.Call.{outcome}
use Rattle.layout_pending.specs.declared.PendingError.{PendingError}
use Rattle.layout_pending.specs.declared.PendingError.TheVariants.{Layout, PendingArea}

-- the number of an answer, 0 for none: "30 when the pending area is shorter than three words for each document row", else the first layout's
abbrev pub number : Result Counts PendingError → ℕ
number (Ok counts) = 0
number (Err (Layout error)) = first.number (Err error)
number (Err PendingArea) = 30

-- and its place, which document 01 has as 0 where it says nothing else
abbrev pub place : Result Counts PendingError → ℕ
place (Ok counts) = 0
place (Err (Layout error)) = first.place (Err error)
place (Err PendingArea) = 0

-- the same answer as the first layout's
abbrev pub from_first : Result Counts LayoutError → Result Counts PendingError
from_first (Ok counts) = Ok counts
from_first (Err error) = Err (Layout error)

-- the case that is refused under each number, at a place
abbrev pub refusal : ℕ → ℕ → Result Counts PendingError
refusal n at = cond (eqb n 30) (Err PendingArea) (from_first (first.refusal n at))

-- an answer, and the two areas afterwards
pub record Outcome : Type 0 where
  pub answer : Result Counts PendingError
  pub listing : List ℕ
  pub pending : List ℕ

-- the answer and the listing of the first layout, with the pending area afterwards
abbrev pub followed : first.Outcome → List ℕ → Outcome
followed o pending = record { answer = from_first o.answer; listing = o.listing; pending = pending }

-- "met after 6 and before 22": the first layout's refusals that come before 30
abbrev pub before30 : Result Counts LayoutError → Bool
before30 a = eqb (first.number a) 9 || eqb (first.number a) 6

-- "shorter than three words for each document row"
abbrev pub is_short : ℕ → List ℕ → Bool
is_short count pending = ltb (length pending) (count * 3)

-- "after a success or 22 the pending area holds zeros, and other refusals do not touch it"; 30 does not touch the listing area either
unfoldable pub with30 : ℕ → first.Outcome → List ℕ → List ℕ → Outcome
with30 count o pending area =
    cond (before30 o.answer) (followed o pending)
    (cond (is_short count pending) (record { answer = refusal 30 0; listing = area; pending = pending })
    (followed o (replicate (length pending) 0)))

-- "the same listing, counts and refusals as the first for every document and width", with 30 between
unfoldable pub outcome_pending : List ℕ → ℕ → List ℕ → ℕ → ℕ → List ℕ → List ℕ → Outcome
outcome_pending rows count texts total width pending area =
    with30 count (outcome rows count texts total width area) pending area
