-- The two layouts agree (document 02, P2: "the same listing, counts and refusals as the first for every document and width").
use Rattle.std.specs.Prelude.{ℕ, ◌*◌, ◌≤◌, ◌<◌, true, false, List, Result, Err, ◌≡◌, length}
use Rattle.layout.specs.declared.Counts.{Counts}
use Rattle.layout.specs.declared.LayoutError.{LayoutError}
use Rattle.layout_pending.specs.declared.PendingError.{PendingError}
use Rattle.layout_pending.specs.declared.PendingError.TheVariants.{PendingArea}
use Rattle.layout_pending.specs.Call.{from_first, before30}

-- Of a document of so many rows, at one width, each lent such a listing area, the first layout answers `one` and leaves `listing1`, the
-- second, lent this pending area too, answers `two` and leaves `listing2`.
pub record Agree (count : ℕ) (pending area : List ℕ) (one : Result Counts LayoutError) (listing1 : List ℕ) (two : Result Counts PendingError) (listing2 : List ℕ) : Type 0 where
  -- in a pending area that is long enough, the same
  pub enough : count * 3 ≤ length pending → (two ≡ from_first one) × (listing2 ≡ listing1)
  -- 9 and 6 whatever the pending area
  pub refused : before30 one ≡ true → (two ≡ from_first one) × (listing2 ≡ listing1)
  -- else 30, and nothing is listed
  pub short : before30 one ≡ false → length pending < count * 3 → (two ≡ Err PendingArea) × (listing2 ≡ area)
