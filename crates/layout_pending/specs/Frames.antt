-- The references of a call, as the contracts speak of them.
use Rattle.std.specs.Prelude.{ℕ, Bool, List, Result, ◌≡◌, length, replicate}
use Rattle.basics.specs.Lent.{Area, Shared, was, left, held}
use Rattle.layout.specs.declared.cursor.Cursor.{Cursor}
use Rattle.layout.specs.declared.Counts.{Counts}
use Rattle.layout.specs.declared.LayoutError.{LayoutError}
use Rattle.layout.specs.declared.listing.Listing.{Listing}
use Rattle.layout.specs.Call as first
use Rattle.layout.specs.Call.{doc_of}
use Rattle.layout.specs.Layout.{pieces, start}
use Rattle.layout.specs.Contract.{Emitteds}
use Rattle.layout.specs.Frames.{Lists, Later}
use Rattle.layout_pending.specs.declared.PendingError.{PendingError}
use Rattle.layout_pending.specs.declared.entries.Entry.{Entry}
use Rattle.layout_pending.specs.Contract.{flat_group, tested_unless}
use Rattle.layout_pending.specs.Call.{Outcome}

-- the call answers v, and with the areas it leaves that is what the definition makes of the areas it was lent
abbrev pub ListsPending : Area → Area → Result Counts PendingError → (List ℕ → List ℕ → Outcome) → Type 0
ListsPending pending listing v defined =
    record { answer = v; listing = left listing; pending = left pending } ≡ defined (was pending) (was listing)

-- the document is listed, and the pending area holds zeros
abbrev pub ListsCleared : Area → Area → Result Counts LayoutError → (List ℕ → first.Outcome) → Type 0
ListsCleared pending listing v defined =
    Lists listing v defined × (left pending ≡ replicate (length (was pending)) 0)

-- whether the group of an entry is flat was asked: it is tested unless it is inside a flat one, and nothing is emitted
pub record Asks (rows : List ℕ) (e : Entry) (l m : Listing) (flat : Bool) : Type 0 where
  pub later : Later l m
  pub answer : flat ≡ flat_group rows e l.cursor
  pub cursor : m.cursor ≡ tested_unless e.flat l.cursor
  pub bytes : m.area.now ≡ l.area.now

-- the pieces of the whole document are emitted, from the start
abbrev pub LaysOutWhole : Shared → ℕ → Shared → ℕ → Area → Cursor → Type 0
LaysOutWhole rows count texts width listing v =
    Emitteds width (pieces width (doc_of (held rows) count (held texts))) (start width) v (was listing) (left listing)
