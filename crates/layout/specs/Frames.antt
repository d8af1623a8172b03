-- What a call makes of the references that it is lent: the listing area of a whole layout, and the listing inside it.
use Rattle.std.specs.Prelude.{ℕ, Bool, List, Result, ◌≡◌}
use Rattle.std.specs.Borrow.{MutBor}
use Rattle.basics.specs.Lent.{Area, was, left}
use Rattle.layout.specs.declared.Counts.{Counts}
use Rattle.layout.specs.declared.LayoutError.{LayoutError}
use Rattle.layout.specs.declared.listing.Listing.{Listing}
use Rattle.layout.specs.Layout.{Piece, start}
use Rattle.layout.specs.Call.{Outcome}
use Rattle.layout.specs.Contract.{Emitted, LaidOut}

-- the call answers v, and with the listing area it leaves that is what the definition makes of the listing area it was lent
abbrev pub Lists : Area → Result Counts LayoutError → (List ℕ → Outcome) → Type 0
Lists listing v defined = record { answer = v; listing = left listing } ≡ defined (was listing)

-- a listing at its start, in the area that it was lent
pub record Begins (area : MutBor (List ℕ)) (width : ℕ) (l : Listing) : Type 0 where
  pub same_area : l.area.ghost_name ≡ area.ghost_name
  pub bytes : l.area.now ≡ area.now
  pub width_is : l.width ≡ width
  pub cursor : l.cursor ≡ start l.width

-- the same listing later: its area is the one that it was lent, and its width stands
pub record Later (l m : Listing) : Type 0 where
  pub same_area : m.area.ghost_name ≡ l.area.ghost_name
  pub width : m.width ≡ l.width

-- a piece is emitted
pub record Emits (l m : Listing) (p : Piece) : Type 0 where
  pub later : Later l m
  pub emitted : Emitted l.width p l.cursor m.cursor l.area.now m.area.now

-- the subtree of row r is laid out
pub record LaysOut (rows texts : List ℕ) (r nest : ℕ) (flat : Bool) (next : ℕ) (l m : Listing) : Type 0 where
  pub later : Later l m
  pub laid : LaidOut rows texts r l.width nest flat next l.cursor m.cursor l.area.now m.area.now
