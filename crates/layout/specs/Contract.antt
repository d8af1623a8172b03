-- What the functions of the layout ask and ensure.
use Rattle.std.specs.Prelude.{ℕ, ◌+◌, ◌-◌, ◌*◌, ◌<◌, ◌≤◌, Bool, cond, List, Result, Ok, Err, ◌≡◌, length, take, drop, ltb}
use Rattle.document.specs.Doc.{through}
use Rattle.document.specs.Rows.{word, doc_at, Valid, fault, counts_ok}
use Rattle.layout.specs.declared.cursor.Cursor.{Cursor}
use Rattle.layout.specs.declared.Counts.{Counts}
use Rattle.layout.specs.declared.LayoutError.{LayoutError}
use Rattle.layout.specs.declared.LayoutError.TheVariants.{Document, Width, Listing}
use Rattle.layout.specs.Layout.{Piece, after, run, layout}
use Rattle.layout.specs.Listing.{piece_bytes, bytes_of}
use Rattle.layout.specs.Paint.{paint}

-- the row that holds the cursor starts at end - width, which is not after the cursor
abbrev pub Steady : ℕ → Cursor → Type 0
Steady width c = c.end ≤ c.position + width

-- the text of row r
abbrev pub text_of : List ℕ → List ℕ → ℕ → List ℕ
text_of rows texts r = take (word rows r 2) (drop (word rows r 1) texts)

-- the text of row r lies in the text area, and the numbers stay below the machine's limit when it is emitted
pub record TextRoom (rows texts : List ℕ) (r width : ℕ) (c : Cursor) : Type 0 where
  pub row : r * 7 + 7 ≤ length rows
  pub inside : word rows r 1 + word rows r 2 ≤ length texts
  pub room : c.position + word rows r 2 + width < 18446744073709551616

-- the same of a break, as a blank and as a newline
pub record BreakRoom (rows : List ℕ) (r width nest : ℕ) (c : Cursor) : Type 0 where
  pub row : r * 7 + 7 ≤ length rows
  pub blank : c.position + word rows r 1 + width < 18446744073709551616
  pub newline : c.position + 1 + nest + width < 18446744073709551616
  pub line : c.lines + 1 < 18446744073709551616

-- the distance from the end of the left child of the join at row r to the next break, where it is `next` at the join's end
abbrev pub next_of_left : List ℕ → ℕ → ℕ → ℕ
next_of_left rows r next = through (word rows (r - 1) 6) (word rows (r - 1) 5) next

-- one piece is emitted: the cursor goes from c to v, and the listing area from l to l'
pub record Emitted (width : ℕ) (p : Piece) (c v : Cursor) (l l' : List ℕ) : Type 0 where
  pub cursor : v ≡ after width c p
  pub bytes : l' ≡ paint l c.position (piece_bytes p)

-- some pieces are
pub record Emitteds (width : ℕ) (ps : List Piece) (c v : Cursor) (l l' : List ℕ) : Type 0 where
  pub cursor : v ≡ run width c ps
  pub bytes : l' ≡ paint l c.position (bytes_of ps)

-- the rows keep the row rules, there are so many of them and of text bytes, and the width is allowed
pub record Given (rows texts : List ℕ) (width total count : ℕ) : Type 0 where
  pub valid : Valid rows total count
  pub long : count * 7 ≤ length rows
  pub few : count ≤ 16384
  pub size : total ≤ length texts
  pub small : total ≤ 65536
  pub narrow : width ≤ 65535

-- row r is one of them, and the numbers stay far from the limits of the machine however the rows of its subtree are laid out: each of them
-- adds a line or a fit test at most
pub record Room (rows texts : List ℕ) (r width nest next : ℕ) (c : Cursor) : Type 0 where
  pub total : ℕ
  pub count : ℕ
  pub given : Given rows texts width total count
  pub below : r < count
  pub steady : Steady width c
  pub position_room : c.position + word rows r 3 * 8589934592 ≤ 1152921504606846976
  pub nest_room : nest + word rows r 3 * 64 ≤ 2097152
  pub next_room : next + word rows r 3 * 4294967296 ≤ 1152921504606846976
  pub count_room : c.lines + c.tests + word rows r 3 ≤ 1152921504606846976

-- the subtree of row r is laid out
pub record LaidOut
    (rows texts : List ℕ) (r width nest : ℕ) (flat : Bool) (next : ℕ) (c v : Cursor) (l l' : List ℕ) : Type 0 where
  pub laid :
      (bound : ℕ) → r < bound → Emitteds width (layout width (doc_at rows texts bound r) nest flat next c) c v l l'
  pub steady : Steady width v
  pub position_bound : v.position ≤ c.position + word rows r 3 * 8589934592
  pub count_bound : v.lines + v.tests ≤ c.lines + c.tests + word rows r 3

-- 9, then 6, as in `outcome`: what comes before a row is laid out
unfoldable pub admission : List ℕ → ℕ → List ℕ → ℕ → ℕ → Result (Unit {0}) LayoutError
admission rows count texts total width =
    cond (counts_ok (length rows) count (length texts) total)
    (cond (ltb (fault rows total count) count) (Err (Document (fault rows total count)))
    (cond (ltb 65535 width) (Err Width) (Ok tt)))
    (Err (Document 0))

-- the counts from the last cursor
abbrev pub counted : Cursor → ℕ → ℕ → Counts
counted v count total =
    record { rows = count; text = total; length = v.position; lines = v.lines; longest = v.longest; tests = v.tests }

-- the answer from the last cursor and the listing area
abbrev pub reported : Cursor → ℕ → ℕ → List ℕ → Result Counts LayoutError
reported v count total l =
    cond (ltb (length l) v.position) (Err Listing) (Ok (counted v count total))
