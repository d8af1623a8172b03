-- The layout of a document at a width, as a list of pieces (document 01, "Document and layout").
use Rattle.std.specs.Prelude.{ℕ, ◌+◌, ◌-◌, max, Bool, true, false, List, [], ◌∷◌, ◌++◌, length, leb}
use Rattle.document.specs.Doc.{Doc, text, join, break, nest, group, has_break, flat_size, first_break, through}
use Rattle.layout.specs.declared.cursor.Cursor.{Cursor}

-- a text; an unbroken place with its blank's length; a broken place with its blank's length and its nest; a fit test with its outcome
pub data Piece : Type 0 where
  textᵖ : List ℕ → Piece
  blankᵖ : ℕ → Piece
  newlineᵖ : ℕ → ℕ → Piece
  testᵖ : Bool → Piece

-- ---- the row cursor: position and row's end decide what fits; lines, longest row and fit tests are only counted along, and `Listing` and
-- `Groups` say what is reported

-- "Position is the number of bytes emitted so far." The cursor at a new position in the same row, which starts at end - width
abbrev pub moved : ℕ → Cursor → ℕ → Cursor
moved width c position =
    record {
      position = position;
      end = c.end;
      lines = c.lines;
      longest = max c.longest (position + width - c.end);
      tests = c.tests;
    }

-- one fit test more
abbrev pub tested : Cursor → Cursor
tested c = record { position = c.position; end = c.end; lines = c.lines; longest = c.longest; tests = c.tests + 1 }

-- the cursor after a piece: "An unbroken place (in a flat group) emits its blank, a broken one a newline, sets the row's end to
-- position + width, and then emits the nest in spaces."
abbrev pub after : ℕ → Cursor → Piece → Cursor
after width c (textᵖ s) = moved width c (c.position + length s)
after width c (blankᵖ blank) = moved width c (c.position + blank)
after width c (newlineᵖ blank n) =
    moved width
    (record { position = c.position + 1; end = c.position + 1 + width; lines = c.lines + 1; longest = c.longest; tests = c.tests })
    (c.position + 1 + n)
after width c (testᵖ f) = tested c

-- the cursor after some pieces
unfoldable pub run : ℕ → Cursor → List Piece → Cursor
run width c [] = c
run width c (p ∷ ps) = run width (after width c p) ps

-- ---- the pieces

-- a break place, with its blank's length and its nest, in a flat group or not
abbrev pub placed : Bool → ℕ → ℕ → Piece
placed true blank n = blankᵖ blank
placed false blank n = newlineᵖ blank n

-- so many bytes, and those up to the next break, end in the row
abbrev pub fits_bytes : Cursor → ℕ → ℕ → Bool
fits_bytes c size next = leb (c.position + size + next) c.end

-- "A group not inside a flat one is flat exactly if position + flat size + distance from its end to the next break (or to the end) is
-- at most the row's end": `next` is the distance from the group's end to the next break, or to the end
abbrev pub fits : Cursor → Doc → ℕ → Bool
fits c d next = fits_bytes c (flat_size d) next

-- "Layout meets texts and breaks in row order." The pieces of a document in a nest, inside a flat group or not, from a cursor on.
unfoldable pub layout : ℕ → Doc → ℕ → Bool → ℕ → Cursor → List Piece
layout width (text s) n flat next c = textᵖ s ∷ []
layout width (join a b) n flat next c =
    let ps = layout width a n flat (through (has_break b) (first_break b) next) c in
    ps ++ layout width b n flat next (run width c ps)
layout width (break k) n flat next c = placed flat k n ∷ []
layout width (nest m d) n flat next c = layout width d (n + m) flat next c
layout width (group d) n true next c = layout width d n true next c
layout width (group d) n false next c =
    let f = fits c d next in
    testᵖ f ∷ layout width d n f next (after width c (testᵖ f))

-- "the row's end (the width at first)"
abbrev pub start : ℕ → Cursor
start width = record { position = 0; end = width; lines = 1; longest = 0; tests = 0 }

-- the pieces of a whole document
unfoldable pub pieces : ℕ → Doc → List Piece
pieces width d = layout width d 0 false 0 (start width)
