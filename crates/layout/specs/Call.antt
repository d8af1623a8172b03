-- What the call `layout` answers, and what it leaves in the listing area (document 01, "From the input", "From the lent areas").
use Rattle.std.specs.Prelude.{ℕ, ◌-◌, cond, List, Result, Ok, Err, length, ltb, eqb}
use Rattle.document.specs.Doc.{Doc}
use Rattle.document.specs.Rows.{doc_at, fault, counts_ok}
use Rattle.layout.specs.declared.Counts.{Counts}
use Rattle.layout.specs.declared.LayoutError.{LayoutError}
use Rattle.layout.specs.declared.LayoutError.TheVariants.{Document, Width, Listing}
use Rattle.layout.specs.Layout.{Piece, pieces}
use Rattle.layout.specs.Listing.{bytes_of, lines, longest_row}
use Rattle.layout.specs.Groups.{fit_tests}
use Rattle.layout.specs.Paint.{paint}

-- the number of an answer, 0 for none: "9: a given document breaks a row rule, ..", "6: .. width over 65,535", "22: listing longer than
-- its area"
abbrev pub number : Result Counts LayoutError → ℕ
number (Ok counts) = 0
number (Err (Document row)) = 9
number (Err Width) = 6
number (Err Listing) = 22

-- "place: for .. 9 the first faulty row in its table (0 for counts), .. else 0"
abbrev pub place : Result Counts LayoutError → ℕ
place (Ok counts) = 0
place (Err (Document row)) = row
place (Err Width) = 0
place (Err Listing) = 0

-- the case that is refused under each number, at a place
abbrev pub refusal : ℕ → ℕ → Result Counts LayoutError
refusal n at = Err (cond (eqb n 9) (Document at) (cond (eqb n 6) Width Listing))

-- an answer, and the listing area afterwards
pub record Outcome : Type 0 where
  pub answer : Result Counts LayoutError
  pub listing : List ℕ

-- no byte of the listing area is written
unfoldable pub untouched : Result Counts LayoutError → List ℕ → Outcome
untouched answer area = record { answer = answer; listing = area }

-- "document rows, text bytes, listing length, lines .., longest row, and fit tests": of a document of so many rows and text bytes, at a width
abbrev pub counts_of : ℕ → ℕ → ℕ → Doc → Counts
counts_of rows text width d =
    let ps : List Piece = pieces width d in
    record {
      rows = rows;
      text = text;
      length = length (bytes_of ps);
      lines = lines ps;
      longest = longest_row 0 ps;
      tests = fit_tests width d;
    }

-- a document of so many rows and text bytes is listed: "22: listing longer than its area"; "22 leaves .. in the listing area the first
-- bytes of the full listing, as many as fit"; "no refusal or success touches the listing area past what was written"
unfoldable pub listed : ℕ → ℕ → ℕ → Doc → List ℕ → Outcome
listed rows text width d area =
    let bytes : List ℕ = bytes_of (pieces width d) in
    record {
      answer = cond (ltb (length area) (length bytes)) (refusal 22 0) (Ok (counts_of rows text width d));
      listing = paint area 0 bytes;
    }

-- the document that so many rows and text bytes stand for
abbrev pub doc_of : List ℕ → ℕ → List ℕ → Doc
doc_of rows count texts = doc_at rows texts count (count - 1)

-- "Layout checks 9, 6, 22."
unfoldable pub outcome : List ℕ → ℕ → List ℕ → ℕ → ℕ → List ℕ → Outcome
outcome rows count texts total width area =
    cond (counts_ok (length rows) count (length texts) total)
    (cond (ltb (fault rows total count) count) (untouched (refusal 9 (fault rows total count)) area)
    (cond (ltb 65535 width) (untouched (refusal 6 0) area)
    (listed count total width (doc_of rows count texts) area)))
    (untouched (refusal 9 0) area)
