-- What the clauses of the third property say of a layout's texts, blanks and rows.
use Rattle.std.specs.Prelude.{ℕ, ◌≤◌, Bool, true, false, List, [], ◌∷◌, ◌++◌, ◌≡◌, length, replicate}
use Rattle.document.specs.Doc.{Doc, text, join, break, nest, group}
use Rattle.layout.specs.Layout.{Piece, textᵖ, blankᵖ, newlineᵖ, testᵖ}

-- ---- blanks put back

-- a piece with a broken place's newline and indentation put back to its own blank, which may be empty
abbrev pub put_back : Piece → List ℕ
put_back (textᵖ s) = s
put_back (blankᵖ blank) = replicate blank 32
put_back (newlineᵖ blank n) = replicate blank 32
put_back (testᵖ f) = []

unfoldable pub restored : List Piece → List ℕ
restored [] = []
restored (p ∷ ps) = put_back p ++ restored ps

-- the texts and blanks of a document, in row order
unfoldable pub in_order : Doc → List ℕ
in_order (text s) = s
in_order (join a b) = in_order a ++ in_order b
in_order (break blank) = replicate blank 32
in_order (nest m d) = in_order d
in_order (group d) = in_order d

-- ---- rows

-- the bytes of a row, and whether it holds an unbroken place
pub record Row : Type 0 where
  pub bytes : List ℕ
  pub held : Bool

-- "Rows are what lies between the newlines of broken places, indentation included; a broken place starts the row after its newline, and
-- an unbroken one is held by the row it is met in." The first row has some bytes already, and holds an unbroken place or not
unfoldable pub rows_from : List ℕ → Bool → List Piece → List Row
rows_from bytes held [] = record { bytes = bytes; held = held } ∷ []
rows_from bytes held (textᵖ s ∷ ps) = rows_from (bytes ++ s) held ps
rows_from bytes held (blankᵖ blank ∷ ps) = rows_from (bytes ++ replicate blank 32) true ps
rows_from bytes held (newlineᵖ blank spaces ∷ ps) = record { bytes = bytes; held = held } ∷ rows_from (replicate spaces 32) false ps
rows_from bytes held (testᵖ f ∷ ps) = rows_from bytes held ps

abbrev pub rows_in : List Piece → List Row
rows_in ps = rows_from [] false ps

-- rows joined by newlines
unfoldable pub joined : List Row → List ℕ
joined [] = []
joined (r ∷ []) = r.bytes
joined (r ∷ next ∷ rs) = r.bytes ++ (10 ∷ joined (next ∷ rs))

-- every row that holds an unbroken place is at most the width
unfoldable pub Within : ℕ → List Row → Type 0
Within width [] = Unit {0}
Within width (r ∷ rs) = (r.held ≡ true → length r.bytes ≤ width) × Within width rs
