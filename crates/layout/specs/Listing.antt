-- The listing of some pieces, and what is reported of it (document 01, "Document and layout").
use Rattle.std.specs.Prelude.{ℕ, ◌+◌, max, List, [], ◌∷◌, ◌++◌, length, replicate}
use Rattle.layout.specs.Layout.{Piece, textᵖ, blankᵖ, newlineᵖ, testᵖ}

-- "A text is emitted. .. An unbroken place .. emits its blank, a broken one a newline, .. and then .. the nest in spaces"
abbrev pub piece_bytes : Piece → List ℕ
piece_bytes (textᵖ s) = s
piece_bytes (blankᵖ blank) = replicate blank 32
piece_bytes (newlineᵖ blank n) = 10 ∷ replicate n 32
piece_bytes (testᵖ f) = []

unfoldable pub bytes_of : List Piece → List ℕ
bytes_of [] = []
bytes_of (p ∷ ps) = piece_bytes p ++ bytes_of ps

-- the broken places among some pieces
unfoldable pub broken_places : List Piece → ℕ
broken_places [] = 0
broken_places (textᵖ s ∷ ps) = broken_places ps
broken_places (blankᵖ blank ∷ ps) = broken_places ps
broken_places (newlineᵖ blank n ∷ ps) = 1 + broken_places ps
broken_places (testᵖ f ∷ ps) = broken_places ps

-- "The lines figure becomes broken places plus 1" (document 02, P4)
abbrev pub lines : List Piece → ℕ
lines ps = broken_places ps + 1

-- "longest row": "Rows are what lies between the newlines of broken places, indentation included". The longest of the rows of the
-- pieces, where the first row has n bytes already
unfoldable pub longest_row : ℕ → List Piece → ℕ
longest_row n [] = n
longest_row n (textᵖ s ∷ ps) = longest_row (n + length s) ps
longest_row n (blankᵖ blank ∷ ps) = longest_row (n + blank) ps
longest_row n (newlineᵖ blank spaces ∷ ps) = max n (longest_row spaces ps)
longest_row n (testᵖ f ∷ ps) = longest_row n ps
