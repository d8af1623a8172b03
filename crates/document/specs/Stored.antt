-- The rows that a document is stored in (document 01, "Document and layout").
use Rattle.std.specs.Prelude.{ℕ, ◌+◌, ◌≤◌, List, [], ◌∷◌, ◌++◌, length}
use Rattle.document.specs.declared.measures.Measures.{Measures}
use Rattle.document.specs.Doc.{Doc, text, join, break, nest, group, row_count, flat_size, first_break, has_break, text_bytes}

-- "subtree row count, flat size, distance to the first break (flat size if none), has-break"
abbrev pub measures : Doc → Measures
measures d = record { count = row_count d; flat = flat_size d; first = first_break d; has = has_break d }

-- "kind, two fields (0 if unused), subtree row count, flat size, distance to the first break (..), has-break"
abbrev pub row_of : ℕ → ℕ → ℕ → Doc → List ℕ
row_of kind a b d = kind ∷ a ∷ b ∷ row_count d ∷ flat_size d ∷ first_break d ∷ has_break d ∷ []

-- the row of a document itself, with t text bytes before its own
unfoldable pub own_row : ℕ → Doc → List ℕ
own_row t (text s) = row_of 0 t (length s) (text s)
own_row t (join a b) = row_of 1 0 0 (join a b)
own_row t (break k) = row_of 2 k 0 (break k)
own_row t (nest m d) = row_of 3 m 0 (nest m d)
own_row t (group d) = row_of 4 0 0 (group d)

-- "a node straight after its children's subtrees, left one first"
unfoldable pub stored : ℕ → Doc → List ℕ
stored t (text s) = own_row t (text s)
stored t (join a b) = stored t a ++ (stored (t + length (text_bytes a)) b ++ own_row t (join a b))
stored t (break k) = own_row t (break k)
stored t (nest m d) = stored t d ++ own_row t (nest m d)
stored t (group d) = stored t d ++ own_row t (group d)

-- "its blank's length, 0 or 1"; "amount up to 64"
unfoldable pub Fine : Doc → Type 0
Fine (text s) = Unit {0}
Fine (join a b) = Fine a × Fine b
Fine (break k) = k ≤ 1
Fine (nest m d) = (m ≤ 64) × Fine d
Fine (group d) = Fine d
