-- A document as a tree, and what its rows say of it (document 01, "Document and layout").
use Rattle.std.specs.Prelude.{ℕ, zero, suc, ◌+◌, List, [], ◌++◌, length}

-- "0 text (offset, length; ..); 1 join; 2 break (its blank's length, 0 or 1); 3 nest (amount up to 64); 4 group."
-- A text is given by its bytes.
pub data Doc : Type 0 where
  text : List ℕ → Doc
  join : Doc → Doc → Doc
  break : ℕ → Doc
  nest : ℕ → Doc → Doc
  group : Doc → Doc

-- "subtree row count"
unfoldable pub row_count : Doc → ℕ
row_count (text s) = 1
row_count (join a b) = 1 + row_count a + row_count b
row_count (break k) = 1
row_count (nest m d) = 1 + row_count d
row_count (group d) = 1 + row_count d

-- "flat size": the bytes of the texts and of the blanks
unfoldable pub flat_size : Doc → ℕ
flat_size (text s) = length s
flat_size (join a b) = flat_size a + flat_size b
flat_size (break k) = k
flat_size (nest m d) = flat_size d
flat_size (group d) = flat_size d

-- 1 if either is not 0
abbrev pub either : ℕ → ℕ → ℕ
either zero b = b
either (suc a) b = 1

-- "has-break": 1 if there is a break, else 0
unfoldable pub has_break : Doc → ℕ
has_break (text s) = 0
has_break (join a b) = either (has_break a) (has_break b)
has_break (break k) = 1
has_break (nest m d) = has_break d
has_break (group d) = has_break d

-- The distance to the first break from the start of a part: the part's own where it has a break;
-- else past the part, at whose end the distance is `after`.
abbrev pub through : ℕ → ℕ → ℕ → ℕ
through zero first after = first + after
through (suc has) first after = first

-- "distance to the first break (flat size if none)"
unfoldable pub first_break : Doc → ℕ
first_break (text s) = length s
first_break (join a b) = through (has_break a) (first_break a) (first_break b)
first_break (break k) = 0
first_break (nest m d) = first_break d
first_break (group d) = first_break d

-- the texts in order: "texts contiguous from 0"
unfoldable pub text_bytes : Doc → List ℕ
text_bytes (text s) = s
text_bytes (join a b) = text_bytes a ++ text_bytes b
text_bytes (break k) = []
text_bytes (nest m d) = text_bytes d
text_bytes (group d) = text_bytes d
