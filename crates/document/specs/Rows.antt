-- The rows of a document: the document that given rows stand for, and the row rules (document 01, number 9).
use Rattle.std.specs.Prelude.{ℕ, zero, suc, ◌+◌, ◌-◌, ◌*◌, ◌<◌, Bool, true, ◌&&◌, cond, Option, Some, None, List, [], ◌≡◌, length, get_or, take, drop, leb, ltb, eqb}
use Rattle.document.specs.declared.measures.Measures.{Measures}
use Rattle.document.specs.Doc.{Doc, text, join, break, nest, group, through, either}

-- "Rows of seven words": the word k of row r
abbrev pub word : List ℕ → ℕ → ℕ → ℕ
word rows r k = get_or rows (r * 7 + k) 0

-- ---- the document of given rows

-- "a node straight after its children's subtrees, left one first": the row of a join's left child
abbrev pub left_of : List ℕ → ℕ → ℕ
left_of rows r = r - 1 - word rows (r - 1) 3

-- the document of the row r of a kind, from the documents of the rows before it
unfoldable pub node : List ℕ → List ℕ → (ℕ → Doc) → ℕ → ℕ → Doc
node rows texts before r zero = text (take (word rows r 2) (drop (word rows r 1) texts))
node rows texts before r (suc zero) = join (before (left_of rows r)) (before (r - 1))
node rows texts before r (suc (suc zero)) = break (word rows r 1)
node rows texts before r (suc (suc (suc zero))) = nest (word rows r 1) (before (r - 1))
node rows texts before r (suc (suc (suc (suc k)))) = group (before (r - 1))

-- the document of row r, for any bound above r
unfoldable pub doc_at : List ℕ → List ℕ → ℕ → ℕ → Doc
doc_at rows texts zero r = text []
doc_at rows texts (suc bound) r = node rows texts (doc_at rows texts bound) r (word rows r 0)

-- ---- the row rules

-- "subtree row count, flat size, distance to the first break (flat size if none), has-break": the last four words of row r
abbrev pub measures_at : List ℕ → ℕ → Measures
measures_at rows r = record { count = word rows r 3; flat = word rows r 4; first = word rows r 5; has = word rows r 6 }

-- each a word of 32 bits
pub record Small (m : Measures) : Type 0 where
  pub count : m.count < 4294967296
  pub flat : m.flat < 4294967296
  pub first : m.first < 4294967296
  pub has : m.has < 4294967296

-- those of a join, from its children's
abbrev pub joined : Measures → Measures → Measures
joined a b =
    record {
      count = 1 + a.count + b.count;
      flat = a.flat + b.flat;
      first = through a.has a.first b.first;
      has = either a.has b.has;
    }

-- those of a nest or a group, from its child's
abbrev pub wrapped : Measures → Measures
wrapped a = record { count = 1 + a.count; flat = a.flat; first = a.first; has = a.has }

-- those that the row r of a kind must have
abbrev pub derived : List ℕ → ℕ → ℕ → Measures
derived rows r zero = record { count = 1; flat = word rows r 2; first = word rows r 2; has = 0 }
derived rows r (suc zero) = joined (measures_at rows (left_of rows r)) (measures_at rows (r - 1))
derived rows r (suc (suc zero)) = record { count = 1; flat = word rows r 1; first = 0; has = 1 }
derived rows r (suc (suc (suc k))) = wrapped (measures_at rows (r - 1))

-- how many text bytes the row r of a kind has of its own
abbrev pub own_text : List ℕ → ℕ → ℕ → ℕ
own_text rows r zero = word rows r 2
own_text rows r (suc k) = 0

-- how many text bytes the rows below r have
unfoldable pub text_before : List ℕ → ℕ → ℕ
text_before rows zero = 0
text_before rows (suc r) = text_before rows r + own_text rows r (word rows r 0)

-- "kind, two fields (0 if unused)": the rule of the kind and the two fields of row r, with `before` text bytes before it, of `total`.
-- A text starts where the texts so far end, and ends within the text; a join has a left child; a nest and a group have a child.
abbrev pub fields_ok : List ℕ → ℕ → ℕ → ℕ → ℕ → Bool
fields_ok rows total before r zero = eqb (word rows r 1) before && leb (before + word rows r 2) total
fields_ok rows total before r (suc zero) = ltb (word rows (r - 1) 3) r && (eqb (word rows r 1) 0 && eqb (word rows r 2) 0)
fields_ok rows total before r (suc (suc zero)) = ltb (word rows r 1) 2 && eqb (word rows r 2) 0
fields_ok rows total before r (suc (suc (suc zero))) = ltb 0 r && (ltb (word rows r 1) 65 && eqb (word rows r 2) 0)
fields_ok rows total before r (suc (suc (suc (suc k)))) =
    ltb 0 r && (eqb (suc (suc (suc (suc k)))) 4 && (eqb (word rows r 1) 0 && eqb (word rows r 2) 0))

abbrev pub same : Measures → Measures → Bool
same a b = eqb a.count b.count && (eqb a.flat b.flat && (eqb a.first b.first && eqb a.has b.has))

-- the row r of a kind keeps the row rules, with `before` text bytes before it, of `total`
abbrev pub rule_ok : List ℕ → ℕ → ℕ → ℕ → ℕ → Bool
rule_ok rows total before r kind = fields_ok rows total before r kind && same (measures_at rows r) (derived rows r kind)

unfoldable pub row_ok : List ℕ → ℕ → ℕ → Bool
row_ok rows total r = rule_ok rows total (text_before rows r) r (word rows r 0)

-- the rows below `count` keep the row rules
unfoldable pub Valid : List ℕ → ℕ → ℕ → Type 0
Valid rows total count = (i : ℕ) → i < count → row_ok rows total i ≡ true

-- "rows rising": the first row from i on, of `left` rows, that breaks a row rule; i + left if none does
unfoldable pub scan : List ℕ → ℕ → ℕ → ℕ → ℕ
scan rows total zero i = i
scan rows total (suc left) i = cond (row_ok rows total i) (scan rows total left (suc i)) i

-- "the last row's subtree is the whole, rows and text bytes"
unfoldable pub whole : List ℕ → ℕ → ℕ → Bool
whole rows total count = eqb (word rows (count - 1) 3) count && eqb (text_before rows count) total

-- "the first faulty row", or `count` if there is none. Where each row by itself keeps the rules and the whole-document rule is
-- broken, the last row is faulty (docs/DECISIONS.md, A10).
unfoldable pub fault : List ℕ → ℕ → ℕ → ℕ
fault rows total count =
    cond (ltb (scan rows total count 0) count) (scan rows total count 0) (cond (whole rows total count) count (count - 1))

-- an index below a bound, or none: so `fault` is what the check finds
abbrev pub found : ℕ → ℕ → Option ℕ
found i bound = cond (ltb i bound) (Some i) None

-- "its counts exceed its slices or limits, or it has no row": the contrary, for slices of so many words and bytes
abbrev pub counts_ok : ℕ → ℕ → ℕ → ℕ → Bool
counts_ok words count bytes total =
    ltb 0 count && (leb count 16384 && (leb (count * 7) words && (leb total bytes && leb total 65536)))

-- a given document that number 9 does not refuse
pub record Accepted (rows : List ℕ) (count : ℕ) (texts : List ℕ) (total : ℕ) : Type 0 where
  pub counts : counts_ok (length rows) count (length texts) total ≡ true
  pub faultless : fault rows total count ≡ count
