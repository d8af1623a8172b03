-- The walk of a document that is being printed (document 01, "From the lent areas"): its events in order, and the first refusal met.
use Rattle.std.specs.Prelude.{ℕ, ◌+◌, ◌*◌, cond, List, [], ◌∷◌, ◌++◌, ltb, leb}
use Rattle.document.specs.Doc.{Doc, text, join, break, nest, group}

-- A document with marks. `names place count d`: just before the first row of d the names of a chain or of a let come into force;
-- `place` is the pool's row of the chain's start or the let, and `count` is how many names are then in force.
pub data Marked : Type 0 where
  textᵐ : List ℕ → Marked
  joinᵐ : Marked → Marked → Marked
  breakᵐ : ℕ → Marked
  nestᵐ : ℕ → Marked → Marked
  groupᵐ : Marked → Marked
  names : ℕ → ℕ → Marked → Marked

-- the document without the marks
unfoldable pub unmarked : Marked → Doc
unmarked (textᵐ s) = text s
unmarked (joinᵐ a b) = join (unmarked a) (unmarked b)
unmarked (breakᵐ k) = break k
unmarked (nestᵐ m d) = nest m (unmarked d)
unmarked (groupᵐ d) = group (unmarked d)
unmarked (names place count d) = unmarked d

-- a text byte, a row, names that come into force
pub data Event : Type 0 where
  byte : Event
  row : Event
  named : ℕ → ℕ → Event

-- "a text's bytes, one by one, before its row"
unfoldable pub text_events : List ℕ → List Event
text_events [] = row ∷ []
text_events (b ∷ s) = byte ∷ text_events s

-- "the walk goes in document order, a chain's names before its rows, a let's before its body"
unfoldable pub events : Marked → List Event
events (textᵐ s) = text_events s
events (joinᵐ a b) = events a ++ (events b ++ (row ∷ []))
events (breakᵐ k) = row ∷ []
events (nestᵐ m d) = events d ++ (row ∷ [])
events (groupᵐ d) = events d ++ (row ∷ [])
events (names place count d) = named place count ∷ events d

-- so many rows and text bytes are written; or the walk was refused under a number at a place
pub data Progress : Type 0 where
  going : ℕ → ℕ → Progress
  stopped : ℕ → ℕ → Progress

-- One event, in areas of `row_words` words and `text_length` bytes. "the first one met is reported, 8 before 20 and 21":
-- "8: a text byte or row past the document's limits"; "20: row area full. 21: text area full"; "7: a chain or let brings the stack
-- over 1,024". The place is "for 7 the row of the chain's start or the let, for 8, 20 and 21 the document rows written so far".
unfoldable pub step : ℕ → ℕ → Progress → Event → Progress
step row_words text_length (stopped number place) e = stopped number place
step row_words text_length (going rows bytes) byte =
    cond (ltb bytes 65536) (cond (ltb bytes text_length) (going rows (bytes + 1)) (stopped 21 rows)) (stopped 8 rows)
step row_words text_length (going rows bytes) row =
    cond (ltb rows 16384) (cond (leb (rows * 7 + 7) row_words) (going (rows + 1) bytes) (stopped 20 rows)) (stopped 8 rows)
step row_words text_length (going rows bytes) (named place count) = cond (leb count 1024) (going rows bytes) (stopped 7 place)

unfoldable pub steps : ℕ → ℕ → Progress → List Event → Progress
steps row_words text_length p [] = p
steps row_words text_length p (e ∷ es) = steps row_words text_length (step row_words text_length p e) es

unfoldable pub walk : ℕ → ℕ → Marked → Progress
walk row_words text_length m = steps row_words text_length (going 0 0) (events m)
