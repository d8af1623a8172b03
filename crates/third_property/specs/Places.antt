-- Break places and groups, on a document's rows: "A break place is a break row; around it are the rows whose subtree has it, and its nest is
-- the sum of the nest amounts there."
use Rattle.std.specs.Prelude.{ℕ, zero, suc, ◌+◌, Bool, true, false, ◌&&◌, ◌||◌, not, cond, List, [], ◌∷◌, ◌++◌, eqb, leb, ltb}
use Rattle.document.specs.Doc.{Doc, text, join, break, nest, group, row_count, has_break, first_break, through}
use Rattle.document.specs.Rows.{word}
use Rattle.layout.specs.declared.cursor.Cursor.{Cursor}
use Rattle.layout.specs.Layout.{Piece, textᵖ, blankᵖ, newlineᵖ, testᵖ, after, run, placed, fits, layout, start}

-- ---- what layout meets, with the rows that it meets it at

pub record Met : Type 0 where
  pub row : ℕ
  pub piece : Piece

-- the pieces of a document whose first row is `from`, as `layout` has them, each with its row: "a node straight after its children's
-- subtrees, left one first"
unfoldable pub met_from : ℕ → Doc → ℕ → ℕ → Bool → ℕ → Cursor → List Met
met_from width (text s) from n flat next c = record { row = from; piece = textᵖ s } ∷ []
met_from width (join a b) from n flat next c =
    let mid = through (has_break b) (first_break b) next in
    met_from width a from n flat mid c
    ++ met_from width b (from + row_count a) n flat next (run width c (layout width a n flat mid c))
met_from width (break k) from n flat next c = record { row = from; piece = placed flat k n } ∷ []
met_from width (nest m d) from n flat next c = met_from width d from (n + m) flat next c
met_from width (group d) from n true next c = met_from width d from n true next c
met_from width (group d) from n false next c =
    let f = fits c d next in
    record { row = from + row_count d; piece = testᵖ f } ∷ met_from width d from n f next (after width c (testᵖ f))

abbrev pub met : ℕ → Doc → List Met
met width d = met_from width d 0 0 false 0 (start width)

unfoldable pub pieces_of : List Met → List Piece
pieces_of [] = []
pieces_of (m ∷ ms) = m.piece ∷ pieces_of ms

abbrev pub is_place : Piece → Bool
is_place (textᵖ s) = false
is_place (blankᵖ blank) = true
is_place (newlineᵖ blank n) = true
is_place (testᵖ f) = false

-- the break places among what is met
unfoldable pub places_in : List Met → List Met
places_in [] = []
places_in (m ∷ ms) = cond (is_place m.piece) (m ∷ places_in ms) (places_in ms)

abbrev pub is_failure : Piece → Bool
is_failure (textᵖ s) = false
is_failure (blankᵖ blank) = false
is_failure (newlineᵖ blank n) = false
is_failure (testᵖ f) = not f

-- "if the sum is more, that group fails the fit test; a group inside a flat one never fails it": of the group in row g
unfoldable pub failed : List Met → ℕ → Bool
failed [] g = false
failed (m ∷ ms) g = (eqb m.row g && is_failure m.piece) || failed ms g

-- ---- what the rows say of it

-- "around it are the rows whose subtree has it": row a is around row r. The subtree of row a is the rows up to a, as many as its count
abbrev pub around : List ℕ → ℕ → ℕ → Bool
around rows r a = leb r a && ltb a (r + word rows a 3)

-- `count` rows from one on
unfoldable pub rows_on : ℕ → ℕ → List ℕ
rows_on from zero = []
rows_on from (suc count) = from ∷ rows_on (suc from) count

-- "its nest is the sum of the nest amounts there": of row r, over the rows `among`
unfoldable pub nest_of : List ℕ → ℕ → List ℕ → ℕ
nest_of rows r [] = 0
nest_of rows r (a ∷ among) = cond (eqb (word rows a 0) 3 && around rows r a) (word rows a 1) 0 + nest_of rows r among

-- every group around row r failed the fit test
unfoldable pub all_failed : (ℕ → Bool) → List ℕ → ℕ → List ℕ → Bool
all_failed fails rows r [] = true
all_failed fails rows r (a ∷ among) = cond (eqb (word rows a 0) 4 && around rows r a) (fails a) true && all_failed fails rows r among

-- what is said of each break row
unfoldable pub break_rows : List ℕ → (ℕ → Met) → List ℕ → List Met
break_rows rows said [] = []
break_rows rows said (a ∷ among) = cond (eqb (word rows a 0) 2) (said a ∷ break_rows rows said among) (break_rows rows said among)

-- what 01 says of the break row r: it is broken exactly if every group around it failed the fit test, its blank is its own, and its nest the
-- sum
abbrev pub place_at : (ℕ → Bool) → List ℕ → List ℕ → ℕ → Met
place_at fails rows among r =
    record { row = r; piece = placed (not (all_failed fails rows r among)) (word rows r 1) (nest_of rows r among) }

-- the break places of `count` rows, where groups failed as `fails` says
abbrev pub break_places : (ℕ → Bool) → List ℕ → ℕ → List Met
break_places fails rows count = break_rows rows (place_at fails rows (rows_on 0 count)) (rows_on 0 count)

-- ---- the groups that are tested

-- the group in row a failed the fit test, or is the one in row g
abbrev pub failed_or_is : (ℕ → Bool) → ℕ → ℕ → Bool
failed_or_is fails g a = eqb a g || fails a

-- the group in row g is not inside a flat group: every group around it, itself aside, failed the fit test. One that did not fail is flat, or
-- inside a flat one, which is around g too
abbrev pub is_outside : (ℕ → Bool) → List ℕ → List ℕ → ℕ → Bool
is_outside fails rows among g = all_failed (failed_or_is fails g) rows g among

-- how many groups there are of which something is said
unfoldable pub group_rows : List ℕ → (ℕ → Bool) → List ℕ → ℕ
group_rows rows said [] = 0
group_rows rows said (a ∷ among) = cond (eqb (word rows a 0) 4 && said a) 1 0 + group_rows rows said among

-- the groups of `count` rows that are not inside a flat one, where groups failed as `fails` says
abbrev pub groups_outside : (ℕ → Bool) → List ℕ → ℕ → ℕ
groups_outside fails rows count = group_rows rows (is_outside fails rows (rows_on 0 count)) (rows_on 0 count)
