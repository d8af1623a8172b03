-- What the sink's functions do to the row area, the text area and the sink.
use Rattle.std.specs.Prelude.{ℕ, ◌+◌, ◌-◌, ◌*◌, ◌%◌, ◌^◌, min, cond, List, [], ◌∷◌, ◌++◌, length, take, drop, set, replicate, ltb, leb, Some, None, is_none}
use Rattle.document.specs.declared.measures.Measures.{Measures}
use Rattle.document.specs.declared.written.Written.{Written}
use Rattle.document.specs.declared.written.Stop.{Stop}
use Rattle.document.specs.declared.written.Stop.TheVariants.{Names, Document, RowArea, TextArea}
use Rattle.document.specs.Rows.{left_of, measures_at, joined, wrapped}
use Rattle.document.specs.Walk.{Marked, textᵐ, joinᵐ, breakᵐ, nestᵐ, groupᵐ, names}

-- the row area, the text area, and how far the sink has come
pub data State : Type 0 where
  state : List ℕ → List ℕ → Written → State

abbrev pub rows_of : State → List ℕ
rows_of (state rows text s) = rows

abbrev pub text_of : State → List ℕ
text_of (state rows text s) = text

abbrev pub written_of : State → Written
written_of (state rows text s) = s

-- ---- refusals

-- stopped
abbrev pub stopped_at : Stop → Written → Written
stopped_at stop s = record { rows = s.rows; text = s.text; stop = Some stop }

-- the same of the whole state
abbrev pub stop_with : Stop → State → State
stop_with stop (state rows text s) = state rows text (stopped_at stop s)

-- 7, at the place of the chain or let
unfoldable pub refuse : ℕ → State → State
refuse place (state rows text s) = cond (is_none s.stop) (state rows text (stopped_at (Names place) s)) (state rows text s)

-- ---- rows

-- the seven words of a row. A word has 32 bits; that no document within the limits comes near that is a theorem (Emits).
abbrev pub row_words : ℕ → ℕ → ℕ → Measures → List ℕ
row_words kind a b m =
    kind ∷ a ∷ b ∷ m.count % 2 ^ 32 ∷ m.flat % 2 ^ 32 ∷ m.first % 2 ^ 32 ∷ m.has % 2 ^ 32 ∷ []

-- a list with ws over it from i on
abbrev pub over : ℕ → List ℕ → List ℕ → List ℕ
over i ws l = take i l ++ ws ++ drop (i + length ws) l

-- one row more; or 8 or 20 at the rows written so far
unfoldable pub put_row : ℕ → ℕ → ℕ → Measures → State → State
put_row kind a b m (state rows text s) =
    cond (is_none s.stop)
    (cond (ltb s.rows 16384)
    (cond (leb (s.rows * 7 + 7) (length rows))
    (state (over (s.rows * 7) (row_words kind a b m) rows) text
    (record { rows = s.rows + 1; text = s.text; stop = s.stop }))
    (state rows text (stopped_at (RowArea s.rows) s)))
    (state rows text (stopped_at (Document s.rows) s)))
    (state rows text s)

-- ---- texts

-- one byte more; or 8 or 21 at the rows written so far
unfoldable pub put_byte : ℕ → State → State
put_byte b (state rows text s) =
    cond (is_none s.stop)
    (cond (ltb s.text 65536)
    (cond (ltb s.text (length text))
    (state rows (set text s.text b) (record { rows = s.rows; text = s.text + 1; stop = s.stop }))
    (state rows text (stopped_at (TextArea s.rows) s)))
    (state rows text (stopped_at (Document s.rows) s)))
    (state rows text s)

unfoldable pub put_bytes : List ℕ → State → State
put_bytes [] st = st
put_bytes (b ∷ bs) st = put_bytes bs (put_byte b st)

-- how many bytes more a text area of so many bytes takes before one is refused
abbrev pub room_of : Written → ℕ → ℕ
room_of s size = cond (is_none s.stop) (min size 65536 - s.text) 0

-- the row of the text that consists of the bytes from `from` on
unfoldable pub end_text : ℕ → State → State
end_text from st =
    let size = (written_of st).text - from in
    put_row 0 (from % 2 ^ 32) (size % 2 ^ 32) (record { count = 1; flat = size; first = size; has = 0 }) st

unfoldable pub put_text : List ℕ → State → State
put_text bs st = end_text (written_of st).text (put_bytes bs st)

-- ---- the other rows

unfoldable pub put_break : ℕ → State → State
put_break blank st = put_row 2 blank 0 (record { count = 1; flat = blank; first = 0; has = 1 }) st

-- the two subtrees written last
unfoldable pub put_join : State → State
put_join st =
    put_row 1 0 0 (joined (measures_at (rows_of st) (left_of (rows_of st) (written_of st).rows)) (measures_at (rows_of st) ((written_of st).rows - 1))) st

-- the subtree written last, under a row of a kind
unfoldable pub put_wrapped : ℕ → ℕ → State → State
put_wrapped kind a st = put_row kind a 0 (wrapped (measures_at (rows_of st) ((written_of st).rows - 1))) st

abbrev pub put_nest : ℕ → State → State
put_nest amount = put_wrapped 3 amount

abbrev pub put_group : State → State
put_group = put_wrapped 4 0

-- ---- a whole document

-- names that come into force: "7: a chain or let brings the stack over 1,024"
unfoldable pub put_names : ℕ → ℕ → State → State
put_names place count st = cond (leb count 1024) st (refuse place st)

unfoldable pub emit : Marked → State → State
emit (textᵐ s) st = put_text s st
emit (joinᵐ a b) st = put_join (emit b (emit a st))
emit (breakᵐ k) st = put_break k st
emit (nestᵐ m d) st = put_nest m (emit d st)
emit (groupᵐ d) st = put_group (emit d st)
emit (names place count d) st = emit d (put_names place count st)

abbrev pub start : Written
start = record { rows = 0; text = 0; stop = None }

-- cleared areas of so many words and bytes, nothing written
abbrev pub cleared : ℕ → ℕ → State
cleared words bytes = state (replicate words 0) (replicate bytes 0) start
