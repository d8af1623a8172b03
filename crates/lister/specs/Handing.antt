-- 01, Document and layout: "Handing out a document text or a pool string: its bytes are a part of the text area or of the byte
-- area, an empty part unless document or pool is accepted and has that text or string row."
use Rattle.std.specs.Prelude.{ℕ, Bool, ◌&&◌, cond, List, ltb, eqb, length, take, drop}
use Rattle.document.specs.Rows.{word, fault, counts_ok}
use Rattle.pool.specs.Tables.{S, string_word}
use Rattle.pool_check.specs.Check.{is_accepted}
use Rattle.lister.specs.Source.{Source, judged}
use Rattle.lister.specs.declared.Part.{Part}
use Rattle.lister.specs.declared.Handed.{Handed}
use Rattle.lister.specs.declared.Handed.TheVariants.{Text, String}

-- so many bytes from an offset on
abbrev pub span : ℕ → ℕ → Part
span offset size = record { offset = offset; size = size }

-- "an empty part"
abbrev pub empty : Part
empty = span 0 0

-- a document that is accepted has the text row r
unfoldable pub has_text : List ℕ → ℕ → List ℕ → ℕ → ℕ → Bool
has_text rows count text total r =
    counts_ok (length rows) count (length text) total
    && (eqb (fault rows total count) count && (ltb r count && eqb (word rows r 0) 0))

-- where that row's bytes lie in the text area
unfoldable pub text_span : List ℕ → ℕ → List ℕ → ℕ → ℕ → Part
text_span rows count text total r = cond (has_text rows count text total r) (span (word rows r 1) (word rows r 2)) empty

-- a pool that is accepted has the string row r
unfoldable pub has_string : Source → ℕ → Bool
has_string source r = is_accepted (judged source) && ltb r (S source.words)

-- where that row's bytes lie in the byte area
unfoldable pub string_span : Source → ℕ → Part
string_span source r = cond (has_string source r) (span (string_word source.words r 0) (string_word source.words r 1)) empty

-- where what is handed out lies, and in which area
unfoldable pub span_of : Source → List ℕ → ℕ → List ℕ → ℕ → Handed → Part
span_of source rows count text total (Text r) = text_span rows count text total r
span_of source rows count text total (String r) = string_span source r

unfoldable pub area_of : Source → List ℕ → Handed → List ℕ
area_of source text (Text r) = text
area_of source text (String r) = source.bytes

-- the bytes of a part of an area
abbrev pub part_of : List ℕ → Part → List ℕ
part_of area p = take p.size (drop p.offset area)

unfoldable pub hand_out : Source → List ℕ → ℕ → List ℕ → ℕ → Handed → List ℕ
hand_out source rows count text total handed = part_of (area_of source text handed) (span_of source rows count text total handed)
