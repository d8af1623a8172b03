-- When a print succeeds, in inequalities, and else which number refuses it and where: "the first one met is reported".
use Rattle.std.specs.Prelude.{ℕ, suc, ◌+◌, ◌*◌, ◌<◌, ◌≤◌, List, [], ◌∷◌, ◌++◌, ◌≡◌, length}
use Rattle.document.specs.Doc.{row_count, text_bytes}
use Rattle.document.specs.Walk.{unmarked, Event, byte, row, named, events}
use Rattle.layout.specs.Listing.{bytes_of}
use Rattle.lister.specs.Answers.{number, place}
use Rattle.third_property.specs.ThirdProperty.{Print, Run, Succeeded, defined, laid}

-- ---- events of a walk

-- the rows and the text bytes among some events
unfoldable pub row_events : List Event → ℕ
row_events [] = 0
row_events (byte ∷ es) = row_events es
row_events (row ∷ es) = suc (row_events es)
row_events (named place count ∷ es) = row_events es

unfoldable pub byte_events : List Event → ℕ
byte_events [] = 0
byte_events (byte ∷ es) = suc (byte_events es)
byte_events (row ∷ es) = byte_events es
byte_events (named place count ∷ es) = byte_events es

-- "The stack holds the names in force, at most 1,024."
unfoldable pub NamesFit : List Event → Type 0
NamesFit [] = Unit {0}
NamesFit (byte ∷ es) = NamesFit es
NamesFit (row ∷ es) = NamesFit es
NamesFit (named place count ∷ es) = (count ≤ 1024) × NamesFit es

-- so many rows and bytes are within the document's limits, and within areas of R words and T bytes
pub record Fits (R T rows bytes : ℕ) : Type 0 where
  pub few_rows : rows ≤ 16384
  pub few_bytes : bytes ≤ 65536
  pub row_area : rows * 7 ≤ R
  pub text_area : bytes ≤ T

-- an event that is refused, after so many rows and bytes: under which number, at which place
pub data Refused (R T rows bytes : ℕ) : Event → ℕ → ℕ → Type 0 where
  -- "7: a chain or let brings the stack over 1,024", at "the row of the chain's start or the let"
  too_many_names : (place count : ℕ) → 1024 < count → Refused R T rows bytes (named place count) 7 place
  -- "8: a text byte or row past the document's limits", "20: row area full. 21: text area full": "8 before 20 and 21", at "the document
  -- rows written so far"
  byte_past_limit : 65536 ≤ bytes → Refused R T rows bytes byte 8 rows
  text_area_full : bytes < 65536 → T ≤ bytes → Refused R T rows bytes byte 21 rows
  row_past_limit : 16384 ≤ rows → Refused R T rows bytes row 8 rows
  row_area_full : rows < 16384 → R < rows * 7 + 7 → Refused R T rows bytes row 20 rows

-- the first event that is refused: all before it fit
pub record FirstRefused (R T : ℕ) (es : List Event) (number place : ℕ) : Type 0 where
  pub before : List Event
  pub event : Event
  pub after : List Event
  pub split : es ≡ before ++ (event ∷ after)
  pub fits : Fits R T (row_events before) (byte_events before)
  pub names : NamesFit before
  pub refused : Refused R T (row_events before) (byte_events before) event number place

-- ---- runs

-- the document that 01 defines for a run's root fits
pub record DocumentFits {k : Print} (r : Run k) : Type 0 where
  pub fits :
      Fits (length r.lent.rows) (length r.lent.text) (row_count (unmarked (defined r))) (length (text_bytes (unmarked (defined r))))
  pub names : NamesFit (events (defined r))

-- "Refused calls report only number and place"
abbrev pub Reports : {k : Print} → Run k → ℕ → ℕ → Type 0
Reports r n at = (number r.answer ≡ n) × (place r.answer ≡ at)

-- how a run over an accepted pool that has the root ends, at an indent and a width within their limits
pub data Ends {k : Print} (r : Run k) : Type 0 where
  success : DocumentFits r → length (bytes_of (laid r)) ≤ length r.lent.listing → Succeeded r → Ends r
  -- 22
  listing_short : DocumentFits r → length r.lent.listing < length (bytes_of (laid r)) → Reports r 22 0 → Ends r
  -- 7, 8, 20, 21
  stop : (n at : ℕ) → FirstRefused (length r.lent.rows) (length r.lent.text) (events (defined r)) n at → Reports r n at → Ends r

-- it succeeds exactly if the document fits and the listing does; else it is refused as the inequalities say
pub record Decided {k : Print} (r : Run k) : Type 0 where
  pub ends : Ends r
  pub fits : Succeeded r → DocumentFits r × (length (bytes_of (laid r)) ≤ length r.lent.listing)
  pub succeeds : DocumentFits r → length (bytes_of (laid r)) ≤ length r.lent.listing → Succeeded r
  pub short : DocumentFits r → length r.lent.listing < length (bytes_of (laid r)) → Reports r 22 0
  pub stops : (n at : ℕ) → FirstRefused (length r.lent.rows) (length r.lent.text) (events (defined r)) n at → Reports r n at
