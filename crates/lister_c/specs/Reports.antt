-- What the C functions return, and what they leave in their areas.
use Rattle.std.specs.Prelude.{ℕ, cond, List, [], ◌∷◌, ◌++◌, Option, Some, None, Result, Ok, Err, length, drop, ltb, eqb}
use Rattle.pool_check.specs.declared.PoolError.{PoolError}
use Rattle.pool_check.specs.Check as check
use Rattle.comparison.specs.declared.Pair.{Pair}
use Rattle.comparison.specs.Call as comparisons
use Rattle.layout.specs.declared.Counts.{Counts}
use Rattle.layout.specs.declared.LayoutError.{LayoutError}
use Rattle.layout.specs.Call as call
use Rattle.layout.specs.Call.{Outcome}
use Rattle.layout_pending.specs.declared.PendingError.{PendingError}
use Rattle.layout_pending.specs.Call as pending
use Rattle.lister.specs.Answers as numbers
use Rattle.lister.specs.Prints as prints
use Rattle.lister.specs.Source.{Source}
use Rattle.lister.specs.Handing.{span_of, empty}
use Rattle.lister.specs.declared.Part.{Part}
use Rattle.lister.specs.declared.Handed.TheVariants.{Text, String}
use Rattle.lister_c.specs.declared.reports.Report.{Report}

-- what does not apply is 0
abbrev pub none : Counts
none = record { rows = 0; text = 0; length = 0; lines = 0; longest = 0; tests = 0 }

-- a number and its place
abbrev pub refusal : ℕ → ℕ → Report
refusal number place = record { number = number; place = place; counts = none }

-- the counts of a call that no number refuses
abbrev pub success : Counts → Report
success counts = record { number = 0; place = 0; counts = counts }

-- what a call reports: its counts, or the number and the place of its refusal
abbrev pub reported : {E : Type 0} → (E → ℕ) → (E → ℕ) → Result Counts E → Report
reported number place (Ok counts) = success counts
reported number place (Err error) = refusal (number error) (place error)

-- what check reports
unfoldable pub of_verdict : Result Unit PoolError → Report
of_verdict v = refusal (check.number v) (check.place v)

-- what layout reports
unfoldable pub of_laid : Result Counts LayoutError → Report
of_laid l = reported (λ e. call.number (Err e)) (λ e. call.place (Err e)) l

-- what the layout with a pending area reports
unfoldable pub of_laid_pending : Result Counts PendingError → Report
of_laid_pending l = reported (λ e. pending.number (Err e)) (λ e. pending.place (Err e)) l

-- what a print reports
unfoldable pub of_answer : numbers.Answer → Report
of_answer a = reported (λ e. numbers.number (Err e)) (λ e. numbers.place (Err e)) a

-- the eight words of a report, in the order of `out`
abbrev pub eight : Report → List ℕ
eight r =
    let c : Counts = r.counts in
    r.number ∷ r.place ∷ c.rows ∷ c.text ∷ c.length ∷ c.lines ∷ c.longest ∷ c.tests ∷ []

-- eight words put over the first eight; fewer than eight stay as they are
unfoldable pub put_words : List ℕ → List ℕ → List ℕ
put_words out words = cond (ltb (length out) 8) out (words ++ drop 8 out)

-- a report put over the first eight words
abbrev pub put : List ℕ → Report → List ℕ
put out r = put_words out (eight r)

-- what `tilusorgu_check`, `tilusorgu_hand_out` and `tilusorgu_compare` return, and `out` afterwards
pub record Checked : Type 0 where
  pub number : ℕ
  pub out : List ℕ

unfoldable pub checked : Result Unit PoolError → List ℕ → Checked
checked v out = record { number = check.number v; out = put out (of_verdict v) }

-- what `tilusorgu_layout` returns, and the listing area and `out` afterwards
pub record LaidOut : Type 0 where
  pub number : ℕ
  pub listing : List ℕ
  pub out : List ℕ

unfoldable pub laid : Outcome → List ℕ → LaidOut
laid o out =
    record { number = call.number o.answer; listing = o.listing; out = put out (of_laid o.answer) }

-- what `tilusorgu_layout_pending` returns, and the listing area, the pending area and `out` afterwards
pub record LaidOutPending : Type 0 where
  pub number : ℕ
  pub listing : List ℕ
  pub pending : List ℕ
  pub out : List ℕ

unfoldable pub laid_pending : pending.Outcome → List ℕ → LaidOutPending
laid_pending o out =
    record {
      number = pending.number o.answer;
      listing = o.listing;
      pending = o.pending;
      out = put out (of_laid_pending o.answer);
    }

-- what `tilusorgu_print_expr` and `tilusorgu_print_declar` return, and the lent areas and `out` afterwards
pub record Printed : Type 0 where
  pub number : ℕ
  pub areas : prints.Areas
  pub out : List ℕ

unfoldable pub printed : prints.Outcome → List ℕ → Printed
printed o out =
    record { number = numbers.number o.answer; areas = o.areas; out = put out (of_answer o.answer) }

-- where what `tilusorgu_hand_out` hands out lies: kind 0 is the text of a document's row, 1 a pool's string; any other is an empty part
unfoldable pub kind_span : Source → List ℕ → ℕ → List ℕ → ℕ → ℕ → ℕ → Part
kind_span source rows count text total kind row =
    cond (eqb kind 0) (span_of source rows count text total (Text row))
    (cond (eqb kind 1) (span_of source rows count text total (String row)) empty)

-- no number refuses; the part's offset and length
unfoldable pub handed : Part → List ℕ → Checked
handed p out = record { number = 0; out = put_words out (0 ∷ 0 ∷ p.offset ∷ p.size ∷ 0 ∷ 0 ∷ 0 ∷ 0 ∷ []) }

-- ---- compare

-- 1 where the trees are equal
abbrev pub equal_in : comparisons.Answer → ℕ
equal_in (Ok None) = 1
equal_in (Ok (Some pair)) = 0
equal_in (Err error) = 0

-- the two rows
abbrev pub first_in : comparisons.Answer → ℕ
first_in (Ok None) = 0
first_in (Ok (Some pair)) = pair.first
first_in (Err error) = 0

abbrev pub second_in : comparisons.Answer → ℕ
second_in (Ok None) = 0
second_in (Ok (Some pair)) = pair.second
second_in (Err error) = 0

-- the eight words that compare reports, in the order of `out`
unfoldable pub pair_words : comparisons.Answer → List ℕ
pair_words c =
    comparisons.number c ∷ comparisons.place c ∷ equal_in c ∷ first_in c ∷ second_in c ∷ 0 ∷ 0 ∷ 0 ∷ []

unfoldable pub compared : comparisons.Answer → List ℕ → Checked
compared c out = record { number = comparisons.number c; out = put_words out (pair_words c) }
