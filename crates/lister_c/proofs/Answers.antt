-- What a call returns and leaves in its areas, from what the calls inside it ensure.
-- Assumes nothing.
use mathlib.Core.Path.{◌≡◌, refl, ap, ◌∙◌}
use mathlib.Core.List.{List, [], ◌∷◌}
use Prim.Native.Nat.{ℕ}
use Rattle.std.specs.Prelude.{Result, Ok, Err}
use Rattle.pool_check.specs.Check as check
use Rattle.layout.specs.Call as call
use Rattle.pool_check.specs.declared.PoolError.{PoolError}
use Rattle.comparison.specs.Call as comparisons
use Rattle.layout.specs.declared.Counts.{Counts}
use Rattle.layout.specs.declared.LayoutError.{LayoutError}
use Rattle.layout.specs.Call.{Outcome}
use Rattle.layout_pending.specs.declared.PendingError.{PendingError}
use Rattle.layout_pending.specs.Call as pendings
use Rattle.lister_c.specs.declared.reports.Report.{Report}
use Rattle.lister.specs.Answers as numbers
use Rattle.lister.specs.declared.Part.{Part}
use Rattle.lister.specs.Prints as prints
use Rattle.lister_c.specs.Reports.{none, refusal, success, Checked, LaidOut, LaidOutPending, Printed, of_verdict, of_laid, of_laid_pending, of_answer, put, put_words, checked, laid, laid_pending, printed, handed, pair_words, compared}

-- the number of a report is that of the answer
laid_number : (v : Result Counts LayoutError) → (of_laid v).number ≡ call.number v
unfolding of_laid
laid_number (Ok counts) = refl
laid_number (Err error) = refl

pending_number : (v : Result Counts PendingError) → (of_laid_pending v).number ≡ pendings.number v
unfolding of_laid_pending
pending_number (Ok counts) = refl
pending_number (Err error) = refl

print_number : (v : numbers.Answer) → (of_answer v).number ≡ numbers.number v
unfolding of_answer numbers.number
print_number (Ok counts) = refl
print_number (Err error) = refl

-- what check reports
pub accepted_report : (v : Result Unit PoolError) (r : Report) (k : Counts) → Ok tt ≡ v → r ≡ success k → k ≡ none → r ≡ of_verdict v
unfolding of_verdict check.number check.place
accepted_report v r k e s z = rw (← e, s, z)

pub refused_report : (v : Result Unit PoolError) (r : Report) (error : PoolError) → Err error ≡ v
    → r ≡ refusal (check.number (Err error)) (check.place (Err error)) → r ≡ of_verdict v
unfolding of_verdict
refused_report v r error e s = s ∙ ap of_verdict e

abbrev pub answer : ℕ → List ℕ → Checked
answer number out = record { number = number; out = out }

pub check_answer :
    (v : Result Unit PoolError) {r : Report} {last : List ℕ} (out : List ℕ)
    → r ≡ of_verdict v
    → last ≡ put out r
    → answer r.number last ≡ checked v out
unfolding checked of_verdict
check_answer v {r} out report filled = ap (answer r.number) filled ∙ ap (λ (x : Report). answer x.number (put out x)) report

abbrev pub outcome_of : Result Counts LayoutError → List ℕ → Outcome
outcome_of v listing = record { answer = v; listing = listing }

abbrev pub answers : List ℕ → ℕ → List ℕ → LaidOut
answers listing number out = record { number = number; listing = listing; out = out }

pub layout_answer :
    {v : Result Counts LayoutError} {listing : List ℕ} {o : Outcome} {n : ℕ} {last : List ℕ} (out : List ℕ)
    → outcome_of v listing ≡ o
    → n ≡ (of_laid v).number
    → last ≡ put out (of_laid v)
    → answers listing n last ≡ laid o out
unfolding laid of_laid
layout_answer {v} {listing} {o} {n} out outcome number filled =
    ap (answers listing n) filled
    ∙ ap (λ (k : ℕ). answers listing k (put out (of_laid v))) number
    ∙ ap (λ (k : ℕ). answers listing k (put out (of_laid v))) (laid_number v)
    ∙ ap (λ (x : Outcome). laid x out) outcome

abbrev pub pending_outcome : Result Counts PendingError → List ℕ → List ℕ → pendings.Outcome
pending_outcome v listing pending = record { answer = v; listing = listing; pending = pending }

abbrev pub pending_answers : List ℕ → List ℕ → ℕ → List ℕ → LaidOutPending
pending_answers listing pending number out = record { number = number; listing = listing; pending = pending; out = out }

pub layout_pending_answer :
    {v : Result Counts PendingError} {listing pending : List ℕ} {o : pendings.Outcome} {n : ℕ} {last : List ℕ} (out : List ℕ)
    → pending_outcome v listing pending ≡ o
    → n ≡ (of_laid_pending v).number
    → last ≡ put out (of_laid_pending v)
    → pending_answers listing pending n last ≡ laid_pending o out
unfolding laid_pending of_laid_pending
layout_pending_answer {v} {listing} {pending} {o} {n} out outcome number filled =
    ap (pending_answers listing pending n) filled
    ∙ ap (λ (k : ℕ). pending_answers listing pending k (put out (of_laid_pending v))) number
    ∙ ap (λ (k : ℕ). pending_answers listing pending k (put out (of_laid_pending v))) (pending_number v)
    ∙ ap (λ (x : pendings.Outcome). laid_pending x out) outcome

abbrev pub print_outcome : numbers.Answer → prints.Areas → prints.Outcome
print_outcome v areas = record { answer = v; areas = areas }

abbrev pub print_answers : prints.Areas → ℕ → List ℕ → Printed
print_answers areas number out = record { number = number; areas = areas; out = out }

pub print_answer :
    {v : numbers.Answer} {areas : prints.Areas} {o : prints.Outcome} {n : ℕ} {last : List ℕ} (out : List ℕ)
    → print_outcome v areas ≡ o
    → n ≡ (of_answer v).number
    → last ≡ put out (of_answer v)
    → print_answers areas n last ≡ printed o out
unfolding printed of_answer
print_answer {v} {areas} {o} {n} out outcome number filled =
    ap (print_answers areas n) filled
    ∙ ap (λ (k : ℕ). print_answers areas k (put out (of_answer v))) number
    ∙ ap (λ (k : ℕ). print_answers areas k (put out (of_answer v))) (print_number v)
    ∙ ap (λ (x : prints.Outcome). printed x out) outcome

pub hand_out_answer :
    {p q : Part} {last : List ℕ} (out : List ℕ)
    → p ≡ q
    → last ≡ put_words out (0 ∷ 0 ∷ p.offset ∷ p.size ∷ 0 ∷ 0 ∷ 0 ∷ 0 ∷ [])
    → answer 0 last ≡ handed q out
unfolding handed
hand_out_answer {p} {q} out part filled = ap (answer 0) filled ∙ ap (λ (x : Part). handed x out) part

pub compare_answer :
    {v w : comparisons.Answer} {n : ℕ} {last : List ℕ} (out : List ℕ)
    → v ≡ w
    → n ≡ comparisons.number v
    → last ≡ put_words out (pair_words v)
    → answer n last ≡ compared w out
unfolding compared
compare_answer {v} {w} {n} out comparison number filled =
    ap (answer n) filled
    ∙ (ap (λ (k : ℕ). answer k (put_words out (pair_words v))) number ∙ ap (λ (x : comparisons.Answer). compared x out) comparison)
