-- What `layout_pending` answers, from what `check_given` and `layout_accepted` give; and that the two layouts agree.
use Prim.Native.Nat.{ℕ, ◌*◌, ◌≤◌, ◌<◌}
use mathlib.Core.Bool.{Bool, true, false, cond}
use mathlib.Core.List.{List}
use Rattle.std.proofs.Common.{Result, Ok, Err}
use mathlib.Core.Path.{◌≡◌, refl, sym, ap, ap₂, ◌∙◌}
use lib.ListN.{length, replicate}
use lib.Dec.{ltb}
use borrow.Author.Tests.{lt-ltb, le-ltb}
use Rattle.document.specs.Doc.{Doc}
use Rattle.document.specs.Rows.{Accepted, fault, counts_ok}
use Rattle.document.proofs.Faults.{accepted_counts, accepted_sound}
use Rattle.layout.specs.declared.Counts.{Counts}
use Rattle.layout.specs.declared.LayoutError.{LayoutError}
use Rattle.layout.specs.declared.LayoutError.TheVariants as errors
use Rattle.layout.specs.Layout.{pieces}
use Rattle.layout.specs.Listing.{bytes_of}
use Rattle.layout.specs.Call as first
use Rattle.layout.specs.Call.{untouched, listed, doc_of, outcome, counts_of}
use Rattle.layout.specs.Contract.{admission}
use Rattle.layout.proofs.Answers.{accepted_given, answer_listed}
use Rattle.layout_pending.specs.Contract.{Lends}
use Rattle.layout_pending.specs.declared.PendingError.{PendingError}
use Rattle.layout_pending.specs.declared.PendingError.TheVariants.{PendingArea}
use Rattle.layout_pending.specs.Call.{Outcome, from_first, before30, followed, with30, outcome_pending}
use Rattle.layout_pending.specs.Agreement.{Agree}

-- what comes before a row is laid out is 9 or 6, which come before 30
pub early_error : (rows : List ℕ) (count : ℕ) (texts : List ℕ) (total width : ℕ) {e : LayoutError} → Err e ≡ admission rows count texts total width → before30 (Err e) ≡ true
unfolding admission
early_error rows count texts total width {e} q =
    by (counts_ok (length rows) count (length texts) total) (ltb (fault rows total count) count) (ltb 65535 width) q
  where
    early : (x : LayoutError) → before30 (Err x) ≡ true → e ≡ x → before30 (Err e) ≡ true
    early x h p = ap (λ (y : LayoutError). before30 (Err y)) p ∙ h

    by : (a b c : Bool) → Err e ≡ cond a (cond b (Err (errors.Document (fault rows total count))) (cond c (Err errors.Width) (Ok (tt {0})))) (Err (errors.Document 0))
        → before30 (Err e) ≡ true
    by false b c p = early (errors.Document 0) refl (cc)
    by true true c p = early (errors.Document (fault rows total count)) refl (cc)
    by true false true p = early errors.Width refl (cc)
    by true false false p = cc

-- what is listed is a success or 22, which come after 30
listed_late : (rows text width : ℕ) (d : Doc) (area : List ℕ) → before30 (listed rows text width d area).answer ≡ false
unfolding listed
listed_late rows text width d area = by (ltb (length area) (length (bytes_of (pieces width d))))
  where
    by : (b : Bool) → before30 (cond b (Err errors.Listing) (Ok (counts_of rows text width d))) ≡ false
    by true = refl
    by false = refl

-- the areas are lent as `lay_out_pending` asks
pub accepted_lends : {rows : List ℕ} {count : ℕ} {texts : List ℕ} {total width : ℕ} {pending : List ℕ}
    → Accepted rows count texts total → width ≤ 65535 → count * 3 ≤ length pending → Lends rows count texts width pending
accepted_lends {rows} {count} {texts} {total} {width} accepted narrow room =
    record {
      total = total;
      given = accepted_given rows count texts total width accepted narrow;
      some = (accepted_counts accepted).pos;
      whole = (accepted_sound accepted).last;
      room = room;
    }

module _ (count : ℕ) (o : first.Outcome) (pending area : List ℕ) where
  early : before30 o.answer ≡ true → with30 count o pending area ≡ followed o pending
  unfolding with30
  early e = rw e

  module _ (e : before30 o.answer ≡ false) where
    short : length pending < count * 3 → with30 count o pending area ≡ record { answer = Err PendingArea; listing = area; pending = pending }
    unfolding with30
    short h = rw (e, lt-ltb (length pending) (count * 3) h)

    late : count * 3 ≤ length pending → with30 count o pending area ≡ followed o (replicate (length pending) 0)
    unfolding with30
    late h = rw (e, le-ltb (length pending) (count * 3) h)

module _ (rows : List ℕ) (count : ℕ) (texts : List ℕ) (total width : ℕ) (pending area : List ℕ) where
  of_first : (o : first.Outcome) → o ≡ outcome rows count texts total width area → with30 count o pending area ≡ outcome_pending rows count texts total width pending area
  unfolding outcome_pending
  of_first o e = ap (λ (x : first.Outcome). with30 count x pending area) e

  -- 9 and 6
  pub answer_first : (a : Result Counts LayoutError) → before30 a ≡ true → untouched a area ≡ outcome rows count texts total width area
      → record { answer = from_first a; listing = area; pending = pending } ≡ outcome_pending rows count texts total width pending area
  unfolding untouched
  answer_first a e h = sym (early count (untouched a area) pending area e) ∙ of_first (untouched a area) h

  module _ (accepted : Accepted rows count texts total) (narrow : width ≤ 65535) where
    abbrev whole : first.Outcome
    whole = listed count total width (doc_of rows count texts) area

    is_first : whole ≡ outcome rows count texts total width area
    is_first = answer_listed rows count texts total width accepted.counts accepted.faultless area narrow

    late_answer : before30 whole.answer ≡ false
    late_answer = listed_late count total width (doc_of rows count texts) area

    pub answer_30 : length pending < count * 3
        → record { answer = Err PendingArea; listing = area; pending = pending } ≡ outcome_pending rows count texts total width pending area
    answer_30 h = sym (short count whole pending area late_answer h) ∙ of_first whole is_first

    pub answer_listed_cleared : count * 3 ≤ length pending → (a : Result Counts LayoutError) (l p : List ℕ) → record { answer = a; listing = l } ≡ whole → p ≡ replicate (length pending) 0
        → record { answer = from_first a; listing = l; pending = p } ≡ outcome_pending rows count texts total width pending area
    answer_listed_cleared h a l p e q =
        ap₂ followed e q ∙ sym (late count whole pending area late_answer h) ∙ of_first whole is_first

  -- ---- the two layouts agree

  module _ (one : Result Counts LayoutError) (listing1 : List ℕ) (two : Result Counts PendingError) (listing2 pending2 : List ℕ)
      (h1 : record { answer = one; listing = listing1 } ≡ outcome rows count texts total width area)
      (h2 : record { answer = two; listing = listing2; pending = pending2 } ≡ outcome_pending rows count texts total width pending area) where
    abbrev o : first.Outcome
    o = record { answer = one; listing = listing1 }

    second : record { answer = two; listing = listing2; pending = pending2 } ≡ with30 count o pending area
    second = h2 ∙ sym (of_first o h1)

    follows : (p : List ℕ) → with30 count o pending area ≡ followed o p → (two ≡ from_first one) × (listing2 ≡ listing1)
    follows p e = (ap (λ (x : Outcome). x.answer) (second ∙ e), ap (λ (x : Outcome). x.listing) (second ∙ e))

    pub layouts_agree : Agree count pending area one listing1 two listing2
    layouts_agree =
        record {
          enough = λ h. by (before30 one) refl h;
          refused = λ e. follows pending (early count o pending area e);
          short = λ e h.
              let q = second ∙ short count o pending area e h in
              (ap (λ (x : Outcome). x.answer) q, ap (λ (x : Outcome). x.listing) q);
        }
      where
        by : (b : Bool) → before30 one ≡ b → count * 3 ≤ length pending → (two ≡ from_first one) × (listing2 ≡ listing1)
        by true e h = follows pending (early count o pending area e)
        by false e h = follows (replicate (length pending) 0) (late count o pending area e h)
