-- When a print succeeds, and else which number refuses it and where, of whatever a call returns.
use Prim.Native.Nat.{ℕ, ◌≤◌, ◌<◌}
use native.Mathlib.Omega.{arith}
use mathlib.Core.Bool.{Bool, true, false, cond}
use mathlib.Core.Path.{◌≡◌, refl, sym, ap, ap₂, ◌∙◌, subst}
use lib.Dec.{ltb}
use lib.ListN.{length}
use borrow.Author.Tests.{lt-ltb, le-ltb, ltb-true, ltb-false}
use Rattle.document.specs.Doc.{row_count, text_bytes}
use Rattle.document.specs.Walk.{unmarked, Event, events, Progress, going, walk}
use Rattle.layout.specs.Listing.{bytes_of}
use Rattle.layout.specs.Call.{counts_of}
use Rattle.std.specs.Prelude.{Ok, Err}
use Rattle.lister.specs.declared.error.PrintError.TheVariants.{Listing}
use Rattle.lister.specs.Answers.{number, place, stop_answer}
use Rattle.lister.specs.Prints.{Outcome, sizes_ok, after_walk, document_cleared}
use Rattle.lister.proofs.NumberLaws.{names, document, row_area, text_area, refusal_reports}
use Rattle.third_property.specs.ThirdProperty.{Print, Run, Returned, Rooted, Succeeded, defined, walked, laid}
use Rattle.third_property.specs.Success.{row_events, byte_events, Fits, Refused, too_many_names, byte_past_limit, text_area_full, row_past_limit}
use Rattle.third_property.specs.Success.{row_area_full, FirstRefused, DocumentFits, Reports, Ends, success, listing_short, stop, Decided}
use Rattle.third_property.proofs.SuccessLaws.{rows_are, bytes_are, all_pass, first_stops, Walked, passed, met, walked_by}
use Rattle.third_property.proofs.ThirdProperty.{walk_is, answer_is}

-- an event's refusal is answered under its number, at its place
stop_reports : {R T rows bytes : ℕ} {e : Event} {n at : ℕ} → Refused R T rows bytes e n at → (number (stop_answer n at) ≡ n) × (place (stop_answer n at) ≡ at)
stop_reports (too_many_names p c h) = refusal_reports (names p)
stop_reports (byte_past_limit h) = refusal_reports (document _)
stop_reports (text_area_full h k) = refusal_reports (text_area _)
stop_reports (row_past_limit h) = refusal_reports (document _)
stop_reports (row_area_full h k) = refusal_reports (row_area _)

-- and no refusal has the number 0
refused_some : {R T rows bytes : ℕ} {e : Event} {n at : ℕ} → Refused R T rows bytes e n at → 1 ≤ n
refused_some (too_many_names p c h) = omega arith
refused_some (byte_past_limit h) = omega arith
refused_some (text_area_full h k) = omega arith
refused_some (row_past_limit h) = omega arith
refused_some (row_area_full h k) = omega arith

module _ {k : Print} (r : Run k) (returned : Returned r) (rooted : Rooted r) (ok : sizes_ok r.indent r.width ≡ true) where
  abbrev R : ℕ
  R = length r.lent.rows

  abbrev T : ℕ
  T = length r.lent.text

  abbrev rows : ℕ
  rows = row_count (unmarked (defined r))

  abbrev bytes : ℕ
  bytes = length (text_bytes (unmarked (defined r)))

  abbrev size : ℕ
  size = length (bytes_of (laid r))

  -- the document fits: the walk goes through, and the listing decides
  goes : DocumentFits r → walked r ≡ going rows bytes
  unfolding walk
  goes d =
      let e = rows_are (defined r) in
      let f = bytes_are (defined r) in
      let fits : Fits R T (row_events (events (defined r))) (byte_events (events (defined r))) =
      subst (λ (x : ℕ). Fits R T x (byte_events (events (defined r)))) (sym e) (subst (λ (x : ℕ). Fits R T rows x) (sym f) d.fits) in
      all_pass R T (events (defined r)) fits d.names ∙ ap₂ going e f

  answered : DocumentFits r → r.answer ≡ cond (ltb (length r.lent.listing) size) (Err Listing) (Ok (counts_of rows bytes r.width (unmarked (defined r))))
  answered d = answer_is r returned rooted ok rows bytes (goes d)

  done : DocumentFits r → size ≤ length r.lent.listing → Succeeded r
  done d h =
      record {
        counts = counts_of rows bytes r.width (unmarked (defined r));
        answered = answered d ∙ ap (λ (b : Bool). cond b (Err Listing) (Ok (counts_of rows bytes r.width (unmarked (defined r))))) (le-ltb (length r.lent.listing) size h);
      }

  too_short : DocumentFits r → length r.lent.listing < size → Reports r 22 0
  unfolding number place
  too_short d h =
      let a : r.answer ≡ Err Listing =
      answered d ∙ ap (λ (b : Bool). cond b (Err Listing) (Ok (counts_of rows bytes r.width (unmarked (defined r))))) (lt-ltb (length r.lent.listing) size h) in
      (ap number a, ap place a)

  -- an event is refused: the walk stops there
  stopped_at_lem : (n at : ℕ) → FirstRefused R T (events (defined r)) n at → Reports r n at
  unfolding walk after_walk document_cleared
  stopped_at_lem n at f =
      let a : r.answer ≡ stop_answer n at =
      ap (λ (o : Outcome). o.answer)
      (walk_is r returned rooted ok
      ∙ ap (λ (p : Progress). after_walk p (unmarked (defined r)) r.width r.lent) (first_stops R T (events (defined r)) n at f)) in
      let s = stop_reports f.refused in
      (ap number a ∙ s.0, ap place a ∙ s.1)

  -- one of the three is the case
  course_of : Walked R T (events (defined r)) → Ends r
  course_of (passed f n) = by (ltb (length r.lent.listing) size) refl
    where
      d : DocumentFits r
      d =
          record {
            fits =
                subst (λ (x : ℕ). Fits R T x bytes) (rows_are (defined r))
                (subst (λ (x : ℕ). Fits R T (row_events (events (defined r))) x) (bytes_are (defined r)) f);
            names = n;
          }

      by : (b : Bool) → ltb (length r.lent.listing) size ≡ b → Ends r
      by true e = let h = ltb-true (length r.lent.listing) size e in listing_short d h (too_short d h)
      by false e = let h = ltb-false (length r.lent.listing) size e in success d h (done d h)
  course_of (met n at f) = stop n at f (stopped_at_lem n at f)

  -- a success is none of the refusals
  not_refused : Ends r → Succeeded r → DocumentFits r × (size ≤ length r.lent.listing)
  unfolding number
  not_refused (success d h s) t = (d, h)
  not_refused (listing_short d h a) t = absurd (let e : number r.answer ≡ 0 = ap number t.answered in omega (arith, a.0))
  not_refused (stop n at f a) t =
      absurd (let e : number r.answer ≡ 0 = ap number t.answered in let g = refused_some f.refused in omega (arith, a.0))

  pub decided : Decided r
  decided =
      let ends : Ends r = course_of (walked_by R T (events (defined r))) in
      record {
        ends = ends;
        fits = λ s. not_refused ends s;
        succeeds = λ d h. done d h;
        short = λ d h. too_short d h;
        stops = λ n at f. stopped_at_lem n at f;
      }
