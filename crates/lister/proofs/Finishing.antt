-- What follows the walk makes a print's outcome of it.
use Prim.Native.Nat.{ℕ, ◌-◌, ◌*◌, ◌≤◌}
use mathlib.Core.List.{List, ◌++◌}
use mathlib.Core.Path.{◌≡◌, refl, sym, ap, ap₂, ◌∙◌, subst}
use Rattle.layout.specs.declared.Counts.{Counts}
use lib.ListN.{length, replicate}
use Rattle.document.specs.declared.written.Written.{Written}
use Rattle.document.specs.Doc.{Doc, row_count, text_bytes}
use Rattle.document.specs.Rows.{Accepted}
use Rattle.document.specs.Stored.{stored, Fine}
use Rattle.document.specs.Walk.{Marked, unmarked, Progress, going, stopped, walk}
use Rattle.document.specs.Sink.{State, rows_of, text_of, written_of, emit}
use Rattle.document.specs.Sink as sink
use Rattle.document.specs.Sink.State.{state}
use Rattle.document.proofs.ReadBack.{stored-length, stored_reads_back, stored_accepted}
use Rattle.document.proofs.Steps.{Stopped, written_at}
use Rattle.document.proofs.Emits.{Emitted, emit_of_going_walk, emit_of_stopped_walk}
use Rattle.layout.specs.declared.LayoutError.{LayoutError}
use Rattle.layout.specs.Call as call
use Rattle.std.specs.Prelude.{Option, Some, None, Result, Ok, Err}
use Rattle.document.specs.declared.written.Stop.{Stop}
use Rattle.document.specs.declared.written.Stop.TheVariants.{Names, Document, RowArea, TextArea}
use Rattle.document.specs.Stops.{number_of, place_of}
use Rattle.lister.specs.declared.error.PrintError.{PrintError}
use Rattle.lister.specs.declared.error.PrintError.TheVariants.{Listing}
use Rattle.lister.specs.Answers.{Answer, of_stop, stop_answer, of_laid}
use Rattle.lister.specs.Prints.{Areas, document_cleared, filled, document_listed, after_walk, print_doc}
use Rattle.lister.specs.Stages.{laid_out, finished_by, finished}
use Rattle.document.specs.declared.sink.Sink.{Sink}
use Rattle.document.specs.Leaves.{Leaves, state_of}
use Rattle.pool.specs.Tables.{Pool}
use Rattle.pool.specs.Unfold.{expr_at, declar_at}
use Rattle.binders.specs.Options.{options}
use Rattle.declarations.specs.declared.listing.Root.{Root}
use Rattle.declarations.specs.declared.listing.Root.TheVariants.{Expr, Declar}
use Rattle.declarations.specs.Roots.{root_doc}
use Rattle.declarations.proofs.FineLaws.{expr_fine, declar_fine}

-- the areas with what a walk left in the document areas
abbrev pub over : Areas → State → Areas
over areas st = record { rows = rows_of st; text = text_of st; listing = areas.listing }

-- the areas of a document that is stored, with zeros after it
abbrev standing : Doc → ℕ → ℕ → State
standing d R T =
    state (stored 0 d ++ replicate (R - row_count d * 7) 0) (text_bytes d ++ replicate (T - length (text_bytes d)) 0)
    (written_at (row_count d) (length (text_bytes d)))

module _ (d : Doc) (fine : Fine d) (few : row_count d ≤ 16384) (small : length (text_bytes d) ≤ 65536) (width : ℕ) (areas : Areas) where
  abbrev more_rows : List ℕ
  more_rows = replicate (length areas.rows - row_count d * 7) 0

  abbrev more_texts : List ℕ
  more_texts = replicate (length areas.text - length (text_bytes d)) 0

  abbrev there : State
  there = standing d (length areas.rows) (length areas.text)

  standing_accepted : Accepted (rows_of there) (written_of there).rows (text_of there) (written_of there).text
  standing_accepted = stored_accepted d more_rows more_texts fine few small

  -- a document that stands in the areas is laid out
  standing_listed : finished (written_of there) width (over areas there) ≡ document_listed (row_count d) (length (text_bytes d)) width d areas
  unfolding finished_by laid_out document_listed filled
  standing_listed =
      let e : call.doc_of (rows_of there) (row_count d) (text_of there) ≡ d = stored_reads_back d more_rows more_texts in
      let l : length (stored 0 d) ≡ row_count d * 7 = stored-length 0 d in
      rw (e, l)

-- what stopped a walk is the answer for its number and its place
pub stop_answers : (s : Stop) → Err (of_stop s) ≡ stop_answer (number_of s) (place_of s)
unfolding stop_answer
stop_answers (Names row) = refl
stop_answers (Document rows) = refl
stop_answers (RowArea rows) = refl
stop_answers (TextArea rows) = refl

-- A walk from cleared areas ended in the state st: an unrefused one leaves an accepted document, and finishing it is the print.
module _
    (m : Marked) (fine : Fine (unmarked m)) (width : ℕ) (areas : Areas) (st : State)
    (walked : st ≡ emit m (sink.cleared (length areas.rows) (length areas.text)))
  where
    abbrev R : ℕ
    R = length areas.rows

    abbrev T : ℕ
    T = length areas.text

    going_is : (r t : ℕ) → walk R T m ≡ going r t → Emitted R T (unmarked m) r t st
    going_is r t e = subst (λ (x : State). Emitted R T (unmarked m) r t x) (sym walked) (emit_of_going_walk R T m fine r t e)

    stopped_is : (n at : ℕ) → walk R T m ≡ stopped n at → Stopped n at st
    stopped_is n at e = subst (λ (x : State). Stopped n at x) (sym walked) (emit_of_stopped_walk R T m fine n at e)

    going_finished : (r t : ℕ) → Emitted R T (unmarked m) r t st → finished (written_of st) width (over areas st) ≡ after_walk (going r t) (unmarked m) width areas
    unfolding after_walk
    going_finished r t g =
        ap (λ (x : State). finished (written_of x) width (over areas x)) g.is
        ∙ standing_listed (unmarked m) fine g.few g.small width areas
        ∙ ap₂ (λ (x y : ℕ). document_listed x y width (unmarked m) areas) (sym g.rows) (sym g.text)

    stopped_finished : (n at : ℕ) → Stopped n at st → length (rows_of st) ≡ R → length (text_of st) ≡ T
        → finished (written_of st) width (over areas st) ≡ after_walk (stopped n at) (unmarked m) width areas
    unfolding after_walk finished_by document_cleared
    stopped_finished n at g lr lt = rw (g.stop, stop_answers g.by, g.under, g.at, lr, lt)

    pub walk_accepted : (written_of st).stop ≡ None → Accepted (rows_of st) (written_of st).rows (text_of st) (written_of st).text
    walk_accepted h = by (walk R T m) refl
      where
        by : (p : Progress) → walk R T m ≡ p → Accepted (rows_of st) (written_of st).rows (text_of st) (written_of st).text
        by (going r t) e =
            let g = going_is r t e in
            subst (λ (x : State). Accepted (rows_of x) (written_of x).rows (text_of x) (written_of x).text) (sym g.is) (standing_accepted (unmarked m) fine g.few g.small width areas)
        by (stopped n at) e =
            let g = stopped_is n at e in
            absurd (let e : ◌≡◌ {A = Option Stop} (Some g.by) None = sym g.stop ∙ h in cc)

    pub walk-finished : length (rows_of st) ≡ R → length (text_of st) ≡ T → finished (written_of st) width (over areas st) ≡ print_doc m width areas
    unfolding print_doc
    walk-finished lr lt = by (walk R T m) refl
      where
        by : (p : Progress) → walk R T m ≡ p → finished (written_of st) width (over areas st) ≡ after_walk p (unmarked m) width areas
        by (going r t) e = going_finished r t (going_is r t e)
        by (stopped n at) e = stopped_finished n at (stopped_is n at e) lr lt

-- ---- as the code does it

module _ (s : Written) (width : ℕ) (areas : Areas) where
  pub stop_finishes : (stop : Stop) → s.stop ≡ Some stop → (e : PrintError) → e ≡ of_stop stop → (rows text : List ℕ)
      → rows ≡ replicate (length areas.rows) 0 → text ≡ replicate (length areas.text) 0
      → record { answer = Err e; areas = record { rows = rows; text = text; listing = areas.listing } } ≡ finished s width areas
  unfolding finished_by document_cleared
  stop_finishes stop z e q rows text r t = rw (q, r, t, z)

  pub layout_finishes : s.stop ≡ None → (v : Answer) (listing : List ℕ) (l : Result Counts LayoutError)
      → record { answer = l; listing = listing } ≡ call.listed s.rows s.text width (call.doc_of areas.rows s.rows areas.text) areas.listing
      → v ≡ of_laid l
      → record { answer = v; areas = record { rows = areas.rows; text = areas.text; listing = listing } } ≡ finished s width areas
  unfolding finished_by laid_out
  layout_finishes z v listing l e a =
      let o : call.Outcome = call.listed s.rows s.text width (call.doc_of areas.rows s.rows areas.text) areas.listing in
      let p : l ≡ o.answer = ap (λ (x : call.Outcome). x.answer) e in
      let q : listing ≡ o.listing = ap (λ (x : call.Outcome). x.listing) e in
      rw (z, a, p, q)

-- what the code makes of a layout's answer
pub done_laid : (l : Result Counts LayoutError) (counts : Counts) → l ≡ Ok counts → Ok counts ≡ of_laid l
unfolding of_laid
done_laid l counts e = rw e

pub refused_laid : (l : Result Counts LayoutError) (error : LayoutError) → l ≡ Err error → Err Listing ≡ of_laid l
unfolding of_laid
refused_laid l error e = rw e

-- a root's document keeps 01's limits on blanks and nests
pub root_fine : (root : Root) (indent : ℕ) → indent ≤ 64 → (p : Pool) → Fine (unmarked (root_doc root (options indent p) p))
root_fine (Expr row) indent h p = expr_fine (options indent p) h (expr_at p row)
root_fine (Declar row) indent h p = declar_fine (options indent p) h (declar_at p row)

-- A sink that was new, after its walk: what it leaves in the areas.
module _
    (m : Marked) (fine : Fine (unmarked m)) (width : ℕ) (areas : Areas) (old new : Sink)
    (began : state_of old ≡ sink.cleared (length areas.rows) (length areas.text)) (walked : Leaves old new (emit m))
    {rows text : List ℕ} (r : rows ≡ new.rows.now) (t : text ≡ new.text.now)
  where
    ended : state_of new ≡ emit m (sink.cleared (length areas.rows) (length areas.text))
    ended = walked.is ∙ ap (emit m) began

    pub accepted_after : new.written.stop ≡ None → Accepted rows new.written.rows text new.written.text
    accepted_after h = rw (r, t) (walk_accepted m fine width areas (state_of new) ended h)

    pub finished_after : length rows ≡ length areas.rows → length text ≡ length areas.text →
        finished new.written width (record { rows = rows; text = text; listing = areas.listing }) ≡ print_doc m width areas
    finished_after lr lt = rw (r, t) (walk-finished m fine width areas (state_of new) ended (rw r at lr) (rw t at lt))
