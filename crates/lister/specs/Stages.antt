-- The prints in the code's stages: what a print that begins has, and what follows the walk.
use Rattle.std.specs.Prelude.{ℕ, ◌<◌, ◌≤◌, List, Option, Some, None, Err, ◌≡◌}
use Rattle.document.specs.declared.written.Stop.{Stop}
use Rattle.document.specs.declared.written.Written.{Written}
use Rattle.document.specs.Rows.{Accepted}
use Rattle.layout.specs.Call as call
use Rattle.pool.specs.Tables.{Pool, S, N, T}
use Rattle.declarations.specs.declared.listing.Root.{Root}
use Rattle.declarations.specs.Roots.{row_of, roots_in}
use Rattle.lister.specs.Answers.{of_stop, of_laid}
use Rattle.lister.specs.Prints.{Areas, Outcome, document_cleared}

-- ---- before a print

-- what a print that may begin has: a pool of few strings, names and notation rows, a root in it, and allowed sizes
pub record Begins (p : Pool) (root : Root) (indent width : ℕ) : Type 0 where
  pub few : N p.names ≤ 65536
  pub few_strings : S p.names ≤ 65536
  pub few_notation : T p.words ≤ 65536
  pub root_there : row_of root < roots_in root p
  pub indent_small : indent ≤ 64
  pub width_small : width ≤ 65535

-- ---- after the walk

-- a walk that was not refused left an accepted document
abbrev pub WalkEnds : Written → ℕ → List ℕ → List ℕ → Type 0
WalkEnds s width rows text = (s.stop ≡ None → Accepted rows s.rows text s.text) × (width ≤ 65535)

-- the document that stands in the areas is laid out
unfoldable pub laid_out : Written → ℕ → Areas → Outcome
laid_out s width areas =
    let o : call.Outcome = call.listed s.rows s.text width (call.doc_of areas.rows s.rows areas.text) areas.listing in
    record {
      answer = of_laid o.answer;
      areas = record { rows = areas.rows; text = areas.text; listing = o.listing };
    }

-- what stopped a walk is the answer; else its document is laid out
unfoldable pub finished_by : Option Stop → Outcome → Areas → Outcome
finished_by None listed areas = listed
finished_by (Some stop) listed areas = document_cleared (Err (of_stop stop)) areas

abbrev pub finished : Written → ℕ → Areas → Outcome
finished s width areas = finished_by s.stop (laid_out s width areas) areas
