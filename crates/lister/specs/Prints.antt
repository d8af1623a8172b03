-- 01, From the input, From the lent areas: print expression and print declaration, as functions of all that is given and lent.
use Rattle.std.specs.Prelude.{ℕ, ◌-◌, Bool, ◌&&◌, cond, List, ◌++◌, Result, Ok, Err, ltb, leb, length, replicate}
use Rattle.document.specs.Doc.{Doc, text_bytes}
use Rattle.document.specs.Stored.{stored}
use Rattle.document.specs.Walk.{Marked, unmarked, Progress, going, stopped, walk}
use Rattle.layout.specs.Call as layout
use Rattle.pool_check.specs.declared.PoolError.{PoolError}
use Rattle.pool.specs.Tables.{Pool}
use Rattle.pool.specs.Rules.{last_projection}
use Rattle.binders.specs.Options.{options}
use Rattle.declarations.specs.declared.listing.Root.{Root}
use Rattle.declarations.specs.declared.listing.Root.TheVariants.{Expr, Declar}
use Rattle.declarations.specs.Roots.{row_of, roots_in, root_doc}
use Rattle.lister.specs.Answers.{Answer, of_pool, stop_answer, refusal, of_laid}
use Rattle.lister.specs.Source.{Source, pool_of, judged_with}

-- "the lent areas are those a call may write"
pub record Areas : Type 0 where
  pub rows : List ℕ
  pub text : List ℕ
  pub listing : List ℕ

-- an answer, and the areas afterwards
pub record Outcome : Type 0 where
  pub answer : Answer
  pub areas : Areas

-- "1 to 6 and 9 change no area."; nor does 31, which check finds too
unfoldable pub untouched : Answer → Areas → Outcome
untouched a areas = record { answer = a; areas = areas }

-- "7, 8, 20, 21 leave both document areas zero"; "other refusals write none" in the listing area
unfoldable pub document_cleared : Answer → Areas → Outcome
document_cleared a areas =
    record {
      answer = a;
      areas =
          record {
            rows = replicate (length areas.rows) 0;
            text = replicate (length areas.text) 0;
            listing = areas.listing;
          };
    }

-- an area that was cleared, with a list at its start
unfoldable pub filled : List ℕ → List ℕ → List ℕ
filled area l = l ++ replicate (length area - length l) 0

-- "22 leaves the document standing"; what is reported and what is written in the listing area is what layout says of the document
unfoldable pub document_listed : ℕ → ℕ → ℕ → Doc → Areas → Outcome
document_listed rows bytes width d areas =
    let o : layout.Outcome = layout.listed rows bytes width d areas.listing in
    record {
      answer = of_laid o.answer;
      areas =
          record {
            rows = filled areas.rows (stored 0 d);
            text = filled areas.text (text_bytes d);
            listing = o.listing;
          };
    }

-- "From 7 on the walk goes in document order ..; the first one met is reported"; layout follows a walk that reached its end
unfoldable pub after_walk : Progress → Doc → ℕ → Areas → Outcome
after_walk (stopped n at) d width areas = document_cleared (stop_answer n at) areas
after_walk (going rows bytes) d width areas = document_listed rows bytes width d areas

unfoldable pub print_doc : Marked → ℕ → Areas → Outcome
print_doc m width areas = after_walk (walk (length areas.rows) (length areas.text) m) (unmarked m) width areas

-- "6: indent over 64 or width over 65,535."
abbrev pub sizes_ok : ℕ → ℕ → Bool
sizes_ok indent width = leb indent 64 && leb width 65535

-- "5: no such root": the contrary
abbrev pub has_root : Root → Pool → Bool
has_root root p = ltb (row_of root) (roots_in root p)

-- "Check order as listed": 1 to 4, then 31, then 5, then 6, then what the print itself meets
unfoldable pub checked : Result Unit PoolError → Bool → Bool → Outcome → Areas → Outcome
checked (Ok _) present sizes print areas =
    cond present (cond sizes print (untouched (refusal 6 0) areas)) (untouched (refusal 5 0) areas)
checked (Err error) present sizes print areas = untouched (Err (of_pool error)) areas

-- the print of a root; with a greatest index of a projection
unfoldable pub print_with : ℕ → Source → Root → ℕ → ℕ → Areas → Outcome
print_with last source root indent width areas =
    let p : Pool = pool_of source in
    let printed : Outcome = print_doc (root_doc root (options indent p) p) width areas in
    checked (judged_with last source) (has_root root p) (sizes_ok indent width) printed areas

abbrev pub print : Source → Root → ℕ → ℕ → Areas → Outcome
print = print_with last_projection

-- of an expression, and of a declaration
abbrev pub print_expr : Source → ℕ → ℕ → ℕ → Areas → Outcome
print_expr source row = print source (Expr row)

abbrev pub print_declar : Source → ℕ → ℕ → ℕ → Areas → Outcome
print_declar source row = print source (Declar row)
