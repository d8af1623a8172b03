-- What is tested before a print begins.
use Prim.Native.Nat.{ℕ}
use mathlib.Core.Bool.{true, false}
use mathlib.Core.Path.{◌≡◌}
use lib.Dec.{leb}
use Rattle.std.specs.Prelude.{Ok, Err}
use Rattle.basics.proofs.Booleans.{and_both}
use borrow.Author.Tests.{ltb-true, leb-true}
use Rattle.pool.specs.Tables.{Pool}
use Rattle.pool_check.specs.declared.PoolError.{PoolError}
use Rattle.pool_check.specs.Stages.{Limited}
use Rattle.binders.specs.Options.{options}
use Rattle.declarations.specs.declared.listing.Root.{Root}
use Rattle.declarations.specs.Roots.{row_of, roots_in, root_doc}
use Rattle.lister.specs.declared.error.PrintError.TheVariants as errors
use Rattle.lister.specs.Answers.{Answer, of_pool}
use Rattle.lister.specs.Source.{Source, pool_of, judged}
use Rattle.lister.specs.Prints.{Areas, Outcome, has_root, sizes_ok, print_doc, print_with, print, checked, untouched}
use Rattle.lister.specs.Stages.{Begins}

-- an answer, and the areas as they were
abbrev pub kept : Answer → Areas → Outcome
kept answer areas = record { answer = answer; areas = areas }

module _ (source : Source) (root : Root) (indent width : ℕ) (areas : Areas) where
  -- 1 to 4 and 31
  pub pool_refused : (e : PoolError) → judged source ≡ Err e → kept (Err (of_pool e)) areas ≡ print source root indent width areas
  unfolding print_with checked untouched
  pool_refused e j = rw j

  module _ (j : judged source ≡ Ok tt) where
    -- 5
    pub root_missing : has_root root (pool_of source) ≡ false → kept (Err errors.Root) areas ≡ print source root indent width areas
    unfolding print_with checked untouched
    root_missing h = rw (j, h)

    module _ (h : has_root root (pool_of source) ≡ true) where
      -- 6
      pub size_refused : sizes_ok indent width ≡ false → kept (Err errors.Size) areas ≡ print source root indent width areas
      unfolding print_with checked untouched
      size_refused s = rw (j, h, s)

      pub print_begins : sizes_ok indent width ≡ true
          → print_doc (root_doc root (options indent (pool_of source)) (pool_of source)) width areas ≡ print source root indent width areas
      unfolding print_with checked
      print_begins s = rw (j, h, s)

-- a print that begins has all that it asks
pub begins : (source : Source) (p : Pool) (root : Root) (indent width : ℕ) → p ≡ pool_of source → Limited source.bytes source.words
    → has_root root p ≡ true → sizes_ok indent width ≡ true → Begins p root indent width
begins source p root indent width e limits h s =
    let sizes = and_both (leb indent 64) (leb width 65535) s in
    record {
      few = rw e limits.names;
      few_strings = rw e limits.strings;
      few_notation = rw e limits.notation;
      root_there = ltb-true (row_of root) (roots_in root p) h;
      indent_small = leb-true indent 64 sizes.0;
      width_small = leb-true width 65535 sizes.1;
    }
