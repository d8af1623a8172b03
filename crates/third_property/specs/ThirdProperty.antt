-- The third property (demand 3), clause by clause and in its order, over runs of print expression and print declaration; with document 02, P5
-- and P6.
use Rattle.std.specs.Prelude.{ℕ, ◌<◌, ◌≤◌, true, false, List, ◌≡◌, length, take, replicate, Ok, Err}
use Rattle.document.specs.Doc.{Doc, row_count, text_bytes}
use Rattle.document.specs.Stored.{stored}
use Rattle.document.specs.Walk.{Marked, unmarked, Progress, going, stopped, walk}
use Rattle.layout.specs.Layout.{Piece, pieces}
use Rattle.layout.specs.Listing.{bytes_of}
use Rattle.layout.specs.Groups.{group_count}
use Rattle.layout.specs.Paint.{paint}
use Rattle.layout.specs.Call.{counts_of, doc_of}
use Rattle.third_property.specs.Claims.{restored, in_order, rows_in, joined, Within}
use Rattle.third_property.specs.Places.{Met, met, pieces_of, places_in, failed, break_places, groups_outside}
use Rattle.layout.specs.declared.Counts.{Counts}
use Rattle.pool.specs.Tables.{Pool, E, D}
use Rattle.pool.specs.Notation.{operator_of}
use Rattle.pool.specs.Tree.{Name, forget, forgetᵈ}
use Rattle.pool.specs.Unfold.{expr_at, declar_at}
use Rattle.binders.specs.Options.{options}
use Rattle.pretty_printer.specs.Exprs.{expr_doc}
use Rattle.declarations.specs.Declars.{declar_doc}
use Rattle.lister.specs.declared.error.PrintError.TheVariants.{Size, Listing}
use Rattle.lister.specs.Answers.{Answer, number, place, stop_answer}
use Rattle.lister.specs.Source.{Source, pool_of, judged}
use Rattle.lister.specs.Prints.{Areas, Outcome, filled, sizes_ok, print_expr, print_declar}

-- ---- runs

-- print expression, print declaration
pub data Print : Type 0 where
  expression : Print
  declaration : Print

-- what a call of each leaves: the right side of its contract
unfoldable pub call : Print → Source → ℕ → ℕ → ℕ → Areas → Outcome
call expression = print_expr
call declaration = print_declar

-- how many roots there are for it
abbrev pub roots_in : Print → Source → ℕ
roots_in expression source = E source.words
roots_in declaration source = D source.words

-- the document that 01 defines for a root, with its marks
unfoldable pub root_doc : Print → ℕ → Pool → ℕ → Marked
root_doc expression indent p root = expr_doc (options indent p) (expr_at p root)
root_doc declaration indent p root = declar_doc (options indent p) (declar_at p root)

-- "roots in them that unfold to the same tree": a tree in 01's sense has no places
unfoldable pub SameTree : Print → Pool → ℕ → Pool → ℕ → Type 0
SameTree expression p r q s = forget (expr_at p r) ≡ forget (expr_at q s)
SameTree declaration p r q s = forgetᵈ (declar_at p r) ≡ forgetᵈ (declar_at q s)

-- "a run is one call of print expression or print declaration, listing included": what the call was given and lent, its answer, and the
-- areas it left
pub record Run (k : Print) : Type 0 where
  pub source : Source
  pub root : ℕ
  pub indent : ℕ
  pub width : ℕ
  pub lent : Areas
  pub answer : Answer
  pub left : Areas

-- a call returned it: what `lister::print` ensures of a root
abbrev pub Returned : {k : Print} → Run k → Type 0
Returned {k} r =
    record { answer = r.answer; areas = r.left } ≡ call k r.source r.root r.indent r.width r.lent

-- the run that a call is
abbrev pub run_of : (k : Print) (source : Source) (root indent width : ℕ) → Areas → Run k
run_of k source root indent width areas =
    record {
      source = source;
      root = root;
      indent = indent;
      width = width;
      lent = areas;
      answer = (call k source root indent width areas).answer;
      left = (call k source root indent width areas).areas;
    }

-- "An accepted pool is one that check refuses under no number", and the root is in it
pub record Rooted {k : Print} (r : Run k) : Type 0 where
  pub accepted : judged r.source ≡ Ok tt
  pub root_there : r.root < roots_in k r.source

-- "it succeeds when no number refuses it": its counts
pub record Succeeded {k : Print} (r : Run k) : Type 0 where
  pub counts : Counts
  pub answered : r.answer ≡ Ok counts

-- the listing and the document that a run which succeeds leaves in the areas
abbrev pub listing : {k : Print} (r : Run k) → Succeeded r → List ℕ
listing r s = take s.counts.length r.left.listing

abbrev pub document : {k : Print} (r : Run k) → Succeeded r → Doc
document r s = doc_of r.left.rows s.counts.rows r.left.text

-- "Take any two accepted pools, roots in them that unfold to the same tree, one indent, and lent areas of equal lengths."; "The third property,
-- all of it, now also presumes that both pools give the same operators to the same name trees" (document 02, P5)
pub record Premises {k : Print} (a b : Run k) : Type 0 where
  pub first : Rooted a
  pub second : Rooted b
  pub tree : SameTree k (pool_of a.source) a.root (pool_of b.source) b.root
  pub operators : (name : Name) → operator_of (pool_of a.source) name ≡ operator_of (pool_of b.source) name
  pub indent : a.indent ≡ b.indent
  pub rows : length a.lent.rows ≡ length b.lent.rows
  pub text : length a.lent.text ≡ length b.lent.text
  pub listing : length a.lent.listing ≡ length b.lent.listing

-- ---- the clauses

-- "the two runs at that width end alike: with the same refusal number, and the same place unless that number is 7, or with the same
-- listing and the same counts, all but the fit tests"; and these too: "two runs that print at one width, under the third property's premises,
-- shall report it alike" (document 02, P6)
pub data EndAlike {k : Print} (a b : Run k) : Type 0 where
  refused : 1 ≤ number a.answer → number a.answer ≡ number b.answer
      → ((number a.answer ≡ 7 → ⊥) → place a.answer ≡ place b.answer) → EndAlike a b
  succeeded : (s : Succeeded a) (t : Succeeded b) → listing a s ≡ listing b t → s.counts ≡ t.counts → EndAlike a b

-- the document that 01 defines for a run's root
abbrev pub defined : {k : Print} → Run k → Marked
defined {k} r = root_doc k r.indent (pool_of r.source) r.root

-- the walk of that document in areas of those lengths
abbrev pub walked : {k : Print} → Run k → Progress
walked r = walk (length r.lent.rows) (length r.lent.text) (defined r)

-- the pieces of that document
abbrev pub laid : {k : Print} → Run k → List Piece
laid r = pieces r.width (unmarked (defined r))

-- what is reported of it
abbrev pub reported : {k : Print} → Run k → Counts
reported r = counts_of (row_count (unmarked (defined r))) (length (text_bytes (unmarked (defined r)))) r.width (unmarked (defined r))

-- that document stands in the areas, with zeros after it, and in the listing area as much of its listing as fits
pub record Stands {k : Print} (r : Run k) : Type 0 where
  pub rows : r.left.rows ≡ filled r.lent.rows (stored 0 (unmarked (defined r)))
  pub text : r.left.text ≡ filled r.lent.text (text_bytes (unmarked (defined r)))
  pub listing : r.left.listing ≡ paint r.lent.listing 0 (bytes_of (laid r))

-- "Each refusal, document and listing, and each count but the fit tests, is the one 01 defines for its run's root"; the fit tests are those that
-- document 02, P6, defines
pub data AsDefined {k : Print} (r : Run k) : Type 0 where
  -- 6
  sizes : sizes_ok r.indent r.width ≡ false → r.answer ≡ Err Size → r.left ≡ r.lent → AsDefined r
  -- 7, 8, 20, 21
  stops : (n at : ℕ) → sizes_ok r.indent r.width ≡ true → walked r ≡ stopped n at → r.answer ≡ stop_answer n at
      → r.left.rows ≡ replicate (length r.lent.rows) 0 → r.left.text ≡ replicate (length r.lent.text) 0
      → r.left.listing ≡ r.lent.listing → AsDefined r
  -- 22
  short : (rows text : ℕ) → sizes_ok r.indent r.width ≡ true → walked r ≡ going rows text
      → length r.lent.listing < length (bytes_of (laid r)) → r.answer ≡ Err Listing → Stands r → AsDefined r
  -- none
  lists : (s : Succeeded r) → sizes_ok r.indent r.width ≡ true → walked r ≡ going s.counts.rows s.counts.text
      → length (bytes_of (laid r)) ≤ length r.lent.listing → Stands r → listing r s ≡ bytes_of (laid r)
      → document r s ≡ unmarked (defined r) → s.counts ≡ reported r → AsDefined r

-- "when both runs succeed they leave the same document, row for row and byte for byte, so they share all texts and break places in order"
pub record SameDocument {k : Print} (a b : Run k) (s : Succeeded a) (t : Succeeded b) : Type 0 where
  pub row_count : s.counts.rows ≡ t.counts.rows
  pub byte_count : s.counts.text ≡ t.counts.text
  pub rows : a.left.rows ≡ b.left.rows
  pub bytes : a.left.text ≡ b.left.text
  pub shared : document a s ≡ document b t

-- "Put each broken place's newline and indentation back to its blank, and both listings are that document's texts and blanks in order."; "each
-- break's own blank, which may be empty" (document 02, P5)
pub record PutBack {k : Print} (r : Run k) (s : Succeeded r) (d : Doc) : Type 0 where
  pub listing_is : listing r s ≡ bytes_of (pieces r.width d)
  pub restores : restored (pieces r.width d) ≡ in_order d

-- what layout meets in the document that a run which succeeds leaves, row by row
abbrev pub met_in : {k : Print} (r : Run k) → Succeeded r → List Met
met_in r s = met r.width (document r s)

-- "a break place starts a row exactly when every group around it failed 01's fit test": of the rows that the run leaves
pub record StartsRows {k : Print} (r : Run k) (s : Succeeded r) : Type 0 where
  pub pieces_are : pieces_of (met_in r s) ≡ pieces r.width (document r s)
  pub listing_is : listing r s ≡ bytes_of (pieces_of (met_in r s))
  pub exactly : places_in (met_in r s) ≡ break_places (failed (met_in r s)) r.left.rows s.counts.rows

-- "every row holding an unbroken break place is at most the width in bytes"
pub record HoldsWidth {k : Print} (r : Run k) (s : Succeeded r) : Type 0 where
  pub listing_is : listing r s ≡ joined (rows_in (pieces_of (met_in r s)))
  pub within : Within r.width (rows_in (pieces_of (met_in r s)))

-- "the number of groups that are not inside a flat group" (document 02, P6), of the rows that the run leaves; "at most all groups"
pub record CountsTests {k : Print} (r : Run k) (s : Succeeded r) : Type 0 where
  pub exactly : s.counts.tests ≡ groups_outside (failed (met_in r s)) r.left.rows s.counts.rows
  pub at_most : s.counts.tests ≤ group_count (document r s)

-- ---- the whole

-- what holds of one run
pub record OneRun {k : Print} (r : Run k) : Type 0 where
  -- "Each refusal, document and listing, .. is the one 01 defines for its run's root"
  pub as_defined : Rooted r → AsDefined r
  -- "it succeeds when no number refuses it"
  pub succeeds : number r.answer ≡ 0 → Succeeded r
  -- "In every run that succeeds"
  pub starts_rows : (s : Succeeded r) → StartsRows r s
  pub holds_width : (s : Succeeded r) → HoldsWidth r s
  -- "Fit tests, exactly"
  pub counts_tests : (s : Succeeded r) → CountsTests r s

-- and of two
pub record TwoRuns {k : Print} (a b : Run k) : Type 0 where
  -- "Whatever the width, the two runs at that width end alike"
  pub end_alike : Premises a b → a.width ≡ b.width → EndAlike a b
  -- "Whatever the two widths"
  pub same_document : Premises a b → (s : Succeeded a) (t : Succeeded b) → SameDocument a b s t
  pub put_back : Premises a b → (s : Succeeded a) (t : Succeeded b) → PutBack a s (document a s) × PutBack b t (document a s)
  pub first : OneRun a
  pub second : OneRun b

-- of whatever calls return
pub record ThirdProperty (k : Print) : Type 0 where
  pub one : (r : Run k) → Returned r → OneRun r
  pub two : (a b : Run k) → Returned a → Returned b → TwoRuns a b
