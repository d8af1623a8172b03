-- The third property, of every run: from the calls' contracts alone.
use Prim.Native.Nat.{ℕ, suc, ◌-◌, ◌≤◌, ◌<◌}
use native.Mathlib.Omega.{arith}
use mathlib.Core.Bool.{Bool, true, false, ◌&&◌, cond}
use mathlib.Core.List.{List, ◌++◌}
use mathlib.Core.Path.{◌≡◌, refl, sym, ap, ap₂, ◌∙◌, subst, fun_ext}
use lib.Dec.{ltb, leb, eqb}
use lib.ListN.{length, take, replicate}
use borrow.Author.Tests.{lt-ltb, ltb-true, ltb-false, leb-true}
use Rattle.document.specs.Doc.{Doc, row_count, text_bytes}
use Rattle.document.specs.Stored.{stored, Fine}
use Rattle.document.specs.Walk.{unmarked, Progress, going, stopped, walk}
use Rattle.document.specs.Sink.{emit}
use Rattle.document.specs.Sink as sink
use Rattle.document.proofs.ReadBack.{stored_reads_back}
use Rattle.document.proofs.Emits.{Emitted, emit_of_going_walk}
use Rattle.layout.specs.Layout.{Piece, pieces}
use Rattle.layout.specs.Listing.{bytes_of}
use Rattle.layout.specs.Groups.{fit_tests, group_count}
use Rattle.layout.specs.Call.{counts_of, doc_of}
use Rattle.layout.specs.Call as layout
use Rattle.third_property.proofs.LayoutLaws.{blanks_put_back, rows_joined, held_rows_within_width}
use Rattle.third_property.proofs.BreakLaws.{met-pieces, places_of_rows}
use Rattle.third_property.proofs.TestLaws.{tests_of_rows}
use Rattle.layout.proofs.GroupLaws.{at_most_all_groups}
use Rattle.layout.specs.declared.Counts.{Counts}
use Rattle.std.specs.Prelude.{Result, Ok, Err}
use Rattle.pool_check.specs.declared.PoolError.{PoolError}
use Rattle.pool.specs.Tables.{Pool, E, D}
use Rattle.pool.specs.Unfold.{expr_at, declar_at}
use Rattle.std.specs.Prelude.{Option}
use Rattle.pool.specs.Notation.{Operator, operator_of}
use Rattle.pool.specs.Tree.{Name}
use Rattle.binders.specs.Options.{PpOptions, options}
use Rattle.pretty_printer.specs.Exprs.{expr_doc}
use Rattle.declarations.specs.Declars.{declar_doc}
use Rattle.declarations.proofs.FineLaws.{expr_fine, declar_fine}
use Rattle.third_property.proofs.PlaceLaws.{Like, expr_like, declar_like}
use Rattle.lister.specs.declared.error.PrintError.TheVariants.{Size, Names, Document, RowArea, TextArea, Listing}
use Rattle.lister.specs.Answers.{Answer, of_pool, number, place, stop_answer, of_laid}
use Rattle.lister.specs.Source.{Source, pool_of, judged}
use Rattle.lister.specs.Prints.{Areas, Outcome, untouched, document_cleared, filled, document_listed, after_walk, print_doc, sizes_ok, checked, print_with, print}
use Rattle.third_property.specs.ThirdProperty.{Print, expression, declaration, call, roots_in, root_doc, SameTree, Run, Returned, Rooted, Succeeded, listing, document, Premises}
use Rattle.third_property.specs.ThirdProperty.{EndAlike, refused, succeeded, defined, walked, laid, reported, Stands, AsDefined, sizes, stops, short, lists}
use Rattle.third_property.specs.ThirdProperty.{SameDocument, PutBack, met_in, StartsRows, HoldsWidth, CountsTests, OneRun, TwoRuns, ThirdProperty}
use Rattle.third_property.specs.Claims.{rows_in, Within}
use Rattle.third_property.specs.Places.{pieces_of, failed, break_places, groups_outside}
use Rattle.layout.proofs.Painting.{written}
use Rattle.basics.proofs.Booleans.{true-false}
use Rattle.pool_check.proofs.NumberLaws.{some_number}
use Rattle.third_property.proofs.WalkLaws.{Near, plain_like, walks_near}

-- ---- what the definitions of the two prints share

-- a print over an accepted pool that has the root
rooted_call : (k : Print) (s : Source) (root indent width : ℕ) (areas : Areas) → judged s ≡ Ok tt → root < roots_in k s
    → call k s root indent width areas
    ≡ cond (sizes_ok indent width) (print_doc (root_doc k indent (pool_of s) root) width areas) (untouched (Err Size) areas)
unfolding call print_with root_doc checked
rooted_call expression s root indent width areas a h = rw (a, lt-ltb root (E s.words) h)
rooted_call declaration s root indent width areas a h = rw (a, lt-ltb root (D s.words) h)

-- what check refuses has a number
pool_number : (e : PoolError) → number (Err (of_pool e)) ≡ 0 → ⊥
unfolding number
pool_number e h = some_number e h

-- a print that succeeds is over an accepted pool that has the root
checked-done : (v : Result Unit PoolError) (present ok : Bool) (print : Outcome) (areas : Areas) → number (checked v present ok print areas).answer ≡ 0
    → (v ≡ Ok tt) × (present ≡ true)
unfolding checked untouched number
checked-done (Err e) present ok print areas h = absurd (pool_number e h)
checked-done (Ok tt) true ok print areas h = (refl, refl)
checked-done (Ok tt) false ok print areas h = absurd (omega arith)

call-done : (k : Print) (s : Source) (root indent width : ℕ) (areas : Areas) → number (call k s root indent width areas).answer ≡ 0
    → (judged s ≡ Ok tt) × (ltb root (roots_in k s) ≡ true)
unfolding call print_with
call-done expression s root indent width areas h = checked-done (judged s) (ltb root (E s.words)) (sizes_ok indent width) _ areas h
call-done declaration s root indent width areas h = checked-done (judged s) (ltb root (D s.words)) (sizes_ok indent width) _ areas h

root_fine : (k : Print) (indent : ℕ) (p : Pool) (root : ℕ) → indent ≤ 64 → Fine (unmarked (root_doc k indent p root))
unfolding root_doc
root_fine expression indent p root small = expr_fine (options indent p) small (expr_at p root)
root_fine declaration indent p root small = declar_fine (options indent p) small (declar_at p root)

-- what both pools print with, where they give the same operators to the same name trees
same_options : (indent : ℕ) (p q : Pool) → ((name : Name) → operator_of p name ≡ operator_of q name) → options indent p ≡ options indent q
same_options indent p q o = ap (λ (f : Name → Option Operator). record { indent = indent; operators = f }) (fun_ext o)

roots_like : (k : Print) (indent : ℕ) (p : Pool) (r : ℕ) (q : Pool) (s : ℕ) → SameTree k p r q s → ((name : Name) → operator_of p name ≡ operator_of q name)
    → Like (root_doc k indent p r) (root_doc k indent q s)
unfolding root_doc SameTree
roots_like expression indent p r q s h o =
    subst (λ (opts : PpOptions). Like (expr_doc (options indent p) (expr_at p r)) (expr_doc opts (expr_at q s))) (same_options indent p q o)
    (expr_like (options indent p) (expr_at p r) (expr_at q s) h)
roots_like declaration indent p r q s h o =
    subst (λ (opts : PpOptions). Like (declar_doc (options indent p) (declar_at p r)) (declar_doc opts (declar_at q s))) (same_options indent p q o)
    (declar_like (options indent p) (declar_at p r) (declar_at q s) h)

small_indent : (indent width : ℕ) → sizes_ok indent width ≡ true → indent ≤ 64
small_indent indent width e = by (leb indent 64) refl e
  where
    by : (b : Bool) → leb indent 64 ≡ b → b && leb width 65535 ≡ true → indent ≤ 64
    by true h k = leb-true indent 64 h
    by false h k = true-false (sym k)

-- ---- a stopped walk's answer

stop_number : (n p : ℕ) → 1 ≤ number (stop_answer n p)
unfolding stop_answer number
stop_number n p = by (eqb n 7) (eqb n 8) (eqb n 20)
  where
    by : (a b c : Bool) → 1 ≤ number (Err (cond a (Names p) (cond b (Document p) (cond c (RowArea p) (TextArea p)))))
    by true b c = omega arith
    by false true c = omega arith
    by false false true = omega arith
    by false false false = omega arith

stop_same_number : (n p q : ℕ) → number (stop_answer n p) ≡ number (stop_answer n q)
unfolding stop_answer number
stop_same_number n p q = by (eqb n 7) (eqb n 8) (eqb n 20)
  where
    by : (a b c : Bool)
        → number (Err (cond a (Names p) (cond b (Document p) (cond c (RowArea p) (TextArea p)))))
        ≡ number (Err (cond a (Names q) (cond b (Document q) (cond c (RowArea q) (TextArea q)))))
    by true b c = refl
    by false true c = refl
    by false false true = refl
    by false false false = refl

stop_seven : (n p : ℕ) → n ≡ 7 → number (stop_answer n p) ≡ 7
unfolding stop_answer number
stop_seven n p e = rw e

-- the answer for a layout that lists
listed_answer : (full : Bool) (c : Counts) → of_laid (cond full (layout.refusal 22 0) (Ok c)) ≡ cond full (Err Listing) (Ok c)
unfolding of_laid
listed_answer true c = refl
listed_answer false c = refl

-- ---- a run over an accepted pool that has the root

module _ {k : Print} (r : Run k) (returned : Returned r) (rooted : Rooted r) where
  abbrev outcome : Outcome
  outcome = record { answer = r.answer; areas = r.left }

  abbrev d : Doc
  d = unmarked (defined r)

  rooted_is : outcome ≡ cond (sizes_ok r.indent r.width) (print_doc (defined r) r.width r.lent) (untouched (Err Size) r.lent)
  rooted_is = returned ∙ rooted_call k r.source r.root r.indent r.width r.lent rooted.accepted rooted.root_there

  size_is : sizes_ok r.indent r.width ≡ false → outcome ≡ untouched (Err Size) r.lent
  size_is e = rooted_is ∙ ap (λ (b : Bool). cond b (print_doc (defined r) r.width r.lent) (untouched (Err Size) r.lent)) e

  pub walk_is : sizes_ok r.indent r.width ≡ true → outcome ≡ after_walk (walked r) d r.width r.lent
  unfolding print_doc
  walk_is e = rooted_is ∙ ap (λ (b : Bool). cond b (print_doc (defined r) r.width r.lent) (untouched (Err Size) r.lent)) e

  module _ (ok : sizes_ok r.indent r.width ≡ true) (rows text : ℕ) (went : walked r ≡ going rows text) where
    listed_is : outcome ≡ document_listed rows text r.width d r.lent
    unfolding after_walk
    listed_is = walk_is ok ∙ ap (λ (p : Progress). after_walk p d r.width r.lent) went

    stands : Stands r
    unfolding document_listed layout.listed
    stands =
        let e = ap (λ (o : Outcome). o.areas) listed_is in
        record { rows = ap (λ (a : Areas). a.rows) e; text = ap (λ (a : Areas). a.text) e; listing = ap (λ (a : Areas). a.listing) e }

    pub answer_is : r.answer ≡ cond (ltb (length r.lent.listing) (length (bytes_of (laid r)))) (Err Listing) (Ok (counts_of rows text r.width d))
    unfolding document_listed layout.listed
    answer_is =
        ap (λ (o : Outcome). o.answer) listed_is
        ∙ listed_answer (ltb (length r.lent.listing) (length (bytes_of (laid r)))) (counts_of rows text r.width d)

    emitted : Emitted (length r.lent.rows) (length r.lent.text) d rows text (emit (defined r) (sink.cleared (length r.lent.rows) (length r.lent.text)))
    emitted =
        emit_of_going_walk (length r.lent.rows) (length r.lent.text) (defined r)
        (root_fine k r.indent (pool_of r.source) r.root (small_indent r.indent r.width ok)) rows text went

    -- the document read back from the areas
    reads_back : doc_of r.left.rows rows r.left.text ≡ d
    unfolding filled
    reads_back =
        let s = stands in
        let n = emitted.rows in
        rw (s.rows, s.text, n) (stored_reads_back d (replicate (length r.lent.rows - length (stored 0 d)) 0) (replicate (length r.lent.text - length (text_bytes d)) 0))

    done : length (bytes_of (laid r)) ≤ length r.lent.listing → r.answer ≡ Ok (counts_of rows text r.width d) → AsDefined r
    done enough answered =
        let s : Succeeded r = record { counts = counts_of rows text r.width d; answered = answered } in
        lists s ok went enough stands
        (ap (take (length (bytes_of (laid r)))) stands.listing ∙ written r.lent.listing (bytes_of (laid r)) enough)
        reads_back
        (ap₂ (λ (x y : ℕ). counts_of x y r.width d) emitted.rows emitted.text)

    after_going : AsDefined r
    after_going = by (ltb (length r.lent.listing) (length (bytes_of (laid r)))) refl answer_is
      where
        by : (b : Bool) → ltb (length r.lent.listing) (length (bytes_of (laid r))) ≡ b
            → r.answer ≡ cond b (Err Listing) (Ok (counts_of rows text r.width d)) → AsDefined r
        by true e a = short rows text ok went (ltb-true (length r.lent.listing) (length (bytes_of (laid r))) e) a stands
        by false e a = done (ltb-false (length r.lent.listing) (length (bytes_of (laid r))) e) a

  after_stop : sizes_ok r.indent r.width ≡ true → (n at : ℕ) → walked r ≡ stopped n at → AsDefined r
  unfolding after_walk document_cleared
  after_stop ok n at e =
      let o : outcome ≡ document_cleared (stop_answer n at) r.lent = walk_is ok ∙ ap (λ (p : Progress). after_walk p d r.width r.lent) e in
      let a = ap (λ (x : Outcome). x.areas) o in
      stops n at ok e (ap (λ (x : Outcome). x.answer) o) (ap (λ (x : Areas). x.rows) a) (ap (λ (x : Areas). x.text) a) (ap (λ (x : Areas). x.listing) a)

  bad_size : sizes_ok r.indent r.width ≡ false → AsDefined r
  unfolding untouched
  bad_size e = let o = size_is e in sizes e (ap (λ (x : Outcome). x.answer) o) (ap (λ (x : Outcome). x.areas) o)

  after-walk : sizes_ok r.indent r.width ≡ true → (p : Progress) → walked r ≡ p → AsDefined r
  after-walk ok (going rows text) e = after_going ok rows text e
  after-walk ok (stopped n at) e = after_stop ok n at e

  as_defined_run : AsDefined r
  as_defined_run = by (sizes_ok r.indent r.width) refl
    where
      by : (b : Bool) → sizes_ok r.indent r.width ≡ b → AsDefined r
      by false e = bad_size e
      by true e = after-walk e (walked r) refl

-- ---- a run that succeeds

refused_not_done : (x : Answer) (n : ℕ) → number x ≡ suc n → number x ≡ 0 → ⊥
refused_not_done x n h z = omega arith

-- what `lists` says, of the counts that the run's answer has
record Listed {k : Print} (r : Run k) (s : Succeeded r) : Type 0 where
  stands : Stands r
  listing_is : listing r s ≡ bytes_of (laid r)
  document_is : document r s ≡ unmarked (defined r)
  counts_are : s.counts ≡ reported r

module _ {k : Print} (r : Run k) (returned : Returned r) (unrefused : number r.answer ≡ 0) where
  unrefused_rooted : Rooted r
  unrefused_rooted =
      let o : r.answer ≡ (call k r.source r.root r.indent r.width r.lent).answer = ap (λ (x : Outcome). x.answer) returned in
      let c = call-done k r.source r.root r.indent r.width r.lent (sym (ap number o) ∙ unrefused) in
      record { accepted = c.0; root_there = ltb-true r.root (roots_in k r.source) c.1 }

  -- of the four ends that a run has, three are refusals
  only_lists : {A : Type 0} → AsDefined r → ((s : Succeeded r) → Listed r s → A) → A
  unfolding number
  only_lists (sizes e a same) then = absurd (refused_not_done r.answer 5 (ap number a) unrefused)
  only_lists (stops n at ok e a x y z) then =
      absurd (let g = stop_number n at in let h : number (stop_answer n at) ≡ 0 = sym (ap number a) ∙ unrefused in omega arith)
  only_lists (short rows text ok e l a st) then = absurd (refused_not_done r.answer 21 (ap number a) unrefused)
  only_lists (lists s ok e enough st l doc counts) then =
      then s (record { stands = st; listing_is = l; document_is = doc; counts_are = counts })

  unrefused_succeeds : Succeeded r
  unrefused_succeeds = only_lists (as_defined_run r returned unrefused_rooted) (λ s l. s)

module _ {k : Print} (r : Run k) (returned : Returned r) (s : Succeeded r) where
  success : number r.answer ≡ 0
  unfolding number
  success = ap number s.answered

  same_answer : (t : Succeeded r) → t.counts ≡ s.counts
  same_answer t = let e : ◌≡◌ {A = Answer} (Ok t.counts) (Ok s.counts) = sym t.answered ∙ s.answered in cc

  success-listed : Listed r s
  success-listed =
      only_lists r returned success (as_defined_run r returned (unrefused_rooted r returned success)) (λ t l. subst_listed t (same_answer t) l)
    where
      subst_listed : (t : Succeeded r) → t.counts ≡ s.counts → Listed r t → Listed r s
      subst_listed t c l =
          let listing_is = l.listing_is in
          let document_is = l.document_is in
          let counts_are = l.counts_are in
          record {
            stands = l.stands;
            listing_is = rw c at listing_is;
            document_is = rw c at document_is;
            counts_are = rw c at counts_are;
          }

-- ---- the clauses, of one run that succeeds

module _ {k : Print} (r : Run k) (returned : Returned r) (s : Succeeded r) where
  listed_in : (d : Doc) → document r s ≡ d → listing r s ≡ bytes_of (pieces r.width d)
  listed_in d e =
      let l = success-listed r returned s in
      l.listing_is ∙ ap (λ (x : Doc). bytes_of (pieces r.width x)) (sym l.document_is ∙ e)

  put_back_in : (d : Doc) → document r s ≡ d → PutBack r s d
  put_back_in d e = record { listing_is = listed_in d e; restores = blanks_put_back r.width d }

  -- the layout's pieces, as they are met
  pieces-met : pieces_of (met_in r s) ≡ pieces r.width (document r s)
  pieces-met = met-pieces r.width (document r s)

  -- the rows that are left are those that the document is stored in
  rows_left : (r.left.rows ≡ stored 0 (document r s) ++ replicate (length r.lent.rows - length (stored 0 (document r s))) 0) × (s.counts.rows ≡ row_count (document r s))
  unfolding filled
  rows_left =
      let l = success-listed r returned s in
      let e = sym l.document_is in (
        l.stands.rows ∙ ap (λ (d : Doc). filled r.lent.rows (stored 0 d)) e,
        ap (λ (c : Counts). c.rows) l.counts_are ∙ ap row_count e,
      )

  starts : StartsRows r s
  starts =
      let left = rows_left in
      record {
        pieces_are = pieces-met;
        listing_is = listed_in (document r s) refl ∙ ap bytes_of (sym pieces-met);
        exactly =
            places_of_rows r.width (document r s) (replicate (length r.lent.rows - length (stored 0 (document r s))) 0)
            ∙ ap₂ (break_places (failed (met_in r s))) (sym left.0) (sym left.1);
      }

  holds : HoldsWidth r s
  holds =
      record {
        listing_is = listed_in (document r s) refl ∙ ap bytes_of (sym pieces-met) ∙ sym (rows_joined (pieces_of (met_in r s)));
        within = subst (λ (ps : List Piece). Within r.width (rows_in ps)) (sym pieces-met) (held_rows_within_width r.width (document r s));
      }

  tests : CountsTests r s
  tests =
      let d = document r s in
      let l = success-listed r returned s in
      let left = rows_left in
      let e : s.counts.tests ≡ fit_tests r.width d = ap (λ (c : Counts). c.tests) l.counts_are ∙ ap (fit_tests r.width) (sym l.document_is) in
      record {
        exactly =
            e
            ∙ tests_of_rows r.width d (replicate (length r.lent.rows - length (stored 0 d)) 0)
            ∙ ap₂ (groups_outside (failed (met_in r s))) (sym left.0) (sym left.1);
        at_most = subst (λ (n : ℕ). n ≤ group_count d) (sym e) (at_most_all_groups r.width d);
      }

-- ---- two runs over equal trees

module _ {k : Print} (a b : Run k) (returned : Returned a) (returned' : Returned b) (taken : Premises a b) where
  docs_like : Like (defined a) (defined b)
  docs_like =
      subst (λ (i : ℕ). Like (defined a) (root_doc k i (pool_of b.source) b.root)) taken.indent
      (roots_like k a.indent (pool_of a.source) a.root (pool_of b.source) b.root taken.tree taken.operators)

  same_doc : unmarked (defined a) ≡ unmarked (defined b)
  same_doc = plain_like (defined a) (defined b) docs_like

  walks : Near (walked a) (walked b)
  walks =
      subst (λ (n : ℕ). Near (walked a) (walk n (length b.lent.text) (defined b))) taken.rows
      (subst (λ (n : ℕ). Near (walked a) (walk (length a.lent.rows) n (defined b))) taken.text
      (walks_near (length a.lent.rows) (length a.lent.text) (defined a) (defined b) docs_like))

  filled-same : (x y l : List ℕ) → length x ≡ length y → filled x l ≡ filled y l
  unfolding filled
  filled-same x y l e = ap (λ (n : ℕ). l ++ replicate (n - length l) 0) e

  same_document_runs : (s : Succeeded a) (t : Succeeded b) → SameDocument a b s t
  same_document_runs s t =
      let x = success-listed a returned s in
      let y = success-listed b returned' t in
      record {
        row_count = ap (λ (c : Counts). c.rows) x.counts_are ∙ ap row_count same_doc ∙ sym (ap (λ (c : Counts). c.rows) y.counts_are);
        byte_count = ap (λ (c : Counts). c.text) x.counts_are ∙ ap (λ (d : Doc). length (text_bytes d)) same_doc ∙ sym (ap (λ (c : Counts). c.text) y.counts_are);
        rows =
            x.stands.rows ∙ ap (λ (d : Doc). filled a.lent.rows (stored 0 d)) same_doc
            ∙ filled-same a.lent.rows b.lent.rows (stored 0 (unmarked (defined b))) taken.rows ∙ sym y.stands.rows;
        bytes =
            x.stands.text ∙ ap (λ (d : Doc). filled a.lent.text (text_bytes d)) same_doc
            ∙ filled-same a.lent.text b.lent.text (text_bytes (unmarked (defined b))) taken.text ∙ sym y.stands.text;
        shared = x.document_is ∙ same_doc ∙ sym y.document_is;
      }

  -- ---- at one width

  module _ (width : a.width ≡ b.width) where
    same_sizes : sizes_ok a.indent a.width ≡ sizes_ok b.indent b.width
    same_sizes = ap₂ sizes_ok taken.indent width

    same-laid : laid a ≡ laid b
    same-laid = ap₂ pieces width same_doc

    refused_alike : (x y : Answer) → a.answer ≡ x → b.answer ≡ y → 1 ≤ number x → number x ≡ number y → ((number x ≡ 7 → ⊥) → place x ≡ place y) → EndAlike a b
    refused_alike x y e f h i j =
        refused (subst (λ (z : Answer). 1 ≤ number z) (sym e) h) (ap number e ∙ i ∙ sym (ap number f))
        (λ other. ap place e ∙ j (λ q. other (ap number e ∙ q)) ∙ sym (ap place f))

    stopped_alike : (n p m q : ℕ) → a.answer ≡ stop_answer n p → b.answer ≡ stop_answer m q → n ≡ m → ((n ≡ 7 → ⊥) → p ≡ q) → EndAlike a b
    stopped_alike n p m q e f h i =
        let g : b.answer ≡ stop_answer n q = f ∙ ap (λ (x : ℕ). stop_answer x q) (sym h) in
        refused_alike (stop_answer n p) (stop_answer n q) e g (stop_number n p) (stop_same_number n p q)
        (λ other. ap (λ (x : ℕ). place (stop_answer n x)) (i (λ z. other (stop_seven n p z))))

    near_of : (p q : Progress) → walked a ≡ p → walked b ≡ q → Near p q
    near_of p q e f = subst (λ (x : Progress). Near x q) e (subst (λ (x : Progress). Near (walked a) x) f walks)

    fit_alike : length (bytes_of (laid a)) ≡ length (bytes_of (laid b))
    fit_alike = ap (λ (ps : List Piece). length (bytes_of ps)) same-laid

    same-reported : reported a ≡ reported b
    same-reported = ap₂ (λ (d : Doc) (w : ℕ). counts_of (row_count d) (length (text_bytes d)) w d) same_doc width

    listed_alike : (s : Succeeded a) (t : Succeeded b) → listing a s ≡ bytes_of (laid a) → listing b t ≡ bytes_of (laid b)
        → s.counts ≡ reported a → t.counts ≡ reported b → EndAlike a b
    listed_alike s t l l' c c' =
        succeeded s t (l ∙ ap bytes_of same-laid ∙ sym l') (c ∙ same-reported ∙ sym c')

    other_size : {A : Type 0} → sizes_ok a.indent a.width ≡ true → sizes_ok b.indent b.width ≡ false → A
    other_size e f = true-false (sym e ∙ same_sizes ∙ f)

    size_other : {A : Type 0} → sizes_ok a.indent a.width ≡ false → sizes_ok b.indent b.width ≡ true → A
    size_other e f = true-false (sym f ∙ sym same_sizes ∙ e)

    both_alike : AsDefined a → AsDefined b → EndAlike a b
    unfolding number place
    both_alike (sizes e x h) (sizes f y i) = refused_alike (Err Size) (Err Size) x y (omega arith) refl (λ other. refl)
    both_alike (sizes e x h) (stops m q ok f y u v w) = size_other e ok
    both_alike (sizes e x h) (short r t ok f l y st) = size_other e ok
    both_alike (sizes e x h) (lists t ok f l st i j c) = size_other e ok
    both_alike (stops n p ok e x u v w) (sizes f y i) = other_size ok f
    both_alike (stops n p ok e x u v w) (stops m q ok' f y u' v' w') =
        let h = near_of (stopped n p) (stopped m q) e f in stopped_alike n p m q x y h.0 h.1
    both_alike (stops n p ok e x u v w) (short r t ok' f l y st) = absurd (near_of (stopped n p) (going r t) e f)
    both_alike (stops n p ok e x u v w) (lists t ok' f l st i j c) = absurd (near_of (stopped n p) (going t.counts.rows t.counts.text) e f)
    both_alike (short r t ok e l x st) (sizes f y i) = other_size ok f
    both_alike (short r t ok e l x st) (stops m q ok' f y u v w) = absurd (near_of (going r t) (stopped m q) e f)
    both_alike (short r t ok e l x st) (short r' t' ok' f l' y st') = refused_alike (Err Listing) (Err Listing) x y (omega arith) refl (λ other. refl)
    both_alike (short r t ok e l x st) (lists t' ok' f l' st' i j c) =
        absurd (let g = fit_alike in let q = taken.listing in omega arith)
    both_alike (lists s ok e l st i j c) (sizes f y h) = other_size ok f
    both_alike (lists s ok e l st i j c) (stops m' q ok' f y u v w) = absurd (near_of (going s.counts.rows s.counts.text) (stopped m' q) e f)
    both_alike (lists s ok e l st i j c) (short r t ok' f l' y st') =
        absurd (let g = fit_alike in let q = taken.listing in omega arith)
    both_alike (lists s ok e l st i j c) (lists t ok' f l' st' i' j' c') = listed_alike s t i i' c c'

    alike_runs : EndAlike a b
    alike_runs = both_alike (as_defined_run a returned taken.first) (as_defined_run b returned' taken.second)

-- ---- the whole

one_run : {k : Print} (r : Run k) → Returned r → OneRun r
one_run r returned =
    record {
      as_defined = λ rooted. as_defined_run r returned rooted;
      succeeds = λ unrefused. unrefused_succeeds r returned unrefused;
      starts_rows = λ s. starts r returned s;
      holds_width = λ s. holds r returned s;
      counts_tests = λ s. tests r returned s;
    }

two_runs : {k : Print} (a b : Run k) → Returned a → Returned b → TwoRuns a b
two_runs a b returned returned' =
    record {
      end_alike = λ taken width. alike_runs a b returned returned' taken width;
      same_document = λ taken s t. same_document_runs a b returned returned' taken s t;
      put_back = λ taken s t. (
        put_back_in a returned s (document a s) refl,
        put_back_in b returned' t (document a s) (sym (same_document_runs a b returned returned' taken s t).shared),
      );
      first = one_run a returned;
      second = one_run b returned';
    }

pub third_property : (k : Print) → ThirdProperty k
third_property k = record { one = λ r returned. one_run r returned; two = λ a b returned returned'. two_runs a b returned returned' }
