use mathlib.Core.Path.{sym, ap, ◌∙◌}
use native.Mathlib.Omega.{arith}
use borrow.Author.Tests.{lt-ltb, le-ltb}
use Rattle.std.specs.Prelude.{is_some}
use Rattle.basics.proofs.Booleans.{first_false, first_true}
use Rattle.document.specs.declared.kinds.RowKind.TheVariants.{Text}
use Rattle.lister.proofs.RowKinds.{row_test}
use Rattle.lister.proofs.HandingLaws.{no_counts, faulty, faultless}
use Rattle.lister.proofs.handing.has_text.Goals as goal

pub returns-then-not-counts_ok : goal.returns-then-not-counts_ok
returns-then-not-counts_ok c =
    let d = c.args.document.now in no_counts d.rows.now d.count d.text.now d.total c.args.r (sym c.counts_ok.ensures ∙ c.if-not-counts_ok.true)

pub returns-then-is_some : goal.returns-then-is_some
returns-then-is_some c =
    let d = c.args.document.now in
    faulty d.rows.now d.count d.text.now d.total c.args.r (sym c.counts_ok.ensures ∙ c.if-not-counts_ok.false) _ (c.is_some.ensures ∙ ap is_some c.fault.ensures) c.if-is_some.true

pub returns-then-r-document : goal.returns-then-r-document
returns-then-r-document c =
    let d = c.args.document.now in
    faultless d.rows.now d.count d.text.now d.total c.args.r (sym c.counts_ok.ensures ∙ c.if-not-counts_ok.false) _ (c.is_some.ensures ∙ ap is_some c.fault.ensures) c.if-is_some.false _
    (first_true _ _ _ (lt-ltb _ _ c.if-r-document.true) (row_test _ _ c.kind_at.ensures Text _ c.eq.ensures))

pub returns-else-r-document : goal.returns-else-r-document
returns-else-r-document c =
    let d = c.args.document.now in
    let past = le-ltb c.args.r d.count (omega (arith, c.if-r-document.false)) in
    faultless d.rows.now d.count d.text.now d.total c.args.r (sym c.counts_ok.ensures ∙ c.if-not-counts_ok.false) _ (c.is_some.ensures
    ∙ ap is_some c.fault.ensures) c.if-is_some.false _
    (past ∙ first_false _ _ past)
