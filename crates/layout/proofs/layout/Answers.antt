use mathlib.Core.Path.{◌∙◌}
use Rattle.std.proofs.lemmas.Result.{err_from_is_err_and}
use Rattle.layout.specs.Call.{untouched}
use Rattle.layout.proofs.Answers.{answer_listed, means_of}
use Rattle.layout.proofs.layout.Goals as goal

pub returns-in_err-check_given : goal.returns-in_err-check_given
unfolding untouched
returns-in_err-check_given c =
    let d = c.args.document.now in
    let refused = means_of d.rows.now d.count d.text.now d.total c.args.width c.in_err-check_given.was c.check_given.ensures in
    let p = err_from_is_err_and c.from_residual.result c.from_residual.ensures.1 in
    rw (p.1, p.2) (refused c.args.listing.now)

pub invariant_of-accepted : goal.invariant_of-accepted
invariant_of-accepted c =
    let d = c.args.document.now in
    record { accepted = (means_of d.rows.now d.count d.text.now d.total c.args.width c.in_ok-check_given.was c.check_given.ensures).0 }

pub layout_accepted-requires : goal.layout_accepted-requires
layout_accepted-requires c =
    let d = c.args.document.now in
    (means_of d.rows.now d.count d.text.now d.total c.args.width c.in_ok-check_given.was c.check_given.ensures).1

pub returns : goal.returns
returns c =
    let d = c.args.document.now in
    let admitted = means_of d.rows.now d.count d.text.now d.total c.args.width c.in_ok-check_given.was c.check_given.ensures in
    c.layout_accepted.ensures ∙ answer_listed d.rows.now d.count d.text.now d.total c.args.width admitted.0.counts admitted.0.faultless c.args.listing.now admitted.1
