use native.Mathlib.Omega.{arith}
use Rattle.std.proofs.lemmas.Result.{err_from_is_err_and}
use Rattle.document.proofs.Faults.{accepted_counts}
use Rattle.layout.proofs.Answers.{means_of}
use Rattle.layout_pending.proofs.Answers.{early_error, answer_first, answer_30, answer_listed_cleared}
use Rattle.layout_pending.proofs.layout_pending.Goals as goal

pub returns-in_err-check_given : goal.returns-in_err-check_given
returns-in_err-check_given c =
    let d = c.args.document.now in
    let refused = means_of d.rows.now d.count d.text.now d.total c.args.width c.in_err-check_given.was c.check_given.ensures in
    let early = early_error d.rows.now d.count d.text.now d.total c.args.width c.in_err-check_given.ensures in
    let p = err_from_is_err_and c.from_residual.result c.from_residual.ensures.1 in
    rw (p.1, p.2) (answer_first d.rows.now d.count d.text.now d.total c.args.width c.args.pending.now c.args.listing.now _ early (refused c.args.listing.now))

pub overflow_mul-document : goal.overflow_mul-document
overflow_mul-document c =
    let d = c.args.document.now in
    let admitted = means_of d.rows.now d.count d.text.now d.total c.args.width c.in_ok-check_given.was c.check_given.ensures in
    let f = (accepted_counts admitted.0).few in
    omega arith

pub returns-then-pending-document : goal.returns-then-pending-document
returns-then-pending-document c =
    let d = c.args.document.now in
    let admitted = means_of d.rows.now d.count d.text.now d.total c.args.width c.in_ok-check_given.was c.check_given.ensures in
    answer_30 d.rows.now d.count d.text.now d.total c.args.width c.args.pending.now c.args.listing.now admitted.0 admitted.1 c.if-pending-document.true

pub invariant_of-accepted : goal.invariant_of-accepted
invariant_of-accepted c =
    let d = c.args.document.now in
    record { accepted = (means_of d.rows.now d.count d.text.now d.total c.args.width c.in_ok-check_given.was c.check_given.ensures).0 }

pub layout_accepted-requires : goal.layout_accepted-requires
layout_accepted-requires c =
    let d = c.args.document.now in
    let admitted = means_of d.rows.now d.count d.text.now d.total c.args.width c.in_ok-check_given.was c.check_given.ensures in
    (admitted.1, c.if-pending-document.false)

pub returns-in_err-layout_accepted : goal.returns-in_err-layout_accepted
returns-in_err-layout_accepted c =
    let d = c.args.document.now in
    let admitted = means_of d.rows.now d.count d.text.now d.total c.args.width c.in_ok-check_given.was c.check_given.ensures in
    let listed = c.layout_accepted.ensures in
    let error = c.from_residual-in_err-layout_accepted in
    let p = err_from_is_err_and error.result error.ensures.1 in
    let same = rw c.in_err-layout_accepted.was at listed.0 in
    rw (p.1, p.2)
    (answer_listed_cleared d.rows.now d.count d.text.now d.total c.args.width c.args.pending.now c.args.listing.now admitted.0 admitted.1
    c.if-pending-document.false _ _ _ same listed.1)

pub returns : goal.returns
returns c =
    let d = c.args.document.now in
    let admitted = means_of d.rows.now d.count d.text.now d.total c.args.width c.in_ok-check_given.was c.check_given.ensures in
    let listed = c.layout_accepted.ensures in
    let same = rw c.in_ok-layout_accepted.was at listed.0 in
    answer_listed_cleared d.rows.now d.count d.text.now d.total c.args.width c.args.pending.now c.args.listing.now admitted.0 admitted.1
    c.if-pending-document.false _ _ _ same listed.1
