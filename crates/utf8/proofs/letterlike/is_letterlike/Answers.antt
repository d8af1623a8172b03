use Rattle.utf8.proofs.Classes.{fit_start, none_ended, fit_ended, unfit_ended, fit_end}
use Rattle.std.proofs.lemmas.List.{drop_all}
use Rattle.utf8.proofs.letterlike.is_letterlike.Goals as goal
use Rattle.utf8.proofs.letterlike.is_letterlike.Goals.{in-Some+else-not-may_stand, in_default}

pub loop-b-init : goal.loop-b-init
loop-b-init c = fit_start _ _ _ c.start-scan.ensures.need c.start-scan.ensures.bits

pub returns-then-not-may_stand : goal.returns-then-not-may_stand
returns-then-not-may_stand c =
    unfit_ended c.args.s.now c.loop-b.b-index _ _ _ _ c.take.result c.loop-b.first _ c.loop-b-test.true c.take.ensures c.loop-b.invariant
    c.in-Some.c _ c.in-Some.is c.may_stand.ensures c.if-not-may_stand.true

pub loop-b-preserved : goal.loop-b-preserved
loop-b-preserved c =
    let s = c.args.s.now in
    let i = c.loop-b.b-index in
    elim c.match-take.branch [
      | in-Some+else-not-may_stand w ↦
          rw w.first-is
          (fit_ended s i _ _ _ _ c.take.result c.loop-b.first _ c.loop-b-test.true c.take.ensures c.loop-b.invariant
          w.in-Some.c _ w.in-Some.is w.may_stand.ensures w.if-not-may_stand.false)
      | in_default w ↦
          rw w.first-is
          (none_ended s i _ _ _ _ c.take.result c.loop-b.first _ c.loop-b-test.true c.take.ensures c.loop-b.invariant w.in_default.is)
    ]

pub returns : goal.returns
returns c = fit_end c.loop-b.first _ _ _ _ (drop_all _ c.args.s.now c.loop-b-test.false) c.loop-b.invariant
