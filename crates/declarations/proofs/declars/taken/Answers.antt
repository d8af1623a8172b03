use Rattle.declarations.proofs.TakenLaws.{taking_start, taking_falls, taking_next, taking_done}
use Rattle.declarations.proofs.declars.taken.Goals as goal

pub loop-n-init : goal.loop-n-init
loop-n-init c =
    taking_start _ _ _ c.requires.0 c.requires.1

pub loop-n-smaller : goal.loop-n-smaller
loop-n-smaller c =
    taking_falls _ c.args.p.now.pool.sound _ _ _ _ _ c.loop-n.invariant _ c.can_take.ensures c.loop-n-test.true _ c.expr-at.ensures.0

pub loop-n-preserved : goal.loop-n-preserved
loop-n-preserved c =
    taking_next _ c.args.p.now.pool.sound _ _ _ _ _ c.loop-n.invariant _ c.can_take.ensures
    c.loop-n-test.true _ _ c.expr-at.ensures.0 c.expr-opened.ensures.0

pub returns : goal.returns
returns c =
    taking_done _ c.args.p.now.pool.sound _ _ _ _ _ c.loop-n.invariant _ c.can_take.ensures c.loop-n-test.false
