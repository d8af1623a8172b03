use Rattle.binders.proofs.PushLaws.{pushing_next, pushing_done}
use Rattle.binders.proofs.chain.push_chain.Goals as goal

pub loop-k-preserved : goal.loop-k-preserved
loop-k-preserved c =
    pushing_next c.args.p.now c.loop-k.invariant (cc) c.expr.ensures.0 c.push.ensures c.expr-at.ensures.0

pub returns : goal.returns
returns c = pushing_done c.args.p.now c.loop-k.invariant (cc)
