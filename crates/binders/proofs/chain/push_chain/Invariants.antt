use Rattle.binders.specs.Options.{pool_of}
use Rattle.binders.proofs.PushLaws.{Pushing}
use Rattle.binders.proofs.chain.push_chain.Given as goal

abbrev pub invariant-loop-k : goal.invariant-loop-k
invariant-loop-k l = Pushing (pool_of l.p) l.initial.k l.h l.r l.k l.at l.scope

abbrev pub decreases-loop-k : goal.decreases-loop-k
decreases-loop-k l = l.at
