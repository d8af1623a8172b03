use Rattle.binders.specs.Options.{pool_of}
use Rattle.declarations.proofs.TakenLaws.{Taking}
use Rattle.declarations.proofs.declars.taken.Given as goal

abbrev pub invariant-loop-n : goal.invariant-loop-n
invariant-loop-n l = Taking (pool_of l.p) l.r l.value l.at l.opened l.n

abbrev pub decreases-loop-n : goal.decreases-loop-n
decreases-loop-n l = l.at
