use Rattle.difference.specs.Walks.{Root}
use Rattle.difference.proofs.classes.root_of.Given as goal

abbrev pub invariant-loop-m : goal.invariant-loop-m
invariant-loop-m l = Root l.kept l.x l.r

abbrev pub decreases-loop-m : goal.decreases-loop-m
decreases-loop-m l = l.r
