use Rattle.difference.proofs.CompareLaws.{walk_tells}
use Rattle.difference.proofs.trees.try_steps.Goals as goal

pub returns : goal.returns
returns c = walk_tells _ _ _ _ _ _ _ _ c.walk.ensures
