use Rattle.occurrence.specs.Parts.{part_of}
use Rattle.difference.proofs.walk.+walk.Given as goal

abbrev pub decreases-walk : goal.decreases-walk
decreases-walk l = part_of l.x
