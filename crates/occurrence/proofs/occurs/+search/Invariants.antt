use Rattle.occurrence.specs.Parts.{part_of}
use Rattle.occurrence.proofs.occurs.+search.Given as goal

abbrev pub decreases-search : goal.decreases-search
decreases-search l = part_of l.part
