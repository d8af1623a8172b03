use Prim.Native.Nat.{max}
use Rattle.links.proofs.+link.Given as goal

abbrev pub decreases-link : goal.decreases-link
decreases-link l = max l.x l.y
