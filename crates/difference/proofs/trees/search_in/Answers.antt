use mathlib.Core.Path.{refl}
use Rattle.difference.proofs.CompareLaws.{walk_compares}
use Rattle.difference.proofs.trees.search_in.Goals as goal

pub returns : goal.returns
returns g c = walk_compares _ _ _ _ _ _ _ _ c.walk.ensures refl
