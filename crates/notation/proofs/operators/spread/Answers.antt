use Rattle.pool.specs.Views.{read}
use Rattle.notation.specs.Classes.{name_tree}
use Rattle.notation.proofs.Classing.{lowest_is}
use native.Mathlib.Omega.{arith}
use Rattle.notation.proofs.operators.spread.Goals as goal

pub bounds-owners-classes : goal.bounds-owners-classes
bounds-owners-classes c =
    let low = (lowest_is (name_tree (read c.args.pool.now)) c.loop-r.r).low in
    omega (arith, c.requires.classes c.loop-r.r, c.args.pool.now.names.found)
