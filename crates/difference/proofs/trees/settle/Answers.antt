use mathlib.Core.Bool.{true, false}
use Rattle.difference.proofs.CompareLaws.{sweep_equal, sweep_differs}
use Rattle.difference.proofs.trees.settle.Goals as goal

pub returns-in-Some-true : goal.returns-in-Some-true
returns-in-Some-true c =
    sweep_equal _ _ _ _ c.args.pool.now.sound c.requires.0 c.requires.1 (c.sweep_all.ensures true (cc))

pub returns-in-Some-false : goal.returns-in-Some-false
returns-in-Some-false c =
    sweep_differs _ _ _ _ c.args.pool.now.sound c.requires.0 c.requires.1 (c.sweep_all.ensures false (cc)) c.if-d-eq0.false
