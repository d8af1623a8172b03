use Rattle.occurrence.proofs.SweepLaws.{answered}
use Rattle.occurrence.proofs.sweep.answered.Goals as goal

pub returns : goal.returns
returns c =
    answered c.args.words.now.words.now c.args.r c.args.i c.args.sets.now c.args.above.now _ _ c.requires _ c.expr.ensures.0 c.sweep_each.ensures
