use Rattle.occurrence.proofs.StepLaws.{steps_on, steps_end}
use Rattle.occurrence.proofs.sweep.sweep.Goals as goal

pub loop-r-preserved : goal.loop-r-preserved
loop-r-preserved c =
    steps_on c.args.words.now.words.now c.args.base c.args.n c.loop-r.r _ _ _ c.loop-r-test.true c.row_step.ensures c.loop-r.invariant

pub returns : goal.returns
returns c = steps_end c.args.words.now.words.now c.args.base c.args.n c.loop-r.r _ _ c.loop-r-test.false c.loop-r.invariant
