use Rattle.occurrence.proofs.StepLaws.{sweeps_on, sweeps_end}
use Rattle.occurrence.proofs.sweep.sweep_each.Goals as goal

pub loop-s-preserved : goal.loop-s-preserved
loop-s-preserved c =
    sweeps_on c.args.words.now.words.now c.args.i c.args.n c.loop-s.s _ _ _ c.loop-s-test.true c.sweep.ensures c.loop-s.invariant

pub returns : goal.returns
returns c = sweeps_end c.args.words.now.words.now c.args.i c.args.n c.loop-s.s _ _ c.loop-s-test.false c.loop-s.invariant
