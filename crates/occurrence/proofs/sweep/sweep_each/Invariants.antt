use Rattle.std.proofs.Common.{◌≡◌}
use Rattle.occurrence.specs.Sets.{kept, sweeps}
use Rattle.occurrence.proofs.sweep.sweep_each.Given as goal

abbrev pub invariant-loop-s : goal.invariant-loop-s
invariant-loop-s l =
    let ws = l.words.words.now in
    sweeps ws l.i l.n l.s (kept l.sets l.above) ≡ sweeps ws l.i l.n l.times (kept l.initial.sets l.initial.above)
