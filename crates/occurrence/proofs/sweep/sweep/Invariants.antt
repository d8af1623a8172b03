use Rattle.std.proofs.Common.{◌≡◌, ◌-◌}
use Rattle.occurrence.specs.Sets.{kept, sweep_rows}
use Rattle.occurrence.proofs.sweep.sweep.Given as goal

abbrev pub invariant-loop-r : goal.invariant-loop-r
invariant-loop-r l =
    let ws = l.words.words.now in
    sweep_rows ws l.base (l.n - l.r) l.r (kept l.sets l.above) ≡ sweep_rows ws l.base l.n 0 (kept l.initial.sets l.initial.above)
