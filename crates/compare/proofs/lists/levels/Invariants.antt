use Rattle.std.proofs.Common.{◌≡◌, ◌+◌, ◌-◌}
use Rattle.pool.specs.Views.{lent}
use Rattle.compare.specs.Equal.{lists_same}
use Rattle.compare.proofs.lists.levels.Given as goal

abbrev pub invariant-loop-i : goal.invariant-loop-i
invariant-loop-i l =
    let p = lent l.pool in
    lists_same p (l.x + l.i) (l.y + l.i) (l.n - l.i) ≡ lists_same p l.x l.y l.n
