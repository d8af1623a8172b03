use Rattle.std.proofs.Common.{◌≡◌, ◌<◌}
use Rattle.pool.specs.Views.{lent}
use Rattle.pool.specs.Tables.{N}
use Rattle.compare.specs.Equal.{names_same}
use Rattle.compare.proofs.names.same_name.Given as goal

abbrev pub invariant-loop-x : goal.invariant-loop-x
invariant-loop-x l =
    let p = lent l.pool in
    (l.x < N p.names) × (l.y < N p.names) × (names_same p l.x l.y ≡ names_same p l.a l.b)

abbrev pub decreases-loop-x : goal.decreases-loop-x
decreases-loop-x l = l.x
