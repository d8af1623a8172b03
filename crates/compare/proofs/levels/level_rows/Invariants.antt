use Rattle.std.proofs.Common.{◌≤◌}
use Rattle.pool.specs.Views.{lent}
use Rattle.links.specs.Links.{Owes}
use Rattle.compare.specs.Equal.{level_shape_at}
use Rattle.compare.proofs.levels.level_rows.Given as goal

abbrev pub invariant-loop-x : goal.invariant-loop-x
invariant-loop-x l =
    let S = level_shape_at (lent l.pool) in
    (l.end ≤ l.n) × (Owes S S l.owed → Owes S S l.initial.owed) × (Owes S S l.initial.owed → Owes S S l.owed)

abbrev pub decreases-loop-x : goal.decreases-loop-x
decreases-loop-x l = l.end
