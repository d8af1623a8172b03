use Rattle.levels.specs.Levels.{succs_par}
use Rattle.pool.specs.Views.{lent}
use Rattle.pool.specs.Unfold.{level_at}
use Rattle.pool.specs.Tables.{L}
use Prim.Native.Nat.{◌+◌, ◌<◌, ◌≤◌}
use mathlib.Core.Path.{◌≡◌}
use Rattle.levels.proofs.levels.level_succs.Given as goal

abbrev pub invariant-loop-at : goal.invariant-loop-at
invariant-loop-at l =
    (l.at < L (lent l.pool).words) × (l.at + l.n ≤ l.r) × (succs_par (level_at (lent l.pool) l.at) l.n ≡ succs_par (level_at (lent l.pool) l.r) 0)

abbrev pub decreases-loop-at : goal.decreases-loop-at
decreases-loop-at l = l.at
