use Prim.Native.Nat.{◌≤◌}
use mathlib.Core.Logic.{◌↔◌}
use Rattle.pool.specs.Views.{lent}
use Rattle.links.specs.Links.{Owes}
use Rattle.equality.specs.Sweep.{tree_at}
use Rattle.equality.proofs.sweep.plain_rows.Given as goal

abbrev pub invariant-loop-x : goal.invariant-loop-x
invariant-loop-x l = record {
  in_range : l.below ≤ l.n;
  owed_still : Owes (tree_at (lent l.pool)) (tree_at (lent l.pool)) l.owed ↔ Owes (tree_at (lent l.pool)) (tree_at (lent l.pool)) l.initial.owed;
}

abbrev pub decreases-loop-x : goal.decreases-loop-x
decreases-loop-x l = l.below
