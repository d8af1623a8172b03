use Prim.Native.Nat.{◌+◌, ◌*◌, ◌≤◌}
use mathlib.Core.Path.{◌≡◌}
use Rattle.pool.specs.Tree.{occurs}
use Rattle.pool.specs.Unfold.{expr_at}
use Rattle.pool.specs.Views.{lent}
use Rattle.occurrence.specs.Parts.{part_of, occurs_at}
use Rattle.occurrence.proofs.occurs.+try_row.Given as goal

abbrev pub decreases-try_part : goal.decreases-try_part
decreases-try_part l = part_of l.part * 2

abbrev pub decreases-try_row : goal.decreases-try_row
decreases-try_row l = l.r * 2 + 1

abbrev pub invariant-try_row-loop-part : goal.invariant-try_row-loop-part
invariant-try_row-loop-part l = record {
  same : occurs l.fn.i (expr_at (lent l.pool) l.r) ≡ occurs_at (lent l.pool) l.i (part_of l.part);
  lower : part_of l.part ≤ l.r + 1;
}

abbrev pub decreases-try_row-loop-part : goal.decreases-try_row-loop-part
decreases-try_row-loop-part l = part_of l.part
