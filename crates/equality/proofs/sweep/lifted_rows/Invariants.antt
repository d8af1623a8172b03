use Prim.Native.Nat.{◌≤◌}
use mathlib.Core.Logic.{◌↔◌}
use Rattle.pool.specs.Views.{lent}
use Rattle.equality.specs.Sweep.{Owed}
use Rattle.equality.proofs.sweep.lifted_rows.Given as goal

abbrev pub invariant-loop-a : goal.invariant-loop-a
invariant-loop-a l = record {
  in_range : l.below ≤ l.n;
  owed_still : Owed (lent l.pool) l.d l.c l.cur l.next l.owed ↔ Owed (lent l.pool) l.d l.c l.initial.cur l.initial.next l.initial.owed;
}

abbrev pub decreases-loop-a : goal.decreases-loop-a
decreases-loop-a l = l.below
