use Prim.Native.Nat.{◌+◌, ◌-◌, ◌≤◌}
use Rattle.pool.specs.Views.{lent}
use Rattle.links.specs.Links.{Clear}
use Rattle.equality.specs.Sweep.{Owed}
use Rattle.equality.proofs.sweep.levels.Given as goal

abbrev pub invariant-loop-c : goal.invariant-loop-c
invariant-loop-c l = record {
  in_range : l.c ≤ l.depth + 1;
  down : Owed (lent l.pool) l.d l.c l.cur l.next l.owed → Owed (lent l.pool) l.d 0 l.initial.cur l.initial.next l.initial.owed;
  up : Owed (lent l.pool) l.d 0 l.initial.cur l.initial.next l.initial.owed → Owed (lent l.pool) l.d l.c l.cur l.next l.owed;
  next_clear : Clear l.next;
}

abbrev pub decreases-loop-c : goal.decreases-loop-c
decreases-loop-c l = l.depth - l.c
