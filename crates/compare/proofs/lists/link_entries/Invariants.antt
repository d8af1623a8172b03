use Rattle.pool.specs.Views.{lent}
use Rattle.compare.specs.Equal.{LinkedLists}
use Rattle.compare.proofs.lists.link_entries.Given as goal

abbrev pub invariant-loop-i : goal.invariant-loop-i
invariant-loop-i l = LinkedLists (lent l.pool).words l.initial.owed l.owed l.x l.y l.i
