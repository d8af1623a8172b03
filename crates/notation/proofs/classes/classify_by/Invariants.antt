use Rattle.std.specs.Prelude.{length}
use Rattle.pool.specs.Views.{read}
use Rattle.notation.specs.Classes.{Chains, Classed, Hashed}
use Rattle.notation.specs.Repeats.{Repeats}
use Rattle.notation.proofs.classes.classify_by.Given as goal

abbrev pub invariant-loop-r : goal.invariant-loop-r
invariant-loop-r g l = record {
  chains : Chains g.C.Classes.table (read l.pool) (length l.heads) l.heads l.below l.r;
  hashed : Hashed g.C.Classes.table (read l.pool) l.hashes l.r;
  classed : Classed (g.C.Classes.table.tree (read l.pool)) l.classes l.r;
  compared : Repeats (read l.pool).bytes l.compared;
}
