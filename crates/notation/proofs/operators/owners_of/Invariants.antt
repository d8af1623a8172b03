use Rattle.pool.specs.Views.{read}
use Rattle.notation.specs.Tables.{Owned}
use Rattle.notation.proofs.operators.owners_of.Given as goal

abbrev pub invariant-loop-r : goal.invariant-loop-r
invariant-loop-r l = Owned (read l.pool) l.classes l.owners l.r
