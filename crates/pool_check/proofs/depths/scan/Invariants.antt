use Rattle.pool.specs.Views.{read}
use Rattle.pool_check.proofs.Decide.{Below}
use Rattle.pool_check.proofs.depths.scan.Given as goal

abbrev pub invariant-loop-r : goal.invariant-loop-r
invariant-loop-r g l = Below g.T.Deep.table (read l.pool) l.depths l.r
