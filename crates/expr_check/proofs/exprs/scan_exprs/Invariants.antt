use Rattle.pool.specs.Views.{read}
use Rattle.expr_check.specs.Marks.{Right}
use Rattle.expr_check.proofs.exprs.scan_exprs.Given as goal

abbrev pub invariant-loop-r : goal.invariant-loop-r
invariant-loop-r l = Right (read l.pool) l.from l.r
