use Rattle.expr_check.proofs.Decide.{nothing_asked, so_asked}
use Rattle.pool.specs.Views.{read}
use Rattle.expr_check.proofs.exprs.expr_ok.Goals as goal

pub returns-in-Some-clause-marked : goal.returns-in-Some-clause-marked
returns-in-Some-clause-marked c =
    λ k. rw (c.as_asked.ensures, c.row_at-row.ensures) (so_asked (read c.args.pool.now) c.args.r c.in-Some.want (c.in-Some.ensures.marked k))

pub returns-in-None-clause-marked : goal.returns-in-None-clause-marked
returns-in-None-clause-marked c = λ k. nothing_asked (read c.args.pool.now) c.args.r (c.in-None.ensures.marked k)
