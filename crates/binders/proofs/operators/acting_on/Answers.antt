use Rattle.binders.proofs.ActingLaws.{head_is_none, name_acts}
use Rattle.pool.proofs.ExprUnfolds.{const_ok}
use Rattle.pool.proofs.Standing.{exprs_placed, kind_is, kind_not}
use Rattle.pool.specs.declared.kinds.ExprKind.TheVariants.{Const}
use Rattle.binders.specs.Options.{pool_of}
use Rattle.binders.proofs.operators.acting_on.Goals as goal

pub of_name-requires : goal.of_name-requires
of_name-requires c =
    let kind = kind_is _ _ _ _ exprs_placed _ c.expr_kind.ensures Const _ c.eq.ensures c.if-eq.true in
    let ok = const_ok (pool_of c.args.p.now) c.args.p.now.pool.sound c.args.r c.requires kind in
    rw c.expr.ensures.0 ok.0

pub returns-then-eq : goal.returns-then-eq
returns-then-eq c =
    let kind = kind_is _ _ _ _ exprs_placed _ c.expr_kind.ensures Const _ c.eq.ensures c.if-eq.true in
    rw (← name_acts c.args.p.now c.args.r c.requires c.args.count _ kind c.expr.ensures.0) c.of_name.ensures

pub returns : goal.returns
returns c = head_is_none c.args.p.now c.args.r c.requires c.args.count (kind_not _ _ _ _ exprs_placed _ c.expr_kind.ensures Const _ c.eq.ensures c.if-eq.false)
