use Rattle.pool.specs.Views.{read}
use Rattle.expr_check.proofs.ScanLaws.{right_more, taken_right}
use Rattle.expr_check.proofs.exprs.scan_exprs.Goals as goal

pub loop-r-preserved : goal.loop-r-preserved
loop-r-preserved c =
    let p = read c.args.pool.now in
    right_more p c.args.from c.loop-r.r c.loop-r.invariant
    (taken_right p c.args.marks.now c.loop-r.r _ c.requires c.expr_ok.ensures.marked c.expr_ok.ensures.unmarked c.if-not-expr_ok.false)
