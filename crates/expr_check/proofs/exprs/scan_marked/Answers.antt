use Rattle.pool.specs.Views.{read}
use Rattle.expr_check.proofs.ScanLaws.{scanned_found}
use Rattle.expr_check.proofs.exprs.scan_marked.Goals as goal

pub returns : goal.returns
returns g c = scanned_found (read c.args.pool.now) _ _ _ c.requires.before c.mark_naturals.ensures c.scan_exprs.ensures
