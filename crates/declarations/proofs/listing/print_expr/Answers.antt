use Rattle.document.proofs.Leaving.{leaves_as, leaves_after}
use Rattle.declarations.proofs.DeclarLaws.{expr_lists}
use Rattle.declarations.proofs.listing.print_expr.Goals as goal

pub returns : goal.returns
returns c = leaves_as (leaves_after c.pp_expr.ensures c.put_group.ensures) (expr_lists _ _ _ _ _ c.empty.ensures.1)
