use Rattle.document.proofs.Leaving.{leaves_as, leaves_after}
use Rattle.declarations.proofs.DeclarLaws.{value_puts}
use Rattle.declarations.proofs.declars.def_value.Goals as goal

pub returns : goal.returns
returns c =
    let grouped = leaves_after (leaves_after c.put_break.ensures c.pp_expr.ensures) c.put_group.ensures in
    leaves_as (leaves_after (leaves_after grouped c.put_join.ensures) c.put_nest.ensures) (value_puts _ _ _ _ _ _)
