use Rattle.document.proofs.Leaving.{leaves_as, leaves_after}
use Rattle.declarations.proofs.DeclarLaws.{type_puts}
use Rattle.declarations.proofs.declars.pp_type.Goals as goal

pub returns : goal.returns
returns c =
    let grouped = leaves_after (leaves_after c.put_break.ensures c.pp_tail.ensures) c.put_group.ensures in
    leaves_as (leaves_after (leaves_after grouped c.put_join.ensures) c.put_nest.ensures) (type_puts _ _ _ _ _ _)
