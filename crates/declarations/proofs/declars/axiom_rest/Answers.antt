use Rattle.document.proofs.Leaving.{leaves_as, leaves_after}
use Rattle.declarations.proofs.DeclarLaws.{axiom_rest_lem}
use Rattle.declarations.proofs.declars.axiom_rest.Goals as goal

pub returns : goal.returns
returns c =
    let typed = leaves_after (leaves_after c.axiom_start.ensures c.join_line.ensures) c.pp_tail.ensures in
    let grouped = leaves_after (leaves_after (leaves_after typed c.put_group.ensures) c.put_join.ensures) c.put_group-2.ensures in
    leaves_as (leaves_after grouped c.put_nest.ensures)
    (axiom_rest_lem _ _ _ _ _ _ _ c.requires.r_in_chain.1 c.requires.row_in_chain.1)
