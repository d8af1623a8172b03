use Rattle.document.proofs.Leaving.{leaves_as, leaves_after}
use native.Mathlib.Omega.{arith}
use Rattle.declarations.proofs.DeclarLaws.{parts_row, chain_after, scope_after, asked-within}
use Rattle.declarations.proofs.declars.def_parts.Goals as goal

pub def_rest-requires : goal.def_rest-requires
def_rest-requires c =
    record {
      r_in_chain = (c.requires.0, c.taken-end.ensures.few);
      row_in_chain = (chain_after c.requires.0 _ _ c.taken-end.ensures.few c.taken-end.ensures.row_low c.taken-end.ensures.tree, c.taken-end.ensures.tree);
    }

pub def_value-requires : goal.def_value-requires
def_value-requires c =
    let fits = scope_after c.requires.0 _ c.taken-end.ensures.few in asked-within c.requires.0 _ _ (omega (arith, fits)) c.taken-end.ensures.value_low

pub returns : goal.returns
returns c =
    let rest = leaves_after c.def_rest.ensures c.put_join.ensures in
    leaves_as (leaves_after (leaves_after rest c.def_value.ensures) c.put_join-2.ensures) (parts_row _ _ _ _ _ _ _ _ _ c.taken-end.ensures)
