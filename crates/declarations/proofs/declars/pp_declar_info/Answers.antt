use Rattle.document.proofs.Leaving.{leaves_as, leaves_after}
use Rattle.declarations.specs.Declars.{info}
use Rattle.document.specs.Sink.{emit}
use native.Mathlib.Omega.{arith}
use Rattle.declarations.proofs.DeclarLaws.{declared_row}
use Rattle.declarations.proofs.declars.pp_declar_info.Goals as goal

pub pp_name_safe-requires : goal.pp_name_safe-requires
pp_name_safe-requires c = let row = declared_row c.args.p.now.pool.sound c.requires in omega (arith, row.name, c.declar-name.ensures.0)

pub pp_uparams-requires : goal.pp_uparams-requires
pp_uparams-requires c = let row = declared_row c.args.p.now.pool.sound c.requires in omega (arith, row.list, c.declar-list.ensures.0)

pub returns : goal.returns
unfolding info emit
returns c =
    leaves_as (leaves_after (leaves_after c.pp_name_safe.ensures c.pp_uparams.ensures) c.put_join.ensures)
    (rw (c.declar-list.ensures.0, c.declar-name.ensures.0))
