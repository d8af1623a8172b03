use Rattle.document.proofs.Leaving.{leaves_as, leaves_after}
use Rattle.utf8.specs.Quoted.{bytes, encode}
use Rattle.pool.specs.Views.{lent}
use Rattle.pool.proofs.RowUnfolds.{entry-fits}
use Rattle.levels.proofs.Universes.{levels_emit}
use native.Mathlib.Omega.{arith}
use Rattle.levels.proofs.levels.pp_levels.Goals as goal

pub pp_level-requires : goal.pp_level-requires
pp_level-requires c = (
  rw c.entry-first.ensures.0 (entry-fits (lent c.args.pool.now) c.args.pool.now.sound c.args.from (omega arith)),
  omega arith,
)

pub returns : goal.returns
unfolding bytes encode
returns c =
    let tiled = leaves_after (leaves_after c.put_word.ensures c.pp_level.ensures) c.put_next_levels.ensures in
    let closed = leaves_after (leaves_after tiled c.put_join.ensures) c.join_word.ensures in
    leaves_as (leaves_after closed c.put_group.ensures)
    (rw c.entry-first.ensures.0 (levels_emit (lent c.args.pool.now) c.args.from c.args.to _ c.requires.0))
