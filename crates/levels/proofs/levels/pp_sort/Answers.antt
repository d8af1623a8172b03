use Rattle.document.proofs.Leaving.{leaves_as}
use Rattle.pool.specs.Views.{lent}
use Rattle.pool.specs.declared.kinds.LevelKind.TheVariants.{Zero, Succ}
use Rattle.pool.proofs.Standing.{level_is, level_not}
use Rattle.pool.proofs.RowUnfolds.{level_row}
use Rattle.levels.proofs.Universes.{succ_below, sort_prop, sort_type, sort_sort}
use Rattle.document.specs.Sink.{emit}
use Rattle.pieces.specs.Docs.{quoted}
use Rattle.utf8.specs.Quoted.{bytes, encode}
use Prim.Native.Nat.{◌<◌}
use native.Mathlib.Omega.{arith}
use Rattle.levels.proofs.levels.pp_sort.Goals as goal

pub returns-then-eq : goal.returns-then-eq
unfolding emit quoted bytes encode
returns-then-eq c =
    let row = level_row _ c.args.pool.now.sound _ c.requires in
    leaves_as c.put_word.ensures
    (sort_prop (lent c.args.pool.now) c.args.r row (level_is _ _ c.level_kind-kind.ensures Zero _ c.eq.ensures c.if-eq.true) _)

pub put_sort-requires : goal.put_sort-requires
put_sort-requires c =
    let row = level_row _ c.args.pool.now.sound _ c.requires in
    let succ = level_is _ _ c.level_kind-kind.ensures Succ _ c.eq-2.ensures c.if-eq-2.true in
    let b : c.level-below.result < c.args.r = rw c.level-below.ensures.0 (succ_below (lent c.args.pool.now) c.args.r row succ) in
    omega (arith, c.requires)

pub returns-then-eq-2 : goal.returns-then-eq-2
unfolding emit quoted bytes encode
returns-then-eq-2 c =
    let row = level_row _ c.args.pool.now.sound _ c.requires in
    let succ = level_is _ _ c.level_kind-kind.ensures Succ _ c.eq-2.ensures c.if-eq-2.true in
    leaves_as c.put_sort.ensures (rw c.level-below.ensures.0 (sort_type (lent c.args.pool.now) c.args.r row succ _))

pub returns : goal.returns
unfolding emit quoted bytes encode
returns c =
    let row = level_row _ c.args.pool.now.sound _ c.requires in
    let zero = level_not _ _ c.level_kind-kind.ensures Zero _ c.eq.ensures c.if-eq.false in
    let succ = level_not _ _ c.level_kind-kind.ensures Succ _ c.eq-2.ensures c.if-eq-2.false in
    leaves_as c.put_sort-2.ensures (sort_sort (lent c.args.pool.now) c.args.r row zero succ _)
