use Rattle.pool.specs.Views.{lent}
use Rattle.pool.specs.declared.kinds.LevelKind.TheVariants.{Succ}
use Rattle.pool.proofs.Standing.{level_is}
use Rattle.pool.proofs.RowUnfolds.{level_row}
use Rattle.levels.proofs.Universes.{succ_below, succ_on}
use native.Mathlib.Omega.{arith}
use Prim.Native.Nat.{◌<◌}
use Rattle.levels.proofs.levels.level_succs.Goals as goal

pub loop-at-smaller : goal.loop-at-smaller
loop-at-smaller c =
    let p = lent c.args.pool.now in
    let row = level_row p c.args.pool.now.sound c.loop-at.at c.loop-at.invariant.0 in
    let kind = level_is _ _ c.level_kind.ensures Succ _ c.eq.ensures c.loop-at-test.true in
    rw c.level-at.ensures.0 (succ_below p c.loop-at.at row kind)

pub loop-at-preserved : goal.loop-at-preserved
loop-at-preserved c =
    let p = lent c.args.pool.now in
    let row = level_row p c.args.pool.now.sound c.loop-at.at c.loop-at.invariant.0 in
    let kind = level_is _ _ c.level_kind.ensures Succ _ c.eq.ensures c.loop-at-test.true in
    let next : c.level-at.result < c.loop-at.at = rw c.level-at.ensures.0 (succ_below p c.loop-at.at row kind) in (
      omega (arith, c.loop-at.invariant.0),
      omega (arith, c.loop-at.invariant.1),
      rw (c.level-at.ensures.0, succ_on p c.loop-at.at row kind c.loop-at.n) c.loop-at.invariant.2,
    )
