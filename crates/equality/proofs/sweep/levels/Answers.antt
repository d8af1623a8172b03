use Rattle.std.proofs.Common.{rules, ◌≡◌, true}
use Rattle.std.specs.Prelude.{Some}
use native.Mathlib.Omega.{arith}
use Rattle.pool.specs.Views.{lent}
use Rattle.equality.specs.Sweep.{Owed}
use Rattle.equality.proofs.SweepLaws.{two_down, two_up}
use Rattle.equality.proofs.sweep.levels.Goals as goal

pub loop-c-preserved : goal.loop-c-preserved
loop-c-preserved c =
    let one : c.lifted_rows.result ≡ Some true = search rules in
    let two : c.lifted_rows-in-loop-c.result ≡ Some true = search rules in
    let p = lent c.args.pool.now in
    let inv = c.loop-c.invariant in
    let start = Owed p c.args.d 0 c.args.cur.now c.args.next.now c.args.owed.now in
    record {
      in_range = omega arith;
      down = two_down p c.args.d c.loop-c.c start c.loop-c.cur c.loop-c.next c.loop-c.owed inv.down inv.up _ _ _ _ c.lifted_rows.ensures one _ _ _ _
          c.lifted_rows-in-loop-c.ensures two;
      up = two_up p c.args.d c.loop-c.c start c.loop-c.cur c.loop-c.next c.loop-c.owed inv.down inv.up _ _ _ _ c.lifted_rows.ensures one _ _ _ _
          c.lifted_rows-in-loop-c.ensures two;
      next_clear = c.lifted_rows-in-loop-c.ensures.clear two;
    }
