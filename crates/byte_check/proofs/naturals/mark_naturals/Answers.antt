use Rattle.pool.proofs.Unfolds.{depths_more}
use Rattle.pool.specs.Views.{read}
use Rattle.byte_check.proofs.NaturalLaws.{mark_of}
use Rattle.byte_check.specs.Runs.{mark}
use lib.ListN.{length}
use Prim.Native.Nat.{◌<◌}
use native.Mathlib.Omega.{arith}
use Rattle.byte_check.proofs.naturals.mark_naturals.Goals as goal

pub loop-r-preserved : goal.loop-r-preserved
loop-r-preserved c =
    let room : c.loop-r.r < length c.loop-r.marks = omega arith in
    let here = mark_of (read c.args.pool.now) c.loop-r.r c.min-from.result c.string_end.result c.min-to.result c.from.result
    (rw (c.min-from.ensures, c.string.ensures.0)) c.string_end.ensures.0 c.min-to.ensures (rw (c.from.ensures, c.is_natural.ensures)) in
    (c.run_at-run.ensures.run_of, depths_more c.loop-r.marks (mark (read c.args.pool.now)) c.loop-r.r c.from.result room c.loop-r.invariant.1 here)
