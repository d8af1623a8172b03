use Rattle.pool.proofs.Unfolds.{depths_more}
use Rattle.pool.specs.Views.{read}
use Rattle.byte_check.proofs.Scan.{found_at, found_none}
use Rattle.pool_check.specs.Depths.{row_ok}
use Rattle.pool_check.proofs.Decide.{row_wrong, row_told}
use borrow.Author.Count.{below_more}
use borrow.Author.Tests.{le-leb, lt-leb}
use lib.ListN.{length}
use Prim.Native.Nat.{◌<◌}
use native.Mathlib.Omega.{arith}
use mathlib.Core.Path.{◌∙◌}
use Rattle.pool_check.proofs.depths.scan.Goals as goal

pub returns-in_default : goal.returns-in_default
returns-in_default g c =
    let t = g.T.Deep.table in
    let p = read c.args.pool.now in
    let told = row_told t p _ _ g.T.Deep.law c.loop-r.invariant _ c.in-Some.ensures in
    found_at (row_ok t p) _ _ (omega arith) c.loop-r.invariant.right (told.0 ∙ lt-leb _ 64 c.if-depth-le-DEEPEST.false)

pub returns-in_default-2 : goal.returns-in_default-2
returns-in_default-2 g c =
    let t = g.T.Deep.table in
    let p = read c.args.pool.now in
    found_at (row_ok t p) _ _ (omega arith) c.loop-r.invariant.right (row_wrong t p _ _ c.in_default.ensures)

pub loop-r-preserved : goal.loop-r-preserved
loop-r-preserved g c =
    let t = g.T.Deep.table in
    let p = read c.args.pool.now in
    let told = row_told t p _ _ g.T.Deep.law c.loop-r.invariant _ c.in-Some.ensures in
    let room : c.loop-r.r < length c.loop-r.depths = omega arith in
    record {
      right = below_more _ _ c.loop-r.invariant.right (told.0 ∙ le-leb _ 64 c.if-depth-le-DEEPEST.true);
      known = depths_more c.loop-r.depths (t.depth p) c.loop-r.r c.in-Some.depth room c.loop-r.invariant.known told.1;
    }

pub returns : goal.returns
returns g c = found_none (row_ok g.T.Deep.table (read c.args.pool.now)) _ (λ k h. c.loop-r.invariant.right k (omega arith))
