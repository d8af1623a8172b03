use Rattle.pool.specs.Views.{read}
use Rattle.notation.proofs.Classing.{hashes_differ}
use Prim.Native.Nat.{◌<◌}
use native.Mathlib.Omega.{arith}
use Rattle.notation.proofs.classes.alike.Goals as goal

pub returns-then-hashes-c-clause-same : goal.returns-then-hashes-c-clause-same
returns-then-hashes-c-clause-same g c =
    let r = c.requires in
    let t = g.C.Classes.table in
    let p = read c.args.pool.now in
    let row : c.args.r < t.count p = r.lower.row in
    let lower : c.args.c < t.count p = omega (arith, row, r.below) in
    let hash = r.hashed c.args.c (omega (arith, r.below)) in
    let own = r.hashed c.args.r (omega arith) in
    hashes_differ t p r.law r.lower.right c.args.c c.args.r _ _ lower row hash own c.if-hashes-c.true
