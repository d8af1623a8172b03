use Rattle.pool.specs.Views.{read}
use Rattle.pool.proofs.Unfolds.{depths_more}
use Rattle.notation.specs.Classes.{lowest, kept_hash}
use Rattle.notation.proofs.Classing.{lowest_is, chains_begin, chains_more}
use Prim.Native.Nat.{ℕ, ◌%◌, ◌<◌}
use lib.ListN.{length}
use mathlib.Core.Path.{ap}
use native.Mathlib.Omega.{arith}
use Rattle.notation.proofs.classes.classify_by.Goals as goal

pub overflow_cast-classes : goal.overflow_cast-classes
overflow_cast-classes g c =
    let low = (lowest_is (g.C.Classes.table.tree (read c.args.pool.now)) c.loop-r.r).low in
    omega (arith, c.find-class.ensures.class, low)

pub loop-r-init : goal.loop-r-init
loop-r-init g c =
    let t = g.C.Classes.table in
    let p = read c.args.pool.now in
    record {
      chains = chains_begin t p c.args.heads.now c.args.below.now c.requires.empty;
      hashed = λ k l. absurd (omega arith);
      classed = λ k l. absurd (omega arith);
      compared = c.nothing-compared.ensures p.bytes;
    }

pub find-class-requires-clause-hashed : goal.find-class-requires-clause-hashed
find-class-requires-clause-hashed g c =
    let t = g.C.Classes.table in
    let p = read c.args.pool.now in
    depths_more c.loop-r.hashes (kept_hash t p) c.loop-r.r _ (omega arith) c.loop-r.invariant.hashed (ap (λ (n : ℕ). n % 4294967296) c.hash-hash.ensures)

pub loop-r-preserved : goal.loop-r-preserved
loop-r-preserved g c =
    let t = g.C.Classes.table in
    let p = read c.args.pool.now in
    let heads : c.loop-r.r < length c.loop-r.heads = omega arith in
    let below : c.loop-r.r < length c.loop-r.below = omega arith in
    let classes : c.loop-r.r < length c.loop-r.classes = omega arith in
    let hash = ap (λ (n : ℕ). n % 4294967296) c.hash-hash.ensures in
    let inside : c.hash-hash.result % 4294967296 % length c.loop-r.heads < length c.loop-r.heads = omega arith in
    record {
      chains = chains_more t p c.loop-r.heads c.loop-r.below _ c.loop-r.r (ap (λ (n : ℕ). n % length c.loop-r.heads) hash) inside below c.loop-r.invariant.chains;
      hashed = depths_more c.loop-r.hashes (kept_hash t p) c.loop-r.r _ (omega arith) c.loop-r.invariant.hashed hash;
      classed = depths_more c.loop-r.classes (lowest (t.tree p)) c.loop-r.r c.find-class.result classes c.loop-r.invariant.classed c.find-class.ensures.class;
      compared = c.find-class.ensures.compared;
    }
