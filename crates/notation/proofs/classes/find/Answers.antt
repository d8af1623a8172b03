use Rattle.pool.specs.Views.{read}
use Rattle.notation.specs.Classes.{slot, Link}
use Rattle.notation.proofs.Classing.{alike_lowest, test_same, test_differs, reached_first, reached_next, reached_end}
use lib.ListN.{length, get_or}
use mathlib.Core.Path.{refl, sym, ap, ◌∙◌, subst}
use Prim.Native.Nat.{ℕ, ◌-◌, ◌%◌, ◌<◌}
use native.Mathlib.Omega.{arith}
use Rattle.notation.proofs.classes.find.Goals as goal

pub loop-at-init : goal.loop-at-init
loop-at-init g c =
    let t = g.C.Classes.table in
    let p = read c.args.pool.now in
    let r = c.requires in
    let size = length c.args.heads.now in
    let chain = slot t p size c.args.r in
    let inside : chain < size = omega arith in
    let own = ap (λ (n : ℕ). get_or c.args.heads.now (n % size) 0) (r.hashed c.args.r (omega arith)) in
    record {
      reached = reached_first t p r.law r.lower.right size chain c.args.r r.lower.row refl _
          (subst (λ (n : ℕ). Link t p size chain c.args.r n) (sym own) (r.chains.last chain inside));
      compared = r.compared;
    }

pub returns-then-alike-clause-class : goal.returns-then-alike-clause-class
returns-then-alike-clause-class g c =
    let tree = g.C.Classes.table.tree (read c.args.pool.now) in
    c.requires.lower.classed (c.loop-at.at - 1) (omega arith)
    ∙ alike_lowest tree _ c.args.r (test_same _ _ _ c.alike.ensures.same c.if-alike.true)

pub loop-at-preserved : goal.loop-at-preserved
loop-at-preserved g c =
    let t = g.C.Classes.table in
    let p = read c.args.pool.now in
    let r = c.requires in
    let size = length c.args.heads.now in
    record {
      reached = reached_next t p r.law r.lower.right size (slot t p size c.args.r) c.args.r r.lower.row refl c.args.heads.now c.args.below.now r.chains
          c.loop-at.at _ c.loop-at-test.true c.loop-at.invariant.reached (test_differs _ _ _ c.alike.ensures.same c.if-alike.false) refl;
      compared = c.alike.ensures.compared;
    }

pub returns-clause-class : goal.returns-clause-class
returns-clause-class g c =
    let t = g.C.Classes.table in
    let r = c.requires in
    let size = length c.args.heads.now in
    reached_end t (read c.args.pool.now) r.law r.lower.right size (slot t (read c.args.pool.now) size c.args.r) c.args.r r.lower.row refl _
    c.loop-at.invariant.reached c.loop-at-test.false
