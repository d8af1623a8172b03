use Rattle.pool.specs.Views.{read}
use Rattle.pool.specs.Notation.{notation_ok}
use Rattle.notation.proofs.Owning.{found_bad, found_right, name_row, class_owned, owned_more, row_right, row_wrong}
use lib.ListN.{get_or}
use Prim.Native.Nat.{ℕ}
use native.Mathlib.Omega.{arith}
use mathlib.Core.Path.{sym, ap, ◌∙◌}
use Rattle.notation.proofs.operators.owners_of.Goals as goal

pub bounds-classes-notation : goal.bounds-classes-notation
bounds-classes-notation c =
    let p = read c.args.pool.now in
    let row = name_row p c.requires.fields c.args.classes.now c.requires.classes c.loop-r.r (omega arith) in
    omega arith

pub bounds-owners-class : goal.bounds-owners-class
bounds-owners-class c =
    let p = read c.args.pool.now in
    let own = ap (λ (r : ℕ). get_or c.args.classes.now r 0) c.notation.ensures.0 in
    let class = class_owned p c.requires.fields c.args.classes.now c.requires.classes c.loop-r.r (omega arith) in
    omega arith

pub bounds-owners-class-in-loop-r : goal.bounds-owners-class-in-loop-r
bounds-owners-class-in-loop-r c =
    let p = read c.args.pool.now in
    let own = ap (λ (r : ℕ). get_or c.args.classes.now r 0) c.notation.ensures.0 in
    let class = class_owned p c.requires.fields c.args.classes.now c.requires.classes c.loop-r.r (omega arith) in
    omega arith

pub returns-then-owners-class-ne0-clause-once : goal.returns-then-owners-class-ne0-clause-once
returns-then-owners-class-ne0-clause-once c =
    let p = read c.args.pool.now in
    let own = ap (λ (r : ℕ). get_or c.loop-r.owners (get_or c.args.classes.now r 0) 0) c.notation.ensures.0 in
    let wrong = row_wrong p c.requires.fields c.args.classes.now c.requires.classes c.loop-r.owners c.loop-r.r (omega arith) c.loop-r.invariant (omega arith)
    (λ e. c.if-owners-class-ne0.true (own ∙ e)) in
    sym (found_bad (notation_ok p) _ c.loop-r.r (omega arith) wrong)

pub loop-r-preserved : goal.loop-r-preserved
loop-r-preserved c =
    let p = read c.args.pool.now in
    let own = ap (λ (r : ℕ). get_or c.args.classes.now r 0) c.notation.ensures.0 in
    let class = class_owned p c.requires.fields c.args.classes.now c.requires.classes c.loop-r.r (omega arith) in
    owned_more p c.args.classes.now c.loop-r.owners c.loop-r.r _ own (omega arith) c.if-owners-class-ne0.false c.loop-r.invariant

pub returns-clause-once : goal.returns-clause-once
returns-clause-once c =
    let p = read c.args.pool.now in
    found_right (notation_ok p) _
    (λ k l. row_right p c.requires.fields c.args.classes.now c.requires.classes c.loop-r.owners c.loop-r.r (omega arith) c.loop-r.invariant k (omega arith))
