use Rattle.binders.proofs.ActingLaws.{nothing_acts, acts_on_one, acts_on_two}
use Rattle.pool.proofs.ExprUnfolds.{app_ok}
use Rattle.pool.proofs.Standing.{exprs_placed, kind_is, kind_not}
use Rattle.pool.specs.declared.kinds.ExprKind.TheVariants.{App}
use Rattle.pool.specs.Tables.{E, expr_word}
use Rattle.binders.specs.Options.{pool_of}
use Rattle.binders.specs.declared.printer.Printer.{Printer}
use Prim.Native.Nat.{ℕ, ◌<◌}
use native.Mathlib.Omega.{arith}
use mathlib.Core.Path.{◌≡◌, sym, ◌∙◌}
use borrow.Author.Tests.{eqb-true}
use Rattle.binders.proofs.operators.acting.Goals as goal

-- an application's function is a row too
below : (q : Printer) (r : ℕ) → r < E (pool_of q).words → expr_word (pool_of q).words r 0 ≡ 3 → (f : ℕ) → f ≡ expr_word (pool_of q).words r 1
    → f < E (pool_of q).words
below q r h e f m = let ok = app_ok (pool_of q) q.pool.sound r h e in omega (arith, ok.0, h, m)

pub returns-then-is_empty : goal.returns-then-is_empty
returns-then-is_empty c = nothing_acts c.args.p.now c.args.r c.requires.0 c.requires.1 (eqb-true _ 0 (sym c.is_empty.ensures ∙ c.if-is_empty.true))

pub acting_on-requires : goal.acting_on-requires
acting_on-requires c =
    let kind = kind_is _ _ _ _ exprs_placed _ c.expr_kind.ensures App _ c.eq.ensures c.if-eq.true in
    below c.args.p.now _ (below c.args.p.now _ c.requires.0 c.requires.1 _ c.expr-function.ensures.0) kind _ c.expr.ensures.0

pub returns-then-eq : goal.returns-then-eq
returns-then-eq c =
    let kind = kind_is _ _ _ _ exprs_placed _ c.expr_kind.ensures App _ c.eq.ensures c.if-eq.true in
    let row = below c.args.p.now _ c.requires.0 c.requires.1 _ c.expr-function.ensures.0 in
    rw (← acts_on_two c.args.p.now c.args.r c.requires.0 c.requires.1 _ _ row c.expr-function.ensures.0 kind c.expr.ensures.0) c.acting_on.ensures

pub acting_on-requires-2 : goal.acting_on-requires-2
acting_on-requires-2 c = below c.args.p.now _ c.requires.0 c.requires.1 _ c.expr-function.ensures.0

pub returns : goal.returns
returns c =
    let other = kind_not _ _ _ _ exprs_placed _ c.expr_kind.ensures App _ c.eq.ensures c.if-eq.false in
    let row = below c.args.p.now _ c.requires.0 c.requires.1 _ c.expr-function.ensures.0 in
    rw (← acts_on_one c.args.p.now c.args.r c.requires.0 c.requires.1 _ row c.expr-function.ensures.0 other) c.acting_on-2.ensures
