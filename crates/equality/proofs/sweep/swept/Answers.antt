use Rattle.std.proofs.Common.{◌≡◌, true, false}
use mathlib.Core.Path.{sym, ap, ◌∙◌}
use Rattle.std.specs.Prelude.{Some}
use Rattle.pool.specs.Views.{lent}
use Rattle.equality.proofs.SweepLaws.{told_swept, told_stopped}
use Rattle.equality.proofs.sweep.swept.Goals as goal

pub returns-then-not-branch : goal.returns-then-not-branch
returns-then-not-branch c =
    let e : c.levels.result ≡ Some false = c.in_ok-levels.was ∙ ap Some c.if-not-branch.true in
    let other : c.levels.result ≡ Some true → ⊥ = λ z. let f : Some false ≡ Some true = sym e ∙ z in cc in
    λ b q.
    told_stopped (lent c.args.pool.now) c.args.d c.args.a c.args.b c.args.cur.now c.args.next.now c.args.owed.now _ _
    c.requires.2 c.requires.3 c.requires.4 (c.put.ensures c.if-not-put.false) _ _ c.levels.ensures other b (e ∙ q)

pub returns : goal.returns
returns c =
    let one : c.levels.result ≡ Some true = c.in_ok-levels.was ∙ ap Some c.if-not-branch.false in
    told_swept (lent c.args.pool.now) c.args.d c.args.a c.args.b c.args.cur.now c.args.next.now c.args.owed.now _ _ _
    c.requires.2 c.requires.3 c.requires.4 (c.put.ensures c.if-not-put.false) _ _ one c.plain_rows.ensures c.levels.ensures
