use Rattle.byte_check.proofs.Scan.{found_at, found_none}
use Rattle.pool.specs.Rules.{expr_ok}
use Rattle.pool.specs.Views.{read}
use mathlib.Core.Path.{◌∙◌}
use native.Mathlib.Omega.{arith}
use Rattle.expr_check.proofs.exprs.first_bad_expr.Goals as goal

pub returns-in_err-first : goal.returns-in_err-first
returns-in_err-first c =
    let all = c.in_err-first.ensures in
    c.from_residual.ensures ∙ found_none (expr_ok (read c.args.pool.now)) _ (λ k h. all k (omega arith) h)

-- another kind
pub returns-in_default : goal.returns-in_default
returns-in_default c =
    let here = c.in_ok-first.ensures in
    let bad = here.2 (λ e. absurd (grind arith)) in
    found_at (expr_ok (read c.args.pool.now)) _ _ here.1 (λ k h. here.3 k (omega arith) h) bad

-- no kind
pub returns-in_default-2 : goal.returns-in_default-2
returns-in_default-2 c =
    let here = c.in_ok-first.ensures in
    let past = rw c.in_default.is at c.expr_kind.ensures in
    let bad = here.2 (λ e. absurd (omega arith)) in
    found_at (expr_ok (read c.args.pool.now)) _ _ here.1 (λ k h. here.3 k (omega arith) h) bad
