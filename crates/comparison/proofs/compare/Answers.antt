use native.Mathlib.Omega.{arith}
use mathlib.Core.Path.{◌≡◌, sym, ap, ◌∙◌}
use Rattle.pool.specs.Tables.{Pool, E}
use Rattle.pool_check.proofs.Verdicts.{err_is}
use Rattle.comparison.proofs.CallLaws.{first_missing, second_missing, pool_refused, row_missing, rows_differ, rows_equal}
use Rattle.comparison.proofs.compare.Goals.{then-exprs-first-via-then-exprs-first, then-exprs-first-via-else-exprs-first+then-exprs-second}
use Rattle.comparison.proofs.compare.Goals as goal

pub returns-in_err-pool : goal.returns-in_err-pool
returns-in_err-pool c = err_is _ _ c.from_residual.ensures.1 ∙ pool_refused _ _ _ _ _ (sym c.in_err-pool.ensures.verdict)

pub returns-then-exprs-first : goal.returns-then-exprs-first
returns-then-exprs-first c =
    let here : c.in_ok-pool.pool.words.tables.exprs ≡ E c.args.words.now = c.in_ok-pool.pool.words.found.exprs ∙ ap (λ (q : Pool). E q.words) c.in_ok-pool.ensures.same in
    row_missing _ _ _ _ (sym c.in_ok-pool.ensures.verdict)
    (elim c.then-exprs-first.branch [
      | then-exprs-first-via-then-exprs-first w ↦ first_missing c.args.first c.args.second (E c.args.words.now) (omega (arith, here, w.if-exprs-first))
      | then-exprs-first-via-else-exprs-first+then-exprs-second w ↦ second_missing c.args.first c.args.second (E c.args.words.now) (omega (arith, here, w.if-exprs-second))
    ])

pub returns-in-Differ : goal.returns-in-Differ
returns-in-Differ c =
    let exprs = c.in_ok-pool.pool.words.found.exprs in
    rows_differ _ _ _ _ (sym c.in_ok-pool.ensures.verdict) _ c.in_ok-pool.ensures.same (omega (arith, exprs, c.if-exprs-first.false)) (omega
    (arith, exprs, c.if-exprs-second.false)) _ c.compare.ensures _ _ c.in-Differ.is

pub returns-in_default : goal.returns-in_default
returns-in_default c =
    let exprs = c.in_ok-pool.pool.words.found.exprs in
    rows_equal _ _ _ _ (sym c.in_ok-pool.ensures.verdict) _ c.in_ok-pool.ensures.same (omega (arith, exprs, c.if-exprs-first.false)) (omega
    (arith, exprs, c.if-exprs-second.false)) _ c.compare.ensures c.in_default.not-Differ
