use Rattle.pool_check.proofs.Verdicts.{verdict_words, verdict_limit, verdict_rows, err_is}
use Rattle.pool_check.proofs.Acceptance.{rows_accepted}
use Rattle.pool_check.specs.Stages.{as_verdict}
use Rattle.pool.specs.Views.{read}
use mathlib.Core.Path.{sym, ap, ◌∙◌}
use Rattle.pool_check.proofs.check.Goals as goal

pub returns-then-not-words_ok-clause-verdict : goal.returns-then-not-words_ok-clause-verdict
returns-then-not-words_ok-clause-verdict c = verdict_words _ _ _ c.of-pool.ensures _ c.words_ok.ensures c.if-not-words_ok.true

pub returns-then-not-limits_ok-clause-verdict : goal.returns-then-not-limits_ok-clause-verdict
returns-then-not-limits_ok-clause-verdict c =
    verdict_limit _ _ _ c.of-pool.ensures _ c.words_ok.ensures c.if-not-words_ok.false _ c.limits_ok.ensures c.if-not-limits_ok.true

pub invariant_of-result : goal.invariant_of-result
invariant_of-result c =
    record { sound = rows_accepted (read c.of-pool.result) (sym c.check_rows.ensures ∙ c.in_ok-check_rows.was) }

pub returns-in_err-check_rows-clause-verdict : goal.returns-in_err-check_rows-clause-verdict
returns-in_err-check_rows-clause-verdict c =
    ap as_verdict (err_is c.from_residual.result _ c.from_residual.ensures.1) ∙ sym c.in_err-check_rows.was ∙ c.check_rows.ensures
    ∙ verdict_rows _ _ _ c.of-pool.ensures _ c.words_ok.ensures c.if-not-words_ok.false _ c.limits_ok.ensures c.if-not-limits_ok.false

pub returns-clause-verdict : goal.returns-clause-verdict
returns-clause-verdict c =
    sym c.in_ok-check_rows.was ∙ c.check_rows.ensures
    ∙ verdict_rows _ _ _ c.of-pool.ensures _ c.words_ok.ensures c.if-not-words_ok.false _ c.limits_ok.ensures c.if-not-limits_ok.false
