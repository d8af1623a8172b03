use Rattle.pool_check.proofs.Verdicts.{refused_here, passed_on}
use Rattle.pool_check.specs.declared.PoolError.TheVariants.{Strings, Rows}
use Rattle.pool_check.specs.Check.{rows_verdict_with}
use Rattle.pool_check.specs.Stages.{words_verdict}
use Rattle.pool_check.proofs.Acceptance.{names_right}
use mathlib.Core.Path.{◌∙◌}
use Rattle.pool_check.proofs.check_rows.Goals as goal

pub returns-in-Some : goal.returns-in-Some
unfolding rows_verdict_with
returns-in-Some c = refused_here _ _ Strings _ _ c.in-Some.ensures

pub returns-in-Some-first_bad_name : goal.returns-in-Some-first_bad_name
unfolding rows_verdict_with
returns-in-Some-first_bad_name c = refused_here _ _ Rows _ _ c.in-Some-first_bad_name.ensures ∙ passed_on _ _ Strings _ c.in_default.ensures

pub check_words-requires-clause-right : goal.check_words-requires-clause-right
check_words-requires-clause-right c = names_right _ c.requires c.in_default.ensures c.in_default-first_bad_name.ensures

pub returns : goal.returns
unfolding rows_verdict_with words_verdict
returns c = c.check_words.ensures ∙ passed_on _ _ Rows _ c.in_default-first_bad_name.ensures ∙ passed_on _ _ Strings _ c.in_default.ensures
