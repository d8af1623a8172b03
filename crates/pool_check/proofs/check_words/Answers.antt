use Rattle.pool_check.proofs.Verdicts.{refused_here, passed_on, refused_whole, passed_whole}
use Rattle.pool_check.specs.declared.PoolError.TheVariants.{Rows, Notation}
use Rattle.pool_check.specs.Stages.{words_verdict}
use mathlib.Core.Path.{◌∙◌}
use Rattle.pool_check.proofs.check_words.Goals as goal

pub returns-in-Some : goal.returns-in-Some
unfolding words_verdict
returns-in-Some c =
    refused_here _ _ Rows _ _ c.in-Some.ensures

pub returns-in-Some-first_bad_list : goal.returns-in-Some-first_bad_list
unfolding words_verdict
returns-in-Some-first_bad_list c =
    refused_here _ _ Rows _ _ c.in-Some-first_bad_list.ensures
    ∙ passed_on _ _ Rows _ c.in_default.ensures

pub returns-in-Some-first_bad_entry : goal.returns-in-Some-first_bad_entry
unfolding words_verdict
returns-in-Some-first_bad_entry c =
    refused_here _ _ Rows _ _ c.in-Some-first_bad_entry.ensures
    ∙ passed_on _ _ Rows _ c.in_default-first_bad_list.ensures
    ∙ passed_on _ _ Rows _ c.in_default.ensures

pub returns-in-Some-first_bad_expr : goal.returns-in-Some-first_bad_expr
unfolding words_verdict
returns-in-Some-first_bad_expr c =
    refused_here _ _ Rows _ _ c.in-Some-first_bad_expr.ensures
    ∙ passed_on _ _ Rows _ c.in_default-first_bad_entry.ensures
    ∙ passed_on _ _ Rows _ c.in_default-first_bad_list.ensures
    ∙ passed_on _ _ Rows _ c.in_default.ensures

pub returns-in-Some-first_bad_declar : goal.returns-in-Some-first_bad_declar
unfolding words_verdict
returns-in-Some-first_bad_declar c =
    refused_here _ _ Rows _ _ c.in-Some-first_bad_declar.ensures
    ∙ passed_on _ _ Rows _ c.in_default-first_bad_expr.ensures
    ∙ passed_on _ _ Rows _ c.in_default-first_bad_entry.ensures
    ∙ passed_on _ _ Rows _ c.in_default-first_bad_list.ensures
    ∙ passed_on _ _ Rows _ c.in_default.ensures

pub returns-then-not-notation_ok : goal.returns-then-not-notation_ok
unfolding words_verdict
returns-then-not-notation_ok c =
    refused_whole _ _ Notation _ _ c.notation_ok.ensures c.if-not-notation_ok.true
    ∙ passed_on _ _ Rows _ c.in_default-first_bad_declar.ensures
    ∙ passed_on _ _ Rows _ c.in_default-first_bad_expr.ensures
    ∙ passed_on _ _ Rows _ c.in_default-first_bad_entry.ensures
    ∙ passed_on _ _ Rows _ c.in_default-first_bad_list.ensures
    ∙ passed_on _ _ Rows _ c.in_default.ensures

pub returns : goal.returns
unfolding words_verdict
returns c =
    passed_whole _ _ Notation _ _ c.notation_ok.ensures c.if-not-notation_ok.false
    ∙ passed_on _ _ Rows _ c.in_default-first_bad_declar.ensures
    ∙ passed_on _ _ Rows _ c.in_default-first_bad_expr.ensures
    ∙ passed_on _ _ Rows _ c.in_default-first_bad_entry.ensures
    ∙ passed_on _ _ Rows _ c.in_default-first_bad_list.ensures
    ∙ passed_on _ _ Rows _ c.in_default.ensures
