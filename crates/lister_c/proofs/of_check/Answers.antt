use Rattle.lister_c.proofs.Answers.{accepted_report, refused_report}
use Rattle.lister_c.proofs.of_check.Goals as goal

pub returns-in-Ok : goal.returns-in-Ok
returns-in-Ok c = accepted_report _ _ _ c.in-Ok.ensures.verdict c.done.ensures c.no_counts.ensures

pub returns-in-Err : goal.returns-in-Err
returns-in-Err c = refused_report _ _ _ c.in-Err.ensures.verdict c.refused.ensures
