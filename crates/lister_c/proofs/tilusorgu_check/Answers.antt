use Rattle.lister_c.proofs.Answers.{check_answer}
use Rattle.lister_c.proofs.tilusorgu_check.Goals as goal

pub returns : goal.returns
returns c = check_answer _ c.args.out.now c.of_check-report.ensures c.fill.ensures
