use Rattle.lister_c.proofs.Answers.{print_answer}
use Rattle.lister_c.specs.Reports.{of_answer}
use Rattle.lister_c.proofs.print_root.Goals as goal

pub returns : goal.returns
unfolding of_answer
returns c = print_answer c.args.out.now c.print-answer.ensures c.put_report.ensures.number c.put_report.ensures.words
