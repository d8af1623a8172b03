use Rattle.lister_c.proofs.Answers.{layout_answer}
use Rattle.lister_c.specs.Reports.{of_laid}
use Rattle.lister_c.proofs.tilusorgu_layout.Goals as goal

pub returns : goal.returns
unfolding of_laid
returns c = layout_answer c.args.out.now c.layout.ensures c.put_report.ensures.number c.put_report.ensures.words
