use Rattle.lister_c.proofs.Answers.{layout_pending_answer}
use Rattle.lister_c.specs.Reports.{of_laid_pending}
use Rattle.lister_c.proofs.tilusorgu_layout_pending.Goals as goal

pub returns : goal.returns
unfolding of_laid_pending
returns c = layout_pending_answer c.args.out.now c.layout_pending.ensures c.put_report.ensures.number c.put_report.ensures.words
