use mathlib.Core.Path.{ap, ◌∙◌}
use Rattle.lister_c.specs.Reports.{put_words}
use Rattle.lister_c.proofs.Answers.{compare_answer}
use Rattle.lister_c.proofs.tilusorgu_compare.Goals as goal

pub returns : goal.returns
returns c =
    compare_answer c.args.out.now c.compare-answer.ensures c.number_of.ensures (c.put_words.ensures ∙ ap (put_words c.args.out.now) c.pair_words-words.ensures)
