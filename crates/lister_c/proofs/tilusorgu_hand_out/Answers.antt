use Rattle.lister_c.proofs.Answers.{hand_out_answer}
use Rattle.lister_c.proofs.tilusorgu_hand_out.Goals as goal

pub returns : goal.returns
returns c = hand_out_answer c.args.out.now c.kind_span-part.ensures c.put_words.ensures
