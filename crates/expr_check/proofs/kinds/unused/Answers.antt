use Rattle.expr_check.proofs.Decide.{unused_fold}
use mathlib.Core.Bool.{true}
use mathlib.Core.Path.{◌∙◌}
use Rattle.expr_check.proofs.kinds.unused.Goals as goal

pub returns : goal.returns
returns c = c.are_zero.ensures ∙ unused_fold c.args.words.now true
