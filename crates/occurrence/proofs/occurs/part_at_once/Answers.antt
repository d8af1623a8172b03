use Rattle.std.proofs.Common.{◌∙◌}
use Rattle.occurrence.proofs.SearchLaws.{told, no_part, a_part}
use Rattle.occurrence.proofs.occurs.part_at_once.Goals as goal

pub returns-in-Some : goal.returns-in-Some
returns-in-Some c = λ b q. a_part _ _ c.in-Some.is ∙ c.at_once.ensures.told b q

pub returns-in-None : goal.returns-in-None
returns-in-None c = told _ _ (no_part _ _ c.in-None.is)
