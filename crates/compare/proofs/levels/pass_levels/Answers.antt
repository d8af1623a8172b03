use Rattle.links.proofs.LinkLaws.{zeros_clear}
use Rattle.compare.proofs.LevelLaws.{told_pass}
use Rattle.compare.proofs.levels.pass_levels.Goals as goal

pub returns : goal.returns
returns g c = told_pass _ c.args.a c.args.b _ _ _ (zeros_clear _) (c.link.ensures c.if-not-link.false) c.level_rows.ensures
