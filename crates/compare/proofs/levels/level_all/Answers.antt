use Rattle.pool.specs.Views.{lent}
use Rattle.compare.specs.Equal.{EqualLevels}
use Rattle.compare.proofs.SeenLaws.{holds_none}
use Rattle.compare.proofs.levels.level_all.Goals as goal

pub level-requires : goal.level-requires
level-requires c =
    record { a_row = c.requires.0; b_row = c.requires.1; holds = holds_none (EqualLevels (lent c.args.pool.now)) 1024 }
