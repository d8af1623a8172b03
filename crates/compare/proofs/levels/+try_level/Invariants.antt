use Rattle.compare.proofs.levels.+try_level.Given as goal

abbrev pub decreases-try_level : goal.decreases-try_level
decreases-try_level l = l.a
