use Rattle.compare.proofs.levels.+level.Given as goal

abbrev pub decreases-level : goal.decreases-level
decreases-level l = l.a
