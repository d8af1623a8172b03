use Prim.Native.Nat.{◌+◌, ◌*◌}
use Rattle.levels.proofs.levels.+levels.Given as goal

abbrev pub decreases-pp_base : goal.decreases-pp_base
decreases-pp_base l = l.r * 4 + 1

abbrev pub decreases-pp_level : goal.decreases-pp_level
decreases-pp_level l = l.r * 4 + 3

abbrev pub decreases-pp_max : goal.decreases-pp_max
decreases-pp_max l = l.r * 4

abbrev pub decreases-put_plus : goal.decreases-put_plus
decreases-put_plus l = l.base * 4 + 2
