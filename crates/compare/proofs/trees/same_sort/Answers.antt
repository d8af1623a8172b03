use Rattle.std.proofs.Common.{refl}
use Rattle.compare.proofs.EqualLaws.{sort_levels}
use Rattle.compare.proofs.trees.same_sort.Goals as goal

pub same_level-requires : goal.same_level-requires
same_level-requires c = sort_levels _ c.args.pool.now.sound _ _ _ c.requires _ _ c.expr-level_a.ensures.0 c.expr-level_b.ensures.0 refl
