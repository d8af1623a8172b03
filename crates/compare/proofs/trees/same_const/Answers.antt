use Rattle.std.proofs.Common.{refl}
use Rattle.compare.proofs.EqualLaws.{const_names, const_lists}
use Rattle.compare.proofs.trees.same_const.Goals as goal

pub same_name-requires : goal.same_name-requires
same_name-requires c = const_names _ c.args.pool.now.sound _ _ _ c.requires _ _ c.expr-name_a.ensures.0 c.expr-name_b.ensures.0 refl

pub same_list-requires : goal.same_list-requires
same_list-requires c = const_lists _ c.args.pool.now.sound _ _ _ c.requires _ _ c.expr-list_a.ensures.0 c.expr-list_b.ensures.0 refl
