use Rattle.compare.proofs.EqualLaws.{named_names}
use Rattle.compare.proofs.trees.same_named.Goals as goal

pub same_name-requires : goal.same_name-requires
same_name-requires c =
    named_names _ c.args.pool.now.sound _ _ _ c.requires.0 _ _ c.expr-name_a.ensures.0 c.expr-name_b.ensures.0 c.requires.1 c.requires.2
