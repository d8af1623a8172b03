use Rattle.compare.proofs.EqualLaws.{literal_strings}
use Rattle.compare.proofs.trees.same_literal.Goals as goal

pub same_string-requires : goal.same_string-requires
same_string-requires c =
    literal_strings _ c.args.pool.now.sound _ _ _ c.requires.0 _ _ c.expr-string_a.ensures.0 c.expr-string_b.ensures.0 c.requires.1
