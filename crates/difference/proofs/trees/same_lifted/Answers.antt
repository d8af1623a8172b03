use Rattle.std.proofs.Common.{rules}
use Rattle.difference.proofs.CompareLaws.{compare_is}
use Rattle.difference.proofs.trees.same_lifted.Goals as goal

pub returns : goal.returns
returns c =
    compare_is _ _ _ _ c.args.pool.now.sound c.requires.0 c.requires.1 _ c.compare.ensures _ (λ e. search rules) (λ n. search rules)
