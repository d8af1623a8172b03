use Rattle.compare.proofs.EqualLaws.{agree_not, agree_open}
use Rattle.compare.proofs.LevelLaws.{no_answer}
use Rattle.std.proofs.Common.{refl}
use Rattle.compare.proofs.trees.agree.Goals as goal

pub returns-then-same_fields : goal.returns-then-same_fields
returns-then-same_fields c =
    agree_open _ c.args.pool.now.sound _ _ _ _ c.requires.0 c.requires.1 _ c.glance-quick.ensures
    (no_answer _ _ c.is_some.ensures c.if-is_some.false) _ refl _ c.same_fields.ensures
    c.if-same_fields.true

pub returns-else-same_fields : goal.returns-else-same_fields
returns-else-same_fields c =
    agree_not _ c.args.pool.now.sound _ _ _ _ c.requires.0 c.requires.1 _ c.glance-quick.ensures
    (no_answer _ _ c.is_some.ensures c.if-is_some.false) _ refl _ c.same_fields.ensures
    c.if-same_fields.false
