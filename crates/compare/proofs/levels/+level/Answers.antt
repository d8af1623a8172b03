use Rattle.compare.proofs.LevelLaws.{left_open, both_agree}
use Rattle.compare.proofs.levels.+level.Goals as goal

pub returns : goal.returns
returns t c =
    both_agree _ _ _ _ c.requires (left_open _ _ _ c.glance.ensures c.in_default.not-Some) _ _ c.level-first_a.ensures.0 c.level-first_b.ensures.0 _ _ c.level.ensures c.if-not-level.false _ _
    c.level-second_a.ensures.0 c.level-second_b.ensures.0 _ _ c.level-2.ensures c.if-not-level-2.false c.slot-at.result _ _ c.key-key.ensures
    c.keep.ensures
