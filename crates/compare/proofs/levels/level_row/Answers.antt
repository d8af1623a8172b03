use Rattle.pool.specs.Views.{lent}
use Rattle.compare.specs.Equal.{level_shape_at, Branches}
use Rattle.links.proofs.LinkLaws.{step_quick, step_links}
use Rattle.compare.proofs.LevelLaws.{no_answer, no_glance, a_glance, from_both, to_both}
use Rattle.compare.proofs.levels.level_row.Goals as goal

pub returns-then-is_some : goal.returns-then-is_some
returns-then-is_some c =
    let p = lent c.args.pool.now in
    step_quick (level_shape_at p) _ _ _ _ c.in-Some.ensures.0 c.in-Some.ensures.1 _ (no_glance p _ _ _ c.glance-quick.ensures)
    (a_glance p _ _ _ c.glance-quick.ensures)

pub returns : goal.returns
returns c =
    let p = lent c.args.pool.now in
    let parts : Branches p _ _ = c.glance-quick.ensures.left (no_answer _ _ c.is_some.ensures c.if-is_some.false) in
    step_links (level_shape_at p) _ _ _ _ c.in-Some.ensures.0 c.in-Some.ensures.1 _ _ _ _ _ _ (c.link.ensures c.if-not-link.false)
    (c.link-2.ensures c.if-not-link-2.false) (from_both p _ _ parts _ _ _ _ c.level-first.ensures.0 c.level.ensures.0 c.level-second.ensures.0 c.level-2.ensures.0)
    (to_both p _ _ parts _ _ _ _ c.level-first.ensures.0 c.level.ensures.0 c.level-second.ensures.0 c.level-2.ensures.0)
