use Rattle.compare.proofs.LevelLaws.{list_end, entry_differs, entry_agrees, entries_there}
use Rattle.compare.proofs.lists.levels.Goals as goal

pub same_level-requires : goal.same_level-requires
same_level-requires c =
    entries_there _ c.args.pool.now.sound _ _ _ c.loop-i.i _ _ c.requires c.loop-i-test.true c.entry-level_x.ensures.0 c.entry-level_y.ensures.0

pub returns-then-not-same_level : goal.returns-then-not-same_level
returns-then-not-same_level c =
    entry_differs _ c.args.x c.args.y c.args.n c.loop-i.i _ c.loop-i-test.true _ _ c.entry-level_x.ensures.0 c.entry-level_y.ensures.0 _
    c.same_level.ensures c.loop-i.invariant c.if-not-same_level.true

pub loop-i-preserved : goal.loop-i-preserved
loop-i-preserved c =
    entry_agrees _ c.args.x c.args.y c.args.n c.loop-i.i _ c.loop-i-test.true _ _ c.entry-level_x.ensures.0 c.entry-level_y.ensures.0 _
    c.same_level.ensures c.loop-i.invariant c.if-not-same_level.false

pub returns : goal.returns
returns c = list_end _ c.args.x c.args.y c.args.n c.loop-i.i _ c.loop-i-test.false c.loop-i.invariant
