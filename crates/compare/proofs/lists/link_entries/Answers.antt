use Rattle.compare.proofs.ListLaws.{lists_more}
use Rattle.compare.proofs.lists.link_entries.Goals as goal

pub loop-i-preserved : goal.loop-i-preserved
loop-i-preserved c =
    lists_more c.args.pool.now.words.words.now c.args.owed.now c.loop-i.owed _ c.args.x c.args.y c.loop-i.i _ _ c.loop-i.invariant
    c.entry-level_x.ensures.0 c.entry-level_y.ensures.0 (c.link.ensures c.if-not-link.false)
