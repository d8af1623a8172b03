use Rattle.std.proofs.Common.{refl, sym}
use Rattle.occurrence.proofs.SearchLaws.{told}
use Rattle.compare.proofs.LevelLaws.{list_end, entry_differs, entry_agrees, entries_there}
use Rattle.compare.proofs.lists.try_entries.Goals as goal

pub try_level-requires : goal.try_level-requires
try_level-requires c =
    entries_there _ c.args.pool.now.sound _ _ _ c.loop-i.i _ _ c.requires c.loop-i-test.true c.entry-level_x.ensures.0 c.entry-level_y.ensures.0

pub returns-then-not-branch : goal.returns-then-not-branch
returns-then-not-branch c =
    told _ _
    (entry_differs _ c.args.x c.args.y c.args.n c.loop-i.i _ c.loop-i-test.true _ _ c.entry-level_x.ensures.0 c.entry-level_y.ensures.0 _
    (sym (c.in_ok-try_level.ensures _ refl)) c.loop-i.invariant c.if-not-branch.true)

pub loop-i-preserved : goal.loop-i-preserved
loop-i-preserved c =
    entry_agrees _ c.args.x c.args.y c.args.n c.loop-i.i _ c.loop-i-test.true _ _ c.entry-level_x.ensures.0 c.entry-level_y.ensures.0 _
    (sym (c.in_ok-try_level.ensures _ refl)) c.loop-i.invariant c.if-not-branch.false

pub returns : goal.returns
returns c = told _ _ (list_end _ c.args.x c.args.y c.args.n c.loop-i.i _ c.loop-i-test.false c.loop-i.invariant)
