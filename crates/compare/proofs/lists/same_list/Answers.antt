use Rattle.compare.proofs.LevelLaws.{one_list, other_lengths, lists_there, lists_are}
use Rattle.compare.proofs.lists.same_list.Goals as goal

pub returns-then-a-b : goal.returns-then-a-b
returns-then-a-b c = one_list _ c.args.pool.now.sound _ _ c.requires.0 c.requires.1 c.if-a-b.true

pub returns-then-size-list : goal.returns-then-size-list
returns-then-size-list c =
    other_lengths _ c.args.pool.now.sound _ _ c.requires.0 c.requires.1 _ _ c.list-size.ensures.0 c.list.ensures.0 c.if-size-list.true

pub same_entries-requires : goal.same_entries-requires
same_entries-requires c =
    lists_there _ c.args.pool.now.sound _ _ c.requires.0 c.requires.1 _ _ c.list-size.ensures.0 c.list.ensures.0 c.if-size-list.false _ _
    c.list-from_a.ensures.0 c.list-from_b.ensures.0

pub returns : goal.returns
returns c =
    lists_are _ c.args.pool.now.sound _ _ c.requires.0 c.requires.1 _ _ c.list-size.ensures.0 c.list.ensures.0 c.if-size-list.false _ _
    c.list-from_a.ensures.0 c.list-from_b.ensures.0 _ c.same_entries.ensures
