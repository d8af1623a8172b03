use Rattle.links.proofs.LinkLaws.{zeros_clear}
use Rattle.compare.proofs.ListLaws.{told_lists}
use Rattle.compare.proofs.lists.pass_entries.Goals as goal

pub returns : goal.returns
returns g c =
    told_lists _ c.args.x c.args.y c.args.n _ _ _ (zeros_clear _) (c.link_entries.ensures c.if-not-link_entries.false) c.level_rows.ensures
