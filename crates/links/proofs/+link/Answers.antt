use Rattle.links.proofs.LinkLaws.{link_again}
use Rattle.links.proofs.+link.Goals as goal

pub returns-else-high-m : goal.returns-else-high-m
returns-else-high-m t c =
    λ e. link_again c.args.owed.now _ c.args.x c.args.y _ _ c.max-high.ensures c.min-low.ensures c.if-owed-high.false c.in-Some.m _ _ c.in-Some.ensures
    c.min.ensures c.owe-in-Some.ensures (c.link.ensures e)
