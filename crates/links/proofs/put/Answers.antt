use Rattle.links.proofs.LinkLaws.{put_again}
use Rattle.links.proofs.put.Goals as goal

pub returns-in-Some : goal.returns-in-Some
returns-in-Some c =
    λ e. put_again c.args.array.now _ c.args.x c.args.y c.if-array-x.false c.in-Some.m _ c.in-Some.ensures (c.link.ensures e)
