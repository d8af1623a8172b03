use Rattle.links.specs.Links.{Stepped}
use Rattle.links.proofs.LinkLaws.{no_step}
use Rattle.equality.proofs.SweepLaws.{where_room, plain_quick, plain_parts}
use Rattle.equality.proofs.sweep.plain_row.Goals as goal

pub returns-in_default-agree : goal.returns-in_default-agree
returns-in_default-agree c = plain_quick _ _ _ _ c.take.ensures.1 _ c.in-Some.ensures.0 _ c.agree.ensures

pub returns-in-None : goal.returns-in-None
returns-in-None c =
    where_room (Stepped _ _ _) _ _ c.then_some.ensures (no_step _ _ _) (λ room.
    plain_parts _ _ _ _ c.take.ensures.1 _ c.in-Some.ensures.0 _ c.agree.ensures c.in-None.is _ (c.link_parts.ensures room))
