use Rattle.equality.specs.Sweep.{Moved}
use Rattle.equality.proofs.SweepLaws.{where_room, unknown, row_quick, row_parts}
use Rattle.equality.proofs.sweep.lifted_row.Goals as goal

pub returns-in_default-agree : goal.returns-in_default-agree
returns-in_default-agree c = row_quick _ _ _ _ _ _ _ _ c.take.ensures.1 _ c.in-Some.ensures.0 _ c.agree.ensures

pub returns-in-None : goal.returns-in-None
returns-in-None c =
    where_room (Moved _ _) _ _ c.then_some.ensures (unknown _ _) (λ room.
    row_parts _ _ _ _ _ _ _ _ c.take.ensures.1 _ c.in-Some.ensures.0 _ c.agree.ensures c.in-None.is _ _ _ (c.put_parts.ensures room))
