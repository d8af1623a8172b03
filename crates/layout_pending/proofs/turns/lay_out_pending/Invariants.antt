use Rattle.layout_pending.specs.Contract.{stack}
use Rattle.layout_pending.proofs.Taking.{weight}
use Rattle.layout_pending.proofs.Turning.{TurningOn}
use Rattle.layout_pending.proofs.turns.lay_out_pending.Given as goal

abbrev pub invariant-loop-depth : goal.invariant-loop-depth
invariant-loop-depth l =
    TurningOn l.rows l.text l.count l.initial.pending l.initial.listing l.pending l.depth l.listing

abbrev pub decreases-loop-depth : goal.decreases-loop-depth
decreases-loop-depth l = weight l.rows (stack l.pending l.depth)
