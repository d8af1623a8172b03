use Rattle.layout.proofs.Going.{GoingOn}
use Rattle.layout.proofs.rows.+lay_out.Given as goal

abbrev pub decreases-lay_out : goal.decreases-lay_out
decreases-lay_out l = l.r0

abbrev pub invariant-row : goal.invariant-row
invariant-row l =
    GoingOn l.rows l.text l.r0 l.nest0 l.flat0 l.next l.initial.listing l.r l.nest l.flat l.listing

abbrev pub decreases-row : goal.decreases-row
decreases-row l = l.r
