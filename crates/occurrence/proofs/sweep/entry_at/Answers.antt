use Rattle.occurrence.proofs.StepLaws.{entry_none, entry_past, entry_there}
use Rattle.occurrence.proofs.sweep.entry_at.Goals as goal

pub returns-in_default : goal.returns-in_default
returns-in_default g c = entry_none _ _ c.in_default.is

pub returns-then-table-r : goal.returns-then-table-r
returns-then-table-r g c = entry_past _ _ c.in-Some.is c.if-table-r.true

pub returns : goal.returns
returns g c = entry_there _ _ c.in-Some.is c.if-table-r.false c.index-table-r.is
