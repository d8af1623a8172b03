use Rattle.std.proofs.lemmas.List.{get_or_past}
use Rattle.binders.proofs.ActingLaws.{entry_none, entry_row}
use mathlib.Core.Path.{refl}
use Rattle.binders.proofs.operators.operator_of.Goals as goal

pub returns-then-name-p : goal.returns-then-name-p
returns-then-name-p c = entry_none c.args.p.now c.args.name c.requires (get_or_past _ _ _ c.if-name-p.true)

pub returns-then-entry-eq0 : goal.returns-then-entry-eq0
returns-then-entry-eq0 c = entry_none c.args.p.now c.args.name c.requires c.if-entry-eq0.true

pub returns : goal.returns
returns c = entry_row c.args.p.now c.args.name c.requires _ refl c.if-entry-eq0.false
