use Rattle.binders.proofs.ActingLaws.{none_acts, acting_some, acting_other}
use Rattle.binders.specs.Acting.{acting_on}
use Rattle.binders.specs.Options.{options_of, pool_of}
use mathlib.Core.Path.{ap, ◌∙◌}
use Rattle.binders.proofs.operators.of_name.Goals as goal

pub returns-in_default : goal.returns-in_default
returns-in_default c = ap (λ o. acting_on o c.args.count) c.in_default.ensures ∙ none_acts (options_of c.args.p.now) c.args.count

pub returns-then-operands-count : goal.returns-then-operands-count
returns-then-operands-count c = (c.in-Some.ensures.0, acting_some (pool_of c.args.p.now) _ _ _ _ c.in-Some.ensures.1 (c.operands.ensures _ c.notation_kind.ensures) c.if-operands-count.true)

pub returns : goal.returns
returns c = acting_other (pool_of c.args.p.now) _ _ _ _ c.in-Some.ensures.1 (c.operands.ensures _ c.notation_kind.ensures) c.if-operands-count.false
