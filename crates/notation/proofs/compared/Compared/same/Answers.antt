use mathlib.Core.Path.{◌∙◌}
use Rattle.notation.proofs.compared.Compared.same.Goals as goal

pub nearer-requires-2-clause-inside : goal.nearer-requires-2-clause-inside
nearer-requires-2-clause-inside c = (c.nearer.ensures.parts c.in-Some.next c.in-Some.is).inside

pub same-requires-in_default-nearer-clause-inside : goal.same-requires-in_default-nearer-clause-inside
same-requires-in_default-nearer-clause-inside c = (c.nearer.ensures.parts c.in-Some.next c.in-Some.is).inside

pub same-requires-2-clause-inside : goal.same-requires-2-clause-inside
same-requires-2-clause-inside c = (c.nearer-2.ensures.parts c.in-Some-nearer.last c.in-Some-nearer.is).inside

pub returns-in_default-nearer-clause-same : goal.returns-in_default-nearer-clause-same
returns-in_default-nearer-clause-same c = c.same-in_default-nearer.ensures.same ∙ (c.nearer.ensures.parts c.in-Some.next c.in-Some.is).same

pub returns-clause-same : goal.returns-clause-same
returns-clause-same c =
    c.same-2.ensures.same ∙ (c.nearer-2.ensures.parts c.in-Some-nearer.last c.in-Some-nearer.is).same ∙ (c.nearer.ensures.parts c.in-Some.next c.in-Some.is).same
