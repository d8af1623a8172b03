use Rattle.std.proofs.Common.{refl, ◌∙◌}
use Rattle.occurrence.proofs.SearchLaws.{low_at_once, a_part}
use Rattle.occurrence.proofs.occurs.sweep_all.Goals as goal

pub returns-then-expr-i : goal.returns-then-expr-i
returns-then-expr-i c = low_at_once _ _ c.args.i c.args.pool.now.sound c.requires _ c.expr.ensures.0 c.if-expr-i.true

pub returns : goal.returns
returns c = c.search.ensures ∙ a_part _ _ refl
