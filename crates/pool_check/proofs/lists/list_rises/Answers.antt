use Rattle.pool_check.proofs.Scan.{rising-start, rising_on}
use borrow.Author.Tests.{eq-eqb}
use mathlib.Core.Path.{◌∙◌}
use Rattle.pool_check.proofs.lists.list_rises.Goals as goal

pub returns-then-r-eq0 : goal.returns-then-r-eq0
returns-then-r-eq0 c = eq-eqb c.args.r 0 c.if-r-eq0.true ∙ rising-start _ c.args.r c.if-r-eq0.true

pub returns-else-r-eq0 : goal.returns-else-r-eq0
returns-else-r-eq0 c = rw (c.list.ensures.0, c.list-else-r-eq0.ensures.0) (rising_on _ c.args.r c.if-r-eq0.false)
