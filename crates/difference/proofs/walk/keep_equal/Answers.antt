use Rattle.std.proofs.Common.{rules}
use mathlib.Core.Path.{sym, ◌∙◌}
use Rattle.difference.proofs.ClassLaws.{keeps_equal}
use Rattle.difference.proofs.walk.keep_equal.Goals as goal

pub returns-then-is_plain : goal.returns-then-is_plain
returns-then-is_plain c =
    keeps_equal _ _ _ _ _ _ _ _ (search rules) (sym c.is_plain.ensures ∙ c.if-is_plain.true) c.unite.ensures
