use Rattle.pool.specs.Views.{lent}
use Rattle.pool.specs.declared.kinds.NameKind.TheVariants.{Anonymous}
use Rattle.pool.proofs.RowUnfolds.{name_row}
use Rattle.pool.proofs.Standing.{name_test}
use Rattle.names.proofs.Rows.{anonymous_by}
use mathlib.Core.Path.{◌∙◌}
use Rattle.names.proofs.components.is_anonymous.Goals as goal

pub returns : goal.returns
returns c =
    name_test _ _ c.kind.ensures Anonymous _ c.eq.ensures
    ∙ anonymous_by (lent c.args.pool.now) c.args.r (name_row _ c.args.pool.now.sound _ c.requires)
