use Rattle.pool.specs.Views.{lent}
use Rattle.pool.proofs.RowUnfolds.{name_row}
use Rattle.names.proofs.Rows.{prefix_by}
use Rattle.names.proofs.components.prefix_of.Goals as goal

pub returns : goal.returns
returns c = rw c.name.ensures.0 (prefix_by (lent c.args.pool.now) c.args.r (name_row _ c.args.pool.now.sound _ c.requires.0) c.requires.1)
