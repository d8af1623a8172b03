use Rattle.document.proofs.Leaving.{leaves_as}
use Rattle.pool.specs.Views.{lent}
use Rattle.pool.specs.Tables.{string_at}
use Rattle.pool.proofs.RowUnfolds.{string_fits}
use Rattle.document.specs.Sink.{emit}
use Rattle.names.proofs.literals.pp_raw.Goals as goal

pub read_string-requires : goal.read_string-requires
read_string-requires c = string_fits (lent c.args.pool.now) c.args.pool.now.sound c.args.r c.requires

pub returns : goal.returns
unfolding emit string_at
returns c = leaves_as c.put_text.ensures (rw c.read_string.ensures)
