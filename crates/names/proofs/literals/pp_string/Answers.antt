use Rattle.document.proofs.Leaving.{leaves_as, leaves_after}
use mathlib.Core.Path.{refl}
use Rattle.pieces.specs.Docs.{quoted}
use Rattle.utf8.specs.Quoted.{bytes, encode}
use Rattle.document.specs.Sink.{emit}
use Rattle.names.proofs.literals.pp_string.Goals as goal

pub returns : goal.returns
unfolding emit quoted bytes encode
returns c = leaves_as (leaves_after (leaves_after (leaves_after c.put_word.ensures c.pp_raw.ensures) c.put_join.ensures) c.join_word.ensures) refl
