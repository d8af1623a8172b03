use Rattle.document.proofs.Leaving.{leaves_as, leaves_after}
use mathlib.Core.Path.{refl}
use Rattle.document.specs.Sink.{put_bytes}
use Rattle.names.proofs.components.put_mark.Goals as goal

pub returns : goal.returns
unfolding put_bytes
returns c = leaves_as (leaves_after c.put_byte.ensures c.put_byte-2.ensures) refl
