use Rattle.document.proofs.Leaving.{leaves_as, leaves_after}
use mathlib.Core.Path.{refl}
use Rattle.utf8.specs.Quoted.{bytes, encode}
use Rattle.levels.proofs.levels.put_sort.Goals as goal

pub returns : goal.returns
unfolding bytes encode
returns c =
    leaves_as (leaves_after (leaves_after (leaves_after c.put_word.ensures c.join_word.ensures) c.pp_level.ensures) c.put_join.ensures) refl
