use Rattle.document.proofs.Leaving.{leaves_same, leaves_as}
use borrow.Author.Tests.{eq-eqb, ne_eqb}
use Rattle.names.specs.Components.{put_dot}
use Rattle.names.proofs.components.put_dot.Goals as goal

pub returns-then-sink-from : goal.returns-then-sink-from
unfolding put_dot
returns-then-sink-from c = leaves_same (simp (eq-eqb _ _ c.if-sink-from.true))

pub returns : goal.returns
unfolding put_dot
returns c = leaves_as c.put_byte.ensures (simp (ne_eqb _ _ c.if-sink-from.false))
