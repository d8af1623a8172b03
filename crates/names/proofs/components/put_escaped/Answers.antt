use Rattle.document.proofs.Leaving.{leaves_as, leaves_after}
use Rattle.names.proofs.Texts.{escaped-plain, escaped_odd}
use mathlib.Core.Path.{sym, ◌∙◌}
use Rattle.names.proofs.components.put_escaped.Goals as goal

pub returns-then-ok_str : goal.returns-then-ok_str
returns-then-ok_str c = leaves_as c.put_bytes.ensures (escaped-plain _ _ (sym c.ok_str.ensures ∙ c.if-ok_str.true))

pub returns : goal.returns
returns c =
    leaves_as (leaves_after (leaves_after c.put_mark.ensures c.put_bytes-2.ensures) c.put_mark-2.ensures)
    (escaped_odd _ _ (sym c.ok_str.ensures ∙ c.if-ok_str.false))
