use Rattle.document.proofs.Leaving.{leaves_same, leaves_as, leaves_after}
use Rattle.names.proofs.Texts.{joined_none, joined_on, joined_stopped}
use mathlib.Core.Path.{sym, ap, ◌∙◌}
use Rattle.std.specs.Prelude.{not}
use Rattle.names.proofs.names.+put_name_bytes.Goals as goal

pub returns-then-is_anonymous : goal.returns-then-is_anonymous
returns-then-is_anonymous t c = leaves_same (joined_none _ _ (sym c.is_anonymous.ensures ∙ c.if-is_anonymous.true))

pub returns-then-is_stopped : goal.returns-then-is_stopped
returns-then-is_stopped t c =
    let named = sym c.is_anonymous.ensures ∙ c.if-is_anonymous.false in
    let h = c.put_name_bytes.ensures in
    record {
      same_rows = h.same_rows;
      same_text = h.same_text;
      is =
          joined_stopped _ _ _ _ named c.prefix_of-prefix.ensures.0 h.is
          (ap not (sym c.is_stopped.ensures ∙ c.if-is_stopped.true));
    }

pub returns : goal.returns
returns t c =
    leaves_as (leaves_after (leaves_after c.put_name_bytes.ensures c.put_dot.ensures) c.put_component.ensures)
    (rw c.prefix_of-prefix.ensures.0 (joined_on _ _ (sym c.is_anonymous.ensures ∙ c.if-is_anonymous.false)))
