-- What is left of a sink: nothing done, one thing done after the other, and the same by another name.
use mathlib.Core.List.{List}
use mathlib.Core.Path.{◌≡◌, refl, ap, ◌∙◌}
use Prim.Native.Nat.{ℕ}
use Rattle.document.specs.declared.sink.Sink.{Sink}
use Rattle.document.specs.Sink.{State, put_bytes, end_text, put_text}
use Rattle.document.specs.Leaves.{Leaves, state_of}

pub leaves_same : {s : Sink} {f : State → State} → state_of s ≡ f (state_of s) → Leaves s s f
leaves_same e = record { same_rows = refl; same_text = refl; is = e }

pub leaves_as : {s t : Sink} {f g : State → State} → Leaves s t f → f (state_of s) ≡ g (state_of s) → Leaves s t g
leaves_as h e = record { same_rows = h.same_rows; same_text = h.same_text; is = h.is ∙ e }

pub leaves_after : {s t u : Sink} {f g : State → State} → Leaves s t f → Leaves t u g → Leaves s u (λ st. g (f st))
leaves_after {s} {t} {u} {f} {g} h k =
    record {
      same_rows = k.same_rows ∙ h.same_rows;
      same_text = k.same_text ∙ h.same_text;
      is = k.is ∙ ap g h.is;
    }
