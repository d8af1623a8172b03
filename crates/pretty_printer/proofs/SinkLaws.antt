-- A sink that has stopped, and one that goes on, after names come into force.
use Prim.Native.Nat.{ℕ, ◌≤◌}
use mathlib.Core.Bool.{true, false}
use mathlib.Core.Path.{◌≡◌, refl, sym, ap, ◌∙◌}
use Rattle.std.specs.Prelude.{is_none, is_some, not}
use Rattle.document.specs.declared.sink.Sink.{Sink}
use Rattle.document.specs.Leaves.{Leaves, state_of}
use Rattle.document.specs.Sink.{State, written_of, put_names, emit}
use Rattle.document.specs.Walk.{Marked}
use Rattle.pieces.proofs.Emitting.{emit_stopped}
use Rattle.pretty_printer.proofs.CallLaws.{names_fit}

-- a stopped sink stays as it is
pub stays : (s : Sink) (m : Marked) → true ≡ is_some s.written.stop → Leaves s s (emit m)
stays s m e = record { same_rows = refl; same_text = refl; is = sym (emit_stopped m (state_of s) (ap not (sym e))) }

-- names that came into force on a sink that goes on
pub names_went : {old new : Sink} (place count : ℕ) → Leaves old new (put_names place count) → false ≡ is_some new.written.stop → count ≤ 1024
names_went {old} {new} place count l e =
    names_fit place count (state_of old) (ap (λ (st : State). is_none (written_of st).stop) (sym l.is) ∙ ap not (sym e))
