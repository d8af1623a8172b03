-- What the sink's functions, and the printers that are lent one, do to it.
use Rattle.std.specs.Prelude.{ℕ, List, length, ◌≡◌}
use Rattle.std.specs.Borrow.{MutBor}
use Rattle.document.specs.declared.sink.Sink.{Sink}
use Rattle.document.specs.Sink.{State, cleared}
use Rattle.document.specs.Sink.State.{state}

-- what stands in the areas that a sink is lent, and how far it has come
abbrev pub state_of : Sink → State
state_of s = state s.rows.now s.text.now s.written

-- the sink goes on with the same areas, and does to them and to itself what f does to a state
pub record Leaves (old new : Sink) (f : State → State) : Type 0 where
  pub same_rows : new.rows.ghost_name ≡ old.rows.ghost_name
  pub same_text : new.text.ghost_name ≡ old.text.ghost_name
  pub is : state_of new ≡ f (state_of old)

-- a sink that is lent these areas, cleared, with nothing written
pub record Begins (rows text : MutBor (List ℕ)) (s : Sink) : Type 0 where
  pub same_rows : s.rows.ghost_name ≡ rows.ghost_name
  pub same_text : s.text.ghost_name ≡ text.ghost_name
  pub is : state_of s ≡ cleared (length rows.now) (length text.now)
