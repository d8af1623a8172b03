use native.Mathlib.Nat.{add-sub_cancel_left}
use Rattle.names.proofs.components.read_string.Goals as goal

pub returns : goal.returns
returns c = rw (c.string-from.ensures.0, c.string.ensures.0, add-sub_cancel_left)
