-- The last component of a name, and the name before it: what the code reads off one row.
use Rattle.std.specs.Prelude.{ℕ, Bool, true, false, cond, List, [], eqb}
use Rattle.utf8.specs.Quoted.{bytes}
use Rattle.utf8.specs.Letterlike.{same_bytes}
use Rattle.document.specs.Sink.{State, written_of, put_byte}
use Rattle.pool.specs.Tree.{Name, anonymous, string, number}
use Rattle.pieces.specs.Docs.{digits}
use Rattle.names.specs.Names.{escaped}

unfoldable pub prefix_of : Name → Name
prefix_of anonymous = anonymous
prefix_of (string p s) = p
prefix_of (number p n) = p

unfoldable pub component : Name → List ℕ
component anonymous = []
component (string p s) = escaped s
component (number p n) = digits n

unfoldable pub is_number : Name → Bool
is_number anonymous = false
is_number (string p s) = false
is_number (number p n) = true

unfoldable pub is_hyg : Name → Bool
is_hyg anonymous = false
is_hyg (string p s) = same_bytes s (bytes "_hyg")
is_hyg (number p n) = false

-- a dot, unless the text is as long as it was
unfoldable pub put_dot : ℕ → State → State
put_dot from st = cond (eqb (written_of st).text from) st (put_byte 46 st)
