-- "Parentheses are put only if the outer level exceeds the inner.": what comes before and after the subtree they stand round.
use Rattle.std.specs.Prelude.{Bool, cond}
use Rattle.utf8.specs.Quoted.{bytes}
use Rattle.document.specs.Sink.{State, put_text, put_join}

unfoldable pub open_if : Bool → State → State
open_if b st = cond b (put_text (bytes "(") st) st

unfoldable pub close_if : Bool → State → State
close_if b st = cond b (put_join (put_text (bytes ")") (put_join st))) st
