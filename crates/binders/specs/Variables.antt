-- 01, Expressions to documents: variables.
use Rattle.std.specs.Prelude.{ℕ, zero, suc, [], ◌∷◌}
use Rattle.document.specs.Walk.{Marked}
use Rattle.pieces.specs.Docs.{number_doc}
use Rattle.binders.specs.Shown.{shown_doc, NamesInForce}

-- "Variable: the name at its place, else its index in digits."
unfoldable pub var_doc : NamesInForce → ℕ → ℕ → Marked
var_doc [] i index = number_doc index
var_doc (n ∷ ns) zero index = shown_doc n
var_doc (n ∷ ns) (suc i) index = var_doc ns i index
