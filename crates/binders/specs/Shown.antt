-- The names in force, as they are shown.
use Rattle.std.specs.Prelude.{List}
use Rattle.document.specs.Walk.{Marked}
use Rattle.pool.specs.Tree.{Name}
use Rattle.names.specs.Names.{name_doc}

-- what is shown for a name in force
abbrev pub Shown : Type 0
Shown = Name

-- for one that comes into force
abbrev pub shown : Name → Shown
shown n = n

abbrev pub shown_doc : Shown → Marked
shown_doc n = name_doc n

-- "The stack holds the names in force": innermost first
abbrev pub NamesInForce : Type 0
NamesInForce = List Shown
