-- What a document depends on besides the tree.
use Rattle.std.specs.Prelude.{ℕ, Option, None}
use Rattle.pool.specs.Tables.{Pool}
use Rattle.pool.specs.Tree.{Name}
use Rattle.pool.specs.Notation.{Operator, operator_of}
use Rattle.pool.specs.Views.{lent}
use Rattle.binders.specs.declared.printer.Printer.{Printer}

-- "N a nest by the indent"; and the operators that name trees have (document 02, P5)
pub record PpOptions : Type 0 where
  pub indent : ℕ
  pub operators : Name → Option Operator

-- with a pool's operators
abbrev pub options : ℕ → Pool → PpOptions
options n p = record { indent = n; operators = operator_of p }

-- with none
abbrev pub indented : ℕ → PpOptions
indented n = record { indent = n; operators = λ name. None }

-- the pool that a printer prints from
abbrev pub pool_of : Printer → Pool
pool_of p = lent p.pool

-- and what it prints with
abbrev pub options_of : Printer → PpOptions
options_of p = options p.indent (pool_of p)
