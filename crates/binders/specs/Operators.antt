-- Document 02, P5: what an operator makes of its operands, and which operator a head has.
use Rattle.std.specs.Prelude.{◌-◌, Option, None}
use Rattle.document.specs.Walk.{Marked, textᵐ, breakᵐ}
use Rattle.pool.specs.Notation.{Operator}
use Rattle.pool.specs.Tree.{Expr, var, sort, const, app, pi, lam, letᵉ, proj, nat, str}
use Rattle.pieces.specs.Docs.{◌⊹◌, G, NG, Parenable, with_inner, under}
use Rattle.binders.specs.Options.{PpOptions}

-- "the break | at the operator is an empty one"
abbrev pub zero_width_line : Marked
zero_width_line = breakᵐ 0

module _ (opts : PpOptions) where
  -- "It acts on a constant of that name": the operator of an application's head, if it has one
  unfoldable pub head_operator : Expr → Option Operator
  head_operator (var i) = None
  head_operator (sort l) = None
  head_operator (const n ls) = opts.operators n
  head_operator (app f a) = head_operator f
  head_operator (pi p n s t b) = None
  head_operator (lam p n s t b) = None
  head_operator (letᵉ p n t v b d) = None
  head_operator (proj n i e) = None
  head_operator (nat s) = None
  head_operator (str s) = None

  -- "Operands print under the priority, the result has priority less 1": "G(string+|)+operand for prefix"
  unfoldable pub prefix_par : Operator → Parenable → Parenable
  prefix_par o x = with_inner (o.priority - 1) (G (textᵐ o.string ⊹ zero_width_line) ⊹ under o.priority x)

  -- "G(operand+|+string) for postfix"
  unfoldable pub postfix_par : Operator → Parenable → Parenable
  postfix_par o x = with_inner (o.priority - 1) (G (under o.priority x ⊹ zero_width_line ⊹ textᵐ o.string))

  -- "N(G(left+string+|+right)) for infix"; "Operands stand in argument order"
  unfoldable pub infix_par : Operator → Parenable → Parenable → Parenable
  infix_par o x y =
      with_inner (o.priority - 1)
      (NG opts.indent (under o.priority x ⊹ textᵐ o.string ⊹ zero_width_line ⊹ under o.priority y))
