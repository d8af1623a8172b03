use Prim.Native.Nat.{ℕ, ◌<◌}
use native.Mathlib.Omega.{arith}
use Rattle.pretty_printer.proofs.SinkLaws.{names_went}
use Rattle.pretty_printer.proofs.RowWords.{let_inside}
use Rattle.pretty_printer.proofs.RowLaws.{asked_below, asked_inside}
use Rattle.pretty_printer.proofs.GroupRows.{group_low, group_later, group_left}
use Rattle.pretty_printer.proofs.OperatorRows.{operator_priority, operator_kind, operator_rows, infix_rows}
use Rattle.pool.specs.Tables.{expr_word, notation_word}
use mathlib.Core.Path.{ap}
use Rattle.binders.specs.Options.{pool_of}
use Rattle.pretty_printer.proofs.exprs.+exprs.Goals as goal

pub pp_let_body-pp_expr-requires : goal.pp_let_body-pp_expr-requires
pp_let_body-pp_expr-requires t c =
    let a = c.requires.0 in
    let fits = names_went _ _ c.put_names.ensures c.if-is_stopped.ensures in
    let below = let_inside c.args.p.now c.args.r a.row c.requires.1 in (
      omega arith,
      (asked_inside c.args.p.now a _ _ _ c.requires.1 c.expr-body.ensures.0 c.expr.ensures.0 fits c.push.ensures, omega arith),
    )

pub telescope-telescope-requires : goal.telescope-telescope-requires
telescope-telescope-requires t c =
    let some : 0 < c.args.n = omega arith in
    let end = c.group_end-end.ensures in
    let low = group_low c.args.p.now c.requires.0 some c.requires.1 end in (
      omega arith,
      (
        group_later c.args.p.now c.requires.0 some c.requires.1 end,
        group_left c.args.p.now c.requires.0 some c.requires.1 end,
        λ e. cc,
      ),
    )

-- an operator's priority, and its operands, which are rows below
pub pp_operator-overflow_sub-wrapped : goal.pp_operator-overflow_sub-wrapped
pp_operator-overflow_sub-wrapped t c =
    let low = operator_priority c.args.p.now c.requires.0 c.requires.1 in
    omega (arith, c.notation-priority.ensures.0, low.0)

pub pp_prefix-pp_inside-requires : goal.pp_prefix-pp_inside-requires
pp_prefix-pp_inside-requires t c =
    let a = c.requires.0 in
    let low = operator_priority c.args.p.now a c.requires.1 in
    let rows = operator_rows c.args.p.now a c.requires.1 in
    let operand : c.expr-operand.result < c.args.r = omega (arith, c.expr-operand.ensures.0, rows.1) in (
      omega (arith, operand),
      (asked_below c.args.p.now a _ operand, omega (arith, c.requires.2, low.1)),
    )

pub pp_infix-pp_inside-requires : goal.pp_infix-pp_inside-requires
pp_infix-pp_inside-requires t c =
    let a = c.requires.0 in
    let low = operator_priority c.args.p.now a c.requires.1 in
    let rows = operator_rows c.args.p.now a c.requires.1 in
    let inner = infix_rows c.args.p.now a c.requires.1 c.requires.3 in
    let first = ap (λ (f : ℕ). expr_word (pool_of c.args.p.now).words f 2) c.expr-function.ensures.0 in
    let left : c.expr-left.result < c.args.r = omega (arith, c.expr-left.ensures.0, first, inner.2, rows.0, rows.1) in (
      omega (arith, left),
      (asked_below c.args.p.now a _ left, omega (arith, c.requires.2, low.1)),
    )

pub pp_infix-pp_inside-requires-2 : goal.pp_infix-pp_inside-requires-2
pp_infix-pp_inside-requires-2 t c =
    let a = c.requires.0 in
    let low = operator_priority c.args.p.now a c.requires.1 in
    let rows = operator_rows c.args.p.now a c.requires.1 in
    let inner = infix_rows c.args.p.now a c.requires.1 c.requires.3 in
    let first = ap (λ (f : ℕ). expr_word (pool_of c.args.p.now).words f 2) c.expr-function.ensures.0 in
    let right : c.expr-right.result < c.args.r = omega (arith, c.expr-right.ensures.0, first, inner.2, rows.0, rows.1) in (
      omega (arith, right),
      (asked_below c.args.p.now a _ right, omega (arith, c.requires.2, low.1)),
    )

pub pp_postfix-pp_inside-requires : goal.pp_postfix-pp_inside-requires
pp_postfix-pp_inside-requires t c =
    let a = c.requires.0 in
    let low = operator_priority c.args.p.now a c.requires.1 in
    let rows = operator_rows c.args.p.now a c.requires.1 in
    let operand : c.expr-operand.result < c.args.r = omega (arith, c.expr-operand.ensures.0, rows.1) in (
      omega (arith, operand),
      (asked_below c.args.p.now a _ operand, omega (arith, c.requires.2, low.1)),
    )

-- a checked row has a kind
pub pp_operands-returns-in-None : goal.pp_operands-returns-in-None
pp_operands-returns-in-None t c =
    let kind = operator_kind c.args.p.now c.requires.0 c.requires.1 in
    let none : 2 < notation_word (pool_of c.args.p.now).words c.args.row 1 = c.in-None.ensures in
    absurd (omega (arith, kind, none))
