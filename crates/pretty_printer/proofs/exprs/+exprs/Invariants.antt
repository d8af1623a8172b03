use Prim.Native.Nat.{◌+◌, ◌*◌}
use Rattle.document.specs.Sink.{State, emit}
use Rattle.document.specs.Leaves.{Leaves}
use Rattle.pieces.specs.Parens.{open_if}
use Rattle.pool.specs.Unfold.{expr_at}
use Rattle.binders.specs.Options.{options_of, pool_of}
use Rattle.binders.specs.Spines.{drop_arguments}
use Rattle.pretty_printer.specs.Parts.{app_part}
use Rattle.pretty_printer.proofs.exprs.+exprs.Given as goal

-- a row more counts more than any step on one row: from what follows a part, or stands in an application (5), down to the groups and a let's parts (0)
abbrev pub decreases-pp_app : goal.decreases-pp_app
decreases-pp_app l = l.r * 8 + 1

abbrev pub decreases-pp_binders : goal.decreases-pp_binders
decreases-pp_binders l = l.r * 8 + 2

abbrev pub decreases-pp_chain : goal.decreases-pp_chain
decreases-pp_chain l = l.r * 8 + 3

abbrev pub decreases-pp_expr : goal.decreases-pp_expr
decreases-pp_expr l = l.r * 8 + 4

abbrev pub decreases-pp_inside : goal.decreases-pp_inside
decreases-pp_inside l = l.r * 8 + 5

abbrev pub decreases-pp_let : goal.decreases-pp_let
decreases-pp_let l = l.r * 8 + 1

abbrev pub decreases-pp_let_body : goal.decreases-pp_let_body
decreases-pp_let_body l = l.r * 8

abbrev pub decreases-pp_let_head : goal.decreases-pp_let_head
decreases-pp_let_head l = l.r * 8

abbrev pub decreases-pp_operator : goal.decreases-pp_operator
decreases-pp_operator l = l.r * 8 + 3

abbrev pub decreases-pp_operands : goal.decreases-pp_operands
decreases-pp_operands l = l.r * 8 + 2

abbrev pub decreases-pp_prefix : goal.decreases-pp_prefix
decreases-pp_prefix l = l.r * 8 + 1

abbrev pub decreases-pp_infix : goal.decreases-pp_infix
decreases-pp_infix l = l.r * 8 + 1

abbrev pub decreases-pp_postfix : goal.decreases-pp_postfix
decreases-pp_postfix l = l.r * 8 + 1

abbrev pub decreases-pp_part : goal.decreases-pp_part
decreases-pp_part l = l.r * 8 + 1

abbrev pub decreases-pp_tail : goal.decreases-pp_tail
decreases-pp_tail l = l.r * 8 + 5

abbrev pub decreases-telescope : goal.decreases-telescope
decreases-telescope l = l.r * 8

-- the arguments put so far are those before the last `i` ones
abbrev pub invariant-pp_app-loop-i : goal.invariant-pp_app-loop-i
invariant-pp_app-loop-i l =
    Leaves l.fn.sink l.sink
    (λ (st : State).
    emit (app_part (options_of l.p) (pool_of l.p) l.k l.scope (drop_arguments l.i (expr_at (pool_of l.p) l.r)))
    (open_if l.wrapped st))
