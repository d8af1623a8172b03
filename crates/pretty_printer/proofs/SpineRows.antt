-- The spine of an application's row: what the printers put for its head and its arguments.
use Prim.Native.Nat.{ℕ, suc, ◌<◌, ◌≤◌}
use native.Mathlib.Omega.{arith}
use mathlib.Core.List.{List}
use lib.ListN.{get_or}
use lib.Dec.{ltb}
use mathlib.Core.Path.{◌≡◌, sym, ap, ◌∙◌}
use Rattle.document.specs.Sink.{State, put_break, put_nest, put_group, emit}
use Rattle.pool.specs.Tables.{Pool, expr_word}
use Rattle.pool.specs.Tree.{Expr}
use Rattle.pool.specs.Unfold.{expr_at}
use Rattle.pieces.specs.Docs.{under}
use Rattle.pieces.specs.Parens.{open_if, close_if}
use Rattle.pieces.specs.Tiles.{end_tile}
use Rattle.binders.specs.declared.printer.Printer.{Printer}
use Rattle.binders.specs.declared.stack.Stack.{Stack}
use Rattle.std.specs.Prelude.{None}
use Rattle.binders.specs.Acting.{acting}
use Rattle.binders.specs.Asked.{Asked}
use Rattle.binders.specs.Options.{PpOptions, options_of, pool_of}
use Rattle.binders.specs.Spines.{drop_arguments, SpineOf}
use Rattle.pretty_printer.specs.Parts.{in_scope, app_part}
use Rattle.pretty_printer.proofs.CallLaws.{spine_prints}
use Rattle.pretty_printer.proofs.RowLaws.{head_row, app_row}

module _ (q : Printer) {k : Stack} {h r : ℕ} (a : Asked (pool_of q) k h r) {arguments : List ℕ} {count head : ℕ}
    (i : SpineOf (pool_of q) r arguments count head) where
  abbrev p : Pool
  p = pool_of q

  abbrev opts : PpOptions
  opts = options_of q

  pub head_asked : Asked p k h head
  head_asked = record { held = a.held; scope = a.scope; row = omega (arith, i.low, a.row) }

  pub spine_head : (st : State) →
      put_group (emit (under 1023 (in_scope opts p k h (expr_at p head))) st)
      ≡ emit (app_part opts p k h (drop_arguments count (expr_at p r))) st
  spine_head st = head_row q head_asked st i.ended ∙ ap (λ (e : Expr). emit (app_part opts p k h e) st) i.tree

  pub spine_argument : (n left x : ℕ) (st : State) → n ≡ suc left → left < count → x ≡ get_or arguments left 0 →
      end_tile (put_group (emit (under 1024 (in_scope opts p k h (expr_at p x)))
      (put_break 1 (emit (app_part opts p k h (drop_arguments n (expr_at p r))) st))))
      ≡ emit (app_part opts p k h (drop_arguments left (expr_at p r))) st
  spine_argument n left x st m l e = rw (m, e, i.argument left l) (sym (spine_prints opts p k h _ _ st))

  -- where no argument is left
  pub spine_whole : (n outer : ℕ) (st : State) → n ≤ 0 → expr_word p.words r 0 ≡ 3 → acting opts (expr_at p r) ≡ None →
      close_if (ltb 1023 outer)
      (put_nest opts.indent (put_group (emit (app_part opts p k h (drop_arguments n (expr_at p r))) (open_if (ltb 1023 outer) st))))
      ≡ emit (under outer (in_scope opts p k h (expr_at p r))) st
  unfolding drop_arguments
  spine_whole n outer st none e idle = let z : n ≡ 0 = omega arith in rw z (app_row q a outer st e idle)
