-- What each printer of the call cycle puts, in the terms of the stack, the scope and the row's tree.
use Rattle.std.specs.Prelude.{ℕ, ◌+◌, ◌<◌, Bool, true, false, ◌∷◌, Some, ◌≡◌, map, take}
use Rattle.document.specs.Walk.{Marked}
use Rattle.document.specs.Sink.{State, put_names, emit}
use Rattle.pool.specs.Notation.{operator_at}
use Rattle.pool.specs.Tables.{Pool, T, expr_word}
use Rattle.pool.specs.Unfold.{expr_at}
use Rattle.pool.specs.Tree.{Name, Expr}
use Rattle.pieces.specs.Docs.{Parenable, under}
use Rattle.names.specs.Names.{name_doc}
use Rattle.pieces.specs.Tiles.{put_tile}
use Rattle.binders.specs.declared.stack.Stack.{Stack}
use Rattle.binders.specs.Runs.{runs}
use Rattle.binders.specs.Binders.{chain_body, same_group, group_doc, telescope, binders_par}
use Rattle.pretty_printer.specs.Exprs.{expr_par}
use Rattle.binders.specs.Rename.{up, rename}
use Rattle.binders.specs.Scopes.{names_of, place_in, scoped, last_scope}
use Rattle.binders.specs.Steps.{spine_doc, first_binder}
use Rattle.pieces.specs.Puts.{put_colon, put_arrow, start_run, end_run, start_let, put_assign, end_let}
use Rattle.binders.specs.Acting.{acting}
use Rattle.binders.specs.Options.{PpOptions}
use Rattle.binders.specs.Shown.{shown}

-- the operator of a notation row acts on the application at row r
pub record Operated (opts : PpOptions) (p : Pool) (r row : ℕ) : Type 0 where
  pub is_app : expr_word p.words r 0 ≡ 3
  pub there : row < T p.words
  pub acts : acting opts (expr_at p r) ≡ Some (operator_at p row)

-- ---- parts

module _ (opts : PpOptions) (p : Pool) (k : Stack) where
  -- the expressions under the stack's names
  abbrev pub printed : Expr → Parenable
  printed = expr_par opts (names_of p k)

  -- an expression in a scope
  unfoldable pub in_scope : ℕ → Expr → Parenable
  in_scope h e = printed (rename (place_in k h) e)

  -- the expression at a row, in a scope
  abbrev pub row_in : ℕ → ℕ → Parenable
  row_in h r = in_scope h (expr_at p r)

  -- an application's head and arguments
  unfoldable pub app_part : ℕ → Expr → Marked
  app_part h e = spine_doc printed (rename (place_in k h) e)

  -- the binders of a chain from one on, and its body: the first one's entry is m, and its type is in the scope h
  unfoldable pub chain_part : ℕ → ℕ → Expr → Parenable
  chain_part h m e = binders_par opts printed (scoped k h m e) (in_scope (last_scope h m e) (chain_body e))

  -- the groups of a chain's first n binders: a tile, or each a further one of a tile
  unfoldable pub groups_part : Bool → ℕ → ℕ → ℕ → Expr → State → State
  groups_part true h m n e st = emit (telescope opts printed (take n (scoped k h m e))) st
  groups_part false h m n e st = put_tile (map (group_doc opts printed) (runs same_group (take n (scoped k h m e)))) st

  -- an arrow binder, or a run of n others
  unfoldable pub run_part : Bool → Bool → ℕ → ℕ → ℕ → Expr → State → State
  run_part true c h m n e st = put_arrow opts.indent (emit (under 25 (in_scope h (first_binder e).type)) st)
  run_part false c h m n e st = end_run opts.indent c (groups_part true h m n e (start_run c st))

  -- a let's name, type and value
  unfoldable pub let_head : ℕ → Name → Expr → Expr → State → State
  let_head h n t v st =
      end_let opts.indent
      (emit (under 0 (in_scope h v)) (put_assign (emit (under 1 (in_scope h t)) (put_colon (emit (name_doc n) (start_let st))))))

  -- a let's body, before which its name comes into force
  unfoldable pub let_body : ℕ → ℕ → Name → Expr → State → State
  let_body h place n e st =
      emit (under 0 (expr_par opts (shown n ∷ names_of p k) (rename (up (place_in k h)) e))) (put_names place (k.count + 1) st)
