-- What the printers of declarations put, in the terms of the stack and the rows' trees.
use Rattle.std.specs.Prelude.{ℕ, zero, suc, ◌<◌, ◌≤◌, Bool, true, false, ◌&&◌, List, ◌≡◌, take}
use Rattle.utf8.specs.Quoted.{bytes}
use Rattle.document.specs.Walk.{Marked, nestᵐ}
use Rattle.document.specs.Sink.{State, put_join, put_nest, put_group, put_text, emit}
use Rattle.pool.specs.Tables.{Pool, D, E}
use Rattle.pool.specs.Tree.{Name, Level, Expr}
use Rattle.pool.specs.Unfold.{expr_at}
use Rattle.pieces.specs.Docs.{◌⊹◌, quoted, line, G, under}
use Rattle.binders.specs.declared.stack.Stack.{Stack}
use Rattle.binders.specs.Binders.{binders}
use Rattle.declarations.specs.Declars.{keyword, info, can_leave, Taken, taken, def_rest, axiom_rest}
use Rattle.binders.specs.Scopes.{scoped}
use Rattle.binders.specs.Steps.{first_binder, is_binder, in_run, chain_length, drop_chain}
use Rattle.pieces.specs.Puts.{join_piece}
use Rattle.pretty_printer.specs.Parts.{printed, in_scope, chain_part, groups_part}
use Rattle.binders.specs.Options.{PpOptions}

-- a row of the declarations
pub record Declared (p : Pool) (r : ℕ) : Type 0 where
  pub row : r < D p.words

-- a chain's first binder leaves the type: it can, and the value is a lambda
unfoldable pub can_take : Expr → Expr → Bool
can_take e v = (is_binder e && can_leave (first_binder e)) && (is_binder v && in_run false (first_binder v))

-- the binders that leave the type at row r, where row v is the value: what is left of the type and of the value, and how many
pub record TakenEnd (p : Pool) (r v row value count : ℕ) : Type 0 where
  pub is_count : count ≡ (taken (binders (expr_at p r)) (expr_at p v) 0).count
  pub is_value : expr_at p value ≡ (taken (binders (expr_at p r)) (expr_at p v) 0).value
  pub tree : expr_at p row ≡ drop_chain count (expr_at p r)
  pub few : count ≤ chain_length (expr_at p r)
  pub row_low : row < E p.words
  pub value_low : value < E p.words

-- word, info, and the blanks after them
unfoldable pub head_part : ℕ → Name → List Level → Marked
head_part kind name levels = keyword kind ⊹ quoted " " ⊹ info name levels ⊹ quoted " "

module _ (opts : PpOptions) (p : Pool) (k : Stack) where
  -- "T = N(|+G(remaining type))", after m binders
  unfoldable pub type_part : ℕ → Expr → Marked
  type_part m e = nestᵐ opts.indent (line ⊹ G (under 0 (chain_part opts p k m m e)))

  -- "N(|+G(opened value, lifted past the binders not taken))"
  unfoldable pub value_part : ℕ → Expr → Marked
  value_part m e = nestᵐ opts.indent (line ⊹ G (under 0 (in_scope opts p k m e)))

  -- the rest of a declaration whose first binders left its type
  unfoldable pub def_part : ℕ → Expr → Marked
  def_part count e =
      def_rest opts (printed opts p k) (take count (scoped k 0 0 e)) (type_part count (drop_chain count e))

  -- before T: ":", or N(G(binders))+" "+":"
  unfoldable pub def_start : ℕ → Expr → State → State
  def_start zero e st = put_text (bytes ":") st
  def_start (suc n) e st = join_piece ":" (join_piece " " (put_nest opts.indent (put_group (groups_part opts p k true 0 0 (suc n) e st))))

  -- the rest and the value of a definition
  unfoldable pub def_parts : Expr → Expr → State → State
  def_parts e v st =
      let t : Taken = taken (binders e) v 0 in
      put_join (emit (value_part t.count t.value) (put_join (emit (def_part t.count e) st)))

  -- the rest of another declaration, over its first binders
  unfoldable pub axiom_part : ℕ → Expr → Marked
  axiom_part count e =
      axiom_rest opts (printed opts p k) (take count (scoped k 0 0 e)) (under 0 (chain_part opts p k count count (drop_chain count e)))

  -- before the break: ":", or binders+" "+":"
  unfoldable pub axiom_start : ℕ → Expr → State → State
  axiom_start zero e st = put_text (bytes ":") st
  axiom_start (suc n) e st = join_piece ":" (join_piece " " (groups_part opts p k true 0 0 (suc n) e st))
