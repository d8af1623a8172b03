-- The names of a chain's binders, put one after the other.
use Prim.Native.Nat.{ℕ, suc, ◌+◌, ◌-◌, ◌<◌, ◌≤◌}
use native.Mathlib.Omega.{arith}
use mathlib.Core.Bool.{Bool, true, false}
use mathlib.Core.Path.{◌≡◌, refl, sym, ap, ◌∙◌}
use Rattle.document.specs.Sink.{State, put_break, emit}
use Rattle.pool.specs.Tables.{Pool, E, expr_word}
use Rattle.pool.specs.Tree.{Expr}
use Rattle.pool.specs.Unfold.{expr_at}
use Rattle.pool.specs.Sound.{Sound}
use Rattle.pieces.specs.Docs.{tile}
use Rattle.pieces.specs.Tiles.{end_tile, put_tile}
use Rattle.pieces.proofs.Emitting.{tile_emits}
use Rattle.binders.specs.declared.printer.Printer.{Printer}
use Rattle.binders.specs.Options.{pool_of}
use Rattle.binders.specs.Binders.{binder_name}
use Rattle.binders.specs.Steps.{binder_kind, is_binder, first_binder, chain_length, name_docs}
use Rattle.binders.proofs.ViewLaws.{binder_row, length_none}
use Rattle.binders.proofs.BinderLaws.{binder_rows}
use Rattle.binders.proofs.RunningLaws.{drop_is}

-- a chain that has a binder starts with one
pub some_binder : (p : Pool) (sound : Sound p) (r : ℕ) (h : r < E p.words) (n : ℕ) → 0 < n → n ≤ chain_length (expr_at p r) →
    binder_kind (expr_word p.words r 0) ≡ true
some_binder p sound r h n pos fits = by (is_binder (expr_at p r)) refl
  where
    by : (b : Bool) → is_binder (expr_at p r) ≡ b → binder_kind (expr_word p.words r 0) ≡ true
    by true e = binder_row p sound r h ∙ e
    by false e = absurd (omega (arith, length_none (expr_at p r) e))

module _ (p : Printer) (r : ℕ) (h : r < E (pool_of p).words) (b : binder_kind (expr_word (pool_of p).words r 0) ≡ true) (n : ℕ) where
  abbrev tree : ℕ → Expr
  tree = expr_at (pool_of p)

  abbrev next : ℕ
  next = expr_word (pool_of p).words r 4

  -- the first name of n, then the others
  pub first_name : (st : State) → 0 < n →
      emit (tile (name_docs n (tree r))) st ≡ put_tile (name_docs (n - 1) (tree next)) (emit (binder_name (first_binder (tree r))) st)
  unfolding name_docs tile
  first_name st pos =
      let one : n ≡ suc (n - 1) = omega arith in
      ap (λ (m : ℕ). emit (tile (name_docs m (tree r))) st) one
      ∙ rw (drop_is p r h b) (sym (tile_emits (binder_name (first_binder (tree r))) (name_docs (n - 1) (tree next)) st))

  -- the next name, after k of n
  pub next_name : (k : ℕ) (st : State) → k < n →
      put_tile (name_docs (n - k) (tree r)) st
      ≡ put_tile (name_docs (n - (k + 1)) (tree next)) (end_tile (emit (binder_name (first_binder (tree r))) (put_break 1 st)))
  unfolding put_tile name_docs
  next_name k st l =
      let one : n - k ≡ suc (n - (k + 1)) = omega arith in rw (one, drop_is p r h b)

-- no name, after all n
pub no_names : (n k : ℕ) (e : Expr) (st : State) → n ≤ k → put_tile (name_docs (n - k) e) st ≡ st
unfolding name_docs put_tile
no_names n k e st l = let none : n - k ≡ 0 = omega arith in rw none

pub ruleset name_rows = (binder_rows, first_name, next_name, no_names)
