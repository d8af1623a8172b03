-- A chain without its first binders, and how many a run takes.
use Prim.Native.Nat.{ℕ, zero, suc, ◌+◌, ◌<◌}
use native.Mathlib.Numerals.{add-one}
use mathlib.Core.Bool.{Bool, true, false, cond}
use mathlib.Core.Path.{◌≡◌, refl, ap, ◌∙◌}
use lib.Dec.{eqb}
use Rattle.pool.specs.Tables.{E, expr_word}
use Rattle.pool.specs.Tree.{Expr, var, sort, const, app, pi, lam, letᵉ, proj, nat, str}
use Rattle.pool.specs.Unfold.{expr_at}
use Rattle.binders.specs.declared.printer.Printer.{Printer}
use Rattle.binders.specs.Options.{pool_of}
use Rattle.binders.specs.Binders.{is_arrow}
use Rattle.binders.specs.Steps.{binder_kind, first_binder, in_run, run_length, drop_chain}
use Rattle.binders.proofs.ViewLaws.{BinderRow, binder_at, drop_made, run_made, run_none, run_starts}
use Rattle.binders.proofs.BinderLaws.{binder_rows, is_binder_row}

pub drop_nothing : (e : Expr) → drop_chain 0 e ≡ e
unfolding drop_chain
drop_nothing (var i) = refl
drop_nothing (sort l) = refl
drop_nothing (const m ls) = refl
drop_nothing (app f a) = refl
drop_nothing (pi p m s t b) = refl
drop_nothing (lam p m s t b) = refl
drop_nothing (letᵉ p m t v b d) = refl
drop_nothing (proj m i e) = refl
drop_nothing (nat s) = refl
drop_nothing (str s) = refl

-- one binder more is left out
pub drop_more : (n : ℕ) (e : Expr) → drop_chain (suc n) e ≡ drop_chain 1 (drop_chain n e)
unfolding drop_chain
drop_more n (var i) = refl
drop_more n (sort l) = refl
drop_more n (const m ls) = refl
drop_more n (app f a) = refl
drop_more zero (pi p m s t b) = refl
drop_more (suc n) (pi p m s t b) = drop_more n b
drop_more zero (lam p m s t b) = refl
drop_more (suc n) (lam p m s t b) = drop_more n b
drop_more n (letᵉ p m t v b d) = refl
drop_more n (proj m i e) = refl
drop_more n (nat s) = refl
drop_more n (str s) = refl

pub drop_one : (n : ℕ) (e : Expr) → drop_chain (n + 1) e ≡ drop_chain 1 (drop_chain n e)
drop_one n e = ap (λ (m : ℕ). drop_chain m e) (add-one n) ∙ drop_more n e

module _ (p : Printer) (r : ℕ) (h : r < E (pool_of p).words) where
  abbrev w : ℕ → ℕ
  w k = expr_word (pool_of p).words r k

  abbrev tree : ℕ → Expr
  tree = expr_at (pool_of p)

  module _ (b : binder_kind (w 0) ≡ true) where
    abbrev row : BinderRow (pool_of p) p.pool.sound r h
    row = binder_at (pool_of p) p.pool.sound r h b

    pub drop_is : drop_chain 1 (tree r) ≡ tree (w 4)
    drop_is = ap (drop_chain 1) row.made ∙ drop_made _ _ _ _ _ _ 0 ∙ drop_nothing _

    pub run_is : (c : Bool) → run_length c (tree r) ≡ cond (in_run c (first_binder (tree r))) (suc (run_length c (tree (w 4)))) 0
    run_is c = rw row.made (run_made (eqb (w 0) 4) r _ _ _ (tree (w 4)) c)

    -- a binder that is no arrow starts a run
    pub run_begins : is_arrow (first_binder (tree r)) ≡ false → 0 < run_length (first_binder (tree r)).is_pi (tree r)
    run_begins a = run_starts (tree r) (is_binder_row p r h ∙ b) a

  pub run_end : (c : Bool) → binder_kind (w 0) ≡ false → run_length c (tree r) ≡ 0
  run_end c b = run_none c (tree r) (is_binder_row p r h ∙ b)

pub ruleset run_rows = (binder_rows, drop_is, run_is, run_begins, run_end, drop_nothing, drop_one)
