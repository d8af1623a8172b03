-- How many binders of a chain a group takes.
use Prim.Native.Nat.{ℕ, suc, ◌+◌, ◌-◌, ◌<◌, ◌≤◌}
use native.Mathlib.Omega.{arith}
use native.Mathlib.Numerals.{add-one}
use mathlib.Core.Bool.{true, cond}
use mathlib.Core.Path.{◌≡◌}
use lib.Dec.{eqb}
use Rattle.pool.specs.Tables.{E, expr_word}
use Rattle.pool.specs.Tree.{Expr}
use Rattle.pool.specs.Unfold.{expr_at}
use Rattle.binders.specs.declared.printer.Printer.{Printer}
use Rattle.binders.specs.Options.{pool_of}
use Rattle.binders.specs.Steps.{binder_kind, first_binder, in_group, group_length}
use Rattle.binders.proofs.ViewLaws.{binder_at, group_made, group_none}
use Rattle.binders.proofs.BinderLaws.{binder_rows}
use Rattle.binders.proofs.RunningLaws.{drop_is, drop_nothing, drop_one}

-- after j of n binders, the group takes the next, or ends
module _ (p : Printer) (r : ℕ) (h : r < E (pool_of p).words) (b : binder_kind (expr_word (pool_of p).words r 0) ≡ true) where
  abbrev w : ℕ → ℕ
  w k = expr_word (pool_of p).words r k

  abbrev tree : ℕ → Expr
  tree = expr_at (pool_of p)

  pub group_is : (n j style : ℕ) (type : Expr) → j < n →
      group_length (n - j) style type j (tree r)
      ≡ cond (in_group style type j (first_binder (tree r))) (suc (group_length (n - (j + 1)) style type (j + 1) (tree (w 4)))) 0
  group_is n j style type l =
      let row = binder_at (pool_of p) p.pool.sound r h b in
      let left : n - j ≡ suc (n - (j + 1)) = omega arith in
      rw (left, add-one j, row.made) (group_made (eqb (w 0) 4) r _ _ _ (tree (w 4)) (n - suc j) style type j)

-- after all n, it takes no more
pub group_past : (n j style : ℕ) (type e : Expr) → n ≤ j → group_length (n - j) style type j e ≡ 0
group_past n j style type e l = let none : n - j ≡ 0 = omega arith in rw none (group_none style type j e)

pub ruleset group_rows = (binder_rows, drop_is, group_is, group_past, drop_nothing, drop_one)
