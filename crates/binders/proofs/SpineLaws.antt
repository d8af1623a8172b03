-- What the row of an application says of it.
use Prim.Native.Nat.{ℕ, suc, ◌+◌, ◌<◌, ◌≤◌}
use native.Mathlib.Omega.{arith}
use native.Mathlib.Numerals.{add-one}
use mathlib.Core.Path.{◌≡◌, refl, ap}
use Rattle.std.proofs.lemmas.Grind.{get_or-set_at}
use Rattle.std.proofs.lemmas.List.{length-set, get_or-set_other}
use Rattle.pool.specs.Tables.{E, expr_word}
use Rattle.pool.specs.Tree.{Expr, app, depth}
use Rattle.pool.specs.Unfold.{expr_at}
use Rattle.pool.proofs.ExprUnfolds.{app_at, app_ok, depth-word, depth_small}
use Rattle.occurrence.proofs.PartLaws.{some_depth}
use Rattle.binders.specs.declared.printer.Printer.{Printer}
use Rattle.binders.specs.Options.{pool_of}
use Rattle.binders.specs.Spines.{function_of, drop_arguments}

app_deep : (f a : Expr) → suc (depth f) ≤ depth (app f a)
unfolding depth
app_deep f a = omega arith

module _ (p : Printer) (r : ℕ) (h : r < E (pool_of p).words) where
  pub deep : depth (expr_at (pool_of p) r) ≤ 256
  deep = omega (arith, depth-word (pool_of p) p.pool.sound r h, depth_small (pool_of p) p.pool.sound r h)

  module _ (e : expr_word (pool_of p).words r 0 ≡ 3) where
    pub function_row : expr_word (pool_of p).words r 1 < r
    function_row = (app_ok (pool_of p) p.pool.sound r h e).0

    pub argument_row : expr_word (pool_of p).words r 2 < r
    argument_row = (app_ok (pool_of p) p.pool.sound r h e).1

    pub app_is : expr_at (pool_of p) r ≡ app (expr_at (pool_of p) (expr_word (pool_of p).words r 1)) (expr_at (pool_of p) (expr_word (pool_of p).words r 2))
    app_is = app_at (pool_of p) p.pool.sound r h e

    pub function_is : function_of (expr_at (pool_of p) r) ≡ expr_at (pool_of p) (expr_word (pool_of p).words r 1)
    unfolding function_of
    function_is = ap function_of app_is

    pub less_deep : depth (expr_at (pool_of p) (expr_word (pool_of p).words r 1)) < depth (expr_at (pool_of p) r)
    less_deep =
        omega (arith, ap depth app_is, app_deep (expr_at (pool_of p) (expr_word (pool_of p).words r 1)) (expr_at (pool_of p) (expr_word (pool_of p).words r 2)))

pub no_arguments : (e : Expr) → drop_arguments 0 e ≡ e
unfolding drop_arguments
no_arguments e = refl

pub one_argument : (n : ℕ) (e : Expr) → drop_arguments (n + 1) e ≡ function_of (drop_arguments n e)
unfolding drop_arguments
one_argument n e = rw (add-one n)

pub next_argument : (n : ℕ) (e : Expr) → drop_arguments (suc n) e ≡ function_of (drop_arguments n e)
unfolding drop_arguments
next_argument n e = refl

pub ruleset app_rows =
    (deep, function_row, argument_row, app_is, function_is, less_deep, some_depth, no_arguments, one_argument, next_argument, length-set, get_or-set_at, get_or-set_other)
