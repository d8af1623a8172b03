-- The words of a row, by its kind: its parts are rows below it.
use Rattle.std.proofs.lemmas.Bool.Decides.{nat_tests}
use Prim.Native.Nat.{ℕ, ◌<◌, ◌≤◌}
use native.Mathlib.Omega.{arith}
use mathlib.Core.Bool.{true}
use mathlib.Core.Path.{◌≡◌}
use Rattle.pool.specs.Tables.{Pool, N, E, expr_word}
use Rattle.pool.specs.Sound.{Sound}
use Rattle.pool.proofs.ExprUnfolds.{kind_small, var_ok, let_ok, proj_ok}
use Rattle.binders.specs.declared.printer.Printer.{Printer}
use Rattle.binders.specs.Options.{pool_of}
use Rattle.binders.specs.Leaves.{leaf_kind}
use Rattle.binders.specs.Steps.{binder_kind}
use Rattle.binders.proofs.ViewLaws.{binder_at}

-- the kinds of binders and of what has no parts, by their numbers
binders : (kind : ℕ) → 3 < kind → kind < 6 → binder_kind kind ≡ true
unfolding binder_kind
binders kind low high = grind (arith, nat_tests)

low_leaves : (kind : ℕ) → 0 < kind → kind < 3 → leaf_kind kind ≡ true
unfolding leaf_kind
low_leaves kind low high = grind (arith, nat_tests)

high_leaves : (kind : ℕ) → 7 < kind → kind < 10 → leaf_kind kind ≡ true
unfolding leaf_kind
high_leaves kind low high = grind (arith, nat_tests)

module _ (q : Printer) (r : ℕ) (row : r < E (pool_of q).words) where
  abbrev p : Pool
  p = pool_of q

  abbrev w : ℕ → ℕ
  w i = expr_word p.words r i

  sound : Sound p
  sound = q.pool.sound

  pub proj_rows : w 0 ≡ 7 → w 3 < r
  proj_rows e = let ok = proj_ok p sound r row e in ok.1

  pub var_index : w 0 ≡ 0 → w 1 ≤ 4095
  var_index e = var_ok p sound r row e

  pub let_name : w 0 ≡ 6 → w 1 < N p.names
  let_name e = let ok = let_ok p sound r row e in ok.0

  pub let_type : w 0 ≡ 6 → w 2 < r
  let_type e = let ok = let_ok p sound r row e in ok.1

  pub let_value : w 0 ≡ 6 → w 3 < r
  let_value e = let ok = let_ok p sound r row e in ok.2

  pub let_inside : w 0 ≡ 6 → w 4 < r
  let_inside e = let ok = let_ok p sound r row e in ok.3

  pub binder_type : binder_kind (w 0) ≡ true → w 3 < r
  binder_type e = let made = binder_at p sound r row e in made.type

  pub binder_between : 3 < w 0 → w 0 < 6 → binder_kind (w 0) ≡ true
  binder_between = binders (w 0)

  pub leaf_low : 0 < w 0 → w 0 < 3 → leaf_kind (w 0) ≡ true
  leaf_low = low_leaves (w 0)

  pub leaf_high : 7 < w 0 → leaf_kind (w 0) ≡ true
  leaf_high low = high_leaves (w 0) low (kind_small p sound r row)
