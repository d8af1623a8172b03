use Prim.Native.Nat.{ℕ, suc, ◌+◌, ◌<◌, ◌≤◌}
use mathlib.Core.Path.{◌≡◌}
use lib.ListN.{length, get_or}
use Rattle.pool.specs.Tables.{E}
use Rattle.pool.specs.Tree.{app, depth}
use Rattle.pool.specs.Unfold.{expr_at}
use Rattle.binders.specs.Options.{pool_of}
use Rattle.binders.specs.Spines.{drop_arguments}
use Rattle.binders.proofs.spine.spine_of.Given as goal

-- after n arguments the row `at` is what is left of row r
abbrev pub invariant-loop-arguments : goal.invariant-loop-arguments
invariant-loop-arguments l = record {
  row : l.at < E (pool_of l.p).words;
  low : l.at + l.n ≤ l.r;
  full : length l.arguments ≡ 256;
  deep : l.n + depth (expr_at (pool_of l.p) l.at) ≤ 256;
  tree : expr_at (pool_of l.p) l.at ≡ drop_arguments l.n (expr_at (pool_of l.p) l.r);
  argument :
      (j : ℕ) → j < l.n → drop_arguments j (expr_at (pool_of l.p) l.r)
      ≡ app (drop_arguments (suc j) (expr_at (pool_of l.p) l.r)) (expr_at (pool_of l.p) (get_or l.arguments j 0));
  below : (j : ℕ) → j < l.n → get_or l.arguments j 0 < l.r;
  word : (j : ℕ) → j < l.n → get_or l.arguments j 0 < 4294967296;
}

abbrev pub decreases-loop-arguments : goal.decreases-loop-arguments
decreases-loop-arguments l = l.at
