use Prim.Native.Nat.{◌+◌, ◌<◌, ◌≤◌}
use mathlib.Core.Path.{◌≡◌}
use Rattle.pool.specs.Tables.{E}
use Rattle.pool.specs.Unfold.{expr_at}
use Rattle.binders.specs.Options.{pool_of}
use Rattle.binders.specs.Steps.{run_length, drop_chain}
use Rattle.binders.proofs.runs.run_end.Given as goal

abbrev pub invariant-loop-n : goal.invariant-loop-n
invariant-loop-n l = record {
  row : l.at < E (pool_of l.p).words;
  count : l.n + run_length l.pis (expr_at (pool_of l.p) l.at) ≡ run_length l.pis (expr_at (pool_of l.p) l.r);
  tree : expr_at (pool_of l.p) l.at ≡ drop_chain l.n (expr_at (pool_of l.p) l.r);
  low : l.at + l.n ≤ l.r;
}

abbrev pub decreases-loop-n : goal.decreases-loop-n
decreases-loop-n l = l.at
