use Prim.Native.Nat.{◌+◌, ◌<◌, ◌≤◌}
use mathlib.Core.Path.{◌≡◌}
use Rattle.pool.specs.Tables.{E}
use Rattle.pool.specs.Unfold.{expr_at}
use Rattle.binders.specs.Options.{pool_of}
use Rattle.binders.specs.Steps.{chain_length}
use Rattle.binders.proofs.chain.chain_length.Given as goal

abbrev pub invariant-loop-n : goal.invariant-loop-n
invariant-loop-n l = record {
  row : l.at < E (pool_of l.p).words;
  count : l.n + chain_length (expr_at (pool_of l.p) l.at) ≡ chain_length (expr_at (pool_of l.p) l.r);
  low : l.at + l.n ≤ l.r;
}

abbrev pub decreases-loop-n : goal.decreases-loop-n
decreases-loop-n l = l.at
