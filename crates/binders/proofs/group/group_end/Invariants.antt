use Prim.Native.Nat.{suc, ◌+◌, ◌-◌, ◌<◌, ◌≤◌}
use mathlib.Core.Path.{◌≡◌}
use Rattle.pool.specs.Tables.{E}
use Rattle.pool.specs.Unfold.{expr_at}
use Rattle.binders.specs.Options.{pool_of}
use Rattle.binders.specs.Steps.{first_binder, chain_length, group_length, drop_chain}
use Rattle.binders.proofs.group.group_end.Given as goal

abbrev pub invariant-loop-j : goal.invariant-loop-j
invariant-loop-j l = record {
  row : l.at < E (pool_of l.p).words;
  low : l.at + l.j ≤ l.r;
  some : 0 < l.j;
  most : l.j ≤ l.n;
  fits : l.n - l.j ≤ chain_length (expr_at (pool_of l.p) l.at);
  count :
      l.j + group_length (l.n - l.j) l.style (expr_at (pool_of l.p) l.like) l.j (expr_at (pool_of l.p) l.at)
      ≡ suc
      (group_length (l.n - 1) (first_binder (expr_at (pool_of l.p) l.r)).style (first_binder (expr_at (pool_of l.p) l.r)).type 1
      (drop_chain 1 (expr_at (pool_of l.p) l.r)));
  tree : expr_at (pool_of l.p) l.at ≡ drop_chain l.j (expr_at (pool_of l.p) l.r);
}

abbrev pub decreases-loop-j : goal.decreases-loop-j
decreases-loop-j l = l.n - l.j
