use Prim.Native.Nat.{◌-◌, ◌<◌, ◌≤◌}
use mathlib.Core.Path.{◌≡◌}
use Rattle.document.specs.Leaves.{state_of}
use Rattle.pool.specs.Tables.{E}
use Rattle.pool.specs.Unfold.{expr_at}
use Rattle.pieces.specs.Tiles.{put_tile}
use Rattle.binders.specs.Options.{pool_of}
use Rattle.binders.specs.Steps.{chain_length, name_docs}
use Rattle.binders.proofs.group.put_next_names.Given as goal

-- the names that are still to be put make of the sink so far what all of them make of the sink as it was
abbrev pub invariant-loop : goal.invariant-loop
invariant-loop l = record {
  row : l.at < E (pool_of l.p).words;
  fits : l.n - l.counter ≤ chain_length (expr_at (pool_of l.p) l.at);
  same_rows : l.sink.rows.ghost_name ≡ l.initial.sink.rows.ghost_name;
  same_text : l.sink.text.ghost_name ≡ l.initial.sink.text.ghost_name;
  rest :
      put_tile (name_docs (l.n - l.counter) (expr_at (pool_of l.p) l.at)) (state_of l.sink)
      ≡ put_tile (name_docs l.n (expr_at (pool_of l.p) l.r)) (state_of l.initial.sink);
}
