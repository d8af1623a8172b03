use Rattle.document.specs.Leaves.{state_of}
use Rattle.pieces.specs.Tiles.{put_tile}
use Rattle.pool.specs.Views.{lent}
use Rattle.pool.specs.Unfold.{levels_from}
use Rattle.levels.proofs.Universes.{shown}
use mathlib.Core.List.{map}
use mathlib.Core.Path.{◌≡◌}
use Prim.Native.Nat.{◌-◌}
use Rattle.levels.proofs.levels.put_next_levels.Given as goal

-- what is left to be put gives what all gave at first
abbrev pub invariant-loop-i : goal.invariant-loop-i
invariant-loop-i l = record {
  same_rows : l.sink.rows.ghost_name ≡ l.initial.sink.rows.ghost_name;
  same_text : l.sink.text.ghost_name ≡ l.initial.sink.text.ghost_name;
  left :
      put_tile (map shown (levels_from (lent l.pool) l.i (l.to - l.i))) (state_of l.sink)
      ≡ put_tile (map shown (levels_from (lent l.pool) l.from (l.to - l.from))) (state_of l.initial.sink);
}
