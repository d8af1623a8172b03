use Rattle.pool.specs.Views.{lent}
use Rattle.pool.proofs.RowUnfolds.{entry-fits}
use Rattle.document.specs.Leaves.{state_of}
use Rattle.levels.proofs.Universes.{shown, tile-step, tile_end}
use Rattle.pieces.specs.Tiles.{put_tile}
use Rattle.pool.specs.Unfold.{levels_from}
use Prim.Native.Nat.{◌+◌, ◌-◌}
use native.Mathlib.Omega.{arith}
use mathlib.Core.List.{map}
use mathlib.Core.Path.{sym, ap, ◌∙◌}
use Rattle.levels.proofs.levels.put_next_levels.Goals as goal

pub put_next_level-requires : goal.put_next_level-requires
put_next_level-requires c = rw c.entry.ensures.0 (entry-fits (lent c.args.pool.now) c.args.pool.now.sound c.loop-i.i (omega arith))

pub loop-i-preserved : goal.loop-i-preserved
loop-i-preserved c =
    let l = c.loop-i in
    let h = c.put_next_level.ensures in
    record {
      same_rows = h.same_rows ∙ l.invariant.same_rows;
      same_text = h.same_text ∙ l.invariant.same_text;
      left =
          ap (put_tile (map shown (levels_from (lent c.args.pool.now) (l.i + 1) (c.args.to - (l.i + 1))))) h.is
          ∙ rw c.entry.ensures.0 (tile-step (lent c.args.pool.now) l.i c.args.to (state_of l.sink) (omega arith))
          ∙ l.invariant.left;
    }

pub returns : goal.returns
returns c =
    let l = c.loop-i in
    record {
      same_rows = l.invariant.same_rows;
      same_text = l.invariant.same_text;
      is = sym (tile_end (lent c.args.pool.now) l.i c.args.to (state_of l.sink) (omega arith)) ∙ l.invariant.left;
    }
