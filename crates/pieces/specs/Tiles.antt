-- "Tile: the first, then +G(|+next) each": what comes after the first.
use Rattle.std.specs.Prelude.{List, [], ◌∷◌}
use Rattle.document.specs.Walk.{Marked}
use Rattle.document.specs.Sink.{State, put_break, put_join, put_group, emit}

-- the next subtree is written after its break: the two are joined, grouped, and joined to the tile so far
unfoldable pub end_tile : State → State
end_tile st = put_join (put_group (put_join st))

unfoldable pub put_tile : List Marked → State → State
put_tile [] st = st
put_tile (d ∷ ds) st = put_tile ds (end_tile (emit d (put_break 1 st)))
