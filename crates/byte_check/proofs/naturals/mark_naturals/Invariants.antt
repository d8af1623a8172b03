use Rattle.pool.specs.Views.{read}
use Rattle.byte_check.specs.Runs.{RunOf, mark}
use lib.ListN.{get_or}
use mathlib.Core.Path.{◌≡◌}
use Prim.Native.Nat.{ℕ, ◌<◌}
use Rattle.byte_check.proofs.naturals.mark_naturals.Given as goal

abbrev pub invariant-loop-r : goal.invariant-loop-r
invariant-loop-r l = (RunOf l.bytes l.run)
    × ((j : ℕ) → j < l.r → get_or l.marks j 0 ≡ mark (read l.pool) j)
