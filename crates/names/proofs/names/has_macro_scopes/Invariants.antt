use Rattle.names.specs.Names.{is_hygienic}
use Rattle.pool.specs.Views.{lent}
use Rattle.pool.specs.Unfold.{name_at}
use Rattle.pool.specs.Tables.{N}
use Prim.Native.Nat.{◌<◌}
use mathlib.Core.Path.{◌≡◌}
use Rattle.names.proofs.names.has_macro_scopes.Given as goal

abbrev pub invariant-loop-at : goal.invariant-loop-at
invariant-loop-at l =
    (l.at < N (lent l.pool).names) × (is_hygienic (name_at (lent l.pool) l.at) ≡ is_hygienic (name_at (lent l.pool) l.r))

abbrev pub decreases-loop-at : goal.decreases-loop-at
decreases-loop-at l = l.at
