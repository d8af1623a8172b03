-- There are pools without the last projection that have another.
use Prim.Native.Nat.{zero, suc, ◌<◌}
use native.Mathlib.Omega.{arith}
use mathlib.Core.Path.{◌≡◌}
use Rattle.pool.specs.Kinds.{constᵏ, projᵏ}
use Rattle.lister.specs.LastProjection.{Without}
use Rattle.specimens.specs.Computing.{computing}
use Rattle.specimens.specs.LastProjection.{projection}

pub none_is_last : Without (projection 65534).words
unfolding computing projection
none_is_last zero h k e = let constant : constᵏ ≡ projᵏ = k in cc
none_is_last (suc zero) h k e = omega (arith, e)
none_is_last (suc (suc r)) h k e = let rows : suc (suc r) < 2 = h in omega arith
