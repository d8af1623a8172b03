-- What a call is given to print from.
use Rattle.std.specs.Prelude.{ℕ, List, Result}
use Rattle.pool_check.specs.declared.PoolError.{PoolError}
use Rattle.pool.specs.Tables.{Pool, pool}
use Rattle.pool.specs.Rules.{last_projection}
use Rattle.pool_check.specs.Check.{verdict_with}

-- "A byte area .. and u32 words"
pub record Source : Type 0 where
  pub bytes : List ℕ
  pub words : List ℕ

abbrev pub pool_of : Source → Pool
pool_of s = pool s.bytes s.words

-- what check says of it; with a greatest index of a projection
abbrev pub judged_with : ℕ → Source → Result Unit PoolError
judged_with last s = verdict_with last s.bytes s.words

abbrev pub judged : Source → Result Unit PoolError
judged = judged_with last_projection
