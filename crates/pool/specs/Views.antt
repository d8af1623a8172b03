-- The pools that functions are lent, as the definitions speak of them.
use Rattle.pool.specs.declared.pool.Pool.{Pool as Given}
use Rattle.pool.specs.declared.checked.CheckedPool.{CheckedPool}
use Rattle.pool.specs.Tables.{Pool}
use Rattle.pool.specs.Areas.{over}

-- a pool as it is given
abbrev pub read : Given → Pool
read p = over p.bytes.now p.names.words.now p.words.words.now

-- a pool that was checked
abbrev pub lent : CheckedPool → Pool
lent p = over p.bytes.now p.names.words.now p.words.words.now
