-- The check in the code's stages.
use Rattle.std.specs.Prelude.{ℕ, ◌≤◌, Bool, ◌&&◌, List, ◌≡◌, leb, length, Result, Ok, Err}
use Rattle.pool_check.specs.declared.PoolError.{PoolError}
use Rattle.pool.specs.declared.checked.CheckedPool.{CheckedPool}
use Rattle.pool.specs.Tables.{Pool, S, N, L, K, Q, E, D, T, total}
use Rattle.pool.specs.Notation.{notation_ok}
use Rattle.pool.specs.Rules.{level_ok, list_ok, list_entry_ok, expr_ok, declar_ok}
use Rattle.pool_check.specs.Check.{count_ok, in_table, refusal}

-- what check answers, but for the pool that it hands out
abbrev pub as_verdict : Result CheckedPool PoolError → Result Unit PoolError
as_verdict (Ok p) = Ok tt
as_verdict (Err e) = Err e

-- the words are as many as the head says, and the counts and the byte area are within their limits
pub record Limited (bs ws : List ℕ) : Type 0 where
  pub head : 8 ≤ length ws
  pub whole : total ws ≡ length ws
  pub strings : S ws ≤ 65536
  pub names : N ws ≤ 65536
  pub levels : L ws ≤ 65536
  pub lists : K ws ≤ 65536
  pub entries : Q ws ≤ 65536
  pub exprs : E ws ≤ 65536
  pub declars : D ws ≤ 65536
  pub notation : T ws ≤ 65536
  pub bytes : length bs ≤ 16777216

-- the limits, the words of the strings and names apart
abbrev pub limits : Pool → Bool
limits p =
    count_ok (S p.names)
    && (count_ok (N p.names)
    && (count_ok (L p.words)
    && (count_ok (K p.words)
    && (count_ok (Q p.words)
    && (count_ok (E p.words) && (count_ok (D p.words) && (count_ok (T p.words) && leb (length p.bytes) 16777216)))))))

-- the tables for whose rows the check has room
pub record Small (p : Pool) : Type 0 where
  pub strings : S p.names ≤ 65536
  pub names : N p.names ≤ 65536
  pub levels : L p.words ≤ 65536
  pub notation : T p.words ≤ 65536

unfoldable pub words_verdict : Pool → Result Unit PoolError
words_verdict p =
    in_table (level_ok p) (L p.words) (refusal 4)
    (in_table (list_ok p) (K p.words) (refusal 4)
    (in_table (list_entry_ok p) (Q p.words) (refusal 4)
    (in_table (expr_ok p) (E p.words) (refusal 4)
    (in_table (declar_ok p) (D p.words) (refusal 4) (in_table (notation_ok p) (T p.words) (λ row. refusal 31 0) (Ok tt))))))
