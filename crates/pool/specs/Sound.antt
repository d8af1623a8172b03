-- A pool every row of which keeps its rules: what the printers ask of a pool that was checked.
use Rattle.std.specs.Prelude.{ℕ, ◌<◌, true, ◌≡◌}
use Rattle.pool.specs.Tables.{Pool, S, N, L, K, Q, E, D, T}
use Rattle.pool.specs.Notation.{notation_ok}
use Rattle.pool.specs.Rules.{string_ok, name_ok, level_ok, list_ok, list_entry_ok, expr_ok, declar_ok}

pub record Sound (p : Pool) : Type 0 where
  pub strings : (r : ℕ) → r < S p.names → string_ok p r ≡ true
  pub names : (r : ℕ) → r < N p.names → name_ok p r ≡ true
  pub levels : (r : ℕ) → r < L p.words → level_ok p r ≡ true
  pub lists : (r : ℕ) → r < K p.words → list_ok p r ≡ true
  pub entries : (i : ℕ) → i < Q p.words → list_entry_ok p i ≡ true
  pub exprs : (r : ℕ) → r < E p.words → expr_ok p r ≡ true
  pub declars : (r : ℕ) → r < D p.words → declar_ok p r ≡ true
  pub notation : (r : ℕ) → r < T p.words → notation_ok p r ≡ true
