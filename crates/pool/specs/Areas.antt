-- What the code knows of the tables: the counts and where each table starts, read off the head words once.
use Rattle.std.specs.Prelude.{ℕ, ◌<◌, List, ◌≡◌}
use Rattle.pool.specs.declared.tables.NameTables.{NameTables}
use Rattle.pool.specs.declared.tables.WordTables.{WordTables}
use Rattle.pool.specs.Tables.{Pool, S, N, L, K, Q, E, D, T, names_at, levels_at, lists_at, list_words_at, exprs_at, declars_at, notation_at, total}

-- the pool of a byte area, the words of the strings and names, and the words of the rest
abbrev pub over : List ℕ → List ℕ → List ℕ → Pool
over bs ns ws = record { bytes = bs; names = ns; words = ws }

-- of the words that hold the strings and the names
pub record NamesOf (ns : List ℕ) (t : NameTables) : Type 0 where
  pub strings : t.strings ≡ S ns
  pub names : t.names ≡ N ns
  pub strings_small : t.strings < 4294967296
  pub names_small : t.names < 4294967296
  pub names_at : t.names_at ≡ names_at ns

-- of the words that hold the rest
pub record WordsOf (ws : List ℕ) (t : WordTables) : Type 0 where
  pub levels : t.levels ≡ L ws
  pub lists : t.lists ≡ K ws
  pub entries : t.entries ≡ Q ws
  pub exprs : t.exprs ≡ E ws
  pub declars : t.declars ≡ D ws
  pub notation : t.notation ≡ T ws
  pub levels_at : t.levels_at ≡ levels_at ws
  pub lists_at : t.lists_at ≡ lists_at ws
  pub entries_at : t.entries_at ≡ list_words_at ws
  pub exprs_at : t.exprs_at ≡ exprs_at ws
  pub declars_at : t.declars_at ≡ declars_at ws
  pub notation_at : t.notation_at ≡ notation_at ws
  pub total : t.total ≡ total ws
  pub small : t.total < 1099511627776
