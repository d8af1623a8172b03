-- The operators of the names of a pool, in a table by name row; and what is asked of notation rows before it is made.
use Rattle.std.specs.Prelude.{ℕ, zero, suc, ◌<◌, true, cond, List, ◌≡◌, get_or}
use Rattle.pool.specs.Tables.{Pool, N, T, notation_word}
use Rattle.pool.specs.Tree.{Name}
use Rattle.pool.specs.Unfold.{name_at}
use Rattle.pool.specs.Notation.{operator_name, same_name, notation_fields_ok}

-- the fields of the notation rows keep their rules
abbrev pub FieldsRight : Pool → Type 0
FieldsRight p = (r : ℕ) → r < T p.words → notation_fields_ok p r ≡ true

-- one more than the first of `left` rows from r on that has a name, or 0 where none has it
unfoldable pub entry_from : Pool → Name → ℕ → ℕ → ℕ
entry_from p n zero r = 0
entry_from p n (suc left) r = cond (same_name (operator_name p r) n) (suc r) (entry_from p n left (suc r))

-- one more than the notation row that gives the operator of a name, or 0 where it has none
abbrev pub entry_of : Pool → Name → ℕ
entry_of p n = entry_from p n (T p.words) 0

-- a table has these entries for the names of all rows
abbrev pub Operators : Pool → List ℕ → Type 0
Operators p table = (r : ℕ) → r < N p.names → get_or table r 0 ≡ entry_of p (name_at p r)

-- the class of the name of notation row t
abbrev pub owned_class : Pool → List ℕ → ℕ → ℕ
owned_class p classes t = get_or classes (notation_word p.words t 0) 0

-- the notation rows before row n, by the classes of their names: 0 for a class that none has, else one more than the only row that has it
pub record Owned (p : Pool) (classes owners : List ℕ) (n : ℕ) : Type 0 where
  pub owner : (c t : ℕ) → get_or owners c 0 ≡ suc t → (t < n) × (owned_class p classes t ≡ c)
  pub all : (t : ℕ) → t < n → get_or owners (owned_class p classes t) 0 ≡ suc t
