-- Rows in classes: rows with equal trees are of one class, which goes by the lowest of them. Hashes, which rows with equal trees share.
use Rattle.std.specs.Prelude.{ℕ, ◌+◌, ◌-◌, ◌*◌, ◌%◌, ◌^◌, ◌<◌, ◌≤◌, true, not, List, ◌≡◌, get_or, length}
use Rattle.pool.specs.Kinds.{NameKind, name_kind, anonymousᵏ, stringᵏ, numberᵏ, noNameᵏ}
use Rattle.pool.specs.Tables.{Pool, S, N, T, name_word, string_at}
use Rattle.pool.specs.Tree.{Shape, node, none, name_shape, same_shape}
use Rattle.pool.specs.Unfold.{name_at}
use Rattle.pool.specs.Rules.{string_ok, name_ok}
use Rattle.byte_check.specs.Scan.{first_bad}
use Rattle.notation.specs.Hashes.{bytes_hash, Marked, mixed}

-- the rows of the strings and the names keep their rules, and these and the notation rows are few
pub record NamesRight (p : Pool) : Type 0 where
  pub strings : (r : ℕ) → r < S p.names → string_ok p r ≡ true
  pub names : (r : ℕ) → r < N p.names → name_ok p r ≡ true
  pub few_strings : S p.names ≤ 65536
  pub few_names : N p.names ≤ 65536
  pub few_notation : T p.words ≤ 65536

-- ---- classes

-- the class of a row: the lowest row with an equal tree
unfoldable pub lowest : (ℕ → Shape) → ℕ → ℕ
lowest tree r = first_bad (λ k. not (same_shape (tree k) (tree r))) r 0

abbrev pub string_tree : Pool → ℕ → Shape
string_tree p r = node 0 (string_at p r) none

abbrev pub name_tree : Pool → ℕ → Shape
name_tree p r = name_shape (name_at p r)

-- a list has the classes of the rows below n
abbrev pub Classed : (ℕ → Shape) → List ℕ → ℕ → Type 0
Classed tree classes n = (r : ℕ) → r < n → get_or classes r 0 ≡ lowest tree r

-- ---- hashes

unfoldable pub string_hash : Pool → ℕ → ℕ
string_hash p r = length (string_at p r) + bytes_hash 0 (string_at p r)

-- the number of a name row
abbrev pub number_at : Pool → ℕ → ℕ
number_at p r = name_word p.names r 2 + name_word p.names r 3 * 2 ^ 32

unfoldable pub name_hash_by : Pool → ℕ → NameKind → ℕ
name_hash_by p r anonymousᵏ = 0
name_hash_by p r stringᵏ = mixed 1 (lowest (name_tree p) (name_word p.names r 1)) (lowest (string_tree p) (name_word p.names r 2))
name_hash_by p r numberᵏ = mixed 2 (lowest (name_tree p) (name_word p.names r 1)) (number_at p r)
name_hash_by p r noNameᵏ = 0

unfoldable pub name_hash : Pool → ℕ → ℕ
name_hash p r = name_hash_by p r (name_kind (name_word p.names r 0))

-- ---- a table whose rows are put in classes

pub record ClassTable : Type 1 where
  pub count : Pool → ℕ
  pub tree : Pool → ℕ → Shape
  pub hash : Pool → ℕ → ℕ
  -- what a list that was made before says
  pub Known : Pool → List ℕ → Type 0

-- what is known at row r: what was made before, and the classes of the lower rows
pub record Lower (t : ClassTable) (p : Pool) (given classes : List ℕ) (r : ℕ) : Type 0 where
  pub right : NamesRight p
  pub row : r < t.count p
  pub known : t.Known p given
  pub classed : Classed (t.tree p) classes r
  pub room : r < length classes

-- rows with equal trees share their hash
abbrev pub HashesAlike : ClassTable → Type 0
HashesAlike t = (p : Pool) → NamesRight p → (r s : ℕ) → r < t.count p → s < t.count p → t.tree p r ≡ t.tree p s → t.hash p r ≡ t.hash p s

-- for strings, the marks of the byte area are known
abbrev pub MarksKnown : Pool → List ℕ → Type 0
MarksKnown p marks = (S p.names ≤ length marks) × (Marked p.bytes marks)

abbrev pub string_table : ClassTable
string_table = record { count = λ p. S p.names; tree = string_tree; hash = string_hash; Known = MarksKnown }

-- for names, the classes of the strings are
abbrev pub StringsKnown : Pool → List ℕ → Type 0
StringsKnown p strings = (S p.names ≤ length strings) × (Classed (string_tree p) strings (S p.names))

abbrev pub name_table : ClassTable
name_table = record { count = λ p. N p.names; tree = name_tree; hash = name_hash; Known = StringsKnown }

-- ---- rows by their hash

-- the hash of a row as it is kept, in 32 bits
abbrev pub kept_hash : ClassTable → Pool → ℕ → ℕ
kept_hash t p r = t.hash p r % 4294967296

-- a list has the hashes of the rows below n
abbrev pub Hashed : ClassTable → Pool → List ℕ → ℕ → Type 0
Hashed t p hashes n = (r : ℕ) → r < n → get_or hashes r 0 ≡ kept_hash t p r

-- where the rows of a hash are found, in so many chains
abbrev pub slot : ClassTable → Pool → ℕ → ℕ → ℕ
slot t p size r = kept_hash t p r % size

-- one more than the greatest row before row n in a chain, or 0 where there is none
pub record Link (t : ClassTable) (p : Pool) (size chain n link : ℕ) : Type 0 where
  pub low : link ≤ n
  pub own : 0 < link → slot t p size (link - 1) ≡ chain
  pub rest : (j : ℕ) → link ≤ j → j < n → slot t p size j ≡ chain → ⊥

-- the rows before row n stand in so many chains: `heads` has the last row of each chain, `below` for each row the one before it
pub record Chains (t : ClassTable) (p : Pool) (size : ℕ) (heads below : List ℕ) (n : ℕ) : Type 0 where
  pub last : (h : ℕ) → h < size → Link t p size h n (get_or heads h 0)
  pub before : (k : ℕ) → k < n → Link t p size (slot t p size k) k (get_or below k 0)
