-- Equality of two rows, by the fields that are no parts and by the parts.
use Rattle.std.specs.Prelude.{ℕ, zero, suc, ◌+◌, ◌*◌, ◌<◌, ◌≤◌, Bool, true, false, ◌&&◌, cond, List, ◌≡◌, ltb, eqb, take, drop, Option, None}
use Rattle.utf8.specs.Letterlike.{same_bytes}
use Rattle.occurrence.specs.Asked.{Told}
use Rattle.pool.specs.Tables.{Pool, N, L, Q, E, string_word, name_word, level_word, list_entry, expr_word}
use Rattle.pool.specs.Tree.{Shape, name_shape, level_shape, level_shapes, same_shape, same_shapes, lift, same}
use Rattle.pool.specs.Unfold.{name_at, level_at, levels_from, list_at, expr_at}
use Rattle.links.specs.Links.{Owes}
use Rattle.compare.specs.Seen.{Holds}
use Rattle.occurrence.specs.Parts.{first_part, second_part, body_part}

-- the bytes of string row r
abbrev pub string_of : List ℕ → List ℕ → ℕ → List ℕ
string_of bs ns r = take (string_word ns r 1) (drop (string_word ns r 0) bs)

-- the 64 bits of name row r
abbrev pub number_of : List ℕ → ℕ → ℕ
number_of ns r = name_word ns r 2 + name_word ns r 3 * 4294967296

-- two name rows of one kind, which is not 0
pub record TwoNames (p : Pool) (kind a b : ℕ) : Type 0 where
  pub a_row : a < N p.names
  pub b_row : b < N p.names
  pub a_kind : kind ≡ name_word p.names a 0
  pub b_kind : kind ≡ name_word p.names b 0
  pub no_root : kind ≡ 0 → ⊥

-- whether their last parts are equal
unfoldable pub ends_same : List ℕ → List ℕ → ℕ → ℕ → ℕ → Bool
ends_same bs ns kind a b =
    cond (eqb kind 1) (same_bytes (string_of bs ns (name_word ns a 2)) (string_of bs ns (name_word ns b 2))) (eqb (number_of ns a) (number_of ns b))

-- what a first look at two rows finds: whether they are equal, or what is left to look at
pub record Quick (asked : Bool) (Open : Type 0) (v : Option Bool) : Type 0 where
  pub told : Told asked v
  pub left : v ≡ None → Open

-- what a comparison answers, and what was answered after it
pub record Compared (P : ℕ → ℕ → ℕ → Type 0) (asked : Bool) (known : List ℕ) (v : Bool) : Type 0 where
  pub answer : v ≡ asked
  pub holds : Holds P known

-- ---- levels

-- what a level row is
abbrev pub level_shape_at : Pool → ℕ → Shape
level_shape_at p r = level_shape (level_at p r)

abbrev pub levels_same : Pool → ℕ → ℕ → Bool
levels_same p a b = same_shape (level_shape (level_at p a)) (level_shape (level_at p b))

-- (row, row): their levels are equal
abbrev pub EqualLevels : Pool → ℕ → ℕ → ℕ → Type 0
EqualLevels p a b c = levels_same p a b ≡ true

-- two level rows of one kind that has parts: the words 1 and 2 are rows, and the levels are equal where those of the rows are
pub record Branches (p : Pool) (a b : ℕ) : Type 0 where
  pub lower₁ : level_word p.words a 1 < a
  pub lower₂ : level_word p.words a 2 < a
  pub lower₃ : level_word p.words b 1 < b
  pub lower₄ : level_word p.words b 2 < b
  pub both : levels_same p a b
      ≡ levels_same p (level_word p.words a 1) (level_word p.words b 1) && levels_same p (level_word p.words a 2) (level_word p.words b 2)

pub record TwoLevels (p : Pool) (known : List ℕ) (a b : ℕ) : Type 0 where
  pub a_row : a < L p.words
  pub b_row : b < L p.words
  pub holds : Holds (EqualLevels p) known

-- n list words from x on and from y on
abbrev pub lists_same : Pool → ℕ → ℕ → ℕ → Bool
lists_same p x y n = same_shapes (level_shapes (levels_from p x n)) (level_shapes (levels_from p y n))

pub record TwoLists (p : Pool) (x y n : ℕ) : Type 0 where
  pub x_fits : x + n ≤ Q p.words
  pub y_fits : y + n ≤ Q p.words

-- what was owed, and the n levels from the list words x and y on to be equal, is owed now, and nothing else
pub record LinkedLists (ws before after : List ℕ) (x y n : ℕ) : Type 0 where
  pub down : (S : ℕ → Shape) → Owes S S after → Owes S S before
  pub tied : (S : ℕ → Shape) → Owes S S after → (i : ℕ) → i < n → S (list_entry ws (x + i)) ≡ S (list_entry ws (y + i))
  pub up : (S : ℕ → Shape) → Owes S S before → ((i : ℕ) → i < n → S (list_entry ws (x + i)) ≡ S (list_entry ws (y + i))) → Owes S S after

-- ---- expressions

-- the tree of row a, lifted by d from c on, and that of row b
abbrev pub trees_same : Pool → ℕ → ℕ → ℕ → ℕ → Bool
trees_same p d c a b = same (lift d c (expr_at p a)) (expr_at p b)

-- whether two parts are equal, once the first is lifted by d from c on
unfoldable pub same_at : Pool → ℕ → ℕ → ℕ → ℕ → Bool
same_at p d c zero zero = true
same_at p d c zero (suc b) = false
same_at p d c (suc a) zero = false
same_at p d c (suc a) (suc b) = same (lift d c (expr_at p a)) (expr_at p b)

abbrev pub names_same : Pool → ℕ → ℕ → Bool
names_same p a b = same_shape (name_shape (name_at p a)) (name_shape (name_at p b))

-- the word that a row has beside its name: style, nondep or index
abbrev pub besides : ℕ → ℕ
besides k = cond (eqb k 6) 5 2

-- whether two rows of the kind k have equal fields, but for their parts
unfoldable pub fields_same : Pool → ℕ → ℕ → ℕ → ℕ → ℕ → Bool
fields_same p d c a b k =
    let wa : ℕ → ℕ = expr_word p.words a in
    let wb : ℕ → ℕ = expr_word p.words b in
    cond (eqb k 0) (eqb (cond (ltb (wa 1) c) (wa 1) (wa 1 + d)) (wb 1))
    (cond (eqb k 1) (levels_same p (wa 1) (wb 1))
    (cond (eqb k 2) (names_same p (wa 1) (wb 1) && same_shapes (level_shapes (list_at p (wa 2))) (level_shapes (list_at p (wb 2))))
    (cond (eqb k 3) true
    (cond (ltb k 8) (names_same p (wa 1) (wb 1) && eqb (wa (besides k)) (wb (besides k)))
    (same_bytes (string_of p.bytes p.names (wa 1)) (string_of p.bytes p.names (wb 1)))))))

-- and equal parts
unfoldable pub parts_same : Pool → ℕ → ℕ → ℕ → ℕ → ℕ → Bool
parts_same p d c a b k =
    same_at p d c (first_part p.words a k) (first_part p.words b k)
    && (same_at p d c (second_part p.words a k) (second_part p.words b k)
    && same_at p d (suc c) (body_part p.words a k) (body_part p.words b k))

-- two rows of one kind that are equal where their parts are
pub record ByParts (p : Pool) (d c a b : ℕ) : Type 0 where
  pub one : expr_word p.words a 0 ≡ expr_word p.words b 0
  pub both : trees_same p d c a b ≡ parts_same p d c a b (expr_word p.words a 0)

-- two rows of one kind
pub record OneKind (p : Pool) (a b kind : ℕ) : Type 0 where
  pub a_row : a < E p.words
  pub b_row : b < E p.words
  pub a_kind : kind ≡ expr_word p.words a 0
  pub b_kind : kind ≡ expr_word p.words b 0
