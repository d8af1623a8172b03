-- What the walk from the back asks, and what it leaves.
use Rattle.std.specs.Prelude.{ℕ, zero, suc, ◌+◌, ◌<◌, ◌≤◌, Bool, true, false, ◌||◌, Option, Some, None, List, ◌≡◌, eqb, leb}
use Rattle.pool.specs.Tables.{Pool, E, expr_word}
use Rattle.pool.specs.Tree.{Shape}
use Rattle.occurrence.specs.Parts.{first_part, second_part, body_part}
use Rattle.links.specs.Links.{Owes}
use Rattle.equality.specs.Sweep.{tree_at}
use Rattle.difference.specs.declared.walk.Found.{Found}
use Rattle.difference.specs.declared.walk.Found.TheVariants.{Differ, Equal, Unknown}
use Rattle.difference.specs.Order.{Comparison, equal, differ, ◌and_then◌, first_to}

-- whether lifting by d from c on leaves the tree of row a as it is
abbrev pub is_plain : List ℕ → ℕ → ℕ → ℕ → Bool
is_plain ws d c a = eqb d 0 || leb (expr_word ws a 7) c

-- ---- rows that were found equal

-- whatever the rows are: where an array says the truth before, and x and y are equal, it does so afterwards
pub record KeepsWhere (before after : List ℕ) (x y : ℕ) : Type 0 where
  pub keeps : (S : ℕ → Shape) → Owes S S before → S x ≡ S y → Owes S S after

-- v is a row that x is equal to
pub record Root (kept : List ℕ) (x v : ℕ) : Type 0 where
  pub is : (S : ℕ → Shape) → Owes S S kept → S x ≡ S v

-- the same, and what the array says stays true
pub record Finds (before after : List ℕ) (x v : ℕ) : Type 0 where
  pub keeps : (S : ℕ → Shape) → Owes S S before → Owes S S after
  pub is : (S : ℕ → Shape) → Owes S S before → S x ≡ S v

-- v tells, where it is true, that x and y are equal
pub record Classed (before after : List ℕ) (x y : ℕ) (v : Bool) : Type 0 where
  pub keeps : (S : ℕ → Shape) → Owes S S before → Owes S S after
  pub one : v ≡ true → (S : ℕ → Shape) → Owes S S before → S x ≡ S y

-- what was found equal is kept where nothing is lifted
pub record KeepsIf (ws before after : List ℕ) (found : Found) (d c a b : ℕ) : Type 0 where
  pub keeps : (S : ℕ → Shape) → Owes S S before → (found ≡ Equal → is_plain ws d c a ≡ true → S a ≡ S b) → Owes S S after

-- ---- two rows and two parts

pub record TwoRows (p : Pool) (known : Bool) (a b : ℕ) : Type 0 where
  pub a_row : a < E p.words
  pub b_row : b < E p.words
  pub known_so : known ≡ true → tree_at p a ≡ tree_at p b

-- two parts, each a row and one or 0 where there is none
unfoldable pub first_at : ℕ → Pool → ℕ → ℕ → ℕ → ℕ → Comparison
first_at n p d c zero zero = equal
first_at n p d c zero (suc b) = differ 0 0
first_at n p d c (suc a) zero = differ 0 0
first_at n p d c (suc a) (suc b) = first_to n p d c a b

-- the parts of two rows of the kind k, the last one first
unfoldable pub parts_at : ℕ → Pool → ℕ → ℕ → ℕ → ℕ → ℕ → Comparison
parts_at n p d c a b k =
    first_at n p d (suc c) (body_part p.words a k) (body_part p.words b k)
    and_then first_at n p d c (second_part p.words a k) (second_part p.words b k)
    and_then first_at n p d c (first_part p.words a k) (first_part p.words b k)

-- what a look at two rows alone tells: whether their trees are equal, and if not, they are the pair; or their parts say
pub record AtOnce (p : Pool) (d c a b : ℕ) (v : Option Bool) : Type 0 where
  pub no : v ≡ Some false → (n : ℕ) → first_to (suc n) p d c a b ≡ differ a b
  pub yes : v ≡ Some true → (n : ℕ) → a < n → first_to n p d c a b ≡ equal
  pub one : v ≡ None → expr_word p.words a 0 ≡ expr_word p.words b 0
  pub left : v ≡ None → (n : ℕ) → first_to (suc n) p d c a b ≡ parts_at n p d c a b (expr_word p.words a 0)

-- what a comparison tells: the first pair; that all is equal; or nothing
pub record Tells (asked : Comparison) (v : Found) : Type 0 where
  pub no : (a b : ℕ) → v ≡ Differ a b → asked ≡ differ a b
  pub yes : v ≡ Equal → asked ≡ equal

-- the pair of rows, unless they are equal
abbrev pub pair_unless : Bool → ℕ → ℕ → Found
pair_unless true a b = Equal
pair_unless false a b = Differ a b

-- two parts are to be compared; c has room to rise by one for each row below x
pub record TwoParts (p : Pool) (kept : List ℕ) (x y c : ℕ) : Type 0 where
  pub x_row : x ≤ E p.words
  pub y_row : y ≤ E p.words
  pub room : c + x ≤ 1099511627776
  pub true_so_far : Owes (tree_at p) (tree_at p) kept

-- what a walk tells, at every bound above the row; what it kept is true; where its steps have no limit they still have none, and it tells all
pub record Walked (p : Pool) (d c x y : ℕ) (steps left : Option ℕ) (kept : List ℕ) (v : Found) : Type 0 where
  pub told : (n : ℕ) → x ≤ n → Tells (first_at n p d c x y) v
  pub true_still : Owes (tree_at p) (tree_at p) kept
  pub unlimited : steps ≡ None → left ≡ None
  pub sure : steps ≡ None → v ≡ Unknown → ⊥

-- what the comparison answers: the first pair; that all is equal; or that they differ, and that only where the first tree is lifted
pub record Compares (asked : Comparison) (d : ℕ) (v : Found) : Type 0 where
  pub told : Tells asked v
  pub apart : v ≡ Unknown → (asked ≡ equal → ⊥) × (d ≡ 0 → ⊥)
