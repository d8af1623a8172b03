-- 02, P3: "Types compared from the back." Of two expression rows of a pool: their trees are equal, or the first pair of rows that differ.
use Rattle.std.specs.Prelude.{ℕ, zero, suc, ◌+◌, Bool, true, ◌&&◌, cond, ltb, eqb}
use Rattle.utf8.specs.Letterlike.{same_bytes}
use Rattle.pool.specs.Kinds.{ExprKind, expr_kind, varᵏ, sortᵏ, constᵏ, appᵏ, piᵏ, lamᵏ, letᵏ, projᵏ, natᵏ, strᵏ, noExprᵏ}
use Rattle.pool.specs.Tables.{Pool, expr_word, string_at}
use Rattle.pool.specs.Tree.{name_shape, level_shape, level_shapes, same_shape, same_shapes}
use Rattle.pool.specs.Unfold.{name_at, level_at, list_at}

-- "it says that their trees are equal, or gives the first pair of rows"
pub data Comparison : Type 0 where
  equal : Comparison
  differ : ℕ → ℕ → Comparison

-- what is looked at first decides, unless it is equal
infixr 40 ◌and_then◌
unfoldable pub ◌and_then◌ : Comparison → Comparison → Comparison
equal and_then later = later
differ a b and_then later = differ a b

-- "fields (as trees)": names, levels and lists of levels by their trees, wherever their rows are
abbrev pub names_equal : Pool → ℕ → ℕ → Bool
names_equal p m n = same_shape (name_shape (name_at p m)) (name_shape (name_at p n))

abbrev pub levels_equal : Pool → ℕ → ℕ → Bool
levels_equal p m n = same_shape (level_shape (level_at p m)) (level_shape (level_at p n))

abbrev pub lists_equal : Pool → ℕ → ℕ → Bool
lists_equal p m n = same_shapes (level_shapes (list_at p m)) (level_shapes (list_at p n))

abbrev pub strings_equal : Pool → ℕ → ℕ → Bool
strings_equal p m n = same_bytes (string_at p m) (string_at p n)

-- whether the fields of rows a and b of one kind "that are no expressions" are equal. Inside a binder group the first row's tree is lifted by d from c on
-- (01, `lift`); the call lifts by 0.
unfoldable pub fields_equal : Pool → ℕ → ℕ → ExprKind → (ℕ → ℕ) → (ℕ → ℕ) → Bool
fields_equal p d c varᵏ a b = eqb (cond (ltb (a 1) c) (a 1) (a 1 + d)) (b 1)
fields_equal p d c sortᵏ a b = levels_equal p (a 1) (b 1)
fields_equal p d c constᵏ a b = names_equal p (a 1) (b 1) && lists_equal p (a 2) (b 2)
fields_equal p d c appᵏ a b = true
fields_equal p d c piᵏ a b = names_equal p (a 1) (b 1) && eqb (a 2) (b 2)
fields_equal p d c lamᵏ a b = names_equal p (a 1) (b 1) && eqb (a 2) (b 2)
fields_equal p d c letᵏ a b = names_equal p (a 1) (b 1) && eqb (a 5) (b 5)
fields_equal p d c projᵏ a b = names_equal p (a 1) (b 1) && eqb (a 2) (b 2)
fields_equal p d c natᵏ a b = strings_equal p (a 1) (b 1)
fields_equal p d c strᵏ a b = strings_equal p (a 1) (b 1)
fields_equal p d c noExprᵏ a b = true

-- its children, "these last field first": argument, function; body, type; body, value, type; structure
unfoldable pub children : (ℕ → ℕ → ℕ → Comparison) → ℕ → ExprKind → (ℕ → ℕ) → (ℕ → ℕ) → Comparison
children of c varᵏ a b = equal
children of c sortᵏ a b = equal
children of c constᵏ a b = equal
children of c appᵏ a b = of c (a 2) (b 2) and_then of c (a 1) (b 1)
children of c piᵏ a b = of (suc c) (a 4) (b 4) and_then of c (a 3) (b 3)
children of c lamᵏ a b = of (suc c) (a 4) (b 4) and_then of c (a 3) (b 3)
children of c letᵏ a b = of (suc c) (a 4) (b 4) and_then of c (a 3) (b 3) and_then of c (a 2) (b 2)
children of c projᵏ a b = of c (a 3) (b 3)
children of c natᵏ a b = equal
children of c strᵏ a b = equal
children of c noExprᵏ a b = equal

-- "the first pair of rows whose kinds, or fields .., differ; a row comes before its children". References go to lower rows, so a bound above the row reaches
-- the leaves.
unfoldable pub first_to : ℕ → Pool → ℕ → ℕ → ℕ → ℕ → Comparison
first_to zero p d c a b = equal
first_to (suc bound) p d c a b =
    let wa : ℕ → ℕ = expr_word p.words a in
    let wb : ℕ → ℕ = expr_word p.words b in
    cond (eqb (wa 0) (wb 0) && fields_equal p d c (expr_kind (wa 0)) wa wb) (children (first_to bound p d) c (expr_kind (wa 0)) wa wb) (differ a b)

-- of the rows a and b, the first one's tree lifted by d
unfoldable pub first_pair : Pool → ℕ → ℕ → ℕ → Comparison
first_pair p d a b = first_to (suc a) p d 0 a b
