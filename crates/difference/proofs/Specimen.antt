-- A pool of four constants f, g, a and b and of what is made of them, compared by the definition: the argument before the function, the body before the type, and
-- equal where rows are others but trees are not.
use Prim.Native.Nat.{ℕ}
use mathlib.Core.List.{List, [], ◌∷◌, ◌++◌}
use mathlib.Core.Path.{◌≡◌, refl}
use Rattle.pool.specs.Kinds.{expr_kind, name_kind}
use Rattle.pool.specs.Tables.{Pool, pool, string_word, name_word, list_word, expr_word, string_at}
use Rattle.pool.specs.Tree.{name_shape, level_shapes, same_shape}
use Rattle.pool.specs.Unfold.{name_at, name_to, name_node, list_at, levels_from}
use Rattle.utf8.specs.Letterlike.{same_bytes}
use Rattle.difference.specs.Order.{equal, differ, ◌and_then◌, fields_equal, children, first_to, first_pair}

-- eight counts, strings, names (row 0 anonymous, then f, g, a, b), a list of no levels
abbrev head : List ℕ
head =
    (4 ∷ 5 ∷ 0 ∷ 1 ∷ 0 ∷ 11 ∷ 0 ∷ 0 ∷ 0 ∷ 1 ∷ 1 ∷ 1 ∷ 2 ∷ 1 ∷ 3 ∷ 1 ∷ [])
    ++ (0 ∷ 0 ∷ 0 ∷ 0 ∷ 1 ∷ 0 ∷ 0 ∷ 0 ∷ 1 ∷ 0 ∷ 1 ∷ 0 ∷ 1 ∷ 0 ∷ 2 ∷ 0 ∷ 1 ∷ 0 ∷ 3 ∷ 0 ∷ 0 ∷ 0 ∷ [])

abbrev constant : ℕ → List ℕ
constant name = 2 ∷ name ∷ 0 ∷ 0 ∷ 0 ∷ 0 ∷ 1 ∷ 0 ∷ []

abbrev application : ℕ → ℕ → List ℕ
application function argument = 3 ∷ function ∷ argument ∷ 0 ∷ 0 ∷ 0 ∷ 2 ∷ 0 ∷ []

abbrev lambda : ℕ → ℕ → ℕ → List ℕ
lambda style type body = 5 ∷ 1 ∷ style ∷ type ∷ body ∷ 0 ∷ 2 ∷ 0 ∷ []

-- 0 f, 1 g, 2 a, 3 b, 4 f, 5 f a, 6 g b, 7 f a by other rows, 8 fun (f : f) => a, 9 fun (f : g) => b, 10 the same as 8 in another style
abbrev exprs : List ℕ
exprs =
    constant 1 ++ constant 2 ++ constant 3 ++ constant 4 ++ constant 1 ++ application 0 2 ++ application 1 3 ++ application 4 2 ++ lambda 0 0 2 ++ lambda 0 1 3
    ++ lambda 1 0 2

abbrev small : Pool
small = pool (102 ∷ 103 ∷ 97 ∷ 98 ∷ []) (head ++ exprs)

pub pairs : ((first_pair small 0 5 6 ≡ differ 2 3) × (first_pair small 0 5 7 ≡ equal) × (first_pair small 0 6 7 ≡ differ 3 2) × (first_pair small 0 8 9 ≡ differ 2 3)
    × (first_pair small 0 8 10 ≡ differ 8 10) × (first_pair small 0 5 8 ≡ differ 5 8))
unfolding first_pair first_to fields_equal children ◌and_then◌ expr_kind name_kind string_word name_word list_word expr_word string_at name_shape level_shapes same_shape
    name_at name_to name_node list_at levels_from same_bytes
pairs = (refl, refl, refl, refl, refl, refl)
