-- The parts of an expression row: at most two that stand under the same variables, and at most one under one more. Each is a
-- row and one, or 0 where there is none.
use Rattle.std.specs.Prelude.{ℕ, zero, suc, ◌+◌, Bool, false, ◌||◌, cond, List, Option, Some, None, eqb}
use Rattle.pool.specs.Tables.{Pool, expr_word}
use Rattle.pool.specs.Tree.{occurs}
use Rattle.pool.specs.Unfold.{expr_at}

-- of row r, of the kind k
unfoldable pub first_part : List ℕ → ℕ → ℕ → ℕ
first_part ws r k =
    cond (eqb k 3) (expr_word ws r 1 + 1)
    (cond (eqb k 4 || eqb k 5) (expr_word ws r 3 + 1)
    (cond (eqb k 6) (expr_word ws r 2 + 1) (cond (eqb k 7) (expr_word ws r 3 + 1) 0)))

unfoldable pub second_part : List ℕ → ℕ → ℕ → ℕ
second_part ws r k = cond (eqb k 3) (expr_word ws r 2 + 1) (cond (eqb k 6) (expr_word ws r 3 + 1) 0)

unfoldable pub body_part : List ℕ → ℕ → ℕ → ℕ
body_part ws r k = cond (eqb k 4 || eqb k 5) (expr_word ws r 4 + 1) (cond (eqb k 6) (expr_word ws r 4 + 1) 0)

-- whether the variable i occurs in a part
unfoldable pub occurs_at : Pool → ℕ → ℕ → Bool
occurs_at p i zero = false
occurs_at p i (suc r) = occurs i (expr_at p r)

-- a part as code has it
abbrev pub part_of : Option ℕ → ℕ
part_of None = 0
part_of (Some r) = suc r
