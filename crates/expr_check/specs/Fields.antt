-- What is asked of an expression row, by the rules.
use Rattle.std.specs.Prelude.{ℕ, Bool, List, [], ◌∷◌, Option}
use Rattle.std.specs.Bool.{then_some}
use Rattle.pool.specs.Tables.{Pool, expr_word}
use Rattle.pool.specs.Kinds.{ExprKind}
use Rattle.pool.specs.Rules.{expr_fields_ok, depth_by, loose_by}
use Rattle.expr_check.specs.declared.kinds.Asked.{Asked}

-- the words of row r
abbrev pub row_of : List ℕ → ℕ → List ℕ
row_of ws r =
    let word : ℕ → ℕ = expr_word ws r in
    word 0 ∷ word 1 ∷ word 2 ∷ word 3 ∷ word 4 ∷ word 5 ∷ word 6 ∷ word 7 ∷ []

-- the depth and the loose word, where the fields are right
abbrev pub asked : Bool → ℕ → ℕ → Option Asked
asked right depth loose = then_some right (record { depth = depth; loose = loose })

abbrev pub asked_by : Pool → ℕ → ExprKind → Option Asked
asked_by p r k = asked (expr_fields_ok p r k) (depth_by p r k) (loose_by p r k)
