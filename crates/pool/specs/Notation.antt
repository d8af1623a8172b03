-- Document 02, P5: which operator a name tree has, and the rules of the rows that give operators.
use Rattle.std.specs.Prelude.{ℕ, zero, suc, Bool, false, ◌&&◌, ◌||◌, not, cond, List, Option, None, Some, ltb, leb}
use Rattle.pool.specs.Kinds.{NotationKind, notation_kind}
use Rattle.pool.specs.Tables.{Pool, S, N, T, notation_word, string_at}
use Rattle.pool.specs.Tree.{Name, name_shape, same_shape}
use Rattle.pool.specs.Unfold.{name_at}

-- "A row has name, kind .., priority .., string."
pub record Operator : Type 0 where
  pub kind : NotationKind
  pub priority : ℕ
  pub string : List ℕ

unfoldable pub operator_at : Pool → ℕ → Operator
operator_at p r =
    record {
      kind = notation_kind (notation_word p.words r 1);
      priority = notation_word p.words r 2;
      string = string_at p (notation_word p.words r 3);
    }

-- the name of a row
abbrev pub operator_name : Pool → ℕ → Name
operator_name p r = name_at p (notation_word p.words r 0)

-- "equal name trees"
abbrev pub same_name : Name → Name → Bool
same_name a b = same_shape (name_shape a) (name_shape b)

-- the operator of the first of `left` rows from r on that has the name, if one has it
unfoldable pub operator_from : Pool → Name → ℕ → ℕ → Option Operator
operator_from p n zero r = None
operator_from p n (suc left) r = cond (same_name (operator_name p r) n) (Some (operator_at p r)) (operator_from p n left (suc r))

-- the operator of a name tree, if it has one
unfoldable pub operator_of : Pool → Name → Option Operator
operator_of p n = operator_from p n (T p.words) 0

-- "name, kind (0 prefix, 1 infix, 2 postfix), priority 1 to 1,023, string"
unfoldable pub notation_fields_ok : Pool → ℕ → Bool
notation_fields_ok p r =
    let word : ℕ → ℕ = notation_word p.words r in
    ltb (word 0) (N p.names)
    && (ltb (word 1) 3 && (leb 1 (word 2) && (leb (word 2) 1023 && ltb (word 3) (S p.names))))

-- one of the first `count` rows has the name of row r
unfoldable pub given_before : Pool → ℕ → ℕ → Bool
given_before p r zero = false
given_before p r (suc count) = same_name (operator_name p count) (operator_name p r) || given_before p r count

-- "a notation row outside these rules or a name tree given twice": the contrary
unfoldable pub notation_ok : Pool → ℕ → Bool
notation_ok p r = notation_fields_ok p r && not (given_before p r r)
