-- What a search of few steps tells.
use Rattle.std.specs.Prelude.{ℕ, suc, ◌<◌, Bool, ◌||◌, Option, Some, None, ◌≡◌, ◌⊎◌}
use Rattle.pool.specs.Tables.{Pool, expr_word}
use Rattle.pool.specs.Tree.{occurs}
use Rattle.pool.specs.Unfold.{expr_at}
use Rattle.occurrence.specs.Parts.{first_part, second_part, body_part, occurs_at}

-- what it answers, where it answers
abbrev pub Told : Bool → Option Bool → Type 0
Told asked v = (b : Bool) → v ≡ Some b → asked ≡ b

-- two parts, and the same two in the order of a search
abbrev pub EitherWay : ℕ → ℕ → ℕ → ℕ → Type 0
EitherWay first second near far = ((near ≡ first) × (far ≡ second)) ⊎ ((near ≡ second) × (far ≡ first))

-- whether the variable i occurs in the parts of row r
abbrev pub occurs_in_parts : Pool → ℕ → ℕ → Bool
occurs_in_parts p r i =
    occurs_at p i (first_part p.words r (expr_word p.words r 0))
    || (occurs_at p i (second_part p.words r (expr_word p.words r 0)) || occurs_at p (suc i) (body_part p.words r (expr_word p.words r 0)))

-- what a look at row r alone tells; nothing where its parts say
pub record AtOnce (p : Pool) (r i : ℕ) (v : Option Bool) : Type 0 where
  pub told : Told (occurs i (expr_at p r)) v
  pub small : v ≡ None → i < 4294967296
  pub left : v ≡ None → occurs i (expr_at p r) ≡ occurs_in_parts p r i
