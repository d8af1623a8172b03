-- What the scan of the expressions knows of the strings that are marked.
use Rattle.std.specs.Prelude.{ℕ, ◌<◌, ◌≤◌, true, false, List, ◌≡◌, Option, MatchOption}
use Rattle.pool.specs.Tables.{Pool, E, expr_word}
use Rattle.pool.specs.Rules.{expr_ok}
use Rattle.byte_check.specs.Runs.{Marked}

-- the strings are marked where expression row r is a natural
abbrev pub MarkedFor : Pool → List ℕ → ℕ → Type 0
MarkedFor p marks r = expr_word p.words r 0 ≡ 8 → Marked p marks

-- the expression rows from `from` on and before `to` break no rule
abbrev pub Right : Pool → ℕ → ℕ → Type 0
Right p from to = (k : ℕ) → from ≤ k → k < to → expr_ok p k ≡ true

-- v is the first expression row from `from` on that breaks a rule, or, where strings are not marked, a natural before it
abbrev pub Scanned : Pool → List ℕ → ℕ → Option ℕ → Type 0
Scanned p marks from v =
    MatchOption v (Right p from (E p.words))
    (λ r. (from ≤ r) × (r < E p.words) × (MarkedFor p marks r → expr_ok p r ≡ false) × Right p from r)
