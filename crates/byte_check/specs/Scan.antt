-- 01, From the input: "rows rising".
use Rattle.std.specs.Prelude.{ℕ, zero, suc, Bool, cond, Option, None, Some, ltb}

-- the first of `left` rows from r on that is not ok, or the row after them
unfoldable pub first_bad : (ℕ → Bool) → ℕ → ℕ → ℕ
first_bad ok zero r = r
first_bad ok (suc left) r = cond (ok r) (first_bad ok left (suc r)) r

-- the first of `count` rows that is not ok, if there is one
unfoldable pub found : (ℕ → Bool) → ℕ → Option ℕ
found ok count = let r : ℕ = first_bad ok count 0 in cond (ltb r count) (Some r) None
