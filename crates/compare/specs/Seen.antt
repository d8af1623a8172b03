-- What a search has already answered: keys in an array, of which it is only known that what they stand for is true.
use Rattle.std.specs.Prelude.{ℕ, ◌+◌, ◌*◌, Bool, false, ◌&&◌, cond, Option, None, Some, List, ◌≡◌, ltb, eqb, get_or, set, length}

-- the key of three numbers; none where they are too large
unfoldable pub packed : ℕ → ℕ → ℕ → Option ℕ
packed a b c = cond (ltb a 16777216) (cond (ltb b 16777216) (cond (ltb c 16384) (Some ((a * 16777216 + b) * 16384 + c + 1)) None) None) None

-- whether the key stands in the slot
abbrev pub is_held : List ℕ → ℕ → Option ℕ → Bool
is_held seen slot None = false
is_held seen slot (Some k) = ltb slot (length seen) && eqb (get_or seen slot 0) k

-- the array with the key in the slot
abbrev pub with_key : List ℕ → ℕ → Option ℕ → List ℕ
with_key seen slot None = seen
with_key seen slot (Some k) = set seen slot k

-- each key that an array holds stands for three numbers of which P holds
abbrev pub Holds : (ℕ → ℕ → ℕ → Type 0) → List ℕ → Type 0
Holds P seen = (j a b c : ℕ) → packed a b c ≡ Some (get_or seen j 0) → P a b c
