-- A scan of code points a byte at a time: what one byte does to what is known.
use Rattle.std.specs.Prelude.{ℕ, zero, suc, List, [], ◌∷◌, ◌++◌, ◌≡◌, Option, None, Some}
use Rattle.utf8.specs.Utf8.{points_from}

-- the bits stay below this, where `need` more bytes add to them, which are three at most
unfoldable pub cap : ℕ → ℕ
cap zero = 4600000
cap (suc zero) = 70600
cap (suc (suc zero)) = 1100
cap (suc (suc (suc zero))) = 16
cap (suc (suc (suc (suc need)))) = 0

-- the code point that a byte ended, if it ended one
abbrev pub ended : Option ℕ → List ℕ
ended None = []
ended (Some c) = c ∷ []

-- the byte b is taken: its code point comes, if it ended one, and then those of what follows
abbrev pub Step : ℕ → ℕ → ℕ → ℕ → ℕ → Option ℕ → Type 0
Step need bits b need' bits' point = (s : List ℕ) → points_from need bits (b ∷ s) ≡ ended point ++ points_from need' bits' s
