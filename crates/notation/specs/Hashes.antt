-- Hashes of bytes, all of them from the left. The hash of any part of an area follows from those of the bytes before its two ends.
use Rattle.std.specs.Prelude.{ℕ, ◌+◌, ◌*◌, ◌/◌, ◌%◌, ◌<◌, max, List, [], ◌∷◌, ◌≡◌, get_or, length, take}

-- a polynomial in 16,777,619, by the prime 2 ^ 31 - 1
unfoldable pub bytes_hash : ℕ → List ℕ → ℕ
bytes_hash h [] = h
bytes_hash h (b ∷ s) = bytes_hash ((h * 16777619 + b) % 2147483647) s

-- of a kind, a class, and a class or a number
unfoldable pub mixed : ℕ → ℕ → ℕ → ℕ
mixed kind prefix last = (kind + prefix * 7919 + last % 2147483647 * 16777619) % 2147483647

-- how many bytes stand between two marks of an area, of so many
abbrev pub gap : List ℕ → ℕ → ℕ
gap bytes count = length bytes / max count 1 + 1

-- the marks below n: the hashes of the bytes before the places that are so many bytes apart
abbrev pub MarkedBelow : List ℕ → ℕ → List ℕ → ℕ → Type 0
MarkedBelow bytes apart marks n = (k : ℕ) → k < n → get_or marks k 0 ≡ bytes_hash 0 (take (k * apart) bytes)

abbrev pub Marked : List ℕ → List ℕ → Type 0
Marked bytes marks = MarkedBelow bytes (gap bytes (length marks)) marks (length marks)
