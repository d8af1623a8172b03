-- 01, Names and levels: which strings of a name are plain.
use Rattle.std.specs.Prelude.{ℕ, Bool, true, false, ◌&&◌, ◌||◌, not, List, [], ◌∷◌, eqb}
use Rattle.utf8.specs.Utf8.{within, points}

-- "these three without U+03BB, U+03A0, U+03A3"
abbrev pub not_greek : ℕ → Bool
not_greek c = eqb c 0x3bb || (eqb c 0x3a0 || eqb c 0x3a3)

-- "Start: ASCII letter, "_", or in a range, ends excluded on the right: U+03B1-03C9, U+0391-03A9, U+1F00-1FFE
-- (these three without ..), U+03CA-03FB, U+2100-214F."
unfoldable pub is_start : ℕ → Bool
is_start c =
    within 65 91 c
    || (within 97 123 c
    || (eqb c 95
    || ((not (not_greek c) && (within 0x3b1 0x3c9 c || (within 0x391 0x3a9 c || within 0x1f00 0x1ffe c)))
    || (within 0x3ca 0x3fb c || within 0x2100 0x214f c))))

-- "Rest adds ASCII digits, ! ? ' and U+2080-2089, U+2090-209C, U+1D62-1D6A."
unfoldable pub is_rest : ℕ → Bool
is_rest c =
    is_start c
    || (within 48 58 c
    || (eqb c 33
    || (eqb c 63 || (eqb c 39 || (within 0x2080 0x2089 c || (within 0x2090 0x209c c || within 0x1d62 0x1d6a c))))))

unfoldable pub all_rest : List ℕ → Bool
all_rest [] = true
all_rest (c ∷ cs) = is_rest c && all_rest cs

-- "first character a start and all others a start or rest; the empty string is plain"
unfoldable pub letterlike : List ℕ → Bool
letterlike [] = true
letterlike (c ∷ cs) = is_start c && all_rest cs

unfoldable pub same_bytes : List ℕ → List ℕ → Bool
same_bytes [] [] = true
same_bytes [] (y ∷ ys) = false
same_bytes (x ∷ xs) [] = false
same_bytes (x ∷ xs) (y ∷ ys) = eqb x y && same_bytes xs ys

-- "Plain: "_@", or .."
unfoldable pub plain : List ℕ → Bool
plain s = same_bytes s (95 ∷ 64 ∷ []) || letterlike (points s)
