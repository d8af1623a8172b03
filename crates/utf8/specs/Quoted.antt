-- The bytes of a quoted text, so that definitions can write the words of 01 as 01 does.
use Rattle.std.specs.Prelude.{ℕ, ◌+◌, ◌/◌, ◌%◌, cond, List, [], ◌∷◌, ◌++◌, ◌≡◌, refl, ltb}
use Prim.Native.Char.{code}
use Prim.Native.String.{String}

-- the UTF-8 of a code point
unfoldable pub encode : ℕ → List ℕ
encode c =
    cond (ltb c 0x80) (c ∷ [])
    (cond (ltb c 0x800) ((0xc0 + c / 64) ∷ (0x80 + c % 64) ∷ [])
    (cond (ltb c 0x10000) ((0xe0 + c / 4096) ∷ (0x80 + c / 64 % 64) ∷ (0x80 + c % 64) ∷ [])
    ((0xf0 + c / 262144) ∷ (0x80 + c / 4096 % 64) ∷ (0x80 + c / 64 % 64) ∷ (0x80 + c % 64) ∷ [])))

unfoldable pub bytes : String → List ℕ
bytes String.[] = []
bytes (String.◌∷◌ c s) = encode (code c) ++ bytes s

arrow_bytes : bytes "a→" ≡ 97 ∷ 0xe2 ∷ 0x86 ∷ 0x92 ∷ []
unfolding bytes encode
arrow_bytes = refl
