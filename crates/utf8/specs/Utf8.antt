-- 01, Pool: "Strings: (offset, length) pairs into the byte area, offsets never falling, each UTF-8."
-- UTF-8 as the Unicode standard has it: no surrogate, no longer form than needed, nothing above U+10FFFF.
use Rattle.std.specs.Prelude.{ℕ, zero, suc, ◌+◌, ◌-◌, ◌*◌, Bool, true, false, ◌&&◌, ◌||◌, cond, List, [], ◌∷◌, ◌++◌, ltb, leb}

-- from lo on, and below hi
abbrev pub within : ℕ → ℕ → ℕ → Bool
within lo hi c = leb lo c && ltb c hi

-- a byte that starts a code point: how many bytes follow it, its own bits, the least code point that needs so many bytes
abbrev pub is_lead : ℕ → Bool
is_lead b = ltb b 0x80 || within 0xc0 0xf8 b

abbrev pub followers : ℕ → ℕ
followers b = cond (ltb b 0xc0) 0 (cond (ltb b 0xe0) 1 (cond (ltb b 0xf0) 2 3))

abbrev pub lead_bits : ℕ → ℕ
lead_bits b = cond (ltb b 0xc0) b (cond (ltb b 0xe0) (b - 0xc0) (cond (ltb b 0xf0) (b - 0xe0) (b - 0xf0)))

abbrev pub least_of : ℕ → ℕ
least_of b = cond (ltb b 0xc0) 0 (cond (ltb b 0xe0) 0x80 (cond (ltb b 0xf0) 0x800 0x10000))

-- a byte that goes on with a code point, and the bits with its own
abbrev pub is_follower : ℕ → Bool
is_follower b = within 0x80 0xc0 b

abbrev pub with_bits : ℕ → ℕ → ℕ
with_bits bits b = bits * 64 + (b - 0x80)

-- a whole code point: no shorter form would do, and it is no surrogate
abbrev pub is_whole : ℕ → ℕ → Bool
is_whole least c = leb least c && (ltb c 0xd800 || within 0xe000 0x110000 c)

-- whether bytes are UTF-8, where `need` of them still belong to a code point with these bits, at least `least`
unfoldable pub utf8_from : ℕ → ℕ → ℕ → List ℕ → Bool
utf8_from zero bits least [] = true
utf8_from (suc need) bits least [] = false
utf8_from zero bits least (b ∷ s) = is_lead b && utf8_from (followers b) (lead_bits b) (least_of b) s
utf8_from (suc zero) bits least (b ∷ s) = is_follower b && (is_whole least (with_bits bits b) && utf8_from 0 0 0 s)
utf8_from (suc (suc need)) bits least (b ∷ s) = is_follower b && utf8_from (suc need) (with_bits bits b) least s

unfoldable pub utf8 : List ℕ → Bool
utf8 s = utf8_from 0 0 0 s

-- the code points of UTF-8 bytes, where `need` of them still belong to a code point with these bits
unfoldable pub points_from : ℕ → ℕ → List ℕ → List ℕ
points_from zero bits [] = []
points_from (suc need) bits [] = []
points_from zero bits (b ∷ s) = cond (ltb b 0x80) (b ∷ []) [] ++ points_from (followers b) (lead_bits b) s
points_from (suc zero) bits (b ∷ s) = with_bits bits b ∷ points_from 0 0 s
points_from (suc (suc need)) bits (b ∷ s) = points_from (suc need) (with_bits bits b) s

unfoldable pub points : List ℕ → List ℕ
points s = points_from 0 0 s
