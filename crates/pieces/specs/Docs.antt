-- 01, Names and levels: "Below, + joins left to right, | is a blank break, G a group, N a nest by the indent round what
-- follows; each quoted piece, number, digit run, raw string, sign and bracket is one text, and a part named or bracketed
-- joins as one subtree." Here ⊹ is 01's +, and `line` its |.
use Rattle.std.specs.Prelude.{ℕ, zero, suc, ◌+◌, ◌/◌, ◌%◌, cond, List, [], ◌∷◌, ◌++◌, ltb}
use Prim.Native.String.{String}
use Rattle.utf8.specs.Quoted.{bytes}
use Rattle.document.specs.Walk.{Marked, textᵐ, joinᵐ, breakᵐ, nestᵐ, groupᵐ}

infixl 60 ◌⊹◌
abbrev pub ◌⊹◌ : Marked → Marked → Marked
a ⊹ b = joinᵐ a b

-- a quoted piece
unfoldable pub quoted : String → Marked
quoted s = textᵐ (bytes s)

abbrev pub line : Marked
line = breakᵐ 1

abbrev pub G : Marked → Marked
G d = groupᵐ d

-- N(G(..)), which 01 also writes "all N(G)"
abbrev pub NG : ℕ → Marked → Marked
NG indent d = nestᵐ indent (groupᵐ d)

-- a document with its inner level
pub record Parenable : Type 0 where
  pub doc : Marked
  pub inner : ℕ

abbrev pub with_inner : ℕ → Marked → Parenable
with_inner level d = record { doc = d; inner = level }

-- "Parentheses are put only if the outer level exceeds the inner."
unfoldable pub under : ℕ → Parenable → Marked
under outer p = cond (ltb p.inner outer) (quoted "(" ⊹ p.doc ⊹ quoted ")") p.doc

-- "Tile: the first, then +G(|+next) each; of none, an empty text."
unfoldable pub tile_from : Marked → List Marked → Marked
tile_from d [] = d
tile_from d (next ∷ ds) = tile_from (d ⊹ G (line ⊹ next)) ds

unfoldable pub tile : List Marked → Marked
tile [] = quoted ""
tile (d ∷ ds) = tile_from d ds

-- a number in digits, of at most so many
unfoldable pub digits_to : ℕ → ℕ → List ℕ
digits_to zero n = []
digits_to (suc k) n = cond (ltb n 10) ((48 + n) ∷ []) (digits_to k (n / 10) ++ ((48 + n % 10) ∷ []))

-- a number of at most 64 bits has at most 20
unfoldable pub digits : ℕ → List ℕ
digits n = digits_to 20 n

unfoldable pub number_doc : ℕ → Marked
number_doc n = textᵐ (digits n)

-- "brackets ( ), { }, {{ }}, [ ]" by style
unfoldable pub opening : ℕ → Marked
opening zero = quoted "("
opening (suc zero) = quoted "{"
opening (suc (suc zero)) = quoted "{{"
opening (suc (suc (suc k))) = quoted "["

unfoldable pub closing : ℕ → Marked
closing zero = quoted ")"
closing (suc zero) = quoted "}"
closing (suc (suc zero)) = quoted "}}"
closing (suc (suc (suc k))) = quoted "]"
