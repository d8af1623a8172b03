-- 01, Names and levels: levels; Expressions to documents: sorts.
use Rattle.std.specs.Prelude.{ℕ, zero, suc, List, [], ◌∷◌, map}
use Prim.Native.String.{String}
use Rattle.document.specs.Walk.{Marked}
use Rattle.pool.specs.Tree.{Level, zeroˡ, succˡ, maxˡ, imaxˡ, paramˡ}
use Rattle.pieces.specs.Docs.{◌⊹◌, quoted, line, G, Parenable, with_inner, under, tile, number_doc}
use Rattle.names.specs.Names.{name_doc}

-- "of another, that one under 1, "+", n, inner 0"
unfoldable pub plus : Parenable → ℕ → Parenable
plus base zero = base
plus base (suc n) = with_inner 0 (under 1 base ⊹ quoted "+" ⊹ number_doc (suc n))

-- "max"+" "+a+|+b (also "imax"), operands under 1, inner 0"
unfoldable pub max_par : String → Parenable → Parenable → Parenable
max_par word a b = with_inner 0 (quoted word ⊹ quoted " " ⊹ under 1 a ⊹ line ⊹ under 1 b)

-- n successors of a level: "n successors of zero print n, inner 1,024"; "parameter 1,024"
unfoldable pub succs_par : Level → ℕ → Parenable
succs_par zeroˡ n = with_inner 1024 (number_doc n)
succs_par (succˡ a) n = succs_par a (suc n)
succs_par (maxˡ a b) n = plus (max_par "max" (succs_par a 0) (succs_par b 0)) n
succs_par (imaxˡ a b) n = plus (max_par "imax" (succs_par a 0) (succs_par b 0)) n
succs_par (paramˡ p) n = plus (with_inner 1024 (name_doc p)) n

abbrev pub level_par : Level → Parenable
level_par l = succs_par l 0

-- "Sort: "Type"+" "+predecessor if the level is a successor, else "Sort"+" "+level, under 1,024."; document 02, P5: "A sort whose level is
-- a row of kind zero prints `Prop`"
unfoldable pub sort_doc : Level → Marked
sort_doc zeroˡ = quoted "Prop"
sort_doc (succˡ a) = quoted "Type" ⊹ quoted " " ⊹ under 1024 (level_par a)
sort_doc (maxˡ a b) = quoted "Sort" ⊹ quoted " " ⊹ under 1024 (level_par (maxˡ a b))
sort_doc (imaxˡ a b) = quoted "Sort" ⊹ quoted " " ⊹ under 1024 (level_par (imaxˡ a b))
sort_doc (paramˡ p) = quoted "Sort" ⊹ quoted " " ⊹ under 1024 (level_par (paramˡ p))

-- 01, Declarations: "("."+G("{"+tile of levels+"}")), or .. empty text for no levels"
unfoldable pub levels_doc : List Level → Marked
levels_doc [] = quoted ""
levels_doc (l ∷ ls) = quoted "." ⊹ G (quoted "{" ⊹ tile (map (λ x. under 0 (level_par x)) (l ∷ ls)) ⊹ quoted "}")
