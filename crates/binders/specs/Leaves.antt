-- Expressions without parts: sorts, constants, literals.
use Rattle.std.specs.Prelude.{ℕ, Bool, ◌||◌, eqb}
use Rattle.document.specs.Walk.{Marked, textᵐ}
use Rattle.pool.specs.Tree.{Expr, var, sort, const, app, pi, lam, letᵉ, proj, nat, str}
use Rattle.pieces.specs.Docs.{◌⊹◌, quoted, number_doc}
use Rattle.names.specs.Names.{name_doc}
use Rattle.levels.specs.Levels.{sort_doc}

-- the kinds of sorts, constants and literals
unfoldable pub leaf_kind : ℕ → Bool
leaf_kind kind = (eqb kind 1 || eqb kind 2) || (eqb kind 8 || eqb kind 9)

unfoldable pub leaf_doc : Expr → Marked
leaf_doc (var i) = number_doc i
leaf_doc (sort l) = sort_doc l
leaf_doc (const n ls) = quoted "@" ⊹ name_doc n
leaf_doc (app f a) = quoted ""
leaf_doc (pi p n s t b) = quoted ""
leaf_doc (lam p n s t b) = quoted ""
leaf_doc (letᵉ p n t v b d) = quoted ""
leaf_doc (proj n i e) = quoted ""
leaf_doc (nat s) = textᵐ s
leaf_doc (str s) = quoted "\"" ⊹ textᵐ s ⊹ quoted "\""
