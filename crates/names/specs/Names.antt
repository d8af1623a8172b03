-- 01, Names and levels.
use Rattle.std.specs.Prelude.{ℕ, Bool, true, false, cond, List, [], ◌∷◌, ◌++◌}
use Rattle.utf8.specs.Quoted.{bytes}
use Rattle.utf8.specs.Letterlike.{plain, same_bytes}
use Rattle.document.specs.Walk.{Marked, textᵐ}
use Rattle.pool.specs.Tree.{Name, anonymous, string, number}
use Rattle.pieces.specs.Docs.{digits}

-- "Each string component that is not plain is to be wrapped by itself" (02, P1)
unfoldable pub escaped : List ℕ → List ℕ
escaped s = cond (plain s) s (bytes "«" ++ (s ++ bytes "»"))

-- "Components are joined by "."; none is put after an empty prefix text."
unfoldable pub dotted : List ℕ → List ℕ → List ℕ
dotted [] component = component
dotted (b ∷ prefix) component = (b ∷ prefix) ++ (46 ∷ component)

unfoldable pub joined : Name → List ℕ
joined anonymous = []
joined (string p s) = dotted (joined p) (escaped s)
joined (number p n) = dotted (joined p) (digits n)

unfoldable pub is_anonymous : Name → Bool
is_anonymous anonymous = true
is_anonymous (string p s) = false
is_anonymous (number p n) = false

-- "the anonymous name stays «»" (02, P1): the whole name, no prefix
unfoldable pub name_text : Name → List ℕ
name_text n = cond (is_anonymous n) (bytes "«»") (joined n)

-- "A name with its marks is then one text of the document." (02, P1)
unfoldable pub name_doc : Name → Marked
name_doc n = textᵐ (name_text n)

-- "A name is hygienic (`has_macro_scopes`) if, past trailing numbers, its last component is "_hyg"."
unfoldable pub is_hygienic : Name → Bool
is_hygienic anonymous = false
is_hygienic (string p s) = same_bytes s (bytes "_hyg")
is_hygienic (number p n) = is_hygienic p
