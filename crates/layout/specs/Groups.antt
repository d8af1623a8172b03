-- The groups of a document at a width: which are flat, and how many are not inside a flat one (document 01, "Document and layout"; document 02,
-- P6).
use Rattle.std.specs.Prelude.{ℕ, ◌+◌, Bool, false, ◌||◌, cond, List, [], ◌∷◌, ◌++◌}
use Rattle.document.specs.Doc.{Doc, text, join, break, nest, group, has_break, first_break, through}
use Rattle.layout.specs.declared.cursor.Cursor.{Cursor}
use Rattle.layout.specs.Layout.{textᵖ, placed, after, fits, start}

-- a group: whether it is inside a flat group, and whether it is flat
pub record Group : Type 0 where
  pub inside : Bool
  pub flat : Bool

-- the groups of a document, an outer one before those inside it, left before right; and the cursor after the document
pub record Groups : Type 0 where
  pub groups : List Group
  pub cursor : Cursor

-- "A group not inside a flat one is flat exactly if position + flat size + distance .. is at most the row's end", which `fits` says; "a group
-- inside a flat one never fails it". The groups of a document in a nest, inside a flat group or not, from a cursor on, which
-- counts no test here.
unfoldable pub groups_from : ℕ → Doc → ℕ → Bool → ℕ → Cursor → Groups
groups_from width (text s) n inside next c = record { groups = []; cursor = after width c (textᵖ s) }
groups_from width (join a b) n inside next c =
    let x : Groups = groups_from width a n inside (through (has_break b) (first_break b) next) c in
    let y : Groups = groups_from width b n inside next x.cursor in
    record { groups = x.groups ++ y.groups; cursor = y.cursor }
groups_from width (break k) n inside next c = record { groups = []; cursor = after width c (placed inside k n) }
groups_from width (nest m d) n inside next c = groups_from width d (n + m) inside next c
groups_from width (group d) n inside next c =
    let flat : Bool = inside || fits c d next in
    let x : Groups = groups_from width d n flat next c in
    record { groups = record { inside = inside; flat = flat } ∷ x.groups; cursor = x.cursor }

-- the groups of a whole document
abbrev pub groups_of : ℕ → Doc → List Group
groups_of width d = (groups_from width d 0 false 0 (start width)).groups

-- how many are not inside a flat one
unfoldable pub outside : List Group → ℕ
outside [] = 0
outside (g ∷ gs) = cond g.inside 0 1 + outside gs

-- "Fit tests, exactly. .. It shall equal the number of groups that are not inside a flat group" (document 02, P6)
abbrev pub fit_tests : ℕ → Doc → ℕ
fit_tests width d = outside (groups_of width d)

-- "at most all groups": these
unfoldable pub group_count : Doc → ℕ
group_count (text s) = 0
group_count (join a b) = group_count a + group_count b
group_count (break k) = 0
group_count (nest m d) = group_count d
group_count (group d) = 1 + group_count d
