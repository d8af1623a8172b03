-- The fit tests that the cursor counts along are the groups that are not inside a flat one, and at most all groups.
use Prim.Native.Nat.{ℕ, suc, ◌+◌, ◌≤◌}
use native.Mathlib.Omega.{arith}
use native.Mathlib.Nat.{add-zero}
use mathlib.Core.Bool.{Bool, true, false, ◌||◌, cond}
use mathlib.Core.List.{List, [], ◌∷◌, ◌++◌}
use mathlib.Core.Path.{◌≡◌, refl, sym, ap, ap₂, ◌∙◌, subst}
use lib.Dec.{leb}
use lib.ListN.{length, length-append}
use Rattle.document.specs.Doc.{Doc, text, join, break, nest, group, has_break, first_break, flat_size, through}
use Rattle.layout.specs.declared.cursor.Cursor.{Cursor}
use Rattle.layout.specs.Layout.{testᵖ, after, run, fits, layout, pieces, start}
use Rattle.layout.specs.Groups.{Group, Groups, groups_from, groups_of, outside, fit_tests, group_count}
use Rattle.layout.proofs.Pieces.{run-append}

pub outside-append : (gs hs : List Group) → outside (gs ++ hs) ≡ outside gs + outside hs
unfolding outside
outside-append [] hs = let e : outside hs ≡ 0 + outside hs = omega arith in e
outside-append (g ∷ gs) hs = let h = outside-append gs hs in omega arith

-- The cursor v after a document stands where that of its groups x does, and has tested, since it had `before` tests, those groups that are not
-- inside a flat one.
pub record Counted (before : ℕ) (v : Cursor) (x : Groups) : Type 0 where
  pub position : v.position ≡ x.cursor.position
  pub end : v.end ≡ x.cursor.end
  pub tests : v.tests ≡ before + outside x.groups

pub counted : (w : ℕ) (d : Doc) (n : ℕ) (flat : Bool) (next : ℕ) (c m : Cursor) → c.position ≡ m.position → c.end ≡ m.end
    → Counted c.tests (run w c (layout w d n flat next c)) (groups_from w d n flat next m)
unfolding layout run groups_from outside
counted w (text s) n flat next c m p e =
    record { position = ap (λ (x : ℕ). x + length s) p; end = e; tests = sym (add-zero c.tests) }
counted w (join a b) n flat next c m p e =
    let mid = through (has_break b) (first_break b) next in
    let ps = layout w a n flat mid c in
    let x = groups_from w a n flat mid m in
    let l = counted w a n flat mid c m p e in
    let r = counted w b n flat next (run w c ps) x.cursor l.position l.end in
    let tests_left = l.tests in
    let tests-right = r.tests in
    let apart = outside-append x.groups (groups_from w b n flat next x.cursor).groups in
    subst (λ (v : Cursor). Counted c.tests v (groups_from w (join a b) n flat next m)) (sym (run-append w c ps (layout w b n flat next (run w c ps))))
    (record { position = r.position; end = r.end; tests = omega arith })
counted w (break k) n true next c m p e =
    record { position = ap (λ (x : ℕ). x + k) p; end = e; tests = sym (add-zero c.tests) }
counted w (break k) n false next c m p e =
    record { position = ap (λ (x : ℕ). x + 1 + n) p; end = ap (λ (x : ℕ). x + 1 + w) p; tests = sym (add-zero c.tests) }
counted w (nest k d) n flat next c m p e = counted w d (n + k) flat next c m p e
counted w (group d) n true next c m p e =
    let h = counted w d n true next c m p e in
    let t = h.tests in
    record { position = h.position; end = h.end; tests = omega arith }
counted w (group d) n false next c m p e =
    let f = fits c d next in
    let same : f ≡ fits m d next = ap₂ (λ (x y : ℕ). leb (x + flat_size d + next) y) p e in
    let then = after w c (testᵖ f) in
    let v = run w then (layout w d n f next then) in
    let h : Counted (c.tests + 1) v (groups_from w d n (fits m d next) next m) =
    subst (λ (b : Bool). Counted (c.tests + 1) v (groups_from w d n b next m)) same (counted w d n f next then m p e) in
    let t = h.tests in
    record { position = h.position; end = h.end; tests = omega arith }

-- of a whole document
pub tests_are_groups : (w : ℕ) (d : Doc) → (run w (start w) (pieces w d)).tests ≡ fit_tests w d
unfolding pieces
tests_are_groups w d = let h = (counted w d 0 false 0 (start w) (start w) refl refl).tests in omega arith

-- ---- all groups

length_groups : (w : ℕ) (d : Doc) (n : ℕ) (inside : Bool) (next : ℕ) (c : Cursor) → length (groups_from w d n inside next c).groups ≡ group_count d
unfolding groups_from group_count
length_groups w (text s) n inside next c = refl
length_groups w (join a b) n inside next c =
    let mid = through (has_break b) (first_break b) next in
    let x = groups_from w a n inside mid c in
    length-append x.groups (groups_from w b n inside next x.cursor).groups
    ∙ ap₂ ◌+◌ (length_groups w a n inside mid c) (length_groups w b n inside next x.cursor)
length_groups w (break k) n inside next c = refl
length_groups w (nest m d) n inside next c = length_groups w d (n + m) inside next c
length_groups w (group d) n inside next c =
    let h = length_groups w d n (inside || fits c d next) next c in omega arith

outside_at_most : (gs : List Group) → outside gs ≤ length gs
unfolding outside
outside_at_most [] = omega arith
outside_at_most (g ∷ gs) = by g.inside (outside_at_most gs)
  where
    by : (b : Bool) → outside gs ≤ length gs → cond b 0 1 + outside gs ≤ suc (length gs)
    by true h = omega arith
    by false h = omega arith

-- the definition has every group of the document, so the fit tests are at most all groups
pub groups_are_all : (w : ℕ) (d : Doc) → length (groups_of w d) ≡ group_count d
groups_are_all w d = length_groups w d 0 false 0 (start w)

pub at_most_all_groups : (w : ℕ) (d : Doc) → fit_tests w d ≤ group_count d
at_most_all_groups w d = subst (λ (n : ℕ). fit_tests w d ≤ n) (groups_are_all w d) (outside_at_most (groups_of w d))
