-- The fit tests are the groups that the rows of a stored document say are not inside a flat group: every group around, itself aside, failed.
use Prim.Native.Nat.{ℕ, zero, suc, ◌+◌, ◌*◌, ◌≤◌, ◌<◌}
use native.Mathlib.Omega.{arith}
use native.Mathlib.Nat.{add-zero}
use mathlib.Core.Bool.{Bool, true, false, ◌&&◌, not, cond}
use mathlib.Core.List.{List, [], ◌∷◌, ◌++◌}
use mathlib.Core.Path.{◌≡◌, refl, sym, ap, ap₂, ◌∙◌}
use lib.ListN.{length}
use lib.Dec.{eqb, leb}
use borrow.Author.Tests.{eq-eqb, ne_eqb}
use Rattle.document.specs.Doc.{Doc, text, join, break, nest, group, row_count, has_break, first_break, flat_size, through, text_bytes}
use Rattle.document.specs.Rows.{word}
use Rattle.document.specs.Stored.{own_row, stored}
use Rattle.document.proofs.Holds.{Holds, holds_front, holds_left, holds_at}
use Rattle.document.proofs.ReadBack.{right_rows}
use Rattle.layout.specs.declared.cursor.Cursor.{Cursor}
use Rattle.layout.specs.Layout.{testᵖ, after, run, fits, layout, start}
use Rattle.layout.specs.Groups.{Groups, groups_from, outside, fit_tests}
use Rattle.layout.proofs.GroupLaws.{outside-append, counted}
use Rattle.third_property.specs.Places.{met_from, met, failed, around, rows_on, all_failed, failed_or_is, is_outside, group_rows, groups_outside}
use Rattle.third_property.proofs.AroundLaws.{Fails, fails_left, fails_right, fails_here, fails_inside, rows_on_append, rows_on_last, all_append, none_fails}
use Rattle.third_property.proofs.AroundLaws.{Own, own_nest, own_group, earlier_not_around, own_fails, join_own, left_fails, right_fails}
use Rattle.basics.proofs.Booleans.{and-true}

-- the group itself is passed over, and no other is
passed_over : (fails : ℕ → Bool) (g : ℕ) → failed_or_is fails g g ≡ true
passed_over fails g = rw (eq-eqb g g refl)

not_passed_over : (fails : ℕ → Bool) (g a : ℕ) → (a ≡ g → ⊥) → failed_or_is fails g a ≡ fails a
not_passed_over fails g a other = rw (ne_eqb a g other)

module _ (rows : List ℕ) where
  groups_append : (said : ℕ → Bool) (xs ys : List ℕ) → group_rows rows said (xs ++ ys) ≡ group_rows rows said xs + group_rows rows said ys
  unfolding group_rows
  groups_append said [] ys = let e : group_rows rows said ys ≡ 0 + group_rows rows said ys = omega arith in e
  groups_append said (a ∷ xs) ys = let h = groups_append said xs ys in omega arith

  groups_same : (f g : ℕ → Bool) (from count : ℕ) → ((i : ℕ) → from ≤ i → i < from + count → f i ≡ g i)
      → group_rows rows f (rows_on from count) ≡ group_rows rows g (rows_on from count)
  unfolding group_rows rows_on
  groups_same f g from zero h = refl
  groups_same f g from (suc count) h =
      ap₂ (λ (b : Bool) (n : ℕ). cond (eqb (word rows from 0) 4 && b) 1 0 + n) (h from (omega arith) (omega arith))
      (groups_same f g (suc from) count (λ i p q. h i (omega arith) (omega arith)))

  -- a node's own row, after those of its children
  own_counts : (said : ℕ → Bool) (from n kind field : ℕ) → Own rows (from + n) kind field (1 + n)
      → group_rows rows said (rows_on from (1 + n)) ≡ group_rows rows said (rows_on from n) + cond (eqb kind 4 && said (from + n)) 1 0
  unfolding group_rows
  own_counts said from n kind field o =
      ap (group_rows rows said) (rows_on_last from n (1 + n) refl)
      ∙ groups_append said (rows_on from n) ((from + n) ∷ [])
      ∙ ap (λ (k : ℕ). group_rows rows said (rows_on from n) + (cond (eqb k 4 && said (from + n)) 1 0 + 0)) o.kind_is
      ∙ ap (λ (x : ℕ). group_rows rows said (rows_on from n) + x) (add-zero (cond (eqb kind 4 && said (from + n)) 1 0))

  module _ (w : ℕ) (fails : ℕ → Bool) where
    -- the group in row g is not inside a flat group, by the rows of a document from row `from` on that is inside one or not
    abbrev said : Bool → ℕ → ℕ → ℕ → Bool
    said flat from count g = not flat && is_outside fails rows (rows_on from count) g

    -- the group in a document's own row is inside none of the document's groups
    own_outside : (from n : ℕ) → is_outside fails rows (rows_on from (1 + n)) (from + n) ≡ true
    unfolding all_failed
    own_outside from n =
        let f : ℕ → Bool = failed_or_is fails (from + n) in
        ap (all_failed f rows (from + n)) (rows_on_last from n (1 + n) refl)
        ∙ all_append rows f (from + n) (rows_on from n) ((from + n) ∷ [])
        ∙ ap₂ (λ (x y : Bool). x && (cond (eqb (word rows (from + n) 0) 4 && around rows (from + n) (from + n)) y true && true))
        (none_fails rows f (from + n) from n (λ i p q. earlier_not_around rows (from + n) i q)) (passed_over fails (from + n))
        ∙ either_way (eqb (word rows (from + n) 0) 4 && around rows (from + n) (from + n))
      where
        either_way : (b : Bool) → cond b true true && true ≡ true
        either_way true = refl
        either_way false = refl

    -- the rows of a join's children, and its own, which is no group
    tests_of_join : (a b : Doc) (t from : ℕ) (flat : Bool) → Holds rows (from * 7) (stored t (join a b))
        → group_rows rows (said flat from (row_count a)) (rows_on from (row_count a))
        + group_rows rows (said flat (from + row_count a) (row_count b)) (rows_on (from + row_count a) (row_count b))
        ≡ group_rows rows (said flat from (1 + (row_count a + row_count b))) (rows_on from (1 + (row_count a + row_count b)))
    tests_of_join a b t from flat h =
        let x : ℕ = row_count a in
        let y : ℕ = row_count b in
        let all : ℕ → Bool = said flat from (1 + (x + y)) in
        ap₂ ◌+◌
        (groups_same (said flat from x) all from x
        (λ i p q. ap (λ (z : Bool). not flat && z) (sym (left_fails rows a b t from h (failed_or_is fails i) i p q))))
        (groups_same (said flat (from + x) y) all (from + x) y
        (λ i p q. ap (λ (z : Bool). not flat && z) (sym (right_fails rows a b t from h (failed_or_is fails i) i p q))))
        ∙ sym (groups_append all (rows_on from x) (rows_on (from + x) y))
        ∙ ap (group_rows rows all) (sym (rows_on_append from x y))
        ∙ sym (own_counts all from (x + y) 1 0 (join_own rows a b t from h) ∙ add-zero (group_rows rows all (rows_on from (x + y))))

    -- of a nest or a group: the child's rows, inside a flat group as the node says, and the own one
    tests_of_node : (d : Doc) (from kind field : ℕ) (flat inner : Bool) → Own rows (from + row_count d) kind field (1 + row_count d)
        → ((b : Bool) → not inner && b ≡ not flat && (b && cond (eqb kind 4) (fails (from + row_count d)) true))
        → group_rows rows (said inner from (row_count d)) (rows_on from (row_count d)) + cond (eqb kind 4 && not flat) 1 0
        ≡ group_rows rows (said flat from (1 + row_count d)) (rows_on from (1 + row_count d))
    tests_of_node d from kind field flat inner o grouped =
        let k : ℕ = row_count d in
        ap₂ (λ (x : ℕ) (b : Bool). x + cond (eqb kind 4 && b) 1 0)
        (groups_same (said inner from k) (said flat from (1 + k)) from k
        (λ i p q.
        let f : ℕ → Bool = failed_or_is fails i in
        let A : Bool = all_failed f rows i (rows_on from k) in
        grouped A
        ∙ ap (λ (x : Bool). not flat && (A && cond (eqb kind 4) x true)) (sym (not_passed_over fails i (from + k) (λ e. omega arith)))
        ∙ ap (λ (x : Bool). not flat && x) (sym (own_fails rows from k kind field o i p q f))))
        (sym (and-true (not flat)) ∙ ap (λ (x : Bool). not flat && x) (sym (own_outside from k)))
        ∙ sym (own_counts (said flat from (1 + k)) from k kind field o)

    -- a row by itself, which is no group
    tests_of_leaf : (from kind : ℕ) (flat : Bool) → word rows from 0 ≡ kind → eqb kind 4 ≡ false → 0 ≡ group_rows rows (said flat from 1) (rows_on from 1)
    unfolding group_rows rows_on
    tests_of_leaf from kind flat k other =
        ap (λ (b : Bool). cond (b && said flat from 1 from) 1 0 + 0) (sym other) ∙ ap (λ (x : ℕ). cond (eqb x 4 && said flat from 1 from) 1 0 + 0) (sym k)

    tests_are : (d : Doc) (t from n : ℕ) (flat : Bool) (next : ℕ) (c m : Cursor) → c.position ≡ m.position → c.end ≡ m.end
        → Holds rows (from * 7) (stored t d) → Fails fails d from (met_from w d from n flat next c)
        → outside (groups_from w d n flat next m).groups ≡ group_rows rows (said flat from (row_count d)) (rows_on from (row_count d))
    unfolding met_from groups_from outside row_count stored own_row
    tests_are (text s) t from n flat next c m p e h fs = tests_of_leaf from 0 flat (holds_at _ 0 (omega arith) h) refl
    tests_are (join a b) t from n flat next c m p e h fs =
        let mid = through (has_break b) (first_break b) next in
        let x : Groups = groups_from w a n flat mid m in
        let l = counted w a n flat mid c m p e in
        outside-append x.groups (groups_from w b n flat next x.cursor).groups
        ∙ ap₂ ◌+◌
        (tests_are a t from n flat mid c m p e (holds_left _ _ h) (fails_left w fails from n a b flat next c fs))
        (tests_are b (t + length (text_bytes a)) (from + row_count a) n flat next (run w c (layout w a n flat mid c)) x.cursor l.position l.end
        (right_rows rows a b t from h) (fails_right w fails from n a b flat next c fs))
        ∙ tests_of_join a b t from flat h
        ∙ ap (λ (z : ℕ). group_rows rows (said flat from z) (rows_on from z)) (let q : 1 + (row_count a + row_count b) ≡ 1 + row_count a + row_count b = omega arith in q)
    tests_are (break k) t from n flat next c m p e h fs = tests_of_leaf from 2 flat (holds_at _ 0 (omega arith) h) refl
    tests_are (nest k d) t from n flat next c m p e h fs =
        tests_are d t from (n + k) flat next c m p e (holds_left _ _ h) (λ i u v. fs i u (omega arith))
        ∙ sym (add-zero (group_rows rows (said flat from (row_count d)) (rows_on from (row_count d))))
        ∙ tests_of_node d from 3 k flat flat (own_nest rows k d t from h) (λ b. ap (λ (x : Bool). not flat && x) (sym (and-true b)))
    tests_are (group d) t from n true next c m p e h fs =
        let r = tests_are d t from n true next c m p e (holds_left _ _ h) (λ i u v. fs i u (omega arith)) in
        let s = tests_of_node d from 4 0 true true (own_group rows d t from h) (λ b. refl) in
        let q : 0 + outside (groups_from w d n true next m).groups ≡ group_rows rows (said true from (1 + row_count d)) (rows_on from (1 + row_count d)) = omega arith in
        q
    tests_are (group d) t from n false next c m p e h fs =
        let f : Bool = fits c d next in
        let same : f ≡ fits m d next = ap₂ (λ (x y : ℕ). leb (x + flat_size d + next) y) p e in
        let r = tests_are d t from n f next (after w c (testᵖ f)) m p e (holds_left _ _ h) (fails_inside w fails from n d next c fs) in
        let s = tests_of_node d from 4 0 false f (own_group rows d t from h)
        (λ b. and-not f b ∙ ap (λ (x : Bool). b && x) (sym (fails_here w fails from n d next c fs))) in
        let i = ap (λ (b : Bool). outside (groups_from w d n b next m).groups) same in
        let q : 1 + outside (groups_from w d n (fits m d next) next m).groups ≡ group_rows rows (said false from (1 + row_count d)) (rows_on from (1 + row_count d)) =
        omega arith in
        q
      where
        and-not : (f b : Bool) → not f && b ≡ b && not f
        and-not true true = refl
        and-not true false = refl
        and-not false true = refl
        and-not false false = refl

-- of a whole document: the fit tests are its groups that are not inside a flat one, by its rows
pub tests_of_rows : (w : ℕ) (d : Doc) (more_rows : List ℕ) → fit_tests w d ≡ groups_outside (failed (met w d)) (stored 0 d ++ more_rows) (row_count d)
tests_of_rows w d more_rows =
    let fails : ℕ → Bool = failed (met w d) in
    let as-failed : (i : ℕ) → 0 ≤ i → i < 0 + row_count d → fails i ≡ failed (met w d) i = λ i p q. refl in
    tests_are (stored 0 d ++ more_rows) w fails d 0 0 0 false 0 (start w) (start w) refl refl (holds_front (stored 0 d) more_rows) as-failed
