-- The rows around a row of a stored document: which groups failed, and what a node's own row adds to those of its children.
use Prim.Native.Nat.{ℕ, zero, suc, ◌+◌, ◌*◌, ◌≤◌, ◌<◌}
use native.Mathlib.Omega.{arith}
use native.Mathlib.Nat.{add-zero}
use mathlib.Core.Bool.{Bool, true, false, ◌&&◌, ◌||◌, not, cond}
use mathlib.Core.List.{List, [], ◌∷◌, ◌++◌}
use mathlib.Core.Logic.{⊎_elim}
use mathlib.Core.Path.{◌≡◌, refl, sym, ap, ap₂, ◌∙◌}
use lib.ListN.{length}
use lib.Dec.{eqb, leb, ltb}
use borrow.Author.Tests.{le-leb, lt-ltb, le-ltb, lt-leb, eq-eqb, ne_eqb}
use Rattle.document.specs.Doc.{Doc, text, join, break, nest, group, row_count, has_break, first_break, through, text_bytes}
use Rattle.document.specs.Rows.{word}
use Rattle.document.specs.Stored.{own_row, stored}
use Rattle.document.proofs.Holds.{Holds, holds_left, holds_at}
use Rattle.document.proofs.ReadBack.{split, own, right_rows}
use Rattle.layout.specs.declared.cursor.Cursor.{Cursor}
use Rattle.layout.specs.Layout.{testᵖ, after, run, fits, layout}
use Rattle.third_property.specs.Places.{Met, met_from, is_failure, failed, around, rows_on, nest_of, all_failed}
use Rattle.basics.proofs.Booleans.{and-true, and-false, and_assoc, or_assoc, or-false}

-- ---- which groups of a document fail, by its rows, and of its parts

failed-append : (ms ns : List Met) (g : ℕ) → failed (ms ++ ns) g ≡ failed ms g || failed ns g
unfolding failed
failed-append [] ns g = refl
failed-append (m ∷ ms) ns g =
    let here : Bool = eqb m.row g && is_failure m.piece in
    ap (λ (b : Bool). here || b) (failed-append ms ns g) ∙ sym (or_assoc here (failed ms g) (failed ns g))

-- no group fails in a row past those of the document
failed-outside : (w : ℕ) (d : Doc) (from n : ℕ) (flat : Bool) (next : ℕ) (c : Cursor) (g : ℕ)
    → (from ≤ g → g < from + row_count d → ⊥) → failed (met_from w d from n flat next c) g ≡ false
unfolding met_from failed row_count
failed-outside w (text s) from n flat next c g h = ap (λ (b : Bool). b || false) (and-false (eqb from g))
failed-outside w (join a b) from n flat next c g h =
    let mid = through (has_break b) (first_break b) next in
    let m = run w c (layout w a n flat mid c) in
    failed-append (met_from w a from n flat mid c) (met_from w b (from + row_count a) n flat next m) g
    ∙ ap₂ ◌||◌ (failed-outside w a from n flat mid c g (λ p q. h p (omega arith)))
    (failed-outside w b (from + row_count a) n flat next m g (λ p q. h (omega arith) (omega arith)))
failed-outside w (break k) from n true next c g h = ap (λ (b : Bool). b || false) (and-false (eqb from g))
failed-outside w (break k) from n false next c g h = ap (λ (b : Bool). b || false) (and-false (eqb from g))
failed-outside w (nest m d) from n flat next c g h = failed-outside w d from (n + m) flat next c g (λ p q. h p (omega arith))
failed-outside w (group d) from n true next c g h = failed-outside w d from n true next c g (λ p q. h p (omega arith))
failed-outside w (group d) from n false next c g h =
    let f = fits c d next in
    ap₂ (λ (x y : Bool). (x && not f) || y)
    (ne_eqb (from + row_count d) g (λ e. h (omega arith) (omega arith)))
    (failed-outside w d from n f next (after w c (testᵖ f)) g (λ p q. h p (omega arith)))

abbrev pub Fails : (ℕ → Bool) → Doc → ℕ → List Met → Type 0
Fails fails d from ms = (i : ℕ) → from ≤ i → i < from + row_count d → fails i ≡ failed ms i

module _ (w : ℕ) (fails : ℕ → Bool) (from n : ℕ) where
  module _ (a b : Doc) (flat : Bool) (next : ℕ) (c : Cursor) (fs : Fails fails (join a b) from (met_from w (join a b) from n flat next c)) where
    abbrev mid : ℕ
    mid = through (has_break b) (first_break b) next

    abbrev then : Cursor
    then = run w c (layout w a n flat mid c)

    pub fails_left : Fails fails a from (met_from w a from n flat mid c)
    unfolding met_from row_count
    fails_left i p q =
        let x : List Met = met_from w a from n flat mid c in
        fs i p (omega arith) ∙ failed-append x (met_from w b (from + row_count a) n flat next then) i
        ∙ ap (λ (z : Bool). failed x i || z) (failed-outside w b (from + row_count a) n flat next then i (λ u v. omega arith))
        ∙ or-false (failed x i)

    pub fails_right : Fails fails b (from + row_count a) (met_from w b (from + row_count a) n flat next then)
    unfolding met_from row_count
    fails_right i p q =
        let y : List Met = met_from w b (from + row_count a) n flat next then in
        fs i (omega arith) (omega arith) ∙ failed-append (met_from w a from n flat mid c) y i
        ∙ ap (λ (z : Bool). z || failed y i) (failed-outside w a from n flat mid c i (λ u v. omega arith))

  module _ (d : Doc) (next : ℕ) (c : Cursor) (fs : Fails fails (group d) from (met_from w (group d) from n false next c)) where
    abbrev f : Bool
    f = fits c d next

    pub fails_here : fails (from + row_count d) ≡ not f
    unfolding met_from failed row_count
    fails_here =
        fs (from + row_count d) (omega arith) (omega arith)
        ∙ ap₂ (λ (x y : Bool). (x && not f) || y) (eq-eqb (from + row_count d) (from + row_count d) refl)
        (failed-outside w d from n f next (after w c (testᵖ f)) (from + row_count d) (λ u v. omega arith))
        ∙ or-false (not f)

    pub fails_inside : Fails fails d from (met_from w d from n f next (after w c (testᵖ f)))
    unfolding met_from failed row_count
    fails_inside i p q =
        fs i p (omega arith)
        ∙ ap (λ (x : Bool). (x && not f) || failed (met_from w d from n f next (after w c (testᵖ f))) i) (ne_eqb (from + row_count d) i (λ e. omega arith))

-- ---- rows

pub rows_on_append : (from n m : ℕ) → rows_on from (n + m) ≡ rows_on from n ++ rows_on (from + n) m
unfolding rows_on
rows_on_append from zero m = ap₂ rows_on (let e : from ≡ from + 0 = omega arith in e) (let e : 0 + m ≡ m = omega arith in e)
rows_on_append from (suc n) m =
    ap (rows_on from) (let e : suc n + m ≡ suc (n + m) = omega arith in e)
    ∙ ap (λ (l : List ℕ). from ∷ l)
    (rows_on_append (suc from) n m ∙ ap (λ (x : ℕ). rows_on (suc from) n ++ rows_on x m) (let e : suc from + n ≡ from + suc n = omega arith in e))

-- the rows of a node: those of its children, and its own
pub rows_on_last : (from n k : ℕ) → k ≡ 1 + n → rows_on from k ≡ rows_on from n ++ ((from + n) ∷ [])
unfolding rows_on
rows_on_last from n k e = ap (rows_on from) (let f : k ≡ n + 1 = omega arith in f) ∙ rows_on_append from n 1

module _ (rows : List ℕ) where
  nest_append : (r : ℕ) (xs ys : List ℕ) → nest_of rows r (xs ++ ys) ≡ nest_of rows r xs + nest_of rows r ys
  unfolding nest_of
  nest_append r [] ys = let e : nest_of rows r ys ≡ 0 + nest_of rows r ys = omega arith in e
  nest_append r (a ∷ xs) ys =
      let h = nest_append r xs ys in
      let here : ℕ = cond (eqb (word rows a 0) 3 && around rows r a) (word rows a 1) 0 in
      let e : here + nest_of rows r (xs ++ ys) ≡ here + nest_of rows r xs + nest_of rows r ys = omega arith in
      e

  pub all_append : (fails : ℕ → Bool) (r : ℕ) (xs ys : List ℕ) → all_failed fails rows r (xs ++ ys) ≡ all_failed fails rows r xs && all_failed fails rows r ys
  unfolding all_failed
  all_append fails r [] ys = refl
  all_append fails r (a ∷ xs) ys =
      let here : Bool = cond (eqb (word rows a 0) 4 && around rows r a) (fails a) true in
      ap (λ (b : Bool). here && b) (all_append fails r xs ys) ∙ sym (and_assoc here (all_failed fails rows r xs) (all_failed fails rows r ys))

  -- rows that are not around a row add nothing to its nest, and no group to it
  pub none_nests : (r from count : ℕ) → ((i : ℕ) → from ≤ i → i < from + count → around rows r i ≡ false) → nest_of rows r (rows_on from count) ≡ 0
  unfolding nest_of rows_on
  none_nests r from zero h = refl
  none_nests r from (suc count) h =
      ap₂ (λ (b : Bool) (m : ℕ). cond (eqb (word rows from 0) 3 && b) (word rows from 1) 0 + m) (h from (omega arith) (omega arith))
      (none_nests r (suc from) count (λ i p q. h i (omega arith) (omega arith)))
      ∙ ap (λ (b : Bool). cond b (word rows from 1) 0 + 0) (and-false (eqb (word rows from 0) 3))

  pub none_fails : (fails : ℕ → Bool) (r from count : ℕ) → ((i : ℕ) → from ≤ i → i < from + count → around rows r i ≡ false)
      → all_failed fails rows r (rows_on from count) ≡ true
  unfolding all_failed rows_on
  none_fails fails r from zero h = refl
  none_fails fails r from (suc count) h =
      ap₂ (λ (b x : Bool). cond (eqb (word rows from 0) 4 && b) (fails from) true && x) (h from (omega arith) (omega arith))
      (none_fails fails r (suc from) count (λ i p q. h i (omega arith) (omega arith)))
      ∙ ap (λ (b : Bool). cond b (fails from) true && true) (and-false (eqb (word rows from 0) 4))

  -- ---- the rows of a stored document

  -- the first words of a node's own row
  pub record Own (r kind field count : ℕ) : Type 0 where
    pub kind_is : word rows r 0 ≡ kind
    pub field_is : word rows r 1 ≡ field
    pub count_is : word rows r 3 ≡ count

  pub own_nest : (m : ℕ) (d : Doc) (t from : ℕ) → Holds rows (from * 7) (stored t (nest m d)) → Own (from + row_count d) 3 m (1 + row_count d)
  unfolding own_row row_count
  own_nest m d t from h =
      let o = own rows (nest m d) t from (from + row_count d) (omega arith) h in
      record { kind_is = holds_at _ 0 (omega arith) o; field_is = holds_at _ 1 (omega arith) o; count_is = holds_at _ 3 (omega arith) o }

  pub own_group : (d : Doc) (t from : ℕ) → Holds rows (from * 7) (stored t (group d)) → Own (from + row_count d) 4 0 (1 + row_count d)
  unfolding own_row row_count
  own_group d t from h =
      let o = own rows (group d) t from (from + row_count d) (omega arith) h in
      record { kind_is = holds_at _ 0 (omega arith) o; field_is = holds_at _ 1 (omega arith) o; count_is = holds_at _ 3 (omega arith) o }

  own_join : (a b : Doc) (t from : ℕ) → Holds rows (from * 7) (stored t (join a b))
      → Own (from + (row_count a + row_count b)) 1 0 (1 + row_count a + row_count b)
  unfolding own_row row_count
  own_join a b t from h =
      let o = own rows (join a b) t from (from + (row_count a + row_count b)) (omega arith) h in
      record { kind_is = holds_at _ 0 (omega arith) o; field_is = holds_at _ 1 (omega arith) o; count_is = holds_at _ 3 (omega arith) o }

  -- the subtree of each row of a stored document starts in the document
  subtree_inside : (d : Doc) (t from i : ℕ) → Holds rows (from * 7) (stored t d) → from ≤ i → i < from + row_count d → from + word rows i 3 ≤ i + 1
  unfolding stored row_count own_row
  subtree_inside (text s) t from i h p q =
      let e : i ≡ from = omega arith in
      let w : word rows from 3 ≡ 1 = holds_at _ 3 (omega arith) h in
      rw e (omega arith)
  subtree_inside (join a b) t from i h p q =
      ⊎_elim (λ (x : i < from + row_count a). subtree_inside a t from i (holds_left _ _ h) p x)
      (λ (x : from + row_count a ≤ i).
      ⊎_elim
      (λ (y : i < from + row_count a + row_count b).
      let z = subtree_inside b (t + length (text_bytes a)) (from + row_count a) i (right_rows rows a b t from h) x y in omega arith)
      (λ (y : from + row_count a + row_count b ≤ i).
      let e : i ≡ from + (row_count a + row_count b) = omega arith in
      let w = (own_join a b t from h).count_is in
      rw e (omega arith))
      (split i (from + row_count a + row_count b)))
      (split i (from + row_count a))
  subtree_inside (break k) t from i h p q =
      let e : i ≡ from = omega arith in
      let w : word rows from 3 ≡ 1 = holds_at _ 3 (omega arith) h in
      rw e (omega arith)
  subtree_inside (nest m d) t from i h p q =
      ⊎_elim (λ (x : i < from + row_count d). subtree_inside d t from i (holds_left _ _ h) p x)
      (λ (x : from + row_count d ≤ i). let e : i ≡ from + row_count d = omega arith in let w = (own_nest m d t from h).count_is in rw e (omega arith))
      (split i (from + row_count d))
  subtree_inside (group d) t from i h p q =
      ⊎_elim (λ (x : i < from + row_count d). subtree_inside d t from i (holds_left _ _ h) p x)
      (λ (x : from + row_count d ≤ i). let e : i ≡ from + row_count d = omega arith in let w = (own_group d t from h).count_is in rw e (omega arith))
      (split i (from + row_count d))

  -- so none is around a row before it; nor is a row around a later one
  later_not_around : (d : Doc) (t from r i : ℕ) → Holds rows (from * 7) (stored t d) → r < from → from ≤ i → i < from + row_count d → around rows r i ≡ false
  later_not_around d t from r i h b p q =
      let s = subtree_inside d t from i h p q in
      ap (λ (x : Bool). leb r i && x) (le-ltb i (r + word rows i 3) (omega arith)) ∙ and-false (leb r i)

  pub earlier_not_around : (r i : ℕ) → i < r → around rows r i ≡ false
  earlier_not_around r i p = ap (λ (x : Bool). x && ltb i (r + word rows i 3)) (lt-leb r i p)

  -- a node's own row is around the rows of its children
  own_around : (r from n : ℕ) → word rows (from + n) 3 ≡ 1 + n → from ≤ r → r < from + n → around rows r (from + n) ≡ true
  own_around r from n e p q =
      ap₂ ◌&&◌ (le-leb r (from + n) (omega arith)) (lt-ltb (from + n) (r + word rows (from + n) 3) (omega arith))

  -- ---- a node's own row, after those of its children

  module _ (from n kind field : ℕ) (o : Own (from + n) kind field (1 + n)) where
    module _ (r : ℕ) (low : from ≤ r) (high : r < from + n) where
      own_tested : (q : ℕ) → eqb (word rows (from + n) 0) q && around rows r (from + n) ≡ eqb kind q
      own_tested q =
          ap₂ ◌&&◌ (ap (λ (k : ℕ). eqb k q) o.kind_is) (own_around r from n o.count_is low high) ∙ and-true (eqb kind q)

      pub own_nests : nest_of rows r (rows_on from (1 + n)) ≡ nest_of rows r (rows_on from n) + cond (eqb kind 3) field 0
      unfolding nest_of
      own_nests =
          ap (nest_of rows r) (rows_on_last from n (1 + n) refl)
          ∙ nest_append r (rows_on from n) ((from + n) ∷ [])
          ∙ ap₂ (λ (b : Bool) (m : ℕ). nest_of rows r (rows_on from n) + (cond b m 0 + 0)) (own_tested 3) o.field_is
          ∙ ap (λ (m : ℕ). nest_of rows r (rows_on from n) + m) (add-zero (cond (eqb kind 3) field 0))

      pub own_fails : (fails : ℕ → Bool)
          → all_failed fails rows r (rows_on from (1 + n)) ≡ all_failed fails rows r (rows_on from n) && cond (eqb kind 4) (fails (from + n)) true
      unfolding all_failed
      own_fails fails =
          ap (all_failed fails rows r) (rows_on_last from n (1 + n) refl)
          ∙ all_append fails r (rows_on from n) ((from + n) ∷ [])
          ∙ ap (λ (b : Bool). all_failed fails rows r (rows_on from n) && (cond b (fails (from + n)) true && true)) (own_tested 4)
          ∙ ap (λ (b : Bool). all_failed fails rows r (rows_on from n) && b) (and-true (cond (eqb kind 4) (fails (from + n)) true))

  -- ---- the rows around one of a join: those of its child, and the join itself, which is no group and no nest

  module _ (a b : Doc) (t from : ℕ) (h : Holds rows (from * 7) (stored t (join a b))) where
    pub join_own : Own (from + (row_count a + row_count b)) 1 0 (1 + (row_count a + row_count b))
    join_own =
        let o = own_join a b t from h in
        let c = o.count_is in
        record { kind_is = o.kind_is; field_is = o.field_is; count_is = omega arith }

    pub right_not_around : (i : ℕ) → i < from + row_count a → (j : ℕ) → from + row_count a ≤ j → j < from + row_count a + row_count b → around rows i j ≡ false
    right_not_around i q j u v =
        later_not_around b (t + length (text_bytes a)) (from + row_count a) i j (right_rows rows a b t from h) q u v

    pub join_nests : (i : ℕ) → from ≤ i → i < from + (row_count a + row_count b)
        → nest_of rows i (rows_on from (1 + (row_count a + row_count b)))
        ≡ nest_of rows i (rows_on from (row_count a)) + nest_of rows i (rows_on (from + row_count a) (row_count b))
    join_nests i p q =
        own_nests from (row_count a + row_count b) 1 0 join_own i p q
        ∙ add-zero (nest_of rows i (rows_on from (row_count a + row_count b)))
        ∙ ap (nest_of rows i) (rows_on_append from (row_count a) (row_count b))
        ∙ nest_append i (rows_on from (row_count a)) (rows_on (from + row_count a) (row_count b))

    join_fails : (fails : ℕ → Bool) (i : ℕ) → from ≤ i → i < from + (row_count a + row_count b)
        → all_failed fails rows i (rows_on from (1 + (row_count a + row_count b)))
        ≡ all_failed fails rows i (rows_on from (row_count a)) && all_failed fails rows i (rows_on (from + row_count a) (row_count b))
    join_fails fails i p q =
        own_fails from (row_count a + row_count b) 1 0 join_own i p q fails
        ∙ and-true (all_failed fails rows i (rows_on from (row_count a + row_count b)))
        ∙ ap (all_failed fails rows i) (rows_on_append from (row_count a) (row_count b))
        ∙ all_append fails i (rows_on from (row_count a)) (rows_on (from + row_count a) (row_count b))

    pub left_fails : (fails : ℕ → Bool) (i : ℕ) → from ≤ i → i < from + row_count a
        → all_failed fails rows i (rows_on from (1 + (row_count a + row_count b))) ≡ all_failed fails rows i (rows_on from (row_count a))
    left_fails fails i p q =
        join_fails fails i p (omega arith)
        ∙ ap (λ (x : Bool). all_failed fails rows i (rows_on from (row_count a)) && x)
        (none_fails fails i (from + row_count a) (row_count b) (right_not_around i q))
        ∙ and-true (all_failed fails rows i (rows_on from (row_count a)))

    pub right_fails : (fails : ℕ → Bool) (i : ℕ) → from + row_count a ≤ i → i < from + row_count a + row_count b
        → all_failed fails rows i (rows_on from (1 + (row_count a + row_count b))) ≡ all_failed fails rows i (rows_on (from + row_count a) (row_count b))
    right_fails fails i p q =
        join_fails fails i (omega arith) (omega arith)
        ∙ ap (λ (x : Bool). x && all_failed fails rows i (rows_on (from + row_count a) (row_count b)))
        (none_fails fails i from (row_count a) (λ j u v. earlier_not_around i j (omega arith)))
