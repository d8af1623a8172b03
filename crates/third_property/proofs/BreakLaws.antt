-- What layout meets at the break rows of a stored document is what the rows say: the groups around decide, and the nests around add up.
use Prim.Native.Nat.{ℕ, zero, suc, ◌+◌, ◌*◌, ◌≤◌, ◌<◌}
use native.Mathlib.Omega.{arith}
use native.Mathlib.Nat.{add-zero, zero-add}
use mathlib.Core.Bool.{Bool, true, false, ◌&&◌, ◌||◌, not, cond}
use mathlib.Core.List.{List, [], ◌∷◌, ◌++◌, append-nil}
use mathlib.Core.Path.{◌≡◌, refl, sym, ap, ap₂, ◌∙◌}
use lib.ListN.{length}
use lib.Dec.{eqb}
use Rattle.document.specs.Doc.{Doc, text, join, break, nest, group, row_count, has_break, first_break, through, text_bytes}
use Rattle.document.specs.Rows.{word}
use Rattle.document.specs.Stored.{own_row, stored}
use Rattle.document.proofs.Holds.{Holds, holds_front, holds_left, holds_at}
use Rattle.document.proofs.ReadBack.{right_rows}
use Rattle.layout.specs.declared.cursor.Cursor.{Cursor}
use Rattle.layout.specs.Layout.{Piece, testᵖ, after, run, placed, fits, layout, start, pieces}
use Rattle.third_property.specs.Places.{Met, met_from, met, pieces_of, is_place, places_in, failed, around, rows_on, nest_of, all_failed, break_rows, place_at, break_places}
use Rattle.third_property.proofs.AroundLaws.{Fails, fails_left, fails_right, fails_here, fails_inside, rows_on_append, rows_on_last, none_nests}
use Rattle.third_property.proofs.AroundLaws.{Own, own_nest, own_group, earlier_not_around, own_nests, own_fails, join_own, right_not_around, join_nests, left_fails, right_fails}
use Rattle.basics.proofs.Booleans.{and-true, or-false}

-- ---- what is met

pieces-append : (ms ns : List Met) → pieces_of (ms ++ ns) ≡ pieces_of ms ++ pieces_of ns
unfolding pieces_of
pieces-append [] ns = refl
pieces-append (m ∷ ms) ns = ap (λ (l : List Piece). m.piece ∷ l) (pieces-append ms ns)

met_from_pieces : (w : ℕ) (d : Doc) (from n : ℕ) (flat : Bool) (next : ℕ) (c : Cursor)
    → pieces_of (met_from w d from n flat next c) ≡ layout w d n flat next c
unfolding met_from pieces_of layout
met_from_pieces w (text s) from n flat next c = refl
met_from_pieces w (join a b) from n flat next c =
    let mid = through (has_break b) (first_break b) next in
    let ps = layout w a n flat mid c in
    pieces-append (met_from w a from n flat mid c) (met_from w b (from + row_count a) n flat next (run w c ps))
    ∙ ap₂ ◌++◌ (met_from_pieces w a from n flat mid c) (met_from_pieces w b (from + row_count a) n flat next (run w c ps))
met_from_pieces w (break k) from n flat next c = refl
met_from_pieces w (nest m d) from n flat next c = met_from_pieces w d from (n + m) flat next c
met_from_pieces w (group d) from n true next c = met_from_pieces w d from n true next c
met_from_pieces w (group d) from n false next c =
    let f = fits c d next in
    ap (λ (l : List Piece). testᵖ f ∷ l) (met_from_pieces w d from n f next (after w c (testᵖ f)))

-- what is met are the layout's pieces
pub met-pieces : (w : ℕ) (d : Doc) → pieces_of (met w d) ≡ pieces w d
unfolding pieces
met-pieces w d = met_from_pieces w d 0 0 false 0 (start w)

places_append : (ms ns : List Met) → places_in (ms ++ ns) ≡ places_in ms ++ places_in ns
unfolding places_in
places_append [] ns = refl
places_append (m ∷ ms) ns = by (is_place m.piece) (places_append ms ns)
  where
    by : (b : Bool) → places_in (ms ++ ns) ≡ places_in ms ++ places_in ns
        → cond b (m ∷ places_in (ms ++ ns)) (places_in (ms ++ ns)) ≡ cond b (m ∷ places_in ms) (places_in ms) ++ places_in ns
    by true h = ap (λ (l : List Met). m ∷ l) h
    by false h = h

module _ (rows : List ℕ) where
  breaks_append : (said : ℕ → Met) (xs ys : List ℕ) → break_rows rows said (xs ++ ys) ≡ break_rows rows said xs ++ break_rows rows said ys
  unfolding break_rows
  breaks_append said [] ys = refl
  breaks_append said (a ∷ xs) ys = by (eqb (word rows a 0) 2) (breaks_append said xs ys)
    where
      by : (b : Bool) → break_rows rows said (xs ++ ys) ≡ break_rows rows said xs ++ break_rows rows said ys
          → cond b (said a ∷ break_rows rows said (xs ++ ys)) (break_rows rows said (xs ++ ys))
          ≡ cond b (said a ∷ break_rows rows said xs) (break_rows rows said xs) ++ break_rows rows said ys
      by true h = ap (λ (l : List Met). said a ∷ l) h
      by false h = h

  -- what is said of the break rows among some rows is the same if it is the same of each of these
  breaks_same : (f g : ℕ → Met) (from count : ℕ) → ((i : ℕ) → from ≤ i → i < from + count → f i ≡ g i)
      → break_rows rows f (rows_on from count) ≡ break_rows rows g (rows_on from count)
  unfolding break_rows rows_on
  breaks_same f g from zero h = refl
  breaks_same f g from (suc count) h =
      ap₂ (λ (m : Met) (l : List Met). cond (eqb (word rows from 0) 2) (m ∷ l) l) (h from (omega arith) (omega arith))
      (breaks_same f g (suc from) count (λ i p q. h i (omega arith) (omega arith)))

  -- a node's own row, which is no break, after those of its children
  own_breaks : (said : ℕ → Met) (from n kind field : ℕ) → Own rows (from + n) kind field (1 + n) → eqb kind 2 ≡ false
      → break_rows rows said (rows_on from (1 + n)) ≡ break_rows rows said (rows_on from n)
  unfolding break_rows
  own_breaks said from n kind field o other =
      ap (break_rows rows said) (rows_on_last from n (1 + n) refl)
      ∙ breaks_append said (rows_on from n) ((from + n) ∷ [])
      ∙ ap (λ (b : Bool). break_rows rows said (rows_on from n) ++ cond b (said (from + n) ∷ []) []) (ap (λ (k : ℕ). eqb k 2) o.kind_is ∙ other)
      ∙ append-nil (break_rows rows said (rows_on from n))

  -- ---- the places of a stored document

  module _ (w : ℕ) (fails : ℕ → Bool) where
    -- what the rows of a document from row `from` on say of the break row r, in a nest n, inside a flat group or not
    abbrev said : Bool → ℕ → ℕ → ℕ → ℕ → Met
    said flat n from count r =
        record {
          row = r;
          piece = placed (flat || not (all_failed fails rows r (rows_on from count))) (word rows r 1) (n + nest_of rows r (rows_on from count));
        }

    -- nothing but the piece differs
    met-same : (r : ℕ) (flat flat' : Bool) (blank n n' : ℕ) → flat ≡ flat' → n ≡ n'
        → ◌≡◌ {A = Met} (record { row = r; piece = placed flat blank n }) (record { row = r; piece = placed flat' blank n' })
    met-same r flat flat' blank n n' e f = ap₂ (λ (b : Bool) (m : ℕ). record { row = r; piece = placed b blank m }) e f

    or_not_and_not : (f a : Bool) → f || not a ≡ not (a && not f)
    or_not_and_not true true = refl
    or_not_and_not true false = refl
    or_not_and_not false true = refl
    or_not_and_not false false = refl

    places_of_join : (a b : Doc) (t from n : ℕ) (flat : Bool) → Holds rows (from * 7) (stored t (join a b))
        → break_rows rows (said flat n from (row_count a)) (rows_on from (row_count a))
        ++ break_rows rows (said flat n (from + row_count a) (row_count b)) (rows_on (from + row_count a) (row_count b))
        ≡ break_rows rows (said flat n from (1 + (row_count a + row_count b))) (rows_on from (1 + (row_count a + row_count b)))
    places_of_join a b t from n flat h =
        let x : ℕ = row_count a in
        let y : ℕ = row_count b in
        let all : ℕ → Met = said flat n from (1 + (x + y)) in
        ap₂ ◌++◌ (breaks_same (said flat n from x) all from x in_left) (breaks_same (said flat n (from + x) y) all (from + x) y in_right)
        ∙ sym (breaks_append all (rows_on from x) (rows_on (from + x) y))
        ∙ ap (break_rows rows all) (sym (rows_on_append from x y))
        ∙ sym (own_breaks all from (x + y) 1 0 (join_own rows a b t from h) refl)
      where
        in_left : (i : ℕ) → from ≤ i → i < from + row_count a → said flat n from (row_count a) i ≡ said flat n from (1 + (row_count a + row_count b)) i
        in_left i p q =
            met-same i _ _ (word rows i 1) _ _
            (ap (λ (x : Bool). flat || not x) (sym (left_fails rows a b t from h fails i p q)))
            (ap (λ (x : ℕ). n + x)
            (sym
            (join_nests rows a b t from h i p (omega arith)
            ∙ ap (λ (x : ℕ). nest_of rows i (rows_on from (row_count a)) + x)
            (none_nests rows i (from + row_count a) (row_count b) (right_not_around rows a b t from h i q))
            ∙ add-zero (nest_of rows i (rows_on from (row_count a))))))

        in_right : (i : ℕ) → from + row_count a ≤ i → i < from + row_count a + row_count b
            → said flat n (from + row_count a) (row_count b) i ≡ said flat n from (1 + (row_count a + row_count b)) i
        in_right i p q =
            met-same i _ _ (word rows i 1) _ _
            (ap (λ (x : Bool). flat || not x) (sym (right_fails rows a b t from h fails i p q)))
            (ap (λ (x : ℕ). n + x)
            (sym
            (join_nests rows a b t from h i (omega arith) (omega arith)
            ∙ ap (λ (x : ℕ). x + nest_of rows i (rows_on (from + row_count a) (row_count b)))
            (none_nests rows i from (row_count a) (λ j u v. earlier_not_around rows i j (omega arith)))
            ∙ zero-add (nest_of rows i (rows_on (from + row_count a) (row_count b))))))

    -- of a nest or a group: what is said of the child's rows, in the nest and the flatness that the node gives it
    places_of_node : (d : Doc) (from n m kind field : ℕ) (flat inner : Bool) → Own rows (from + row_count d) kind field (1 + row_count d) → eqb kind 2 ≡ false
        → n + cond (eqb kind 3) field 0 ≡ m
        → ((b : Bool) → inner || not b ≡ flat || not (b && cond (eqb kind 4) (fails (from + row_count d)) true))
        → break_rows rows (said inner m from (row_count d)) (rows_on from (row_count d))
        ≡ break_rows rows (said flat n from (1 + row_count d)) (rows_on from (1 + row_count d))
    places_of_node d from n m kind field flat inner o other nested grouped =
        let k : ℕ = row_count d in
        breaks_same (said inner m from k) (said flat n from (1 + k)) from k
        (λ i p q.
        let e = own_nests rows from k kind field o i p q in
        met-same i _ _ (word rows i 1) _ _
        (grouped (all_failed fails rows i (rows_on from k)) ∙ ap (λ (x : Bool). flat || not x) (sym (own_fails rows from k kind field o i p q fails)))
        (let f : m + nest_of rows i (rows_on from k) ≡ n + nest_of rows i (rows_on from (1 + k)) = omega arith in f))
        ∙ sym (own_breaks (said flat n from (1 + k)) from k kind field o other)

    -- a row by itself: no break, or a break with nothing around it
    places_of_text : (s : List ℕ) (t from n : ℕ) (flat : Bool) → Holds rows (from * 7) (stored t (text s))
        → [] ≡ break_rows rows (said flat n from 1) (rows_on from 1)
    unfolding break_rows rows_on stored own_row
    places_of_text s t from n flat h =
        let k : word rows from 0 ≡ 0 = holds_at _ 0 (omega arith) h in
        ap (λ (x : ℕ). cond (eqb x 2) (said flat n from 1 from ∷ []) []) (sym k)

    places_of_break : (blank t from n : ℕ) (flat : Bool) → Holds rows (from * 7) (stored t (break blank))
        → record { row = from; piece = placed flat blank n } ∷ [] ≡ break_rows rows (said flat n from 1) (rows_on from 1)
    unfolding break_rows rows_on stored own_row all_failed nest_of
    places_of_break blank t from n flat h =
        let k : word rows from 0 ≡ 2 = holds_at _ 0 (omega arith) h in
        let f : word rows from 1 ≡ blank = holds_at _ 1 (omega arith) h in
        ap (λ (x : ℕ). record { row = from; piece = placed flat x n } ∷ []) (sym f)
        ∙ ap (λ (m : Met). m ∷ [])
        (met-same from flat _ (word rows from 1) n _
        (sym (or-false flat) ∙ ap (λ (x : ℕ). flat || not (cond (eqb x 4 && around rows from from) (fails from) true && true)) (sym k))
        (sym (add-zero n) ∙ ap (λ (x : ℕ). n + (cond (eqb x 3 && around rows from from) (word rows from 1) 0 + 0)) (sym k)))
        ∙ ap (λ (x : ℕ). cond (eqb x 2) (said flat n from 1 from ∷ []) []) (sym k)

    places_are : (d : Doc) (t from n : ℕ) (flat : Bool) (next : ℕ) (c : Cursor) → Holds rows (from * 7) (stored t d)
        → Fails fails d from (met_from w d from n flat next c)
        → places_in (met_from w d from n flat next c) ≡ break_rows rows (said flat n from (row_count d)) (rows_on from (row_count d))
    unfolding met_from places_in failed row_count stored own_row
    places_are (text s) t from n flat next c h fs = places_of_text s t from n flat h
    places_are (join a b) t from n flat next c h fs =
        let mid = through (has_break b) (first_break b) next in
        let m = run w c (layout w a n flat mid c) in
        let x : ℕ = row_count a in
        places_append (met_from w a from n flat mid c) (met_from w b (from + x) n flat next m)
        ∙ ap₂ ◌++◌
        (places_are a t from n flat mid c (holds_left _ _ h) (fails_left w fails from n a b flat next c fs))
        (places_are b (t + length (text_bytes a)) (from + x) n flat next m (right_rows rows a b t from h) (fails_right w fails from n a b flat next c fs))
        ∙ places_of_join a b t from n flat h
        ∙ ap (λ (z : ℕ). break_rows rows (said flat n from z) (rows_on from z)) (let e : 1 + (x + row_count b) ≡ 1 + x + row_count b = omega arith in e)
    places_are (break k) t from n true next c h fs = places_of_break k t from n true h
    places_are (break k) t from n false next c h fs = places_of_break k t from n false h
    places_are (nest m d) t from n flat next c h fs =
        places_are d t from (n + m) flat next c (holds_left _ _ h) (λ i p q. fs i p (omega arith))
        ∙ places_of_node d from n (n + m) 3 m flat flat (own_nest rows m d t from h) refl refl (λ b. ap (λ (x : Bool). flat || not x) (sym (and-true b)))
    places_are (group d) t from n true next c h fs =
        places_are d t from n true next c (holds_left _ _ h) (λ i p q. fs i p (omega arith))
        ∙ places_of_node d from n n 4 0 true true (own_group rows d t from h) refl (add-zero n) (λ b. refl)
    places_are (group d) t from n false next c h fs =
        let f : Bool = fits c d next in
        places_are d t from n f next (after w c (testᵖ f)) (holds_left _ _ h) (fails_inside w fails from n d next c fs)
        ∙ places_of_node d from n n 4 0 false f (own_group rows d t from h) refl (add-zero n)
        (λ b. or_not_and_not f b ∙ ap (λ (x : Bool). not (b && x)) (sym (fails_here w fails from n d next c fs)))

-- of a whole document: each break row is broken exactly if every group around it failed the fit test, and its nest is the sum of those around it
pub places_of_rows : (w : ℕ) (d : Doc) (more_rows : List ℕ)
    → places_in (met w d) ≡ break_places (failed (met w d)) (stored 0 d ++ more_rows) (row_count d)
places_of_rows w d more_rows =
    let rows : List ℕ = stored 0 d ++ more_rows in
    let fails : ℕ → Bool = failed (met w d) in
    let as-failed : (i : ℕ) → 0 ≤ i → i < 0 + row_count d → fails i ≡ failed (met w d) i = λ i p q. refl in
    places_are rows w fails d 0 0 0 false 0 (start w) (holds_front (stored 0 d) more_rows) as-failed
    ∙ breaks_same rows (said rows w fails false 0 0 (row_count d)) (place_at fails rows (rows_on 0 (row_count d))) 0 (row_count d)
    (λ i p q.
    let broken : Bool = all_failed fails rows i (rows_on 0 (row_count d)) in
    met-same rows w fails i (not broken) (not broken) (word rows i 1) _ _ refl (zero-add (nest_of rows i (rows_on 0 (row_count d)))))
