-- What is known while entries are taken: the loop of `lay_out_pending`.
use Prim.Native.Nat.{ℕ, suc, ◌+◌, ◌-◌, ◌*◌, ◌≤◌, ◌<◌}
use native.Mathlib.Omega.{arith}
use mathlib.Core.Bool.{Bool, true, false}
use mathlib.Core.List.{List, [], ◌∷◌}
use mathlib.Core.Path.{◌≡◌, refl, sym, ap, ap₂, ◌∙◌, subst}
use lib.ListN.{length}
use Rattle.document.specs.Doc.{flat_size, through}
use Rattle.document.specs.Rows.{word, node, doc_at, Valid}
use Rattle.document.proofs.Words.{kept, join_right, join_count, nest_amount, has_child, wrapped_count, some_row, sized}
use Rattle.layout.specs.declared.cursor.Cursor.{Cursor}
use Rattle.layout.specs.Layout.{Piece, testᵖ, tested, start, pieces}
use Rattle.layout.specs.Call.{doc_of}
use Rattle.layout.specs.Contract.{Steady, Given, Room, Emitteds, LaidOut}
use Rattle.layout.proofs.Cases.{row_inside, left_asks}
use Rattle.layout.proofs.Pieces.{emitted_append, emitted_test}
use Rattle.layout_pending.specs.declared.entries.Entry.{Entry}
use Rattle.layout_pending.specs.Contract.{left_child, right_child, nested, grouped, tested_unless, TestRoom}
use Rattle.layout_pending.proofs.Documents.{row_doc, first_within, through-within}
use Rattle.layout_pending.proofs.Remaining.{pieces_of, remaining, remaining_join, remaining_nest, remaining_flat, remaining_test}

-- the rows of the entries' subtrees, which are still to be taken
unfoldable pub weight : List ℕ → List Entry → ℕ
weight rows [] = 0
weight rows (e ∷ es) = word rows e.row 3 + weight rows es

-- an entry's row is one of the document's, and its numbers stay small however the rows of its subtree are taken
pub record Within (rows : List ℕ) (count : ℕ) (e : Entry) : Type 0 where
  pub below : e.row < count
  pub nest_room : e.nest + word rows e.row 3 * 64 ≤ 2097152
  pub next_room : e.next + word rows e.row 3 * 65536 ≤ 2147483648

unfoldable pub AllWithin : List ℕ → ℕ → List Entry → Type 0
AllWithin rows count [] = Unit {0}
AllWithin rows count (e ∷ es) = Within rows count e × AllWithin rows count es

-- `back`: to emit what the entries stand for from here on emits the whole document from the start
pub record Taking (rows texts : List ℕ) (count w : ℕ) (l0 : List ℕ) (es : List Entry) (c : Cursor) (l : List ℕ) : Type 0 where
  pub total : ℕ
  pub given : Given rows texts w total count
  pub within : AllWithin rows count es
  pub few : weight rows es ≤ count
  pub steady : Steady w c
  pub position_room : c.position + weight rows es * 8589934592 ≤ 1152921504606846976
  pub count_room : c.lines + c.tests + weight rows es ≤ 1152921504606846976
  pub same : length l ≡ length l0
  pub back : (v : Cursor) (l' : List ℕ) → Emitteds w (remaining w rows texts count es c) c v l l'
      → Emitteds w (pieces w (doc_of rows count texts)) (start w) v l0 l'

-- each entry stands for a row at least
pub many : (rows : List ℕ) (total count : ℕ) → Valid rows total count → (es : List Entry) → AllWithin rows count es → length es ≤ weight rows es
unfolding weight AllWithin
many rows total count valid [] h = omega arith
many rows total count valid (e ∷ es) h =
    let i = many rows total count valid es h.1 in
    let s = some_row rows total count valid e.row h.0.below (word rows e.row 0) refl in
    omega arith

-- ---- the first entry is taken

module _ {rows texts : List ℕ} {count w : ℕ} {l0 : List ℕ} {e : Entry} {es : List Entry} {c : Cursor} {l : List ℕ}
    (g : Taking rows texts count w l0 (e ∷ es) c l) where
  abbrev total : ℕ
  total = g.total

  abbrev valid : Valid rows g.total count
  valid = g.given.valid

  pub head : Within rows count e
  unfolding AllWithin
  head = g.within.0

  tail : AllWithin rows count es
  unfolding AllWithin
  tail = g.within.1

  weight_is : weight rows (e ∷ es) ≡ word rows e.row 3 + weight rows es
  unfolding weight
  weight_is = refl

  pub head_room : Room rows texts e.row w e.nest e.next c
  head_room =
      let k = weight_is in
      let n = g.given.few in
      let f = g.few in
      let p = g.position_room in
      let t = g.count_room in
      let h = head in
      let i = h.nest_room in
      let j = h.next_room in
      record {
        total = total;
        count = count;
        given = g.given;
        below = h.below;
        steady = g.steady;
        position_room = omega arith;
        nest_room = i;
        next_room = omega arith;
        count_room = omega arith;
      }

  pub taken_less : weight rows es < weight rows (e ∷ es)
  taken_less =
      let k = weight_is in
      let s = some_row rows total count valid e.row head.below (word rows e.row 0) refl in
      omega arith

  -- a text or a break is emitted
  pub taken : {m : Cursor} {k : List ℕ} → length k ≡ length l → LaidOut rows texts e.row w e.nest e.flat e.next c m l k → Taking rows texts count w l0 es m k
  unfolding remaining
  taken {m} {k} s a =
      let x = weight_is in
      let f = g.few in
      let p = g.position_room in
      let t = g.count_room in
      let pb = a.position_bound in
      let tb = a.count_bound in
      let b : Emitteds w (pieces_of w (doc_at rows texts count e.row) e c) c m l k = a.laid count head.below in
      record {
        total = total;
        given = g.given;
        within = tail;
        few = omega arith;
        steady = a.steady;
        position_room = omega arith;
        count_room = omega arith;
        same = s ∙ g.same;
        back = λ v l' r.
            g.back v l'
            (emitted_append w _ _ c m v l k l' b
            (subst (λ (z : Cursor). Emitteds w (remaining w rows texts count es z) m v k l') b.cursor r));
      }

  -- others take its place
  module _ (es' : List Entry) (c' : Cursor) (within' : AllWithin rows count es') (less : weight rows es' < weight rows (e ∷ es)) where
    instead : c'.position ≡ c.position → c'.end ≡ c.end → c'.lines + c'.tests ≤ c.lines + c.tests + 1
        → ((v : Cursor) (l' : List ℕ) → Emitteds w (remaining w rows texts count es' c') c' v l l' → Emitteds w (remaining w rows texts count (e ∷ es) c) c v l l')
        → Taking rows texts count w l0 es' c' l
    instead hp he ht step =
        let f = g.few in
        let s = g.steady in
        let p = g.position_room in
        let t = g.count_room in
        record {
          total = total;
          given = g.given;
          within = within';
          few = omega arith;
          steady = omega arith;
          position_room = omega arith;
          count_room = omega arith;
          same = g.same;
          back = λ v l' r. g.back v l' (step v l' r);
        }

  -- ---- a join

  module _ (kind : word rows e.row 0 ≡ 1) where
    pub join_asks : ((0 < e.row) × (e.row * 7 ≤ length rows)) × (e.next < 4611686018427387904)
    join_asks = let n = head.next_room in (left_asks head_room kind, omega arith)

    pub left-within : Within rows count (left_child rows e)
    left-within =
        let h = head in
        let b = h.below in
        let i = h.nest_room in
        let n = h.next_room in
        let j = join_right rows total count valid e.row b kind in
        let k = join_count rows total count valid e.row b kind in
        let d = first_within rows texts total count valid g.given.small count (e.row - 1) (omega arith) (omega arith) in
        let t = through-within (word rows (e.row - 1) 6) (word rows (e.row - 1) 5) e.next in
        record { below = omega arith; nest_room = omega arith; next_room = omega arith }

    pub right_within : Within rows count (right_child e)
    right_within =
        let h = head in
        let b = h.below in
        let i = h.nest_room in
        let n = h.next_room in
        let j = join_right rows total count valid e.row b kind in
        let k = join_count rows total count valid e.row b kind in
        record { below = omega arith; nest_room = omega arith; next_room = omega arith }

    pub join_less : weight rows (left_child rows e ∷ right_child e ∷ es) < weight rows (e ∷ es)
    unfolding weight
    join_less = let k = join_count rows total count valid e.row head.below kind in omega arith

    pub taken_join : Taking rows texts count w l0 (left_child rows e ∷ right_child e ∷ es) c l
    unfolding AllWithin node
    taken_join =
        let b = head.below in
        let j = join_right rows total count valid e.row b kind in
        let s = sized rows texts total count valid g.given.size count (e.row - 1) (omega arith) (omega arith) in
        let q = remaining_join w rows texts count e es c (row_doc rows texts total count valid e.row 1 b kind)
        (ap₂ (λ (x y : ℕ). through x y e.next) s.has s.first) in
        instead (left_child rows e ∷ right_child e ∷ es) c (left-within, (right_within, tail)) join_less refl refl (omega arith)
        (λ v l' r. subst (λ (ps : List Piece). Emitteds w ps c v l l') (sym q) r)

  -- ---- a nest or a group

  module _ (k : ℕ) (kind : word rows e.row 0 ≡ suc (suc (suc k))) where
    pub child_below : 0 < e.row
    child_below = has_child rows total count valid e.row head.below k kind

    child_within : (n : ℕ) (f : Bool) → n ≤ e.nest + 64 → Within rows count (record { row = e.row - 1; nest = n; flat = f; next = e.next })
    child_within n f s =
        let h = head in
        let b = h.below in
        let i = h.nest_room in
        let j = h.next_room in
        let o = child_below in
        let x = wrapped_count rows total count valid e.row b k kind in
        record { below = omega arith; nest_room = omega arith; next_room = omega arith }

    pub child_less : (e' : Entry) → e'.row ≡ e.row - 1 → weight rows (e' ∷ es) < weight rows (e ∷ es)
    unfolding weight
    child_less e' q =
        let x = wrapped_count rows total count valid e.row head.below k kind in
        let y : word rows e'.row 3 ≡ word rows (e.row - 1) 3 = ap (λ (r : ℕ). word rows r 3) q in
        omega arith

  module _ (kind : word rows e.row 0 ≡ 3) where
    pub nest_within : Within rows count (nested rows e)
    nest_within =
        let m = nest_amount rows total count valid e.row head.below kind in
        child_within 0 kind (e.nest + word rows e.row 1) e.flat (omega arith)

    pub taken_nest : Taking rows texts count w l0 (nested rows e ∷ es) c l
    unfolding AllWithin node
    taken_nest =
        let q = remaining_nest w rows texts count e es c (row_doc rows texts total count valid e.row 3 head.below kind) in
        instead (nested rows e ∷ es) c (nest_within, tail) (child_less 0 kind (nested rows e) refl) refl refl (omega arith)
        (λ v l' r. subst (λ (ps : List Piece). Emitteds w ps c v l l') (sym q) r)

  pub test_asks : TestRoom rows e c
  test_asks =
      let n = head.next_room in
      let p = g.position_room in
      let t = g.count_room in
      record { row = row_inside head_room; next = omega arith; position = omega arith; tests = omega arith }

  module _ (k : ℕ) (kind : word rows e.row 0 ≡ suc (suc (suc (suc k)))) where
    pub group_within : Within rows count (grouped rows e c)
    group_within = child_within (suc k) kind e.nest (grouped rows e c).flat (omega arith)

    abbrev after_group : List Entry
    after_group = grouped rows e c ∷ es

    pub taken_group : Taking rows texts count w l0 (grouped rows e c ∷ es) (tested_unless e.flat c) l
    unfolding AllWithin node
    taken_group = by e.flat refl
      where
        b : e.row < count
        b = head.below

        q : doc_at rows texts count e.row ≡ node rows texts (doc_at rows texts count) e.row (suc (suc (suc (suc k))))
        q = row_doc rows texts total count valid e.row (suc (suc (suc (suc k)))) b kind

        less : weight rows after_group < weight rows (e ∷ es)
        less = child_less (suc k) kind (grouped rows e c) refl

        size : flat_size (doc_at rows texts count (e.row - 1)) ≡ word rows e.row 4
        size =
            let o = child_below (suc k) kind in
            (sized rows texts total count valid g.given.size count (e.row - 1) (omega arith) (omega arith)).flat
            ∙ sym (kept rows total count valid e.row b (suc (suc (suc (suc k)))) kind).measures.flat

        by : (f : Bool) → e.flat ≡ f → Taking rows texts count w l0 after_group (tested_unless e.flat c) l
        by true h =
            subst (λ (x : Bool). Taking rows texts count w l0 after_group (tested_unless x c) l) (sym h)
            (instead after_group c (group_within, tail) less refl refl (omega arith)
            (λ v l' r. subst (λ (ps : List Piece). Emitteds w ps c v l l') (sym (remaining_flat w rows texts count e es c q h)) r))
        by false h =
            subst (λ (x : Bool). Taking rows texts count w l0 after_group (tested_unless x c) l) (sym h)
            (instead after_group (tested c) (group_within, tail) less refl refl (omega arith)
            (λ v l' r.
            subst (λ (ps : List Piece). Emitteds w ps c v l l') (sym (remaining_test w rows texts count e es c q h size))
            (subst (λ (x : Bool). Emitteds w (testᵖ (grouped rows e c).flat ∷ remaining w rows texts count after_group (tested_unless x c)) c v l l') (sym h)
            (emitted_test w (grouped rows e c).flat (remaining w rows texts count after_group (tested c)) c v l l' r))))
