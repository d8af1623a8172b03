-- What `lay_out` asks of its calls and has from them, row kind by row kind.
use Prim.Native.Nat.{ℕ, zero, suc, ◌+◌, ◌-◌, ◌*◌, ◌≤◌, ◌<◌}
use native.Mathlib.Omega.{arith}
use mathlib.Core.Bool.{Bool, true, false}
use mathlib.Core.List.{List, [], ◌∷◌}
use mathlib.Core.Path.{◌≡◌, refl, sym, ap, ap₂, ◌∙◌, subst}
use lib.ListN.{length, drop, length-take}
use lib.Dec.{leb}
use Rattle.document.specs.Doc.{Doc, group, has_break, first_break, through}
use Rattle.document.specs.Rows.{word, left_of, node, doc_at, Valid}
use Rattle.document.proofs.Words.{kept, text_within, join_right, join_count, blank_small, nest_amount, has_child, wrapped_count, sized}
use Rattle.layout.specs.declared.cursor.Cursor.{Cursor}
use Rattle.layout.specs.Layout.{Piece, textᵖ, blankᵖ, newlineᵖ, testᵖ, placed, after, run, fits, layout}
use Rattle.layout.specs.Contract.{TextRoom, BreakRoom, text_of, Steady, Emitted, Emitteds, Room, LaidOut}
use Rattle.layout.proofs.Pieces.{emitted_one, emitted_append, emitted_test}

-- what holds of the node of row r holds of its document
doc_kind : (rows texts : List ℕ) (r k : ℕ) → word rows r 0 ≡ k → (P : Doc → Type 0)
    → ((f : ℕ) → r < suc f → P (node rows texts (doc_at rows texts f) r k)) → (f : ℕ) → r < f → P (doc_at rows texts f r)
unfolding doc_at
doc_kind rows texts r k e P g zero h = absurd (omega arith)
doc_kind rows texts r k e P g (suc f) h = subst (λ (x : ℕ). P (node rows texts (doc_at rows texts f) r x)) (sym e) (g f h)

-- ---- a row, from what is asked of it

module _ {rows texts : List ℕ} {r w n next : ℕ} {c : Cursor} (room : Room rows texts r w n next c) where
  abbrev total : ℕ
  total = room.total

  abbrev count : ℕ
  count = room.count

  abbrev valid : Valid rows room.total room.count
  valid = room.given.valid

  laid_piece : (flat : Bool) (p : Piece) (v : Cursor) (l l' : List ℕ) → Emitted w p c v l l' → Steady w (after w c p) → (after w c
      p).position ≤ c.position + 8589934592 → (after w c p).lines + (after w c p).tests ≤ c.lines + c.tests + 1
      → word rows r 3 ≡ 1 → ((f : ℕ) → r < f → layout w (doc_at rows texts f r) n flat next c ≡ p ∷ []) → LaidOut rows texts r w n flat next c v l l'
  laid_piece flat p v l l' a s b t o g =
      let at = ap (λ (x : Cursor). x.position) a.cursor in
      let end = ap (λ (x : Cursor). x.end) a.cursor in
      let lines = ap (λ (x : Cursor). x.lines) a.cursor in
      let tests = ap (λ (x : Cursor). x.tests) a.cursor in
      record {
        laid = λ f h. subst (λ (ps : List Piece). Emitteds w ps c v l l') (sym (g f h)) (emitted_one w p c v l l' a);
        steady = omega arith;
        position_bound = omega arith;
        count_bound = omega arith;
      }

  pub row_inside : r * 7 + 7 ≤ length rows
  row_inside =
      let b = room.below in
      let l = room.given.long in
      omega arith

  -- ---- texts

  text_small : word rows r 0 ≡ 0 → word rows r 2 ≤ 65536
  text_small e = let t = text_within rows total count valid r room.below e in let s = room.given.small in omega arith

  pub text_asks : word rows r 0 ≡ 0 → TextRoom rows texts r w c
  text_asks e =
      let t = text_within rows total count valid r room.below e in
      let s = room.given.size in
      let z = text_small e in
      let p = room.position_room in
      let q = room.given.narrow in
      record { row = row_inside; inside = omega arith; room = omega arith }

  pub laid_text : (flat : Bool) (v : Cursor) (l l' : List ℕ) → word rows r 0 ≡ 0 → Emitted w (textᵖ (text_of rows texts r)) c v l l' → LaidOut rows texts r w n flat next c v l l'
  unfolding node layout
  laid_text flat v l l' e a =
      let s : List ℕ = text_of rows texts r in
      let st = room.steady in
      let z = text_small e in
      let t = length-take (word rows r 2) (drop (word rows r 1) texts) in
      laid_piece flat (textᵖ s) v l l' a (omega arith) (omega arith) (omega arith) (kept rows total count valid r room.below 0 e).measures.count
      (doc_kind rows texts r 0 e (λ d. layout w d n flat next c ≡ textᵖ s ∷ []) (λ f h. refl))

  -- ---- breaks

  pub break_asks : word rows r 0 ≡ 2 → BreakRoom rows r w n c
  break_asks e =
      let z = blank_small rows total count valid r room.below e in
      let p = room.position_room in
      let q = room.nest_room in
      let o = room.given.narrow in
      let m = room.count_room in
      record { row = row_inside; blank = omega arith; newline = omega arith; line = omega arith }

  pub laid_break : (flat : Bool) (v : Cursor) (l l' : List ℕ) → word rows r 0 ≡ 2 → Emitted w (placed flat (word rows r 1) n) c v l l' → LaidOut rows texts r w n flat next c v l l'
  unfolding node layout
  laid_break true v l l' e a =
      let st = room.steady in
      let z = blank_small rows total count valid r room.below e in
      laid_piece true (blankᵖ (word rows r 1)) v l l' a (omega arith) (omega arith) (omega arith) (kept rows total count valid r room.below 2 e).measures.count
      (doc_kind rows texts r 2 e (λ d. layout w d n true next c ≡ blankᵖ (word rows r 1) ∷ []) (λ f h. refl))
  laid_break false v l l' e a =
      let q = room.nest_room in
      laid_piece false (newlineᵖ (word rows r 1) n) v l l' a (omega arith) (omega arith) (omega arith) (kept rows total count valid r room.below 2 e).measures.count
      (doc_kind rows texts r 2 e (λ d. layout w d n false next c ≡ newlineᵖ (word rows r 1) n ∷ []) (λ f h. refl))

  -- ---- joins

  pub left_asks : word rows r 0 ≡ 1 → (0 < r) × (r * 7 ≤ length rows)
  left_asks e =
      let j = join_right rows total count valid r room.below e in
      let i = row_inside in
      (omega arith, omega arith)

  pub next_asks : word rows r 0 ≡ 1 → ((0 < r) × (r * 7 ≤ length rows)) × (next < 4611686018427387904)
  next_asks e = let p = room.next_room in (left_asks e, omega arith)

  room_left₀ : (past : ℕ) → word rows r 0 ≡ 1 → past < next + 4294967296 → Room rows texts (left_of rows r) w n past c
  room_left₀ past e h =
      let j = join_right rows total count valid r room.below e in
      let k = join_count rows total count valid r room.below e in
      let b = room.below in
      let p = room.position_room in
      let q = room.nest_room in
      let u = room.next_room in
      let t = room.count_room in
      record {
        total = total;
        count = count;
        given = room.given;
        below = omega arith;
        steady = room.steady;
        position_room = omega arith;
        nest_room = omega arith;
        next_room = omega arith;
        count_room = omega arith;
      }

  pub room_left : (i past : ℕ) → word rows r 0 ≡ 1 → i ≡ left_of rows r → past < next + 4294967296 → Room rows texts i w n past c
  room_left i past e q p = subst (λ (x : ℕ). Room rows texts x w n past c) (sym q) (room_left₀ past e p)

  pub room_right : (flat : Bool) (past : ℕ) (m : Cursor) (l k : List ℕ) → word rows r 0 ≡ 1 → LaidOut rows texts (left_of rows r) w n flat past c m l k → Room rows texts (r - 1) w n next m
  room_right flat past m l k e a =
      let j = join_right rows total count valid r room.below e in
      let i = join_count rows total count valid r room.below e in
      let b = room.below in
      let p = room.position_room in
      let q = room.nest_room in
      let u = room.next_room in
      let t = room.count_room in
      let pb = a.position_bound in
      let tb = a.count_bound in
      record {
        total = total;
        count = count;
        given = room.given;
        below = omega arith;
        steady = a.steady;
        position_room = omega arith;
        nest_room = omega arith;
        next_room = omega arith;
        count_room = omega arith;
      }

  pub laid_join : (flat : Bool) (past : ℕ) (m v : Cursor) (l k l' : List ℕ) → word rows r 0 ≡ 1 → past ≡ through (word rows (r - 1) 6) (word rows (r - 1) 5) next
      → LaidOut rows texts (left_of rows r) w n flat past c m l k → LaidOut rows texts (r - 1) w n flat next m v k l' → LaidOut rows texts r w n flat next c v l l'
  unfolding node layout
  laid_join flat past m v l k l' e q a b =
      let j = join_right rows total count valid r room.below e in
      let x = join_count rows total count valid r room.below e in
      let rb = room.below in
      let ab = a.position_bound in
      let tb = a.count_bound in
      let ab2 = b.position_bound in
      let tb2 = b.count_bound in
      record {
        laid =
            doc_kind rows texts r 1 e (λ d. Emitteds w (layout w d n flat next c) c v l l')
            (λ f h.
            let s = sized rows texts total count valid room.given.size f (r - 1) (omega arith) (omega arith) in
            let A : Doc = doc_at rows texts f (left_of rows r) in
            let B : Doc = doc_at rows texts f (r - 1) in
            let p : past ≡ through (has_break B) (first_break B) next = q ∙ sym (ap₂ (λ (g t : ℕ). through g t next) s.has s.first) in
            let one : Emitteds w (layout w A n flat (through (has_break B) (first_break B) next) c) c m l k =
            subst (λ (t : ℕ). Emitteds w (layout w A n flat t c) c m l k) p (a.laid f (omega arith)) in
            let two : Emitteds w (layout w B n flat next (run w c (layout w A n flat (through (has_break B) (first_break B) next) c))) m v k l' =
            subst (λ (t : Cursor). Emitteds w (layout w B n flat next t) m v k l') one.cursor (b.laid f (omega arith)) in
            emitted_append w _ _ c m v l k l' one two);
        steady = b.steady;
        position_bound = omega arith;
        count_bound = omega arith;
      }

  -- ---- nests and groups, over their child

  module _ (kind : ℕ) (e : word rows r 0 ≡ suc (suc (suc kind))) where
    pub child_below : 0 < r
    child_below = has_child rows total count valid r room.below kind e

    room_under : (n' : ℕ) (c' : Cursor) → n' ≤ n + 64 → c'.position ≡ c.position → c'.end ≡ c.end
        → c'.lines + c'.tests ≤ c.lines + c.tests + 1 → Room rows texts (r - 1) w n' next c'
    room_under n' c' hn hp he ht =
        let o = child_below in
        let k = wrapped_count rows total count valid r room.below kind e in
        let b = room.below in
        let s = room.steady in
        let p = room.position_room in
        let q = room.nest_room in
        let u = room.next_room in
        let t = room.count_room in
        record {
          total = total;
          count = count;
          given = room.given;
          below = omega arith;
          steady = omega arith;
          position_room = omega arith;
          nest_room = omega arith;
          next_room = omega arith;
          count_room = omega arith;
        }

    laid-under : (n' : ℕ) (flat flat' : Bool) (c' v : Cursor) (l l' : List ℕ) → c'.position ≡ c.position → c'.lines + c'.tests ≤ c.lines + c.tests + 1
        → ((f : ℕ) → r < suc f → Emitteds w (layout w (doc_at rows texts f (r - 1)) n' flat' next c') c' v l l'
        → Emitteds w (layout w (node rows texts (doc_at rows texts f) r (suc (suc (suc kind)))) n flat next c) c v l l')
        → LaidOut rows texts (r - 1) w n' flat' next c' v l l' → LaidOut rows texts r w n flat next c v l l'
    laid-under n' flat flat' c' v l l' hp ht g a =
        let o = child_below in
        let k = wrapped_count rows total count valid r room.below kind e in
        let pb = a.position_bound in
        let tb = a.count_bound in
        record {
          laid =
              doc_kind rows texts r (suc (suc (suc kind))) e (λ d. Emitteds w (layout w d n flat next c) c v l l')
              (λ f h. g f h (a.laid f (omega arith)));
          steady = a.steady;
          position_bound = omega arith;
          count_bound = omega arith;
        }

  pub room_nest : (i : ℕ) → word rows r 0 ≡ 3 → i ≡ word rows r 1 → Room rows texts (r - 1) w (n + i) next c
  room_nest i e q = let m = nest_amount rows total count valid r room.below e in room_under 0 e (n + i) c (omega arith) refl refl (omega arith)

  pub laid_nest : (flat : Bool) (i : ℕ) (v : Cursor) (l l' : List ℕ) → word rows r 0 ≡ 3 → i ≡ word rows r 1
      → LaidOut rows texts (r - 1) w (n + i) flat next c v l l' → LaidOut rows texts r w n flat next c v l l'
  unfolding node layout
  laid_nest flat i v l l' e q a =
      laid-under 0 e (n + word rows r 1) flat flat c v l l' refl (omega arith) (λ f h x. x)
      (subst (λ (x : ℕ). LaidOut rows texts (r - 1) w (n + x) flat next c v l l') q a)

  module _ (k : ℕ) (e : word rows r 0 ≡ suc (suc (suc (suc k)))) where
    pub room_flat : Room rows texts (r - 1) w n next c
    room_flat = room_under (suc k) e n c (omega arith) refl refl (omega arith)

    pub room_group : (b : Bool) → Room rows texts (r - 1) w n next (after w c (testᵖ b))
    room_group b = room_under (suc k) e n (after w c (testᵖ b)) (omega arith) refl refl (omega arith)

    pub laid_flat : (flat : Bool) (v : Cursor) (l l' : List ℕ) → flat ≡ true → LaidOut rows texts (r - 1) w n true next c v l l' → LaidOut rows texts r w n flat next c v l l'
    unfolding node layout
    laid_flat flat v l l' ft a =
        laid-under (suc k) e n flat true c v l l' refl (omega arith)
        (λ f h x. subst (λ (y : Bool). Emitteds w (layout w (group (doc_at rows texts f (r - 1))) n y next c) c v l l') (sym ft) x) a

    pub laid_group : (flat b : Bool) (i : ℕ) (v : Cursor) (l l' : List ℕ) → flat ≡ false → i ≡ word rows r 4 → b ≡ leb (c.position + i + next) c.end
        → LaidOut rows texts (r - 1) w n b next (after w c (testᵖ b)) v l l' → LaidOut rows texts r w n flat next c v l l'
    unfolding node layout
    laid_group flat b i v l l' ft y q a =
        let o = child_below (suc k) e in
        let bl = room.below in
        let m = (kept rows total count valid r room.below (suc (suc (suc (suc k)))) e).measures.flat in
        laid-under (suc k) e n flat b (after w c (testᵖ b)) v l l' refl (omega arith)
        (λ f h x.
        let D : Doc = doc_at rows texts f (r - 1) in
        let s = (sized rows texts total count valid room.given.size f (r - 1) (omega arith) (omega arith)).flat in
        let z : b ≡ fits c D next = q ∙ ap (λ (t : ℕ). leb (c.position + t + next) c.end) (y ∙ m ∙ sym s) in
        subst (λ (g : Bool). Emitteds w (layout w (group D) n g next c) c v l l') (sym ft)
        (subst (λ (g : Bool). Emitteds w (testᵖ g ∷ layout w D n g next (after w c (testᵖ g))) c v l l') z
        (emitted_test w b (layout w D n b next (after w c (testᵖ b))) c v l l' x)))
        a
