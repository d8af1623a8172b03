-- The loop of `lay_out_pending` over the pending area: what a turn leaves there stands for what is still to be laid out.
use Prim.Native.Nat.{ℕ, suc, ◌+◌, ◌-◌, ◌*◌, ◌≤◌, ◌<◌}
use mathlib.Core.Bool.{Bool}
use native.Mathlib.Omega.{arith}
use mathlib.Core.List.{List, [], ◌∷◌, append-nil}
use Rattle.std.proofs.Common.{MutBor}
use mathlib.Core.Path.{◌≡◌, refl, sym, ap, ◌∙◌, subst}
use lib.ListN.{length}
use Rattle.document.specs.Rows.{word}
use Rattle.layout.specs.declared.cursor.Cursor.{Cursor}
use Rattle.layout.specs.Layout.{Piece, run, start, pieces}
use Rattle.layout.specs.Call.{doc_of}
use Rattle.layout.specs.Listing.{bytes_of}
use Rattle.layout.specs.declared.listing.Listing.{Listing}
use Rattle.layout.specs.Contract.{Emitteds, LaidOut, Room}
use Rattle.layout.specs.Frames.{Begins, Later, LaysOut}
use Rattle.layout.proofs.Painting.{paint-nil}
use Rattle.layout.proofs.Going.{later_still, laid_length}
use Rattle.layout_pending.specs.declared.entries.Entry.{Entry}
use Rattle.layout_pending.specs.Contract.{entry_at, put_at, stack, left_child, right_child, last_child, nested, grouped, whole_entry, Lends}
use Rattle.layout_pending.specs.Frames.{Asks}
use Rattle.layout_pending.proofs.StackLaws.{Small, stack-put, stack_top, stack_none, stack-length, length-put}
use Rattle.layout_pending.proofs.Remaining.{remaining}
use Rattle.layout_pending.proofs.Taking.{Taking, Within, AllWithin, weight, many, head_room, taken, taken_less, left-within, right_within, join_less, taken_join}
use Rattle.layout_pending.proofs.Taking.{child_less, nest_within, taken_nest, group_within, taken_group}

pub record Turning (rows texts : List ℕ) (count w : ℕ) (p0 l0 p : List ℕ) (depth : ℕ) (c : Cursor) (l : List ℕ) : Type 0 where
  pub few : count ≤ 16384
  pub room : count * 3 ≤ length p
  pub same : length p ≡ length p0
  pub taking : Taking rows texts count w l0 (stack p depth) c l

-- ---- the start and the end

module _ {rows texts : List ℕ} {count w : ℕ} {p0 : List ℕ} (lends : Lends rows count texts w p0) (l : List ℕ) where
  abbrev whole : Entry
  whole = whole_entry count

  whole-within : Within rows count whole
  whole-within =
      let s = lends.some in
      let n = lends.whole in
      let f = lends.given.few in
      record { below = omega arith; nest_room = omega arith; next_room = omega arith }

  whole_taking : Taking rows texts count w l (whole ∷ []) (start w) l
  unfolding AllWithin weight remaining pieces
  whole_taking =
      let n = lends.whole in
      let f = lends.given.few in
      record {
        total = lends.total;
        given = lends.given;
        within = (whole-within, tt);
        few = omega arith;
        steady = omega arith;
        position_room = omega arith;
        count_room = omega arith;
        same = refl;
        back = λ v l' a. subst (λ (ps : List Piece). Emitteds w ps (start w) v l l') (append-nil _) a;
      }

  small : Small whole
  small =
      let f = lends.given.few in
      record { row = omega arith; nest = omega arith; next = omega arith }

  pub turning_start : (p : List ℕ) (e : Entry) (c : Cursor) → p ≡ put_at p0 0 e → e ≡ whole_entry count → c ≡ start w → Turning rows texts count w p l p 1 c l
  turning_start p e c q a b =
      let r = lends.room in
      let s = lends.some in
      let z : p ≡ put_at p0 0 whole = q ∙ ap (put_at p0 0) a in
      let k : length p ≡ length p0 = ap length z ∙ length-put p0 0 whole in
      let es : stack p 1 ≡ whole ∷ [] =
      ap (λ (x : List ℕ). stack x 1) z ∙ stack-put p0 0 whole (omega arith) small ∙ ap (λ (x : List Entry). whole ∷ x) (stack_none p0 0 (omega arith)) in
      record {
        few = lends.given.few;
        room = omega arith;
        same = refl;
        taking =
            subst (λ (x : Cursor). Taking rows texts count w l (stack p 1) x l) (sym b)
            (subst (λ (x : List Entry). Taking rows texts count w l x (start w) l) (sym es) whole_taking);
      }

nothing_emitted : (w : ℕ) (c : Cursor) (l : List ℕ) → Emitteds w [] c c l l
unfolding run bytes_of
nothing_emitted w c l = record { cursor = refl; bytes = sym (paint-nil l c.position) }

pub turning_end : {rows texts : List ℕ} {count w : ℕ} {p0 l0 p : List ℕ} {depth : ℕ} {c : Cursor} {l : List ℕ}
    → Turning rows texts count w p0 l0 p depth c l → depth ≤ 0 → Emitteds w (pieces w (doc_of rows count texts)) (start w) c l0 l
unfolding remaining
turning_end {rows} {texts} {count} {w} {p0} {l0} {p} {depth} {c} {l} g h =
    let t : Taking rows texts count w l0 [] c l = subst (λ (x : List Entry). Taking rows texts count w l0 x c l) (stack_none p depth h) g.taking in
    t.back c l (nothing_emitted w c l)

-- ---- a turn

module _ {rows texts : List ℕ} {count w : ℕ} {p0 l0 p : List ℕ} {depth : ℕ} {c : Cursor} {l : List ℕ}
    (g : Turning rows texts count w p0 l0 p depth c l) (some : 0 < depth) where
  pub top_room : (depth - 1) * 3 + 3 ≤ length p
  top_room =
      let t = g.taking in
      let m = many rows t.total count t.given.valid (stack p depth) t.within in
      let n = stack-length p depth in
      let f = t.few in
      let r = g.room in
      omega arith

  pub depth_small : depth ≤ 16384
  depth_small =
      let t = g.taking in
      let m = many rows t.total count t.given.valid (stack p depth) t.within in
      let n = stack-length p depth in
      let f = t.few in
      let k = g.few in
      omega arith

-- the entry at the top is e
pub record Top (rows texts : List ℕ) (count w : ℕ) (p0 l0 p : List ℕ) (depth : ℕ) (c : Cursor) (l : List ℕ) (e : Entry) : Type 0 where
  pub turning : Turning rows texts count w p0 l0 p depth c l
  pub some : 0 < depth
  pub entry : e ≡ entry_at p (depth - 1)

pub top_of : {rows texts : List ℕ} {count w : ℕ} {p0 l0 p : List ℕ} {depth : ℕ} {c : Cursor} {l : List ℕ} {e : Entry}
    → Turning rows texts count w p0 l0 p depth c l → 0 < depth → e ≡ entry_at p (depth - 1) → Top rows texts count w p0 l0 p depth c l e
top_of g h q = record { turning = g; some = h; entry = q }

module _ {rows texts : List ℕ} {count w : ℕ} {p0 l0 p : List ℕ} {depth : ℕ} {c : Cursor} {l : List ℕ} {e : Entry}
    (top : Top rows texts count w p0 l0 p depth c l e) where
  abbrev g : Turning rows texts count w p0 l0 p depth c l
  g = top.turning

  top_place : (depth - 1) * 3 + 3 ≤ length p
  top_place = top_room g top.some

  abbrev below : List Entry
  below = stack p (depth - 1)

  stack_is : stack p depth ≡ e ∷ below
  stack_is = stack_top p depth top.some ∙ ap (λ (x : Entry). x ∷ below) (sym top.entry)

  pub top_taking : Taking rows texts count w l0 (e ∷ below) c l
  top_taking = subst (λ (x : List Entry). Taking rows texts count w l0 x c l) stack_is g.taking

  pub turn_taken : {m : Cursor} {k : List ℕ} → length k ≡ length l → LaidOut rows texts e.row w e.nest e.flat e.next c m l k
      → Turning rows texts count w p0 l0 p (depth - 1) m k
  turn_taken s a = record { few = g.few; room = g.room; same = g.same; taking = taken top_taking s a }

  pub turn_taken_less : weight rows below < weight rows (stack p depth)
  turn_taken_less = subst (λ (x : List Entry). weight rows below < weight rows x) (sym stack_is) (taken_less top_taking)

  fits_words : (e' : Entry) → Within rows count e' → Small e'
  fits_words e' h =
      let f = g.few in
      let b = h.below in
      let i = h.nest_room in
      let j = h.next_room in
      record { row = omega arith; nest = omega arith; next = omega arith }

  nest_small : (e' x : Entry) → x ≡ e' → Within rows count e' → x.nest < 4294967296
  nest_small e' x z h = let s = (fits_words e' h).nest in let y : x.nest ≡ e'.nest = ap (λ (i : Entry). i.nest) z in omega arith

  pub put_asks : (e' x : Entry) → x ≡ e' → Within rows count e' → ((depth - 1) * 3 + 3 ≤ length p) × (x.nest < 4294967296)
  put_asks e' x z h = (top_place, nest_small e' x z h)

  -- another entry in its place
  module _ (e' : Entry) (h : Within rows count e') (p' : List ℕ) (x : Entry) (z : p' ≡ put_at p (depth - 1) x) (y : x ≡ e') where
    put_is : p' ≡ put_at p (depth - 1) e'
    put_is = z ∙ ap (put_at p (depth - 1)) y

    put-length : length p' ≡ length p
    put-length = ap length put_is ∙ length-put p (depth - 1) e'

    put-stack : stack p' depth ≡ e' ∷ below
    put-stack =
        let some = top.some in
        let n : depth ≡ depth - 1 + 1 = omega arith in
        ap (λ (a : List ℕ). stack a depth) put_is
        ∙ ap (stack (put_at p (depth - 1) e')) n
        ∙ stack-put p (depth - 1) e' top_place (fits_words e' h)

    pub turn_put : {c' m : Cursor} → m ≡ c' → Taking rows texts count w l0 (e' ∷ below) c' l → Turning rows texts count w p0 l0 p' depth m l
    turn_put {c'} {m} i t =
        let k = put-length in
        let r = g.room in
        record {
          few = g.few;
          room = omega arith;
          same = put-length ∙ g.same;
          taking =
              subst (λ (x : Cursor). Taking rows texts count w l0 (stack p' depth) x l) (sym i)
              (subst (λ (s : List Entry). Taking rows texts count w l0 s c' l) (sym put-stack) t);
        }

    pub turn_put_less : weight rows (e' ∷ below) < weight rows (e ∷ below) → weight rows (stack p' depth) < weight rows (stack p depth)
    turn_put_less t =
        subst (λ (s : List Entry). weight rows s < weight rows (stack p depth)) (sym put-stack)
        (subst (λ (s : List Entry). weight rows (e' ∷ below) < weight rows s) (sym stack_is) t)

  -- a join's right child in its place, and the left one on top
  module _ (kind : word rows e.row 0 ≡ 1) (p' : List ℕ) (x : Entry) (z : p' ≡ put_at p (depth - 1) x) (y : x ≡ right_child e) where
    abbrev both : List Entry
    both = left_child rows e ∷ right_child e ∷ below

    next_room : depth * 3 + 3 ≤ length p'
    next_room =
        let some = top.some in
        let t = taken_join top_taking kind in
        let m = many rows t.total count t.given.valid both t.within in
        let n = stack-length p (depth - 1) in
        let f = t.few in
        let r = g.room in
        let k = put-length (right_child e) (right_within top_taking kind) p' x z y in
        omega arith

    pub next_asks : (x'' : Entry) → x'' ≡ left_child rows e → (depth * 3 + 3 ≤ length p') × (x''.nest < 4294967296)
    next_asks x'' y'' = (next_room, nest_small (left_child rows e) x'' y'' (left-within top_taking kind))

    module _ (p'' : List ℕ) (x'' : Entry) (z'' : p'' ≡ put_at p' depth x'') (y'' : x'' ≡ left_child rows e) where
      both_is : p'' ≡ put_at p' depth (left_child rows e)
      both_is = z'' ∙ ap (put_at p' depth) y''

      both_stack : stack p'' (depth + 1) ≡ both
      both_stack =
          ap (λ (a : List ℕ). stack a (depth + 1)) both_is
          ∙ stack-put p' depth (left_child rows e) next_room (fits_words (left_child rows e) (left-within top_taking kind))
          ∙ ap (λ (s : List Entry). left_child rows e ∷ s) (put-stack (right_child e) (right_within top_taking kind) p' x z y)

      pub turn_join : Turning rows texts count w p0 l0 p'' (depth + 1) c l
      turn_join =
          let k = put-length (right_child e) (right_within top_taking kind) p' x z y in
          let j : length p'' ≡ length p' = ap length both_is ∙ length-put p' depth (left_child rows e) in
          let r = g.room in
          record {
            few = g.few;
            room = omega arith;
            same = j ∙ k ∙ g.same;
            taking = subst (λ (s : List Entry). Taking rows texts count w l0 s c l) (sym both_stack) (taken_join top_taking kind);
          }

      pub turn_join_less : weight rows (stack p'' (depth + 1)) < weight rows (stack p depth)
      turn_join_less =
          subst (λ (s : List Entry). weight rows s < weight rows (stack p depth)) (sym both_stack)
          (subst (λ (s : List Entry). weight rows both < weight rows s) (sym stack_is) (join_less top_taking kind))

-- ---- the same of the listing that the loop emits into

pub record TurningOn (rows texts : List ℕ) (count : ℕ) (p0 : List ℕ) (l0 : Listing) (p : List ℕ) (depth : ℕ) (l : Listing) : Type 0 where
  pub later : Later l0 l
  pub turning : Turning rows texts count l0.width p0 l0.area.now p depth l.cursor l.area.now

pub on_start : {rows texts : List ℕ} {count width : ℕ} {p0 : List ℕ} {area : MutBor (List ℕ)} {l : Listing} → Lends rows count texts width p0 → Begins area width l
    → {p : List ℕ} {e : Entry} → p ≡ put_at p0 0 e → e ≡ whole_entry count → TurningOn rows texts count p l p 1 l
on_start {rows} {texts} {count} {width} {p0} {area} {l} lends begins {p} {e} q a =
    let lends' : Lends rows count texts l.width p0 = subst (λ (w : ℕ). Lends rows count texts w p0) (sym begins.width_is) lends in
    let starts : l.cursor ≡ start l.width = begins.cursor in
    record { later = record { same_area = refl; width = refl }; turning = turning_start lends' l.area.now p e l.cursor q a starts }

-- what the loop leaves at its end in the area that it was lent
pub on_end : {rows texts : List ℕ} {count width : ℕ} {p0 : List ℕ} {area : MutBor (List ℕ)} {l0 : Listing} {p : List ℕ} {depth : ℕ} {l : Listing} {l' : List ℕ}
    → Begins area width l0 → TurningOn rows texts count p0 l0 p depth l → depth ≤ 0 → l' ≡ l.area.now
    → Emitteds width (pieces width (doc_of rows count texts)) (start width) l.cursor area.now l'
on_end begins g h same = rw (same, ← begins.width_is, ← begins.bytes) (turning_end g.turning h)

-- the entry at the top is e
pub record OnTop (rows texts : List ℕ) (count : ℕ) (p0 : List ℕ) (l0 : Listing) (p : List ℕ) (depth : ℕ) (l : Listing) (e : Entry) : Type 0 where
  pub later : Later l0 l
  pub top : Top rows texts count l0.width p0 l0.area.now p depth l.cursor l.area.now e

pub on_top : {rows texts : List ℕ} {count : ℕ} {p0 : List ℕ} {l0 : Listing} {p : List ℕ} {depth : ℕ} {l : Listing} {e : Entry}
    → TurningOn rows texts count p0 l0 p depth l → 0 < depth → e ≡ entry_at p (depth - 1) → OnTop rows texts count p0 l0 p depth l e
on_top g h q = record { later = g.later; top = top_of g.turning h q }

module _ {rows texts : List ℕ} {count : ℕ} {p0 : List ℕ} {l0 : Listing} {p : List ℕ} {depth : ℕ} {l : Listing} {e : Entry}
    (g : OnTop rows texts count p0 l0 p depth l e) where
  abbrev top : Top rows texts count l0.width p0 l0.area.now p depth l.cursor l.area.now e
  top = g.top

  -- what is asked, at the width of now
  pub room_now : Room rows texts e.row l.width e.nest e.next l.cursor
  room_now = subst (λ (w : ℕ). Room rows texts e.row w e.nest e.next l.cursor) (sym g.later.width) (head_room (top_taking top))

  pub on_taken : {m : Listing} → LaysOut rows texts e.row e.nest e.flat e.next l m → TurningOn rows texts count p0 l0 p (depth - 1) m
  on_taken {m} a =
      let laid = subst (λ (w : ℕ). LaidOut rows texts e.row w e.nest e.flat e.next l.cursor m.cursor l.area.now m.area.now) g.later.width a.laid in
      record { later = later_still g.later a.later; turning = turn_taken top (laid_length laid) laid }

  pub on_join : (kind : word rows e.row 0 ≡ 1) (p' : List ℕ) (x : Entry) → p' ≡ put_at p (depth - 1) x → x ≡ right_child e
      → (p'' : List ℕ) (x'' : Entry) → p'' ≡ put_at p' depth x'' → x'' ≡ left_child rows e → TurningOn rows texts count p0 l0 p'' (depth + 1) l
  on_join kind p' x z y p'' x'' z'' y'' = record { later = g.later; turning = turn_join top kind p' x z y p'' x'' z'' y'' }

  -- a nest, over its child
  module _ (kind : word rows e.row 0 ≡ 3) {amount : ℕ} (a : amount ≡ word rows e.row 1) {x : Entry} (y : x ≡ last_child e (e.nest + amount) e.flat) where
    is_nested : x ≡ nested rows e
    is_nested = y ∙ ap (λ (n : ℕ). last_child e (e.nest + n) e.flat) a

    pub nest_asks : ((depth - 1) * 3 + 3 ≤ length p) × (x.nest < 4294967296)
    nest_asks = put_asks top (nested rows e) x is_nested (nest_within (top_taking top) kind)

    pub on_nest : {p' : List ℕ} → p' ≡ put_at p (depth - 1) x → TurningOn rows texts count p0 l0 p' depth l
    on_nest {p'} z =
        let t = top_taking top in
        record { later = g.later; turning = turn_put top (nested rows e) (nest_within t kind) p' x z is_nested refl (taken_nest t kind) }

    pub nest_less : {p' : List ℕ} → p' ≡ put_at p (depth - 1) x → weight rows (stack p' depth) < weight rows (stack p depth)
    nest_less {p'} z =
        let t = top_taking top in
        turn_put_less top (nested rows e) (nest_within t kind) p' x z is_nested (child_less t 0 kind (nested rows e) refl)

  -- a group, over its child, once it is asked whether it is flat
  module _ {k : ℕ} (kind : word rows e.row 0 ≡ suc (suc (suc (suc k)))) {m : Listing} {flat : Bool} (a : Asks rows e l m flat) {x : Entry} (y : x ≡ last_child e e.nest flat) where
    is_grouped : x ≡ grouped rows e l.cursor
    is_grouped = y ∙ ap (λ (f : Bool). last_child e e.nest f) a.answer

    pub group_asks : ((depth - 1) * 3 + 3 ≤ length p) × (x.nest < 4294967296)
    group_asks = put_asks top (grouped rows e l.cursor) x is_grouped (group_within (top_taking top) k kind)

    pub on_group : {p' : List ℕ} → p' ≡ put_at p (depth - 1) x → TurningOn rows texts count p0 l0 p' depth m
    on_group {p'} z =
        let t = top_taking top in
        let turned = turn_put top (grouped rows e l.cursor) (group_within t k kind) p' x z is_grouped a.cursor (taken_group t k kind) in
        record {
          later = later_still g.later a.later;
          turning = subst (Turning rows texts count l0.width p0 l0.area.now p' depth m.cursor) (sym a.bytes) turned;
        }

    pub group_less : {p' : List ℕ} → p' ≡ put_at p (depth - 1) x → weight rows (stack p' depth) < weight rows (stack p depth)
    group_less {p'} z =
        let t = top_taking top in
        turn_put_less top (grouped rows e l.cursor) (group_within t k kind) p' x z is_grouped (child_less t (suc k) kind (grouped rows e l.cursor) refl)
