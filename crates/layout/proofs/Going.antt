-- The loop of `lay_out`: what is known of the row r that it has come to, from r0.
use Prim.Native.Nat.{ℕ, suc, ◌+◌, ◌-◌, ◌≤◌, ◌<◌}
use native.Mathlib.Omega.{arith}
use mathlib.Core.Bool.{Bool, true, false}
use mathlib.Core.List.{List}
use mathlib.Core.Path.{◌≡◌, refl, sym, ap, ◌∙◌, subst}
use lib.ListN.{length}
use lib.Dec.{leb}
use Rattle.document.specs.Doc.{through}
use Rattle.document.specs.Rows.{word, left_of}
use Rattle.layout.specs.declared.cursor.Cursor.{Cursor}
use Rattle.layout.specs.declared.listing.Listing.{Listing}
use Rattle.layout.specs.Layout.{textᵖ, testᵖ, placed, after, fits_bytes}
use Rattle.layout.specs.Contract.{Room, LaidOut, text_of}
use Rattle.layout.specs.Frames.{Later, Emits, LaysOut}
use Rattle.layout.proofs.Painting.{paint-nil, length-paint}
use Rattle.layout.proofs.Cases.{laid_text, laid_break, room_right, laid_join, room_nest, laid_nest, room_flat, laid_flat, room_group, laid_group}

-- `back`: to lay out the subtree of r from here on lays out that of r0 from the start
pub record Going
    (rows texts : List ℕ) (r0 w nest0 : ℕ) (flat0 : Bool) (next : ℕ) (c0 : Cursor) (l0 : List ℕ) (r nest : ℕ) (flat : Bool) (c : Cursor) (l : List ℕ) : Type 0 where
  pub room : Room rows texts r w nest next c
  pub down : r ≤ r0
  pub same : length l ≡ length l0
  pub back : (v : Cursor) (l' : List ℕ) → LaidOut rows texts r w nest flat next c v l l' → LaidOut rows texts r0 w nest0 flat0 next c0 v l0 l'

pub going_start : {rows texts : List ℕ} {r w n next : ℕ} {c : Cursor} (flat : Bool) (l : List ℕ) → Room rows texts r w n next c → Going rows texts r w n flat next c l r n flat c l
going_start {rows} {texts} {r} {w} {n} {next} {c} flat l room = record { room = room; down = omega arith; same = refl; back = λ v l' a. a }

module _ {rows texts : List ℕ} {r0 w nest0 : ℕ} {flat0 : Bool} {next : ℕ} {c0 : Cursor} {l0 : List ℕ} {r nest : ℕ} {flat : Bool} {c : Cursor} {l : List ℕ}
    (g : Going rows texts r0 w nest0 flat0 next c0 l0 r nest flat c l) where
  pub going_join : (i past : ℕ) (m : Cursor) (k : List ℕ) → word rows r 0 ≡ 1 → i ≡ left_of rows r → past ≡ through (word rows (r - 1) 6) (word rows (r - 1) 5) next
      → length k ≡ length l → LaidOut rows texts i w nest flat past c m l k → Going rows texts r0 w nest0 flat0 next c0 l0 (r - 1) nest flat m k
  going_join i past m k e q p s a =
      let a' : LaidOut rows texts (left_of rows r) w nest flat past c m l k = subst (λ (x : ℕ). LaidOut rows texts x w nest flat past c m l k) q a in
      record {
        room = room_right g.room flat past m l k e a';
        down = let d = g.down in omega arith;
        same = s ∙ g.same;
        back = λ v l' b. g.back v l' (laid_join g.room flat past m v l k l' e p a' b);
      }

  pub going_nest : (i : ℕ) → word rows r 0 ≡ 3 → i ≡ word rows r 1 → Going rows texts r0 w nest0 flat0 next c0 l0 (r - 1) (nest + i) flat c l
  going_nest i e q =
      record {
        room = room_nest g.room i e q;
        down = let d = g.down in omega arith;
        same = g.same;
        back = λ v l' b. g.back v l' (laid_nest g.room flat i v l l' e q b);
      }

  pub going_flat : (k : ℕ) → word rows r 0 ≡ suc (suc (suc (suc k))) → flat ≡ true → Going rows texts r0 w nest0 flat0 next c0 l0 (r - 1) nest flat c l
  going_flat k e ft =
      record {
        room = room_flat g.room k e;
        down = let d = g.down in omega arith;
        same = g.same;
        back = λ v l' b. g.back v l' (laid_flat g.room k e flat v l l' ft (subst (λ (x : Bool). LaidOut rows texts (r - 1) w nest x next c v l l') ft b));
      }

  pub going_group : (k i : ℕ) (b : Bool) (m : Cursor) → word rows r 0 ≡ suc (suc (suc (suc k))) → flat ≡ false → i ≡ word rows r 4 → b ≡ leb (c.position + i + next) c.end
      → m ≡ after w c (testᵖ b) → Going rows texts r0 w nest0 flat0 next c0 l0 (r - 1) nest b m l
  going_group k i b m e ft q p z =
      subst (λ (x : Cursor). Going rows texts r0 w nest0 flat0 next c0 l0 (r - 1) nest b x l) (sym z)
      (record {
        room = room_group g.room k e b;
        down = let d = g.down in omega arith;
        same = g.same;
        back = λ v l' a. g.back v l' (laid_group g.room k e flat b i v l l' ft q p a);
      })

-- ---- the same of the listing that the loop emits into

pub record GoingOn
    (rows texts : List ℕ) (r0 nest0 : ℕ) (flat0 : Bool) (next : ℕ) (l0 : Listing) (r nest : ℕ) (flat : Bool) (l : Listing) : Type 0 where
  pub later : Later l0 l
  pub going : Going rows texts r0 l0.width nest0 flat0 next l0.cursor l0.area.now r nest flat l.cursor l.area.now

pub later_still : {l m k : Listing} → Later l m → Later m k → Later l k
later_still a b = record { same_area = b.same_area ∙ a.same_area; width = b.width ∙ a.width }

pub laid_length : {rows texts : List ℕ} {r w n next : ℕ} {flat : Bool} {c v : Cursor} {l l' : List ℕ} → LaidOut rows texts r w n flat next c v l l' → length l' ≡ length l
laid_length {r = r} a = let h : r < suc r = omega arith in ap length (a.laid (suc r) h).bytes ∙ length-paint _ _ _

module _ {rows texts : List ℕ} {r0 nest0 : ℕ} {flat0 : Bool} {next : ℕ} {l0 : Listing} {r nest : ℕ} {flat : Bool} {l : Listing}
    (g : GoingOn rows texts r0 nest0 flat0 next l0 r nest flat l) where
  -- what is asked, at the width of now
  pub room_now : Room rows texts r l.width nest next l.cursor
  room_now = subst (λ (w : ℕ). Room rows texts r w nest next l.cursor) (sym g.later.width) g.going.room

  pub going_last : {m : Listing} → LaysOut rows texts r nest flat next l m → LaysOut rows texts r0 nest0 flat0 next l0 m
  going_last {m} a =
      let laid = subst (λ (w : ℕ). LaidOut rows texts r w nest flat next l.cursor m.cursor l.area.now m.area.now) g.later.width a.laid in
      record { later = later_still g.later a.later; laid = g.going.back m.cursor m.area.now laid }

  pub on_join : {i past : ℕ} {m : Listing} → word rows r 0 ≡ 1 → i ≡ left_of rows r → past ≡ through (word rows (r - 1) 6) (word rows (r - 1) 5) next
      → LaysOut rows texts i nest flat past l m → GoingOn rows texts r0 nest0 flat0 next l0 (r - 1) nest flat m
  on_join {i} {past} {m} e q p a =
      let laid = subst (λ (w : ℕ). LaidOut rows texts i w nest flat past l.cursor m.cursor l.area.now m.area.now) g.later.width a.laid in
      record { later = later_still g.later a.later; going = going_join g.going i past m.cursor m.area.now e q p (laid_length laid) laid }

  pub on_nest : {i : ℕ} → word rows r 0 ≡ 3 → i ≡ word rows r 1 → GoingOn rows texts r0 nest0 flat0 next l0 (r - 1) (nest + i) flat l
  on_nest {i} e q = record { later = g.later; going = going_nest g.going i e q }

  pub on_flat : {k : ℕ} → word rows r 0 ≡ suc (suc (suc (suc k))) → flat ≡ true → GoingOn rows texts r0 nest0 flat0 next l0 (r - 1) nest flat l
  on_flat {k} e ft = record { later = g.later; going = going_flat g.going k e ft }

  pub on_group : {k i : ℕ} {b : Bool} {m : Listing} → word rows r 0 ≡ suc (suc (suc (suc k))) → flat ≡ false → i ≡ word rows r 4 → b ≡ fits_bytes l.cursor i next
      → Emits l m (testᵖ b) → GoingOn rows texts r0 nest0 flat0 next l0 (r - 1) nest b m
  on_group {k} {i} {b} {m} e ft q p a =
      let on = going_group g.going k i b m.cursor e ft q p a.emitted.cursor in
      let bytes : m.area.now ≡ l.area.now = a.emitted.bytes ∙ paint-nil l.area.now l.cursor.position in
      record {
        later = later_still g.later a.later;
        going = subst (Going rows texts r0 l0.width nest0 flat0 next l0.cursor l0.area.now (r - 1) nest b m.cursor) (sym bytes) on;
      }

pub on_start : {rows texts : List ℕ} {r nest next : ℕ} {l : Listing} (flat : Bool) → Room rows texts r l.width nest next l.cursor → GoingOn rows texts r nest flat next l r nest flat l
on_start {l = l} flat room = record { later = record { same_area = refl; width = refl }; going = going_start flat l.area.now room }

-- ---- one piece, as `lay_text` and `lay_break` emit it

module _ {rows texts : List ℕ} {r nest next : ℕ} {l m : Listing} (room : Room rows texts r l.width nest next l.cursor) (flat : Bool) where
  pub lays_text : word rows r 0 ≡ 0 → Emits l m (textᵖ (text_of rows texts r)) → LaysOut rows texts r nest flat next l m
  lays_text e a = record { later = a.later; laid = laid_text room flat m.cursor l.area.now m.area.now e a.emitted }

  pub lays_break : word rows r 0 ≡ 2 → Emits l m (placed flat (word rows r 1) nest) → LaysOut rows texts r nest flat next l m
  lays_break e a = record { later = a.later; laid = laid_break room flat m.cursor l.area.now m.area.now e a.emitted }
