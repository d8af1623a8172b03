-- Laws of the areas and of the sink: what the sink's functions do, step by step.
use Prim.Native.Nat.{ℕ, suc, ◌+◌, ◌-◌, ◌<◌, ◌≤◌, min}
use native.Mathlib.Nat.{add-zero}
use native.Mathlib.Omega.{arith}
use mathlib.Core.Bool.{Bool, true, false, cond}
use mathlib.Core.List.{List, [], ◌∷◌, ◌++◌, append_assoc, append-nil}
use mathlib.Core.Path.{◌≡◌, refl, sym, ap, ◌∙◌}
use lib.ListN.{length, get_or, take, drop, set, length-set, length-drop, drop_of_length-le}
use lib.Seq.{drop-drop, length-take-le, sets, sets-eq}
use borrow.Author.Tests.{lt-ltb}
use borrow.Rule.Slice.PartMut.{put_mid, mid_of}
use Rattle.std.specs.Option.{is_none}
use Rattle.std.proofs.lemmas.List.{take_more, take-append-drop}
use Rattle.document.specs.declared.written.Written.{Written}
use Rattle.document.specs.Sink.{State, over, put_byte, put_bytes, room_of}
use Rattle.document.specs.Sink.State.{state}

-- ---- parts of an area

-- a part of an area, copied over
pub put_part : (l : List ℕ) (at : ℕ) (bs part : List ℕ) → part ≡ bs → put_mid at (at + length bs - at) l part ≡ over at bs l
put_part l at bs part e =
    let n : at + length bs - at ≡ length bs = omega arith in
    rw (e, n, drop-drop (length bs) at l, append_assoc (take at l) bs (drop (at + length bs) l))

-- seven words of a part of seven, stored one by one
seven_stored : (l : List ℕ) (a b c d e f g : ℕ) → length l ≡ 7
    → set (set (set (set (set (set (set l 0 a) 1 b) 2 c) 3 d) 4 e) 5 f) 6 g ≡ a ∷ b ∷ c ∷ d ∷ e ∷ f ∷ g ∷ []
seven_stored l a b c d e f g n =
    sets-eq (a ∷ b ∷ c ∷ d ∷ e ∷ f ∷ g ∷ []) l 0 (omega arith) ∙ rw (drop_of_length-le l (let h : length l ≤ 7 = omega arith in h))

pub row_over : (l : List ℕ) (at a b c d e f g : ℕ) → at + 7 ≤ length l
    → put_mid at (at + 7 - at) l (set (set (set (set (set (set (set (mid_of at (at + 7 - at) l) 0 a) 1 b) 2 c) 3 d) 4 e) 5 f) 6 g)
    ≡ over at (a ∷ b ∷ c ∷ d ∷ e ∷ f ∷ g ∷ []) l
row_over l at a b c d e f g h =
    let n : length (mid_of at (at + 7 - at) l) ≡ at + 7 - at = length-take-le (at + 7 - at) (drop at l) (rw length-drop (omega arith)) in
    put_part l at (a ∷ b ∷ c ∷ d ∷ e ∷ f ∷ g ∷ []) _ (seven_stored (mid_of at (at + 7 - at) l) a b c d e f g (omega arith))

-- ---- texts, a byte at a time

-- a text may be written in pieces
pub bytes-append : (front bs : List ℕ) (st : State) → put_bytes (front ++ bs) st ≡ put_bytes bs (put_bytes front st)
unfolding put_bytes
bytes-append [] bs st = refl
bytes-append (a ∷ front) bs st = bytes-append front bs (put_byte a st)

-- one byte more
pub bytes_more : (bs : List ℕ) (i : ℕ) (st : State) → i < length bs → put_bytes (take (i + 1) bs) st ≡ put_byte (get_or bs i 0) (put_bytes (take i bs) st)
unfolding put_bytes
bytes_more bs i st h = rw (take_more bs i 0 h) (bytes-append (take i bs) (get_or bs i 0 ∷ []) st)

pub bytes_one : (st : State) (bs : List ℕ) → length bs ≡ 1 → put_byte (get_or bs 0 0) st ≡ put_bytes bs st
unfolding put_bytes
bytes_one st [] e = absurd (omega arith)
bytes_one st (b ∷ []) e = refl
bytes_one st (b ∷ (d ∷ bs)) e = absurd (omega arith)

-- ---- texts, where there is room for all bytes

abbrev pub further : Written → ℕ → Written
further s n = record { rows = s.rows; text = s.text + n; stop = s.stop }

bytes_going : (bs rows text : List ℕ) (s : Written) → is_none s.stop ≡ true → s.text + length bs ≤ 65536 → s.text + length bs ≤ length text
    → put_bytes bs (state rows text s) ≡ state rows (sets text s.text bs) (further s (length bs))
unfolding put_bytes put_byte
bytes_going [] rows text s stop few fits = rw add-zero
bytes_going (b ∷ bs) rows text s stop few fits =
    let small : s.text < 65536 = omega arith in
    let inside : s.text < length text = omega arith in
    let one : s.text + 1 ≡ suc s.text = omega arith in
    let more : s.text + 1 + length bs ≡ s.text + suc (length bs) = omega arith in
    rw (stop, lt-ltb _ _ small, lt-ltb _ _ inside)
    (bytes_going bs rows (set text s.text b) (further s 1) stop (omega arith) (rw length-set (omega arith))
    ∙ ap (λ (n : ℕ). state rows (sets (set text s.text b) n bs) (record { rows = s.rows; text = s.text + 1 + length bs; stop = s.stop })) one
    ∙ ap (λ (n : ℕ). state rows (sets (set text s.text b) (suc s.text) bs) (record { rows = s.rows; text = n; stop = s.stop })) more)

-- a byte or more have room
within : (s : Written) (size n : ℕ) → 0 < n → n ≤ room_of s size → (is_none s.stop ≡ true) × (s.text + n ≤ 65536) × (s.text + n ≤ size)
within s size n some h = go (is_none s.stop) refl h
  where
    go : (b : Bool) → is_none s.stop ≡ b → n ≤ cond b (min size 65536 - s.text) 0 → (is_none s.stop ≡ true) × (s.text + n ≤ 65536) × (s.text + n ≤ size)
    go true e h = (e, omega arith, omega arith)
    go false e h = absurd (omega arith)

pub room_within : (s : Written) (size n : ℕ) → n ≤ room_of s size → (n ≤ size - s.text) × (n ≤ 65536 - s.text)
room_within s size n h = go (is_none s.stop) h
  where
    go : (b : Bool) → n ≤ cond b (min size 65536 - s.text) 0 → (n ≤ size - s.text) × (n ≤ 65536 - s.text)
    go true h = (omega arith, omega arith)
    go false h = (omega arith, omega arith)

over_none : (at : ℕ) (l : List ℕ) → over at [] l ≡ l
over_none at l = rw (append-nil (take at l), add-zero at) (take-append-drop at l)

pub bytes_fit : (bs rows text : List ℕ) (s : Written) → length bs ≤ room_of s (length text)
    → state rows (over s.text bs text) (further s (length bs)) ≡ put_bytes bs (state rows text s)
unfolding put_bytes
bytes_fit [] rows text s h = rw (over_none s.text text, add-zero)
bytes_fit (b ∷ bs) rows text s h =
    let w = within s (length text) (length (b ∷ bs)) (omega arith) h in
    ap (λ (l : List ℕ). state rows l (further s (length (b ∷ bs)))) (sym (sets-eq (b ∷ bs) text s.text w.2)) ∙ sym (bytes_going (b ∷ bs) rows text s w.0 w.1 w.2)
