-- UTF-8 of parts: bytes that are UTF-8 may be cut before any byte that goes on with no code point, and nowhere else.
use Prim.Native.Nat.{ℕ, zero, suc, ◌+◌, ◌-◌, ◌≤◌, ◌<◌, max}
use native.Mathlib.Omega.{arith}
use native.Mathlib.Numerals.{add-one}
use mathlib.Core.Bool.{Bool, true, false, ◌&&◌, ◌||◌, not}
use mathlib.Core.List.{List, [], ◌∷◌, ◌++◌}
use mathlib.Core.Path.{◌≡◌, refl, sym, ap, ap₂, ◌∙◌, subst}
use lib.ListN.{length, get_or, take, drop, length-drop, get_or-append}
use lib.Seq.{drop-cons, take-add, drop-drop, drop-append_seam}
use Rattle.std.proofs.Common.{fold, length-append, length-take}
use Rattle.std.proofs.lemmas.List.{get_or-drop, get_or-take}
use lib.Dec.{ltb, leb}
use borrow.Author.Tests.{ltb-true, lt-ltb, leb-true, leb-false, le-leb, lt-leb}
use Rattle.basics.proofs.Booleans.{and_left, and_right, true-false, false-true, not_so}
use Rattle.utf8.specs.Utf8.{utf8, utf8_from, is_lead, is_follower, is_whole, with_bits, followers, lead_bits, least_of, within}
use Rattle.pool.specs.Tables.{Pool, string_word, string_at}
use Rattle.pool.specs.Rules.{rising, string_ok}
use Rattle.byte_check.specs.Runs.{span, Known, Ascii, before}

lead_at : (y : ℕ) (a b : Bool) → ltb y 0x80 ≡ a → within 0xc0 0xf8 y ≡ b → a || b ≡ true → is_follower y ≡ true → ⊥
lead_at y true b p q h f = omega (arith, ltb-true y 0x80 p, leb-true 0x80 y (and_left _ _ f))
lead_at y false true p q h f = omega (arith, leb-true 0xc0 y (and_left _ _ q), ltb-true y 0xc0 (and_right (leb 0x80 y) _ f))
lead_at y false false p q h f = false-true h

-- a byte that starts a code point goes on with none
lead_starts : (y : ℕ) → is_lead y ≡ true → is_follower y ≡ false
lead_starts y h = not_so (is_follower y) (lead_at y _ _ refl refl h)

follower_leads_none : (y : ℕ) → is_follower y ≡ true → is_lead y ≡ false
follower_leads_none y f = not_so (is_lead y) (λ h. lead_at y _ _ refl refl h f)

fresh : (bits least : ℕ) (s : List ℕ) → utf8_from 0 bits least s ≡ utf8 s
unfolding utf8_from utf8
fresh bits least [] = refl
fresh bits least (b ∷ s) = refl

-- a part before the byte y
cut_front : (xs : List ℕ) (need bits least y : ℕ) (ys : List ℕ) → utf8_from need bits least (xs ++ y ∷ ys) ≡ true
    → utf8_from need bits least xs ≡ not (is_follower y)
unfolding utf8_from
cut_front [] zero bits least y ys h = sym (ap not (lead_starts y (and_left (is_lead y) _ h)))
cut_front [] (suc zero) bits least y ys h = sym (ap not (and_left (is_follower y) _ h))
cut_front [] (suc (suc need)) bits least y ys h = sym (ap not (and_left (is_follower y) _ h))
cut_front (b ∷ xs) zero bits least y ys h =
    ap (λ (t : Bool). t && utf8_from (followers b) (lead_bits b) (least_of b) xs) (and_left (is_lead b) _ h)
    ∙ cut_front xs (followers b) (lead_bits b) (least_of b) y ys (and_right (is_lead b) _ h)
cut_front (b ∷ xs) (suc zero) bits least y ys h =
    let g = and_right (is_follower b) _ h in
    ap₂ (λ (t u : Bool). t && (u && utf8_from 0 0 0 xs)) (and_left (is_follower b) _ h) (and_left (is_whole least (with_bits bits b)) _ g)
    ∙ cut_front xs 0 0 0 y ys (and_right (is_whole least (with_bits bits b)) _ g)
cut_front (b ∷ xs) (suc (suc need)) bits least y ys h =
    ap (λ (t : Bool). t && utf8_from (suc need) (with_bits bits b) least xs) (and_left (is_follower b) _ h)
    ∙ cut_front xs (suc need) (with_bits bits b) least y ys (and_right (is_follower b) _ h)

-- a part from the byte y on
cut_back : (xs : List ℕ) (need bits least y : ℕ) (ys : List ℕ) → utf8_from need bits least (xs ++ y ∷ ys) ≡ true
    → is_follower y ≡ false → utf8 (y ∷ ys) ≡ true
unfolding utf8_from
cut_back [] zero bits least y ys h f = sym (fresh bits least (y ∷ ys)) ∙ h
cut_back [] (suc zero) bits least y ys h f = true-false (sym (and_left (is_follower y) _ h) ∙ f)
cut_back [] (suc (suc need)) bits least y ys h f = true-false (sym (and_left (is_follower y) _ h) ∙ f)
cut_back (b ∷ xs) zero bits least y ys h f = cut_back xs (followers b) (lead_bits b) (least_of b) y ys (and_right (is_lead b) _ h) f
cut_back (b ∷ xs) (suc zero) bits least y ys h f =
    cut_back xs 0 0 0 y ys (and_right (is_whole least (with_bits bits b)) _ (and_right (is_follower b) _ h)) f
cut_back (b ∷ xs) (suc (suc need)) bits least y ys h f =
    cut_back xs (suc need) (with_bits bits b) least y ys (and_right (is_follower b) _ h) f

-- UTF-8 and what comes after it
go_on : (xs : List ℕ) (need bits least : ℕ) (ys : List ℕ) → utf8_from need bits least xs ≡ true
    → utf8_from need bits least (xs ++ ys) ≡ utf8 ys
unfolding utf8_from
go_on [] zero bits least ys h = fresh bits least ys
go_on [] (suc need) bits least ys h = false-true h
go_on (b ∷ xs) zero bits least ys h =
    ap (λ (t : Bool). t && utf8_from (followers b) (lead_bits b) (least_of b) (xs ++ ys)) (and_left (is_lead b) _ h)
    ∙ go_on xs (followers b) (lead_bits b) (least_of b) ys (and_right (is_lead b) _ h)
go_on (b ∷ xs) (suc zero) bits least ys h =
    let g = and_right (is_follower b) _ h in
    ap₂ (λ (t u : Bool). t && (u && utf8_from 0 0 0 (xs ++ ys))) (and_left (is_follower b) _ h) (and_left (is_whole least (with_bits bits b)) _ g)
    ∙ go_on xs 0 0 0 ys (and_right (is_whole least (with_bits bits b)) _ g)
go_on (b ∷ xs) (suc (suc need)) bits least ys h =
    ap (λ (t : Bool). t && utf8_from (suc need) (with_bits bits b) least (xs ++ ys)) (and_left (is_follower b) _ h)
    ∙ go_on xs (suc need) (with_bits bits b) least ys (and_right (is_follower b) _ h)

ascii_first : (b : ℕ) (s : List ℕ) → b < 0x80 → utf8 (b ∷ s) ≡ utf8 s
unfolding utf8 utf8_from
ascii_first b s h = let g : b < 0xc0 = omega arith in rw (lt-ltb b 0x80 h, lt-ltb b 0xc0 g) (fresh b 0 s)

-- no byte is above the largest
largest_above : (xs : List ℕ) (most : ℕ) → most ≤ fold (λ m b. max m b) most xs
largest_above [] most = omega arith
largest_above (x ∷ xs) most = omega (arith, largest_above xs (max most x))

each_at_most : (xs : List ℕ) (most i : ℕ) → i < length xs → get_or xs i 0 ≤ fold (λ m b. max m b) most xs
each_at_most [] most i h = absurd (omega arith)
each_at_most (x ∷ xs) most zero h = omega (arith, largest_above xs (max most x))
each_at_most (x ∷ xs) most (suc i) h = each_at_most xs (max most x) i (omega arith)

-- parts of the byte area
module _ (bs : List ℕ) where
  pub span_split : (from at to : ℕ) → from ≤ at → at ≤ to → span bs from to ≡ span bs from at ++ span bs at to
  span_split from at to p q =
      let e : to - from ≡ (at - from) + (to - at) = omega arith in
      let d : from + (at - from) ≡ at = omega arith in
      ap (λ (n : ℕ). take n (drop from bs)) e
      ∙ take-add (at - from) (to - at) (drop from bs)
      ∙ ap (λ (l : List ℕ). span bs from at ++ take (to - at) l) (drop-drop (at - from) from bs ∙ ap (λ (n : ℕ). drop n bs) d)

  pub span_open : (from to : ℕ) → from < to → to ≤ length bs → span bs from to ≡ get_or bs from 0 ∷ span bs (from + 1) to
  span_open from to p q =
      let e : to - from ≡ suc (to - (from + 1)) = omega arith in
      ap₂ (λ (n : ℕ) (l : List ℕ). take n l) e (drop-cons bs from 0 (omega arith))
      ∙ ap (λ (n : ℕ). get_or bs from 0 ∷ take (to - (from + 1)) (drop n bs)) (sym (add-one from))

  pub span_none : (from to : ℕ) → to ≤ from → span bs from to ≡ []
  span_none from to h = let e : to - from ≡ 0 = omega arith in ap (λ (n : ℕ). take n (drop from bs)) e

  -- what the code answers for the bytes from `from` on and before `to`
  pub valid_none : (from to : ℕ) → to ≤ from → true ≡ utf8 (span bs from to)
  unfolding utf8 utf8_from
  valid_none from to h = sym (ap utf8 (span_none from to h))

  pub valid_inside_point : (from to : ℕ) → from < to → to ≤ length bs → is_follower (get_or bs from 0) ≡ true → false ≡ utf8 (span bs from to)
  unfolding utf8 utf8_from
  valid_inside_point from to p q f =
      sym (ap utf8 (span_open from to p q)
      ∙ ap (λ (t : Bool). t && utf8_from (followers (get_or bs from 0)) (lead_bits (get_or bs from 0)) (least_of (get_or bs from 0)) (span bs (from + 1) to))
      (follower_leads_none (get_or bs from 0) f))

  -- up to byte `at` of what is UTF-8
  pub valid_front : (from at to : ℕ) → from ≤ at → at < to → to ≤ length bs → utf8 (span bs from to) ≡ true
      → utf8 (span bs from at) ≡ not (is_follower (get_or bs at 0))
  unfolding utf8
  valid_front from at to p q l h =
      cut_front (span bs from at) 0 0 0 (get_or bs at 0) (span bs (at + 1) to)
      (sym (ap utf8 (span_split from at to p (omega arith) ∙ ap (λ (s : List ℕ). span bs from at ++ s) (span_open at to q l))) ∙ h)

  -- from byte `at` on of what is UTF-8
  pub valid_back : (from at to : ℕ) → from ≤ at → at < to → to ≤ length bs → utf8 (span bs from to) ≡ true
      → is_follower (get_or bs at 0) ≡ false → utf8 (span bs at to) ≡ true
  unfolding utf8
  valid_back from at to p q l h f =
      ap utf8 (span_open at to q l)
      ∙ cut_back (span bs from at) 0 0 0 (get_or bs at 0) (span bs (at + 1) to)
      (sym (ap utf8 (span_split from at to p (omega arith) ∙ ap (λ (s : List ℕ). span bs from at ++ s) (span_open at to q l))) ∙ h) f

  pub valid_on : (from at to : ℕ) → from ≤ at → at ≤ to → utf8 (span bs from at) ≡ true → utf8 (span bs at to) ≡ utf8 (span bs from to)
  unfolding utf8
  valid_on from at to p q h = sym (ap utf8 (span_split from at to p q) ∙ go_on (span bs from at) 0 0 0 (span bs at to) h)

  pub ascii_all : (n from to : ℕ) → to - from ≡ n → to ≤ length bs → Ascii bs to → utf8 (span bs from to) ≡ true
  ascii_all zero from to e l a = sym (valid_none from to (omega arith))
  ascii_all (suc n) from to e l a =
      let h : from < to = omega arith in
      let k : to - (from + 1) ≡ n = omega arith in
      ap utf8 (span_open from to h l) ∙ ascii_first (get_or bs from 0) (span bs (from + 1) to) (a from h) ∙ ascii_all n (from + 1) to k l a

  -- ASCII before `at`, and none from there on and before `to` above `most`
  pub ascii_more : (at to most : ℕ) → Ascii bs at → ((i : ℕ) → i < to → at ≤ i → get_or bs i 0 ≤ most) → most < 0x80 → Ascii bs to
  ascii_more at to most a f l i h = by (leb at i) refl
    where
      by : (b : Bool) → leb at i ≡ b → get_or bs i 0 < 0x80
      by true e = omega (arith, f i h (leb-true at i e))
      by false e = a i (leb-false at i e)

  -- ASCII before `at`, where a block stands, and no byte of the block above its largest
  module _ (at : ℕ) (block rest : List ℕ) (e : drop at bs ≡ block ++ rest) where
    pub block_rest : rest ≡ drop (at + length block) bs
    block_rest = sym (drop-append_seam block rest) ∙ ap (drop (length block)) (sym e) ∙ drop-drop (length block) at bs

    pub block_inside : at ≤ length bs → at + length block ≤ length bs
    block_inside h = omega (arith, length-drop at bs, ap length e, length-append block rest)

    pub block_ascii : Ascii bs at → fold (λ m b. max m b) 0 block < 0x80 → Ascii bs (at + length block)
    block_ascii a h = ascii_more at (at + length block) _ a in_block h
      where
        in_block : (i : ℕ) → i < at + length block → at ≤ i → get_or bs i 0 ≤ fold (λ m b. max m b) 0 block
        in_block i l g =
            let j : i ≡ at + (i - at) = omega arith in
            let k : i - at < length block = omega arith in
            let read : get_or bs i 0 ≡ get_or block (i - at) 0 =
            ap (λ (n : ℕ). get_or bs n 0) j ∙ sym (get_or-drop at bs (i - at) 0) ∙ ap (λ (l : List ℕ). get_or l (i - at) 0) e ∙ get_or-append block rest 0 (i - at) k in
            rw read (each_at_most block 0 (i - at) k)

  -- ASCII in the first bytes
  pub ascii_front : (n to : ℕ) → to ≤ length (take n bs) → Ascii (take n bs) to → Ascii bs to
  ascii_front n to h a i l = let k : i < n = omega (arith, length-take n bs) in rw (← get_or-take n bs i 0 k) (a i l)

  -- what is known grows with each string
  pub known_none : Known bs 0 0
  known_none = record { inside = omega arith; valid = λ p l h f. absurd (omega arith) }

  pub known_from : (from at to : ℕ) → from ≤ at → Known bs from to → Known bs at to
  known_from from at to l k = record { inside = k.inside; valid = λ p g h f. k.valid p (omega arith) h f }

  pub known_string : (from to : ℕ) → to ≤ length bs → utf8 (span bs from to) ≡ true → Known bs from to
  known_string from to l v = record { inside = l; valid = λ p g h f. valid_back from p to g h l v f }

  -- the same in the words of the code
  module _ (from to known : ℕ) (k : Known bs from known) (f : is_follower (get_or bs from 0) ≡ false) (h : from < to) where
    pub valid_within : to < known → not (is_follower (get_or bs to 0)) ≡ utf8 (span bs from to)
    valid_within g = sym (valid_front from to known (omega arith) g k.inside (k.valid from (omega arith) (omega arith) f))

    pub valid_past : (unread : ℕ) → known ≤ to → unread ≡ max from known → utf8 (span bs unread to) ≡ utf8 (span bs from to)
    valid_past unread g e = by_end (leb known from) refl
      where
        by_end : (b : Bool) → leb known from ≡ b → utf8 (span bs unread to) ≡ utf8 (span bs from to)
        by_end true q = let u : unread ≡ from = omega (arith, leb-true known from q) in ap (λ (n : ℕ). utf8 (span bs n to)) u
        by_end false q =
            let l : from < known = leb-false known from q in
            let u : unread ≡ known = omega arith in
            ap (λ (n : ℕ). utf8 (span bs n to)) u ∙ valid_on from known to (omega arith) g (k.valid from (omega arith) l f)

-- "offsets never falling"
pub rises_from : (offset : ℕ → ℕ) (r : ℕ) → rising offset r ≡ true → before offset r ≤ offset r
unfolding rising before
rises_from offset zero h = omega arith
rises_from offset (suc r) h = leb-true (offset r) (offset (suc r)) h

pub rising_last : (offset : ℕ → ℕ) (r last : ℕ) → last ≡ before offset r → leb last (offset r) ≡ rising offset r
unfolding rising before
rising_last offset zero last e = ap (λ (n : ℕ). leb n (offset 0)) e ∙ le-leb 0 (offset 0) (omega arith)
rising_last offset (suc r) last e = ap (λ (n : ℕ). leb n (offset (suc r))) e

pub before_next : (offset : ℕ → ℕ) (r last : ℕ) → last ≡ offset r → last ≡ before offset (r + 1)
unfolding before
before_next offset r last e = e ∙ sym (ap (before offset) (add-one r))

-- a string row, where its bytes end at `end`
module _ (p : Pool) (r end : ℕ) (e : end ≡ string_word p.names r 0 + string_word p.names r 1) where
  abbrev offsets : ℕ → ℕ
  offsets i = string_word p.names i 0

  string_span_lem : span p.bytes (offsets r) end ≡ string_at p r
  unfolding string_at
  string_span_lem = let n : end - offsets r ≡ string_word p.names r 1 = omega arith in ap (λ (m : ℕ). take m (drop (offsets r) p.bytes)) n

  pub string_outside : length p.bytes < end → false ≡ string_ok p r
  unfolding string_ok
  string_outside h = sym (ap (λ (b : Bool). b && (rising offsets r && utf8 (string_at p r))) (lt-leb _ _ (subst (λ (m : ℕ). length p.bytes < m) e h)))

  module _ (h : end ≤ length p.bytes) where
    string_inside : string_ok p r ≡ rising offsets r && utf8 (string_at p r)
    unfolding string_ok
    string_inside = ap (λ (b : Bool). b && (rising offsets r && utf8 (string_at p r))) (le-leb _ _ (subst (λ (m : ℕ). m ≤ length p.bytes) e h))

    -- the offset, and the one of the row before, as the code has them
    module _ (offset last : ℕ) (eo : offset ≡ offsets r) (el : last ≡ before offsets r) where
      pub string_falls : offset < last → false ≡ string_ok p r
      string_falls f =
          sym (string_inside
          ∙ ap (λ (b : Bool). b && utf8 (string_at p r)) (sym (rising_last offsets r last el) ∙ lt-leb _ _ (subst (λ (n : ℕ). n < last) eo f)))

      pub string_is : (v : Bool) → last ≤ offset → v ≡ utf8 (span p.bytes offset end) → v ≡ string_ok p r
      string_is v f q =
          q
          ∙ ap (λ (n : ℕ). utf8 (span p.bytes n end)) eo
          ∙ ap utf8 string_span_lem
          ∙ sym (string_inside
          ∙ ap (λ (b : Bool). b && utf8 (string_at p r)) (sym (rising_last offsets r last el) ∙ le-leb _ _ (subst (λ (n : ℕ). last ≤ n) eo f)))

      pub string_ascii : last ≤ offset → (ascii : ℕ) → Ascii p.bytes ascii → end ≤ ascii → true ≡ string_ok p r
      string_ascii f ascii a g =
          string_is true f (sym (ascii_all p.bytes (end - offset) offset end refl h (λ i l. a i (omega arith))))

  -- what is known after an accepted string
  pub known_next : (known next : ℕ) → Known p.bytes (before offsets r) known → string_ok p r ≡ true → next ≡ max known end
      → Known p.bytes (before offsets (r + 1)) next
  unfolding string_ok before
  known_next known next k ok q =
      let inside : offsets r + string_word p.names r 1 ≤ length p.bytes = leb-true _ _ (and_left (leb (offsets r + string_word p.names r 1) (length p.bytes)) _ ok) in
      let rest = and_right (leb (offsets r + string_word p.names r 1) (length p.bytes)) _ ok in
      let rises = rises_from offsets r (and_left (rising offsets r) _ rest) in
      let valid = and_right (rising offsets r) _ rest in
      let h : end ≤ length p.bytes = omega arith in
      subst (λ (m : ℕ). Known p.bytes (before offsets m) next) (sym (add-one r)) (by_end (leb known end) refl h rises valid)
    where
      by_end : (b : Bool) → leb known end ≡ b → end ≤ length p.bytes → before offsets r ≤ offsets r → utf8 (string_at p r) ≡ true
          → Known p.bytes (offsets r) next
      by_end true g h rises valid =
          let u : end ≡ next = omega (arith, leb-true known end g) in
          subst (λ (m : ℕ). Known p.bytes (offsets r) m) u (known_string p.bytes (offsets r) end h (ap utf8 string_span_lem ∙ valid))
      by_end false g h rises valid =
          let u : known ≡ next = omega (arith, leb-false known end g) in
          subst (λ (m : ℕ). Known p.bytes (offsets r) m) u (known_from p.bytes (before offsets r) (offsets r) known rises k)
