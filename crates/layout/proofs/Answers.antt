-- What `report`, `check_given` and the layouts answer, from what `lay_out` gives.
use Prim.Native.Nat.{ℕ, ◌+◌, ◌-◌, ◌≤◌, ◌<◌, max}
use native.Mathlib.Omega.{arith}
use native.Mathlib.Nat.{add-zero, zero-add}
use mathlib.Core.Bool.{Bool, true, false, cond}
use mathlib.Core.List.{List, [], ◌∷◌}
use Rattle.std.proofs.Common.{Result, Ok, Err, MutBor}
use mathlib.Core.Path.{◌≡◌, refl, sym, ap, ap₂, ◌∙◌, subst}
use lib.ListN.{length}
use lib.Dec.{ltb}
use borrow.Author.Tests.{lt-ltb, le-ltb, ltb-false}
use Rattle.document.specs.Doc.{Doc}
use Rattle.document.specs.Rows.{fault, counts_ok, Accepted}
use Rattle.document.proofs.Faults.{fault_bound, found_some, fault_none, accepted_counts, accepted_sound}
use Rattle.layout.specs.declared.cursor.Cursor.{Cursor}
use Rattle.layout.specs.declared.Counts.{Counts}
use Rattle.layout.specs.declared.LayoutError.{LayoutError}
use Rattle.layout.specs.declared.LayoutError.TheVariants.{Document, Width, Listing}
use Rattle.layout.specs.declared.listing.Listing as listings
use Rattle.layout.specs.Frames.{Begins, LaysOut}
use Rattle.layout.specs.Layout.{Piece, textᵖ, blankᵖ, newlineᵖ, testᵖ, after, run, start, pieces}
use Rattle.layout.specs.Listing.{bytes_of, broken_places, lines, longest_row}
use Rattle.layout.specs.Groups.{fit_tests}
use Rattle.layout.specs.Call.{counts_of, untouched, listed, doc_of, outcome}
use Rattle.layout.specs.Contract.{Emitteds, Given, Room, LaidOut, admission, counted, reported}
use Rattle.layout.proofs.Painting.{length-paint}
use Rattle.layout.proofs.Pieces.{run_position}
use Rattle.layout.proofs.GroupLaws.{tests_are_groups}

-- ---- what the cursor has counted

run_lines : (w : ℕ) (c : Cursor) (ps : List Piece) → (run w c ps).lines ≡ c.lines + broken_places ps
unfolding run broken_places
run_lines w c [] = sym (add-zero c.lines)
run_lines w c (textᵖ s ∷ ps) = run_lines w (after w c (textᵖ s)) ps
run_lines w c (blankᵖ k ∷ ps) = run_lines w (after w c (blankᵖ k)) ps
run_lines w c (newlineᵖ b k ∷ ps) = let h = run_lines w (after w c (newlineᵖ b k)) ps in omega arith
run_lines w c (testᵖ b ∷ ps) = run_lines w (after w c (testᵖ b)) ps

longest_least : (n : ℕ) (ps : List Piece) → n ≤ longest_row n ps
unfolding longest_row
longest_least n [] = omega arith
longest_least n (textᵖ s ∷ ps) = let h = longest_least (n + length s) ps in omega arith
longest_least n (blankᵖ k ∷ ps) = let h = longest_least (n + k) ps in omega arith
longest_least n (newlineᵖ b k ∷ ps) = omega arith
longest_least n (testᵖ b ∷ ps) = longest_least n ps

-- the row that holds the cursor has n bytes, and is counted
run_longest : (w : ℕ) (c : Cursor) (n : ℕ) (ps : List Piece) → c.end + n ≡ c.position + w → n ≤ c.longest → (run w c ps).longest ≡ max c.longest (longest_row n ps)
unfolding run longest_row
run_longest w c n [] e h = omega arith
run_longest w c n (textᵖ s ∷ ps) e h =
    let r = run_longest w (after w c (textᵖ s)) (n + length s) ps (omega arith) (omega arith) in let g = longest_least (n + length s) ps in omega arith
run_longest w c n (blankᵖ k ∷ ps) e h =
    let r = run_longest w (after w c (blankᵖ k)) (n + k) ps (omega arith) (omega arith) in let g = longest_least (n + k) ps in omega arith
run_longest w c n (newlineᵖ b k ∷ ps) e h =
    let r = run_longest w (after w c (newlineᵖ b k)) k ps (omega arith) (omega arith) in let g = longest_least k ps in omega arith
run_longest w c n (testᵖ b ∷ ps) e h = run_longest w (after w c (testᵖ b)) n ps e h

-- ---- `layout_accepted`

module _ (rows : List ℕ) (count : ℕ) (texts : List ℕ) (total width : ℕ) (accepted : Accepted rows count texts total) (narrow : width ≤ 65535) where
  pub accepted_given : Given rows texts width total count
  accepted_given =
      let k = accepted_counts accepted in
      record { valid = (accepted_sound accepted).valid; long = k.long; few = k.few; size = k.within; small = k.small; narrow = narrow }

  pub whole_room : Room rows texts (count - 1) width 0 0 (start width)
  whole_room =
      let k = accepted_counts accepted in
      let p = k.pos in
      let f = k.few in
      let l = (accepted_sound accepted).last in
      record {
        total = total;
        count = count;
        given = accepted_given;
        below = omega arith;
        steady = omega arith;
        position_room = omega arith;
        nest_room = omega arith;
        next_room = omega arith;
        count_room = omega arith;
      }

  pub whole_emitted : (v : Cursor) (l l' : List ℕ) → LaidOut rows texts (count - 1) width 0 false 0 (start width) v l l'
      → Emitteds width (pieces width (doc_of rows count texts)) (start width) v l l'
  unfolding pieces
  whole_emitted v l l' laid = laid.laid count (let p = (accepted_counts accepted).pos in omega arith)

-- once all pieces of a document are emitted, what is reported is what is listed
module _ (width : ℕ) (d : Doc) (v : Cursor) (l l' : List ℕ) (emitted : Emitteds width (pieces width d) (start width) v l l') (count total : ℕ) where
  abbrev ps : List Piece
  ps = pieces width d

  position_is : v.position ≡ length (bytes_of ps)
  position_is = ap (λ (x : Cursor). x.position) emitted.cursor ∙ run_position width (start width) ps ∙ zero-add (length (bytes_of ps))

  length_is : length l' ≡ length l
  length_is = ap length emitted.bytes ∙ length-paint l 0 (bytes_of ps)

  counts_are : counted v count total ≡ counts_of count total width d
  counts_are =
      let a = position_is in
      let n : v.lines ≡ lines ps = ap (λ (x : Cursor). x.lines) emitted.cursor ∙ run_lines width (start width) ps ∙ omega arith in
      let o : v.longest ≡ longest_row 0 ps =
      ap (λ (x : Cursor). x.longest) emitted.cursor ∙ run_longest width (start width) 0 ps (omega arith) (omega arith) ∙ omega arith in
      let t : v.tests ≡ fit_tests width d = ap (λ (x : Cursor). x.tests) emitted.cursor ∙ tests_are_groups width d in
      rw (n, o, t, a)

  answer_is : reported v count total l' ≡ cond (ltb (length l) (length (bytes_of ps))) (Err Listing) (Ok (counts_of count total width d))
  answer_is =
      ap₂ (λ (x y : ℕ). cond (ltb x y) (Err Listing) (Ok (counted v count total))) length_is position_is
      ∙ ap (λ (x : Counts). cond (ltb (length l) (length (bytes_of ps))) (Err Listing) (Ok x)) counts_are

  pub reported-listed : (a : Result Counts LayoutError) → a ≡ reported v count total l' → record { answer = a; listing = l' } ≡ listed count total width d l
  unfolding listed
  reported-listed a e = ap₂ (λ (x : Result Counts LayoutError) (y : List ℕ). record { answer = x; listing = y }) (e ∙ answer_is) emitted.bytes

-- the whole document is laid out from the start of a listing: what is reported is what is listed
module _ {rows : List ℕ} {count : ℕ} {texts : List ℕ} {total width : ℕ} (accepted : Accepted rows count texts total) (narrow : width ≤ 65535)
    {area : MutBor (List ℕ)} {s : listings.Listing} (begins : Begins area width s) where
  begun_narrow : s.width ≤ 65535
  begun_narrow = rw begins.width_is narrow

  pub begun_room : Room rows texts (count - 1) s.width 0 0 s.cursor
  begun_room = rw begins.cursor (whole_room rows count texts total s.width accepted begun_narrow)

  pub begun_emitted : {m : listings.Listing} → LaysOut rows texts (count - 1) 0 false 0 s m
      → Emitteds s.width (pieces s.width (doc_of rows count texts)) (start s.width) m.cursor s.area.now m.area.now
  begun_emitted {m} laid =
      whole_emitted rows count texts total s.width accepted begun_narrow m.cursor s.area.now m.area.now (rw begins.cursor at laid.laid)

  pub begun_listed : (m : listings.Listing) {a : Result Counts LayoutError} {l' : List ℕ}
      → Emitteds s.width (pieces s.width (doc_of rows count texts)) (start s.width) m.cursor s.area.now m.area.now
      → a ≡ reported m.cursor count total m.area.now → l' ≡ m.area.now → record { answer = a; listing = l' } ≡ listed count total width (doc_of rows count texts) area.now
  begun_listed m {a} {l'} emitted reports same =
      let there = rw (begins.width_is, begins.bytes) at emitted in
      rw same (reported-listed width (doc_of rows count texts) m.cursor area.now m.area.now there count total a reports)

-- ---- `check_given`, `layout`

-- an admitted document and width keep the rules; where they are not admitted, `outcome` is that, and the area as it was
abbrev pub Admits : List ℕ → ℕ → List ℕ → ℕ → ℕ → Result (Unit {0}) LayoutError → Type 0
Admits rows count texts total width (Ok done) = Accepted rows count texts total × (width ≤ 65535)
Admits rows count texts total width (Err error) = (area : List ℕ) → untouched (Err error) area ≡ outcome rows count texts total width area

module _ (rows : List ℕ) (count : ℕ) (texts : List ℕ) (total width : ℕ) where
  abbrev counted_ok : Bool
  counted_ok = counts_ok (length rows) count (length texts) total

  pub admission-counts : counted_ok ≡ false → Err (Document 0) ≡ admission rows count texts total width
  unfolding admission
  admission-counts e = sym (rw e)

  module _ (ok : counted_ok ≡ true) where
    pub admission-fault : (r : ℕ) → r ≡ fault rows total count → r < count → Err (Document r) ≡ admission rows count texts total width
    unfolding admission
    admission-fault r e h = sym (rw (ok, ← e, lt-ltb r count h))

    pub no_fault : (r : ℕ) → r ≡ fault rows total count → count ≤ r → fault rows total count ≡ count
    no_fault r e h = let b = fault_bound rows total count in omega arith

    module _ (good : fault rows total count ≡ count) where
      whole_is : ltb (fault rows total count) count ≡ false
      whole_is = let m : count ≤ fault rows total count = omega arith in le-ltb (fault rows total count) count m

      pub admission_width : 65535 < width → Err Width ≡ admission rows count texts total width
      unfolding admission
      admission_width h = sym (rw (ok, whole_is, lt-ltb 65535 width h))

      pub admission_none : width ≤ 65535 → Ok tt ≡ admission rows count texts total width
      unfolding admission
      admission_none h = sym (rw (ok, whole_is, le-ltb 65535 width h))

      pub answer_listed : (l : List ℕ) → width ≤ 65535 → listed count total width (doc_of rows count texts) l ≡ outcome rows count texts total width l
      unfolding outcome
      answer_listed l h = sym (rw (ok, whole_is, le-ltb 65535 width h))

  pub admission_means : Admits rows count texts total width (admission rows count texts total width)
  unfolding admission outcome
  admission_means = by counted_ok (ltb (fault rows total count) count) (ltb 65535 width) refl refl refl
    where
      by : (b d e : Bool) → counted_ok ≡ b → ltb (fault rows total count) count ≡ d → ltb 65535 width ≡ e
          → Admits rows count texts total width
          (cond b (cond d (Err (Document (fault rows total count))) (cond e (Err Width) (Ok tt))) (Err (Document 0)))
      by false d e p q r = λ l. sym (rw p)
      by true true e p q r = λ l. sym (rw (p, q))
      by true false true p q r = λ l. sym (rw (p, q, r))
      by true false false p q r =
          (record { counts = p; faultless = no_fault p (fault rows total count) refl (ltb-false _ _ q) }, ltb-false _ _ r)

  -- of what `check_given` gave, once it is known which case that is
  pub means_of : {v a : Result (Unit {0}) LayoutError} → v ≡ a → v ≡ admission rows count texts total width → Admits rows count texts total width a
  means_of e q = subst (Admits rows count texts total width) (sym q ∙ e) admission_means

-- what a check that is given a document admits
pub ruleset admits = (found_some, fault_none, admission-counts, admission-fault, admission_width, admission_none)
