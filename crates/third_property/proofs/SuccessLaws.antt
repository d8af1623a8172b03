-- Laws of a walk in inequalities: it goes through exactly if all fits, and stops at the first event that does not.
use Prim.Native.Nat.{ℕ, suc, ◌+◌, ◌*◌, ◌<◌, ◌≤◌}
use native.Mathlib.Omega.{arith}
use mathlib.Core.Bool.{Bool, true, false}
use mathlib.Core.List.{List, [], ◌∷◌, ◌++◌}
use mathlib.Core.Path.{◌≡◌, refl, sym, ap, ap₂, ◌∙◌, subst}
use lib.Dec.{ltb, leb}
use lib.ListN.{length, length-append}
use borrow.Author.Tests.{lt-ltb, le-ltb, le-leb, lt-leb, ltb-true, ltb-false, leb-true, leb-false}
use Rattle.document.specs.Doc.{row_count, text_bytes}
use Rattle.document.specs.Walk.{Marked, textᵐ, joinᵐ, breakᵐ, nestᵐ, groupᵐ, names, unmarked, Event, byte, row, named, text_events, events}
use Rattle.document.specs.Walk.{Progress, going, stopped, step, steps}
use Rattle.document.proofs.Steps.{steps-append}
use Rattle.third_property.specs.Success.{row_events, byte_events, NamesFit, Fits, Refused, too_many_names, byte_past_limit, text_area_full}
use Rattle.third_property.specs.Success.{row_past_limit, row_area_full, FirstRefused}

-- ---- the events of a document are its rows and text bytes

rows_append : (xs ys : List Event) → row_events (xs ++ ys) ≡ row_events xs + row_events ys
unfolding row_events
rows_append [] ys = omega arith
rows_append (byte ∷ xs) ys = rows_append xs ys
rows_append (row ∷ xs) ys = omega (arith, rows_append xs ys)
rows_append (named p c ∷ xs) ys = rows_append xs ys

bytes-append : (xs ys : List Event) → byte_events (xs ++ ys) ≡ byte_events xs + byte_events ys
unfolding byte_events
bytes-append [] ys = omega arith
bytes-append (byte ∷ xs) ys = omega (arith, bytes-append xs ys)
bytes-append (row ∷ xs) ys = bytes-append xs ys
bytes-append (named p c ∷ xs) ys = bytes-append xs ys

text_row : (s : List ℕ) → row_events (text_events s) ≡ 1
unfolding row_events text_events
text_row [] = refl
text_row (b ∷ s) = text_row s

text_bytes_lem : (s : List ℕ) → byte_events (text_events s) ≡ length s
unfolding byte_events text_events
text_bytes_lem [] = refl
text_bytes_lem (b ∷ s) = ap suc (text_bytes_lem s)

pub rows_are : (m : Marked) → row_events (events m) ≡ row_count (unmarked m)
unfolding events unmarked row_count row_events
rows_are (textᵐ s) = text_row s
rows_are (joinᵐ a b) =
    let e = rows_append (events a) (events b ++ (row ∷ [])) in
    let f = rows_append (events b) (row ∷ []) in
    omega (arith, rows_are a, rows_are b)
rows_are (breakᵐ k) = refl
rows_are (nestᵐ n d) = let e = rows_append (events d) (row ∷ []) in omega (arith, rows_are d)
rows_are (groupᵐ d) = let e = rows_append (events d) (row ∷ []) in omega (arith, rows_are d)
rows_are (names p c d) = rows_are d

pub bytes_are : (m : Marked) → byte_events (events m) ≡ length (text_bytes (unmarked m))
unfolding events unmarked text_bytes byte_events
bytes_are (textᵐ s) = text_bytes_lem s
bytes_are (joinᵐ a b) =
    let e = bytes-append (events a) (events b ++ (row ∷ [])) in
    let f = bytes-append (events b) (row ∷ []) in
    let g = length-append (text_bytes (unmarked a)) (text_bytes (unmarked b)) in
    omega (arith, bytes_are a, bytes_are b)
bytes_are (breakᵐ k) = refl
bytes_are (nestᵐ n d) = let e = bytes-append (events d) (row ∷ []) in omega (arith, bytes_are d)
bytes_are (groupᵐ d) = let e = bytes-append (events d) (row ∷ []) in omega (arith, bytes_are d)
bytes_are (names p c d) = bytes_are d

module _ (R T : ℕ) where
  -- ---- events that fit pass

  byte_passes : (r t : ℕ) → t < 65536 → t < T → step R T (going r t) byte ≡ going r (t + 1)
  unfolding step
  byte_passes r t h k = rw (lt-ltb t 65536 h, lt-ltb t T k)

  row_passes : (r t : ℕ) → r < 16384 → r * 7 + 7 ≤ R → step R T (going r t) row ≡ going (r + 1) t
  unfolding step
  row_passes r t h k = rw (lt-ltb r 16384 h, le-leb (r * 7 + 7) R k)

  names_pass : (r t p c : ℕ) → c ≤ 1024 → step R T (going r t) (named p c) ≡ going r t
  unfolding step
  names_pass r t p c h = rw (le-leb c 1024 h)

  -- from r rows and t bytes on
  passes : (es : List Event) (r t : ℕ) → Fits R T (r + row_events es) (t + byte_events es) → NamesFit es
      → steps R T (going r t) es ≡ going (r + row_events es) (t + byte_events es)
  unfolding steps row_events byte_events NamesFit
  passes [] r t f n = let a : r ≡ r + 0 = omega arith in let b : t ≡ t + 0 = omega arith in ap₂ going a b
  passes (byte ∷ es) r t f n =
      let a : t + 1 + byte_events es ≡ t + suc (byte_events es) = omega arith in
      let g : Fits R T (r + row_events es) (t + 1 + byte_events es) = subst (λ (x : ℕ). Fits R T (r + row_events es) x) (sym a) f in
      ap (λ (p : Progress). steps R T p es) (byte_passes r t (omega (arith, f.few_bytes)) (omega (arith, f.text_area)))
      ∙ passes es r (t + 1) g n ∙ ap (going (r + row_events es)) a
  passes (row ∷ es) r t f n =
      let a : r + 1 + row_events es ≡ r + suc (row_events es) = omega arith in
      let g : Fits R T (r + 1 + row_events es) (t + byte_events es) = subst (λ (x : ℕ). Fits R T x (t + byte_events es)) (sym a) f in
      ap (λ (p : Progress). steps R T p es) (row_passes r t (omega (arith, f.few_rows)) (omega (arith, f.row_area)))
      ∙ passes es (r + 1) t g n ∙ ap (λ (x : ℕ). going x (t + byte_events es)) a
  passes (named p c ∷ es) r t f n =
      ap (λ (p : Progress). steps R T p es) (names_pass r t p c n.0) ∙ passes es r t f n.1

  pub all_pass : (es : List Event) → Fits R T (row_events es) (byte_events es) → NamesFit es → steps R T (going 0 0) es ≡ going (row_events es) (byte_events es)
  all_pass es f n =
      let a : 0 + row_events es ≡ row_events es = omega arith in
      let b : 0 + byte_events es ≡ byte_events es = omega arith in
      passes es 0 0 (subst (λ (x : ℕ). Fits R T x (0 + byte_events es)) (sym a) (subst (λ (x : ℕ). Fits R T (row_events es) x) (sym b) f)) n ∙ ap₂ going a b

  -- ---- an event that is refused stops the walk

  refused_stops : (r t : ℕ) {e : Event} {number place : ℕ} → Refused R T r t e number place → step R T (going r t) e ≡ stopped number place
  unfolding step
  refused_stops r t (too_many_names p c h) = rw (lt-leb c 1024 h)
  refused_stops r t (byte_past_limit h) = rw (le-ltb t 65536 h)
  refused_stops r t (text_area_full h k) = rw (lt-ltb t 65536 h, le-ltb t T k)
  refused_stops r t (row_past_limit h) = rw (le-ltb r 16384 h)
  refused_stops r t (row_area_full h k) = rw (lt-ltb r 16384 h, lt-leb (r * 7 + 7) R k)

  stays_stopped : (n p : ℕ) (es : List Event) → steps R T (stopped n p) es ≡ stopped n p
  unfolding steps step
  stays_stopped n p [] = refl
  stays_stopped n p (e ∷ es) = stays_stopped n p es

  pub first_stops : (es : List Event) (number place : ℕ) → FirstRefused R T es number place → steps R T (going 0 0) es ≡ stopped number place
  unfolding steps
  first_stops es number place f =
      ap (steps R T (going 0 0)) f.split
      ∙ steps-append R T (going 0 0) f.before (f.event ∷ f.after)
      ∙ ap (λ (p : Progress). steps R T p (f.event ∷ f.after)) (all_pass f.before f.fits f.names)
      ∙ ap (λ (p : Progress). steps R T p f.after) (refused_stops (row_events f.before) (byte_events f.before) f.refused)
      ∙ stays_stopped number place f.after

  -- ---- one of the two is the case

  -- what some events after r rows and t bytes do
  data Course (r t : ℕ) (es : List Event) : Type 0 where
    through : Fits R T (r + row_events es) (t + byte_events es) → NamesFit es → Course r t es
    until : (before : List Event) (event : Event) (after : List Event) (number place : ℕ) → es ≡ before ++ (event ∷ after)
        → Fits R T (r + row_events before) (t + byte_events before) → NamesFit before
        → Refused R T (r + row_events before) (t + byte_events before) event number place → Course r t es

  -- the first event is refused
  at_once : (r t : ℕ) (e : Event) (es : List Event) (number place : ℕ) → Fits R T r t → Refused R T r t e number place → Course r t (e ∷ es)
  unfolding row_events byte_events NamesFit
  at_once r t e es number place f h =
      let a : r ≡ r + 0 = omega arith in
      let b : t ≡ t + 0 = omega arith in
      until [] e es number place refl
      (subst (λ (x : ℕ). Fits R T x (t + 0)) a (subst (λ (x : ℕ). Fits R T r x) b f)) tt
      (subst (λ (x : ℕ). Refused R T x (t + 0) e number place) a (subst (λ (x : ℕ). Refused R T r x e number place) b h))

  -- an event that passes, before those of a course
  byte_first : (r t : ℕ) (es : List Event) → Course r (t + 1) es → Course r t (byte ∷ es)
  unfolding row_events byte_events NamesFit
  byte_first r t es (through f n) =
      let a : t + 1 + byte_events es ≡ t + suc (byte_events es) = omega arith in
      through (subst (λ (x : ℕ). Fits R T (r + row_events es) x) a f) n
  byte_first r t es (until before event after number place e f n h) =
      let a : t + 1 + byte_events before ≡ t + suc (byte_events before) = omega arith in
      until (byte ∷ before) event after number place (ap (λ (x : List Event). byte ∷ x) e)
      (subst (λ (x : ℕ). Fits R T (r + row_events before) x) a f) n
      (subst (λ (x : ℕ). Refused R T (r + row_events before) x event number place) a h)

  row_first : (r t : ℕ) (es : List Event) → Course (r + 1) t es → Course r t (row ∷ es)
  unfolding row_events byte_events NamesFit
  row_first r t es (through f n) =
      let a : r + 1 + row_events es ≡ r + suc (row_events es) = omega arith in
      through (subst (λ (x : ℕ). Fits R T x (t + byte_events es)) a f) n
  row_first r t es (until before event after number place e f n h) =
      let a : r + 1 + row_events before ≡ r + suc (row_events before) = omega arith in
      until (row ∷ before) event after number place (ap (λ (x : List Event). row ∷ x) e)
      (subst (λ (x : ℕ). Fits R T x (t + byte_events before)) a f) n
      (subst (λ (x : ℕ). Refused R T x (t + byte_events before) event number place) a h)

  names_first : (r t p c : ℕ) (es : List Event) → c ≤ 1024 → Course r t es → Course r t (named p c ∷ es)
  unfolding row_events byte_events NamesFit
  names_first r t p c es l (through f n) = through f (l, n)
  names_first r t p c es l (until before event after number place e f n h) =
      until (named p c ∷ before) event after number place (ap (λ (x : List Event). named p c ∷ x) e) f (l, n) h

  byte_course : (r t : ℕ) (es : List Event) → Fits R T r t → (Fits R T r (t + 1) → Course r (t + 1) es) → Course r t (byte ∷ es)
  byte_course r t es f next = by (ltb t 65536) refl (ltb t T) refl
    where
      by : (x : Bool) → ltb t 65536 ≡ x → (y : Bool) → ltb t T ≡ y → Course r t (byte ∷ es)
      by true e true k =
          let l = ltb-true t 65536 e in
          let m = ltb-true t T k in
          byte_first r t es
          (next (record { few_rows = f.few_rows; few_bytes = omega arith; row_area = f.row_area; text_area = omega arith }))
      by true e false k = at_once r t byte es 21 r f (text_area_full (ltb-true t 65536 e) (ltb-false t T k))
      by false e y k = at_once r t byte es 8 r f (byte_past_limit (ltb-false t 65536 e))

  row_course : (r t : ℕ) (es : List Event) → Fits R T r t → (Fits R T (r + 1) t → Course (r + 1) t es) → Course r t (row ∷ es)
  row_course r t es f next = by (ltb r 16384) refl (leb (r * 7 + 7) R) refl
    where
      by : (x : Bool) → ltb r 16384 ≡ x → (y : Bool) → leb (r * 7 + 7) R ≡ y → Course r t (row ∷ es)
      by true e true k =
          let l = ltb-true r 16384 e in
          let m = leb-true (r * 7 + 7) R k in
          row_first r t es
          (next (record { few_rows = omega arith; few_bytes = f.few_bytes; row_area = omega arith; text_area = f.text_area }))
      by true e false k = at_once r t row es 20 r f (row_area_full (ltb-true r 16384 e) (leb-false (r * 7 + 7) R k))
      by false e y k = at_once r t row es 8 r f (row_past_limit (ltb-false r 16384 e))

  names_course : (r t p c : ℕ) (es : List Event) → Fits R T r t → Course r t es → Course r t (named p c ∷ es)
  names_course r t p c es f next = by (leb c 1024) refl
    where
      by : (x : Bool) → leb c 1024 ≡ x → Course r t (named p c ∷ es)
      by true e = names_first r t p c es (leb-true c 1024 e) next
      by false e = at_once r t (named p c) es 7 p f (too_many_names p c (leb-false c 1024 e))

  course : (es : List Event) (r t : ℕ) → Fits R T r t → Course r t es
  unfolding row_events byte_events NamesFit
  course [] r t f =
      let a : r ≡ r + 0 = omega arith in
      let b : t ≡ t + 0 = omega arith in
      through (subst (λ (x : ℕ). Fits R T x (t + 0)) a (subst (λ (x : ℕ). Fits R T r x) b f)) tt
  course (byte ∷ es) r t f = byte_course r t es f (λ g. course es r (t + 1) g)
  course (row ∷ es) r t f = row_course r t es f (λ g. course es (r + 1) t g)
  course (named p c ∷ es) r t f = names_course r t p c es f (course es r t f)

  -- the whole walk
  pub data Walked (es : List Event) : Type 0 where
    passed : Fits R T (row_events es) (byte_events es) → NamesFit es → Walked es
    met : (number place : ℕ) → FirstRefused R T es number place → Walked es

  pub walked_by : (es : List Event) → Walked es
  walked_by es = by (course es 0 0 (record { few_rows = omega arith; few_bytes = omega arith; row_area = omega arith; text_area = omega arith }))
    where
      start : {rows bytes : ℕ} → Fits R T (0 + rows) (0 + bytes) → Fits R T rows bytes
      start f =
          record {
            few_rows = omega (arith, f.few_rows);
            few_bytes = omega (arith, f.few_bytes);
            row_area = omega (arith, f.row_area);
            text_area = omega (arith, f.text_area);
          }

      by : Course 0 0 es → Walked es
      by (through f n) = passed (start f) n
      by (until before event after number place e f n h) =
          let a : 0 + row_events before ≡ row_events before = omega arith in
          let b : 0 + byte_events before ≡ byte_events before = omega arith in
          met number place
          (record {
            before = before;
            event = event;
            after = after;
            split = e;
            fits = start f;
            names = n;
            refused =
                subst (λ (x : ℕ). Refused R T x (byte_events before) event number place) a
                (subst (λ (x : ℕ). Refused R T (0 + row_events before) x event number place) b h);
          })
