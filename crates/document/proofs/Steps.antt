-- The sink's functions and the steps of the walk agree, one event after the other.
use Prim.Native.Nat.{ℕ, ◌+◌, ◌-◌, ◌*◌, ◌%◌, ◌^◌, ◌≤◌, ◌<◌}
use native.Mathlib.Omega.{arith}
use mathlib.Core.Bool.{Bool, true, false, cond}
use mathlib.Core.List.{List, [], ◌∷◌, ◌++◌, append_assoc, append-nil}
use mathlib.Core.Path.{◌≡◌, refl, sym, ap, ap₂, ◌∙◌, subst}
use lib.ListN.{length, drop, set, length-append, length-drop}
use lib.Seq.{take_at, drop-append-add, drop-drop, sets-eq}
use lib.Dec.{ltb, leb}
use Rattle.std.specs.Prelude.{None, Some}
use Rattle.std.specs.Option.{is_none}
use borrow.Author.Tests.{ltb-true, leb-true}
use Rattle.document.specs.declared.measures.Measures.{Measures}
use Rattle.document.specs.declared.written.Written.{Written}
use Rattle.document.specs.declared.written.Stop.{Stop}
use Rattle.document.specs.declared.written.Stop.TheVariants.{Names, Document, RowArea, TextArea}
use Rattle.document.specs.Walk.{Event, byte, row, named, Progress, going, stopped, step, steps, text_events, Marked, textᵐ, joinᵐ, breakᵐ, nestᵐ, groupᵐ}
use Rattle.document.specs.Walk.{names}
use Rattle.document.specs.Stops.{number_of, place_of}
use Rattle.document.specs.Sink.{State, written_of, stopped_at, refuse, row_words, over, put_row, put_byte, put_bytes, end_text, put_text, put_break, put_join, put_wrapped}
use Rattle.document.specs.Sink.{put_nest, put_group, put_names, emit}
use Rattle.document.specs.Sink.State.{state}

-- ---- a stopped sink stays as it is

-- it has stopped under a number at a place
pub record Stopped (number place : ℕ) (st : State) : Type 0 where
  pub by : Stop
  pub stop : (written_of st).stop ≡ Some by
  pub under : number_of by ≡ number
  pub at : place_of by ≡ place

pub row_stays : (kind a b : ℕ) (m : Measures) (st : State) → is_none (written_of st).stop ≡ false → put_row kind a b m st ≡ st
unfolding put_row
row_stays kind a b m (state rows text s) e = rw e

pub byte_stays : (b : ℕ) (st : State) → is_none (written_of st).stop ≡ false → put_byte b st ≡ st
unfolding put_byte
byte_stays b (state rows text s) e = rw e

pub bytes_stay : (bs : List ℕ) (st : State) → is_none (written_of st).stop ≡ false → put_bytes bs st ≡ st
unfolding put_bytes
bytes_stay [] st e = refl
bytes_stay (b ∷ bs) st e = ap (put_bytes bs) (byte_stays b st e) ∙ bytes_stay bs st e

pub end_stays : (from : ℕ) (st : State) → is_none (written_of st).stop ≡ false → end_text from st ≡ st
unfolding end_text
end_stays from st e = row_stays _ _ _ _ st e

pub names_stay : (place count : ℕ) (st : State) → is_none (written_of st).stop ≡ false → put_names place count st ≡ st
unfolding put_names refuse
names_stay place count (state rows text s) e = go (leb count 1024)
  where
    go : (b : Bool) → cond b (state rows text s) (cond (is_none s.stop) (state rows text (stopped_at (Names place) s)) (state rows text s)) ≡ state rows text s
    go true = refl
    go false = rw e

pub emit_stays : (m : Marked) (st : State) → is_none (written_of st).stop ≡ false → emit m st ≡ st
unfolding emit put_text put_break put_join put_wrapped
emit_stays (textᵐ s) st e = ap (end_text (written_of st).text) (bytes_stay s st e) ∙ end_stays (written_of st).text st e
emit_stays (joinᵐ a b) st e = ap (λ (x : State). put_join (emit b x)) (emit_stays a st e) ∙ ap put_join (emit_stays b st e) ∙ row_stays _ _ _ _ st e
emit_stays (breakᵐ k) st e = row_stays _ _ _ _ st e
emit_stays (nestᵐ n d) st e = ap (put_nest n) (emit_stays d st e) ∙ row_stays _ _ _ _ st e
emit_stays (groupᵐ d) st e = ap put_group (emit_stays d st e) ∙ row_stays _ _ _ _ st e
emit_stays (names place count d) st e = ap (emit d) (names_stay place count st e) ∙ emit_stays d st e

-- such a function
abbrev pub Stays : (State → State) → Type 0
Stays f = (st : State) → is_none (written_of st).stop ≡ false → f st ≡ st

pub stays_join : Stays put_join
unfolding put_join
stays_join st e = row_stays _ _ _ _ st e

pub stays_wrapped : (kind a : ℕ) → Stays (put_wrapped kind a)
unfolding put_wrapped
stays_wrapped kind a st e = row_stays _ _ _ _ st e

pub stays_emit : (m : Marked) → Stays (emit m)
stays_emit m = emit_stays m

pub stays_text : (from : ℕ) (s : List ℕ) → Stays (λ st. end_text from (put_bytes s st))
stays_text from s st e = ap (end_text from) (bytes_stay s st e) ∙ end_stays from st e

pub stays_after : (f g : State → State) → Stays f → Stays g → Stays (λ st. g (f st))
stays_after f g p q st e = ap g (p st e) ∙ q st e

pub steps-append : (R T : ℕ) (p : Progress) (xs ys : List Event) → steps R T p (xs ++ ys) ≡ steps R T (steps R T p xs) ys
unfolding steps
steps-append R T p [] ys = refl
steps-append R T p (x ∷ xs) ys = steps-append R T (step R T p x) xs ys

steps_stopped : (R T n p : ℕ) (es : List Event) → steps R T (stopped n p) es ≡ stopped n p
unfolding steps step
steps_stopped R T n p [] = refl
steps_stopped R T n p (e ∷ es) = steps_stopped R T n p es

-- ---- agreement

abbrev pub written_at : ℕ → ℕ → Written
written_at r t = record { rows = r; text = t; stop = None }

-- r rows are written, the words pre, and t text bytes, tpre; in areas of R words and T bytes
pub record At (R T : ℕ) (pre rest tpre trest : List ℕ) (r t : ℕ) : Type 0 where
  pub rows_at : length pre ≡ r * 7
  pub text_at : length tpre ≡ t
  pub rows_long : length pre + length rest ≡ R
  pub text_long : length tpre + length trest ≡ T
  pub few : r ≤ 16384
  pub small : t ≤ 65536

abbrev pub areas : List ℕ → List ℕ → List ℕ → List ℕ → ℕ → ℕ → State
areas pre rest tpre trest r t = state (pre ++ rest) (tpre ++ trest) (written_at r t)

-- the words ws and the bytes bs more
pub record Grown (R T : ℕ) (pre rest tpre trest ws bs : List ℕ) (r t : ℕ) (st : State) : Type 0 where
  pub at : At R T (pre ++ ws) (drop (length ws) rest) (tpre ++ bs) (drop (length bs) trest) r t
  pub is : st ≡ areas (pre ++ ws) (drop (length ws) rest) (tpre ++ bs) (drop (length bs) trest) r t

-- the state is what the progress says
abbrev pub Agree : (R T : ℕ) (pre rest tpre trest ws bs : List ℕ) → Progress → State → Type 0
Agree R T pre rest tpre trest ws bs (going r t) st = Grown R T pre rest tpre trest ws bs r t st
Agree R T pre rest tpre trest ws bs (stopped n p) st = Stopped n p st

pub agree_words : (R T : ℕ) (pre rest tpre trest ws bs vs : List ℕ) (p : Progress) (st : State)
    → ((r t : ℕ) → At R T (pre ++ ws) (drop (length ws) rest) (tpre ++ bs) (drop (length bs) trest) r t → ws ≡ vs)
    → Agree R T pre rest tpre trest ws bs p st → Agree R T pre rest tpre trest vs bs p st
agree_words R T pre rest tpre trest ws bs vs (going r t) st e g =
    subst (λ (l : List ℕ). Grown R T pre rest tpre trest l bs r t st) (e r t g.at) g
agree_words R T pre rest tpre trest ws bs vs (stopped n p) st e g = g

regroup : (R T : ℕ) (pre rest tpre trest ws bs vs cs : List ℕ) (p : Progress) (st : State)
    → Agree R T (pre ++ ws) (drop (length ws) rest) (tpre ++ bs) (drop (length bs) trest) vs cs p st → Agree R T pre rest tpre trest (ws ++ vs) (bs ++ cs) p st
regroup R T pre rest tpre trest ws bs vs cs (going r t) st g =
    let a : (l xs ys : List ℕ) → drop (length ys) (drop (length xs) l) ≡ drop (length (xs ++ ys)) l =
    λ l xs ys. drop-drop (length ys) (length xs) l ∙ ap (λ (n : ℕ). drop n l) (sym (length-append xs ys)) in
    let at : At R T (pre ++ (ws ++ vs)) (drop (length (ws ++ vs)) rest) (tpre ++ (bs ++ cs)) (drop (length (bs ++ cs)) trest) r t =
    rw (← append_assoc pre ws vs, ← append_assoc tpre bs cs, ← a rest ws vs, ← a trest bs cs) g.at in
    record {
      at = at;
      is = g.is ∙ rw (append_assoc pre ws vs, append_assoc tpre bs cs, a rest ws vs, a trest bs cs);
    }
regroup R T pre rest tpre trest ws bs vs cs (stopped n p) st g = g

-- one after the other
pub then : (R T : ℕ) (pre rest tpre trest ws bs vs cs : List ℕ) (p : Progress) (es : List Event) (f : State → State) (st : State) → Stays f
    → ((r t : ℕ) → At R T (pre ++ ws) (drop (length ws) rest) (tpre ++ bs) (drop (length bs) trest) r t
    → Agree R T (pre ++ ws) (drop (length ws) rest) (tpre ++ bs) (drop (length bs) trest) vs cs (steps R T (going r t) es)
    (f (areas (pre ++ ws) (drop (length ws) rest) (tpre ++ bs) (drop (length bs) trest) r t)))
    → Agree R T pre rest tpre trest ws bs p st → Agree R T pre rest tpre trest (ws ++ vs) (bs ++ cs) (steps R T p es) (f st)
then R T pre rest tpre trest ws bs vs cs (going r t) es f st s k g =
    subst (λ (x : State). Agree R T pre rest tpre trest (ws ++ vs) (bs ++ cs) (steps R T (going r t) es) (f x)) (sym g.is)
    (regroup R T pre rest tpre trest ws bs vs cs (steps R T (going r t) es) _ (k r t g.at))
then R T pre rest tpre trest ws bs vs cs (stopped n p) es f st s k g =
    subst (λ (q : Progress). Agree R T pre rest tpre trest (ws ++ vs) (bs ++ cs) q (f st)) (sym (steps_stopped R T n p es))
    (subst (λ (x : State). Stopped n p x) (sym (s st (ap is_none g.stop))) g)

-- ---- one event

over_at : (pre rest ws : List ℕ) (i : ℕ) → length pre ≡ i → over i ws (pre ++ rest) ≡ (pre ++ ws) ++ drop (length ws) rest
over_at pre rest ws i e = rw (← e, take_at pre rest (length pre) refl, drop-append-add pre rest (length ws), append_assoc)

at_more : {R T : ℕ} {pre rest tpre trest : List ℕ} {r t : ℕ} → At R T pre rest tpre trest r t → (ws bs : List ℕ) (r' t' : ℕ)
    → length ws ≤ length rest → length bs ≤ length trest → r * 7 + length ws ≡ r' * 7 → t + length bs ≡ t' → r' ≤ 16384 → t' ≤ 65536
    → At R T (pre ++ ws) (drop (length ws) rest) (tpre ++ bs) (drop (length bs) trest) r' t'
at_more {R} {T} {pre} {rest} {tpre} {trest} {r} {t} at ws bs r' t' lw lb er et few small =
    let p = length-append pre ws in
    let q = length-append tpre bs in
    let d = length-drop (length ws) rest in
    let e = length-drop (length bs) trest in
    let a = at.rows_at in
    let b = at.text_at in
    let x = at.rows_long in
    let y = at.text_long in
    record { rows_at = omega arith; text_at = omega arith; rows_long = omega arith; text_long = omega arith; few = few; small = small }

module _ (R T : ℕ) (pre rest tpre trest : List ℕ) (r t : ℕ) (at : At R T pre rest tpre trest r t) where
  -- a row
  pub row_agrees : (kind a b : ℕ) (m : Measures)
      → Agree R T pre rest tpre trest (row_words kind a b m) [] (step R T (going r t) row) (put_row kind a b m (areas pre rest tpre trest r t))
  unfolding step put_row
  row_agrees kind a b m =
      subst
      (λ (n : ℕ).
      Agree R T pre rest tpre trest (row_words kind a b m) []
      (cond (ltb r 16384) (cond (leb (r * 7 + 7) n) (going (r + 1) t) (stopped 20 r)) (stopped 8 r))
      (put_row kind a b m (areas pre rest tpre trest r t)))
      (length-append pre rest ∙ at.rows_long)
      (go (ltb r 16384) (leb (r * 7 + 7) (length (pre ++ rest))) (ltb-true _ _) (leb-true _ _))
    where
      go : (x y : Bool) → (x ≡ true → r < 16384) → (y ≡ true → r * 7 + 7 ≤ length (pre ++ rest))
          → Agree R T pre rest tpre trest (row_words kind a b m) []
          (cond x (cond y (going (r + 1) t) (stopped 20 r)) (stopped 8 r))
          (cond x
          (cond y
          (state (over (r * 7) (row_words kind a b m) (pre ++ rest)) (tpre ++ trest) (written_at (r + 1) t))
          (state (pre ++ rest) (tpre ++ trest) (stopped_at (RowArea r) (written_at r t))))
          (state (pre ++ rest) (tpre ++ trest) (stopped_at (Document r) (written_at r t))))
      go true true f g =
          let few = f refl in
          let fits = g refl in
          let l = length-append pre rest in
          let ra = at.rows_at in
          record {
            at = at_more at (row_words kind a b m) [] (r + 1) t (omega arith) (omega arith) (omega arith) (omega arith) (omega arith) at.small;
            is =
                ap₂ (λ (x y : List ℕ). state x (y ++ trest) (written_at (r + 1) t)) (over_at pre rest (row_words kind a b m) (r * 7) ra) (sym (append-nil tpre));
          }
      go true false f g = record { by = RowArea r; stop = refl; under = refl; at = refl }
      go false y f g = record { by = Document r; stop = refl; under = refl; at = refl }

  -- a text byte
  pub byte_agrees : (b : ℕ) → Agree R T pre rest tpre trest [] (b ∷ []) (step R T (going r t) byte) (put_byte b (areas pre rest tpre trest r t))
  unfolding step put_byte
  byte_agrees b =
      subst
      (λ (n : ℕ).
      Agree R T pre rest tpre trest [] (b ∷ [])
      (cond (ltb t 65536) (cond (ltb t n) (going r (t + 1)) (stopped 21 r)) (stopped 8 r))
      (put_byte b (areas pre rest tpre trest r t)))
      (length-append tpre trest ∙ at.text_long)
      (go (ltb t 65536) (ltb t (length (tpre ++ trest))) (ltb-true _ _) (ltb-true _ _))
    where
      go : (x y : Bool) → (x ≡ true → t < 65536) → (y ≡ true → t < length (tpre ++ trest))
          → Agree R T pre rest tpre trest [] (b ∷ [])
          (cond x (cond y (going r (t + 1)) (stopped 21 r)) (stopped 8 r))
          (cond x
          (cond y
          (state (pre ++ rest) (set (tpre ++ trest) t b) (written_at r (t + 1)))
          (state (pre ++ rest) (tpre ++ trest) (stopped_at (TextArea r) (written_at r t))))
          (state (pre ++ rest) (tpre ++ trest) (stopped_at (Document r) (written_at r t))))
      go true true f g =
          let small = f refl in
          let fits = g refl in
          let l = length-append tpre trest in
          let a = at.text_at in
          record {
            at = at_more at [] (b ∷ []) r (t + 1) (omega arith) (omega arith) (omega arith) (omega arith) at.few (omega arith);
            is =
                ap₂ (λ (x y : List ℕ). state (x ++ rest) y (written_at r (t + 1))) (sym (append-nil pre))
                (sets-eq (b ∷ []) (tpre ++ trest) t (omega arith) ∙ over_at tpre trest (b ∷ []) t a);
          }
      go true false f g = record { by = TextArea r; stop = refl; under = refl; at = refl }
      go false y f g = record { by = Document r; stop = refl; under = refl; at = refl }

  -- names that come into force
  pub names_agree : (place count : ℕ) → Agree R T pre rest tpre trest [] [] (step R T (going r t) (named place count)) (put_names place count (areas pre rest tpre trest r t))
  unfolding step put_names refuse
  names_agree place count = go (leb count 1024)
    where
      go : (x : Bool) → Agree R T pre rest tpre trest [] [] (cond x (going r t) (stopped 7 place))
          (cond x (areas pre rest tpre trest r t) (state (pre ++ rest) (tpre ++ trest) (stopped_at (Names place) (written_at r t))))
      go true =
          record {
            at = at_more at [] [] r t (omega arith) (omega arith) (omega arith) (omega arith) at.few at.small;
            is = ap₂ (λ (x y : List ℕ). state (x ++ rest) (y ++ trest) (written_at r t)) (sym (append-nil pre)) (sym (append-nil tpre));
          }
      go false = record { by = Names place; stop = refl; under = refl; at = refl }

-- ---- a text

abbrev pub text_words : ℕ → ℕ → List ℕ
text_words from size = row_words 0 (from % 2 ^ 32) (size % 2 ^ 32) (record { count = 1; flat = size; first = size; has = 0 })

pub text_agrees : (R T : ℕ) (s : List ℕ) (from size : ℕ) (pre rest tpre trest : List ℕ) (r t : ℕ) → At R T pre rest tpre trest r t → from + size ≡ t + length s
    → Agree R T pre rest tpre trest (text_words from size) s (steps R T (going r t) (text_events s)) (end_text from (put_bytes s (areas pre rest tpre trest r t)))
unfolding steps text_events put_bytes end_text
text_agrees R T [] from size pre rest tpre trest r t at e =
    let z : t - from ≡ size = omega arith in
    subst (λ (n : ℕ). Agree R T pre rest tpre trest (text_words from n) [] (step R T (going r t) row) (end_text from (areas pre rest tpre trest r t))) z
    (row_agrees R T pre rest tpre trest r t at 0 (from % 2 ^ 32) ((t - from) % 2 ^ 32) (record { count = 1; flat = t - from; first = t - from; has = 0 }))
text_agrees R T (b ∷ s) from size pre rest tpre trest r t at e =
    then R T pre rest tpre trest [] (b ∷ []) (text_words from size) s (step R T (going r t) byte) (text_events s) (λ st. end_text from (put_bytes s st))
    (put_byte b (areas pre rest tpre trest r t)) (stays_text from s)
    (λ r' t' at'.
    let ta' = at'.text_at in
    let ta = at.text_at in
    let l = length-append tpre (b ∷ []) in
    text_agrees R T s from size _ _ _ _ r' t' at' (omega arith))
    (byte_agrees R T pre rest tpre trest r t at b)
