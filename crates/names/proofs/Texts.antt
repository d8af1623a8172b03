-- Laws of names' texts: a name's text from that of the name before its last component.
use Prim.Native.Nat.{ℕ, ◌+◌, ◌≤◌}
use native.Mathlib.Omega.{arith}
use mathlib.Core.Bool.{Bool, true, false, cond}
use mathlib.Core.List.{List, [], ◌∷◌, ◌++◌}
use mathlib.Core.Path.{◌≡◌, refl, sym, ap, ◌∙◌}
use lib.ListN.{length, set}
use lib.Dec.{ltb, eqb}
use borrow.Author.Tests.{eq-eqb, eqb-true}
use Rattle.utf8.specs.Quoted.{bytes, encode}
use Rattle.utf8.specs.Letterlike.{plain}
use Rattle.std.specs.Prelude.{is_none}
use Rattle.document.specs.declared.written.Written.{Written}
use Rattle.document.specs.declared.written.Stop.TheVariants.{Document, TextArea}
use Rattle.document.specs.Sink.{State, written_of, stopped_at, put_byte, put_bytes, put_text, emit}
use Rattle.document.specs.Sink.State.{state}
use Rattle.pool.specs.Tree.{Name, anonymous, string, number}
use Rattle.pieces.specs.Docs.{digits}
use Rattle.names.specs.Names.{escaped, dotted, joined, is_anonymous, name_text, name_doc, is_hygienic}
use Rattle.names.specs.Components.{prefix_of, component, is_number, is_hyg, put_dot}
use Rattle.pieces.proofs.Emitting.{byte_stopped, bytes_stopped, bytes-append}

absurd_bool : {P : Type 0} → ◌≡◌ {A = Bool} true false → P
absurd_bool q = absurd (let z : ◌≡◌ {A = ℕ} 0 1 = cc in omega arith)

-- ---- components

pub number_named : (n : Name) → is_number n ≡ true → is_anonymous n ≡ false
unfolding is_number is_anonymous
number_named anonymous a = sym a
number_named (string p s) a = refl
number_named (number p k) a = refl

pub hygienic_on : (n : Name) → is_number n ≡ true → is_hygienic (prefix_of n) ≡ is_hygienic n
unfolding is_number is_hygienic prefix_of
hygienic_on anonymous a = refl
hygienic_on (string p s) a = absurd_bool (sym a)
hygienic_on (number p k) a = refl

pub hygienic_here : (n : Name) → is_number n ≡ false → is_hyg n ≡ is_hygienic n
unfolding is_number is_hygienic is_hyg
hygienic_here anonymous a = refl
hygienic_here (string p s) a = refl
hygienic_here (number p k) a = absurd_bool a

-- ---- the dot

-- the text never shrinks
byte_grows : (b : ℕ) (st : State) → (written_of st).text ≤ (written_of (put_byte b st)).text
unfolding put_byte
byte_grows b (state rows text s) = go (is_none s.stop) (ltb s.text 65536) (ltb s.text (length text))
  where
    go : (x y z : Bool)
        → s.text ≤ (written_of (cond x (cond y (cond z
        (state rows (set text s.text b) (record { rows = s.rows; text = s.text + 1; stop = s.stop }))
        (state rows text (stopped_at (TextArea s.rows) s))) (state rows text (stopped_at (Document s.rows) s))) (state rows text s))).text
    go true true true = omega arith
    go true true false = omega arith
    go true false z = omega arith
    go false y z = omega arith

grows : (bs : List ℕ) (st : State) → (written_of st).text ≤ (written_of (put_bytes bs st)).text
unfolding put_bytes
grows [] st = omega arith
grows (b ∷ bs) st =
    let x = byte_grows b st in
    let y = grows bs (put_byte b st) in
    omega arith

-- where it has not grown by some bytes, the sink has stopped
not_grown : (b : ℕ) (bs : List ℕ) (st : State) → (written_of (put_bytes bs (put_byte b st))).text ≡ (written_of st).text
    → is_none (written_of (put_bytes bs (put_byte b st))).stop ≡ false
unfolding put_byte
not_grown b bs (state rows text s) h = go (is_none s.stop) (ltb s.text 65536) (ltb s.text (length text)) refl h
  where
    more : Written
    more = record { rows = s.rows; text = s.text + 1; stop = s.stop }

    after : Bool → Bool → Bool → State
    after x y z =
        cond x (cond y (cond z (state rows (set text s.text b) more) (state rows text (stopped_at (TextArea s.rows) s))) (state rows text (stopped_at (Document s.rows) s))) (state rows text s)

    stays : (st : State) → is_none (written_of st).stop ≡ false → is_none (written_of (put_bytes bs st)).stop ≡ false
    stays st e = ap (λ (x : State). is_none (written_of x).stop) (bytes_stopped bs st e) ∙ e

    go : (x y z : Bool) → is_none s.stop ≡ x → (written_of (put_bytes bs (after x y z))).text ≡ s.text → is_none (written_of (put_bytes bs (after x y z))).stop ≡ false
    go true true true e h = absurd (omega (arith, grows bs (state rows (set text s.text b) more)))
    go true true false e h = stays (state rows text (stopped_at (TextArea s.rows) s)) refl
    go true false z e h = stays (state rows text (stopped_at (Document s.rows) s)) refl
    go false y z e h = stays (state rows text s) e

dot_on : (p c : List ℕ) (st : State) → put_bytes c (put_dot (written_of st).text (put_bytes p st)) ≡ put_bytes (dotted p c) st
unfolding dotted put_dot put_bytes
dot_on [] c st = rw (eq-eqb (written_of st).text (written_of st).text refl)
dot_on (b ∷ p) c st = ap (put_bytes c) (go (eqb (written_of x).text (written_of st).text) refl) ∙ sym (bytes-append p (46 ∷ c) (put_byte b st))
  where
    x : State
    x = put_bytes p (put_byte b st)

    go : (t : Bool) → eqb (written_of x).text (written_of st).text ≡ t → cond t x (put_byte 46 x) ≡ put_byte 46 x
    go true e = sym (byte_stopped 46 x (not_grown b p st (eqb-true _ _ e)))
    go false e = refl

pub joined_none : (n : Name) (st : State) → is_anonymous n ≡ true → st ≡ put_bytes (joined n) st
unfolding is_anonymous joined put_bytes
joined_none anonymous st a = refl
joined_none (string p s) st a = absurd_bool (sym a)
joined_none (number p k) st a = absurd_bool (sym a)

pub joined_on : (n : Name) (st : State) → is_anonymous n ≡ false
    → put_bytes (component n) (put_dot (written_of st).text (put_bytes (joined (prefix_of n)) st)) ≡ put_bytes (joined n) st
unfolding is_anonymous component joined prefix_of
joined_on anonymous st a = absurd_bool a
joined_on (string p s) st a = dot_on (joined p) (escaped s) st
joined_on (number p k) st a = dot_on (joined p) (digits k) st

dot_stopped : (from : ℕ) (st : State) → is_none (written_of st).stop ≡ false → put_dot from st ≡ st
unfolding put_dot
dot_stopped from st e = go (eqb (written_of st).text from)
  where
    go : (b : Bool) → cond b st (put_byte 46 st) ≡ st
    go true = refl
    go false = byte_stopped 46 st e

-- after a refusal the last component adds nothing
pub joined_stopped : (n p : Name) (st after : State) → is_anonymous n ≡ false → p ≡ prefix_of n → after ≡ put_bytes (joined p) st
    → is_none (written_of after).stop ≡ false → after ≡ put_bytes (joined n) st
joined_stopped n p st after a q h e =
    sym (ap (put_bytes (component n)) (dot_stopped (written_of st).text after e) ∙ bytes_stopped (component n) after e)
    ∙ ap (λ (x : State). put_bytes (component n) (put_dot (written_of st).text x)) (h ∙ ap (λ (x : Name). put_bytes (joined x) st) q)
    ∙ joined_on n st a

-- ---- marks

pub escaped-plain : (s : List ℕ) (st : State) → plain s ≡ true → put_bytes s st ≡ put_bytes (escaped s) st
unfolding escaped
escaped-plain s st e = rw e

pub escaped_odd : (s : List ℕ) (st : State) → plain s ≡ false
    → put_bytes (194 ∷ 187 ∷ []) (put_bytes s (put_bytes (194 ∷ 171 ∷ []) st)) ≡ put_bytes (escaped s) st
unfolding escaped bytes encode
escaped_odd s st e =
    rw e (sym (bytes-append s (194 ∷ 187 ∷ []) (put_bytes (194 ∷ 171 ∷ []) st)) ∙ sym (bytes-append (194 ∷ 171 ∷ []) (s ++ (194 ∷ 187 ∷ [])) st))

-- ---- the document

pub doc_anonymous : (n : Name) (st : State) → is_anonymous n ≡ true → put_text (bytes "«»") st ≡ emit (name_doc n) st
unfolding name_doc name_text emit
doc_anonymous n st e = rw e

pub doc_joined : (n : Name) (st : State) → is_anonymous n ≡ false → put_text (joined n) st ≡ emit (name_doc n) st
unfolding name_doc name_text emit
doc_joined n st e = rw e
