-- Laws of emitting: what the printers' pieces make of a document's parts.
use Prim.Native.Nat.{ℕ, zero, suc, ◌+◌, ◌*◌, ◌/◌, ◌%◌, ◌^◌, ◌<◌, ◌≤◌}
use native.Mathlib.Nat.{mod-eq_of_lt, pow-suc}
use native.Mathlib.Omega.{arith}
use mathlib.Core.Bool.{Bool, true, false, cond}
use mathlib.Core.List.{List, [], ◌∷◌, ◌++◌}
use mathlib.Core.Path.{◌≡◌, refl, ap, ap₂, ◌∙◌}
use lib.Dec.{ltb, eqb}
use borrow.Author.Tests.{lt-ltb, le-ltb, eqb-true}
use Rattle.basics.proofs.Booleans.{and_left, and_right}
use Rattle.utf8.specs.Letterlike.{same_bytes}
use Rattle.std.specs.Option.{is_none}
use lib.ListN.{length, get_or}
use Rattle.document.specs.Walk.{Marked, textᵐ, joinᵐ}
use Rattle.document.specs.Sink.{State, written_of, put_byte, put_bytes, put_text, emit}
use Rattle.document.proofs.Steps.{byte_stays, bytes_stay, emit_stays}
use Rattle.document.proofs.Areas as areas
use Rattle.pieces.specs.Docs.{tile_from, G, line, ◌⊹◌, quoted, Parenable, under, digits_to, digits}
use Rattle.pieces.specs.Tiles.{end_tile, put_tile}
use Rattle.pieces.specs.Parens.{open_if, close_if}

-- ---- a stopped sink stays as it is

pub byte_stopped : (b : ℕ) (st : State) → is_none (written_of st).stop ≡ false → put_byte b st ≡ st
byte_stopped = byte_stays

pub bytes_stopped : (bs : List ℕ) (st : State) → is_none (written_of st).stop ≡ false → put_bytes bs st ≡ st
bytes_stopped = bytes_stay

pub emit_stopped : (d : Marked) (st : State) → is_none (written_of st).stop ≡ false → emit d st ≡ st
emit_stopped = emit_stays

-- ---- words

-- a text of one byte
pub one_byte : (bs : List ℕ) (st : State) → length bs ≡ 1 → put_text (get_or bs 0 0 ∷ []) st ≡ put_text bs st
one_byte [] st e = absurd (omega arith)
one_byte (b ∷ []) st e = refl
one_byte (b ∷ (d ∷ bs)) st e = absurd (omega arith)

-- a text that is put as a word
pub text_emits : (bs : List ℕ) (d : Marked) (st : State) → textᵐ bs ≡ d → put_text bs st ≡ emit d st
unfolding emit
text_emits bs d st e = ap (λ (x : Marked). emit x st) e

-- ---- parentheses

pub under_emits : (outer : ℕ) (q : Parenable) (st : State)
    → emit (under outer q) st ≡ close_if (ltb q.inner outer) (emit q.doc (open_if (ltb q.inner outer) st))
unfolding under emit quoted open_if close_if
under_emits outer q st = go (ltb q.inner outer)
  where
    go : (b : Bool) → emit (cond b (joinᵐ (joinᵐ (quoted "(") q.doc) (quoted ")")) q.doc) st ≡ close_if b (emit q.doc (open_if b st))
    go true = refl
    go false = refl

-- ---- bytes

pub bytes-append : (a b : List ℕ) (st : State) → put_bytes (a ++ b) st ≡ put_bytes b (put_bytes a st)
bytes-append = areas.bytes-append

-- the test of equal bytes
pub same_eq : (xs ys : List ℕ) → same_bytes xs ys ≡ true → xs ≡ ys
unfolding same_bytes
same_eq [] [] e = refl
same_eq [] (y ∷ ys) e = cc
same_eq (x ∷ xs) [] e = cc
same_eq (x ∷ xs) (y ∷ ys) e =
    ap₂ (λ (z : ℕ) (zs : List ℕ). z ∷ zs) (eqb-true x y (and_left (eqb x y) (same_bytes xs ys) e)) (same_eq xs ys (and_right (eqb x y) (same_bytes xs ys) e))

-- ---- digits

digits_last : (k n : ℕ) → 10 ≤ n → digits_to (suc k) n ≡ digits_to k (n / 10) ++ ((48 + n % 10) ∷ [])
unfolding digits_to
digits_last k n g = rw (le-ltb n 10 g)

byte_only : (b : ℕ) (st : State) → put_bytes (b ∷ []) st ≡ put_byte b st
unfolding put_bytes
byte_only b st = refl

-- more digits than a number has change nothing
digits_more : (k n : ℕ) → n < 10 ^ suc k → digits_to (suc k) n ≡ digits_to (suc (suc k)) n
unfolding digits_to
digits_more zero n h = rw (lt-ltb n 10 h)
digits_more (suc k) n h =
    ap (λ (ds : List ℕ). cond (ltb n 10) ((48 + n) ∷ []) (ds ++ ((48 + n % 10) ∷ [])))
    (digits_more k (n / 10) (let e : 10 ^ suc (suc k) ≡ 10 ^ suc k * 10 = pow-suc 10 (suc k) in let l : n < 10 ^ suc k * 10 = omega arith in omega arith))

pub digits_one : (n : ℕ) (st : State) → n < 10 → put_bytes (digits n) st ≡ put_byte (48 + n % 10) st
unfolding digits digits_to put_bytes
digits_one n st h = rw (lt-ltb n 10 h, mod-eq_of_lt h)

pub digits_on : (n : ℕ) (st : State) → n < 2 ^ 64 → 10 ≤ n → put_bytes (digits n) st ≡ put_byte (48 + n % 10) (put_bytes (digits (n / 10)) st)
unfolding digits
digits_on n st h g =
    ap (λ (ds : List ℕ). put_bytes ds st) (last ∙ ap (λ (ds : List ℕ). ds ++ ((48 + n % 10) ∷ [])) (digits_more 18 (n / 10) (omega arith)))
    ∙ bytes-append (digits_to 20 (n / 10)) ((48 + n % 10) ∷ []) st
    ∙ one
  where
    last : digits_to 20 n ≡ digits_to 19 (n / 10) ++ ((48 + n % 10) ∷ [])
    last = digits_last 19 n g

    one : put_bytes ((48 + n % 10) ∷ []) (put_bytes (digits_to 20 (n / 10)) st) ≡ put_byte (48 + n % 10) (put_bytes (digits_to 20 (n / 10)) st)
    one = byte_only _ _

-- ---- tiles

pub tile_emits : (d : Marked) (ds : List Marked) (st : State) → put_tile ds (emit d st) ≡ emit (tile_from d ds) st
unfolding put_tile end_tile tile_from emit
tile_emits d [] st = refl
tile_emits d (x ∷ ds) st = tile_emits (d ⊹ G (line ⊹ x)) ds st
