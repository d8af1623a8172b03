-- UTF-8 as the specs have it, read a byte at a time, is UTF-8 as std has it: the bytes of scalar values, one after the other.
use Prim.Native.Nat.{ℕ, zero, suc, ◌+◌, ◌-◌, ◌/◌, ◌%◌, ◌≤◌, ◌<◌}
use native.Mathlib.Omega.{arith}
use mathlib.Core.Bool.{Bool, true, false, ◌||◌, cond}
use mathlib.Core.List.{List, [], ◌∷◌, ◌++◌}
use mathlib.Core.Logic.{inl, inr}
use mathlib.Core.Path.{◌≡◌, refl, sym, ap, ◌∙◌}
use lib.ListN.{length}
use lib.Dec.{ltb, leb}
use lib.Utf8.{scalar, scalars, encode, encodes, scalar_cases, low_scalar}
use borrow.Author.Tests.{ltb-true, leb-true, lt-ltb, le-ltb, le-leb, lt-leb, both_ways}
use Rattle.std.proofs.lemmas.Bool.{and_parts, cases_lt}
use Rattle.std.proofs.lemmas.Str.{IsUtf8-nil, IsUtf8-append, IsUtf8-encode, encode_ascii}
use Rattle.std.specs.Prelude.{Result, Ok, Err, MatchResult}
use Rattle.std.specs.Result.{is_ok}
use Rattle.std.specs.Str.{IsUtf8}
use Rattle.std.specs.Char.{IsScalar}
use Rattle.utf8.specs.Utf8.{utf8, utf8_from, within, with_bits, is_whole}

-- before a code point the bits do not matter
pub fresh : (bits least : ℕ) (s : List ℕ) → utf8_from 0 bits least s ≡ utf8 s
unfolding utf8 utf8_from
fresh bits least [] = refl
fresh bits least (b ∷ s) = refl

-- a byte that starts a code point of one, two, three and four bytes, and one that starts none
one : (b : ℕ) (s : List ℕ) → b < 0x80 → utf8 (b ∷ s) ≡ utf8 s
unfolding utf8 utf8_from
one b s h =
    let p : ltb b 0x80 ≡ true = lt-ltb b 0x80 h in
    let q : ltb b 0xc0 ≡ true = lt-ltb b 0xc0 (omega arith) in
    rw (p, q) (fresh b 0 s)

none : (b : ℕ) (s : List ℕ) → 0x80 ≤ b → b < 0xc0 → utf8 (b ∷ s) ≡ false
unfolding utf8 utf8_from
none b s h k =
    let p : ltb b 0x80 ≡ false = le-ltb b 0x80 h in
    let q : leb 0xc0 b ≡ false = lt-leb 0xc0 b k in
    rw (p, q) refl

two : (b : ℕ) (s : List ℕ) → 0xc0 ≤ b → b < 0xe0 → utf8 (b ∷ s) ≡ utf8_from 1 (b - 0xc0) 0x80 s
unfolding utf8 utf8_from
two b s h k =
    let p : ltb b 0x80 ≡ false = le-ltb b 0x80 (omega arith) in
    let q : leb 0xc0 b ≡ true = le-leb 0xc0 b h in
    let r : ltb b 0xf8 ≡ true = lt-ltb b 0xf8 (omega arith) in
    let t : ltb b 0xc0 ≡ false = le-ltb b 0xc0 h in
    let u : ltb b 0xe0 ≡ true = lt-ltb b 0xe0 k in
    rw (p, q, r, t, u) refl

three : (b : ℕ) (s : List ℕ) → 0xe0 ≤ b → b < 0xf0 → utf8 (b ∷ s) ≡ utf8_from 2 (b - 0xe0) 0x800 s
unfolding utf8 utf8_from
three b s h k =
    let p : ltb b 0x80 ≡ false = le-ltb b 0x80 (omega arith) in
    let q : leb 0xc0 b ≡ true = le-leb 0xc0 b (omega arith) in
    let r : ltb b 0xf8 ≡ true = lt-ltb b 0xf8 (omega arith) in
    let t : ltb b 0xc0 ≡ false = le-ltb b 0xc0 (omega arith) in
    let u : ltb b 0xe0 ≡ false = le-ltb b 0xe0 h in
    let v : ltb b 0xf0 ≡ true = lt-ltb b 0xf0 k in
    rw (p, q, r, t, u, v) refl

four : (b : ℕ) (s : List ℕ) → 0xf0 ≤ b → b < 0xf8 → utf8 (b ∷ s) ≡ utf8_from 3 (b - 0xf0) 0x10000 s
unfolding utf8 utf8_from
four b s h k =
    let p : ltb b 0x80 ≡ false = le-ltb b 0x80 (omega arith) in
    let q : leb 0xc0 b ≡ true = le-leb 0xc0 b (omega arith) in
    let r : ltb b 0xf8 ≡ true = lt-ltb b 0xf8 k in
    let t : ltb b 0xc0 ≡ false = le-ltb b 0xc0 (omega arith) in
    let u : ltb b 0xe0 ≡ false = le-ltb b 0xe0 (omega arith) in
    let v : ltb b 0xf0 ≡ false = le-ltb b 0xf0 h in
    rw (p, q, r, t, u, v) refl

far : (b : ℕ) (s : List ℕ) → 0xf8 ≤ b → utf8 (b ∷ s) ≡ false
unfolding utf8 utf8_from
far b s h =
    let p : ltb b 0x80 ≡ false = le-ltb b 0x80 (omega arith) in
    let q : leb 0xc0 b ≡ true = le-leb 0xc0 b (omega arith) in
    let r : ltb b 0xf8 ≡ false = le-ltb b 0xf8 h in
    rw (p, q, r) refl

-- a byte in the middle of a code point, and its last one
more : (n bits least x : ℕ) (s : List ℕ) → 0x80 ≤ x → x < 0xc0
    → utf8_from (suc (suc n)) bits least (x ∷ s) ≡ utf8_from (suc n) (with_bits bits x) least s
unfolding utf8_from
more n bits least x s h k =
    let p : leb 0x80 x ≡ true = le-leb 0x80 x h in
    let q : ltb x 0xc0 ≡ true = lt-ltb x 0xc0 k in
    rw (p, q) refl

or_cond : (a b : Bool) → a || b ≡ cond a true b
or_cond true b = refl
or_cond false b = refl

last : (bits least x c : ℕ) (s : List ℕ) → 0x80 ≤ x → x < 0xc0 → with_bits bits x ≡ c → least ≤ c → IsScalar c
    → utf8_from 1 bits least (x ∷ s) ≡ utf8 s
unfolding utf8 utf8_from
last bits least x c s h k e l sc =
    let p : leb 0x80 x ≡ true = le-leb 0x80 x h in
    let q : ltb x 0xc0 ≡ true = lt-ltb x 0xc0 k in
    let r : leb least c ≡ true = le-leb least c l in
    rw (p, q, e, r, or_cond (ltb c 0xd800) (within 0xe000 0x110000 c), sc) refl

-- the bytes of a scalar value, and of several, are UTF-8
encode_two : (c : ℕ) (s : List ℕ) → 0x80 ≤ c → c < 0x800 → IsScalar c
    → utf8 ((192 + c / 64) ∷ (128 + c % 64) ∷ s) ≡ utf8 s
encode_two c s a b sc =
    two _ _ (omega arith) (omega arith) ∙ last _ _ _ c s (omega arith) (omega arith) (omega arith) a sc

encode_three : (c : ℕ) (s : List ℕ) → 0x800 ≤ c → c < 0x10000 → IsScalar c
    → utf8 ((224 + c / 4096) ∷ (128 + c / 64 % 64) ∷ (128 + c % 64) ∷ s) ≡ utf8 s
encode_three c s a b sc =
    three _ _ (omega arith) (omega arith) ∙ (more _ _ _ _ _ (omega arith) (omega arith)
    ∙ last _ _ _ c s (omega arith) (omega arith) (omega arith) a sc)

encode_four : (c : ℕ) (s : List ℕ) → 0x10000 ≤ c → c < 0x110000 → IsScalar c
    → utf8 ((240 + c / 262144) ∷ (128 + c / 4096 % 64) ∷ (128 + c / 64 % 64) ∷ (128 + c % 64) ∷ s) ≡ utf8 s
encode_four c s a b sc =
    four _ _ (omega arith) (omega arith) ∙ (more _ _ _ _ _ (omega arith) (omega arith) ∙ (more _ _ _ _ _ (omega arith) (omega arith)
    ∙ last _ _ _ c s (omega arith) (omega arith) (omega arith) a sc))

scalar_below : (c : ℕ) → IsScalar c → c < 0x110000
scalar_below c sc = elim (scalar_cases c sc) [ inl h ↦ omega arith | inr h ↦ h.1 ]

encoded : (c : ℕ) (s : List ℕ) → IsScalar c → utf8 (encode c ++ s) ≡ utf8 s
unfolding encode
encoded c s sc = elim (cases_lt c 0x80) [
  | inl a ↦ rw (lt-ltb c 0x80 a) (one c s a)
  | inr a ↦ elim (cases_lt c 0x800) [
    | inl b ↦ rw (le-ltb c 0x80 a, lt-ltb c 0x800 b) (encode_two c s a b sc)
    | inr b ↦ elim (cases_lt c 0x10000) [
      | inl d ↦ rw (le-ltb c 0x80 a, le-ltb c 0x800 b, lt-ltb c 0x10000 d) (encode_three c s b d sc)
      | inr d ↦ rw (le-ltb c 0x80 a, le-ltb c 0x800 b, le-ltb c 0x10000 d) (encode_four c s d (scalar_below c sc) sc)
    ]
  ]
]

encoded_all : (cs : List ℕ) → scalars cs ≡ true → utf8 (encodes cs) ≡ true
unfolding utf8 utf8_from
encoded_all [] h = refl
encoded_all (c ∷ cs) h = let p = and_parts (scalar c) (scalars cs) h in encoded c (encodes cs) p.0 ∙ encoded_all cs p.1

pub utf8-from_IsUtf8 : (s : List ℕ) → IsUtf8 s → utf8 s ≡ true
utf8-from_IsUtf8 s h = ap utf8 (sym h.1.1) ∙ encoded_all h.0 h.1.0

-- what the specs take for a byte in the middle of a code point, and for its last one
record Middle (n bits least : ℕ) (s : List ℕ) : Type 0 where
  x : ℕ
  rest : List ℕ
  from : s ≡ x ∷ rest
  low : 0x80 ≤ x
  high : x < 0xc0
  on : utf8_from n (with_bits bits x) least rest ≡ true

middle : (n bits least : ℕ) (s : List ℕ) → utf8_from (suc (suc n)) bits least s ≡ true → Middle (suc n) bits least s
unfolding utf8_from
middle n bits least [] h = cc
middle n bits least (x ∷ s) h =
    let p = and_parts (within 0x80 0xc0 x) _ h in
    let q = and_parts (leb 0x80 x) (ltb x 0xc0) p.0 in
    record { x = x; rest = s; from = refl; low = leb-true 0x80 x q.0; high = ltb-true x 0xc0 q.1; on = p.1 }

record Last (bits least : ℕ) (s : List ℕ) : Type 0 where
  x : ℕ
  rest : List ℕ
  from : s ≡ x ∷ rest
  low : 0x80 ≤ x
  high : x < 0xc0
  least_is : least ≤ with_bits bits x
  is_scalar : IsScalar (with_bits bits x)
  on : utf8 rest ≡ true

last_of : (bits least : ℕ) (s : List ℕ) → utf8_from 1 bits least s ≡ true → Last bits least s
unfolding utf8 utf8_from
last_of bits least [] h = cc
last_of bits least (x ∷ s) h =
    let c = with_bits bits x in
    let p = and_parts (within 0x80 0xc0 x) _ h in
    let q = and_parts (leb 0x80 x) (ltb x 0xc0) p.0 in
    let r = and_parts (is_whole least c) _ p.1 in
    let t = and_parts (leb least c) _ r.0 in
    record {
      x = x;
      rest = s;
      from = refl;
      low = leb-true 0x80 x q.0;
      high = ltb-true x 0xc0 q.1;
      least_is = leb-true least c t.0;
      is_scalar = sym (or_cond (ltb c 0xd800) (within 0xe000 0x110000 c)) ∙ t.1;
      on = r.1;
    }

-- those bytes are the ones of their code point
spells_two : (b x c : ℕ) → 0xc0 ≤ b → b < 0xe0 → 0x80 ≤ x → x < 0xc0 → with_bits (b - 0xc0) x ≡ c → 0x80 ≤ c → encode c ≡ b ∷ x ∷ []
unfolding encode
spells_two b x c p q r t e l =
    let u : 192 + c / 64 ≡ b = omega arith in
    let v : 128 + c % 64 ≡ x = omega arith in
    rw (le-ltb c 128 l, lt-ltb c 2048 (omega arith), u, v) refl

spells_three : (b x y c : ℕ) → 0xe0 ≤ b → b < 0xf0 → 0x80 ≤ x → x < 0xc0 → 0x80 ≤ y → y < 0xc0
    → with_bits (with_bits (b - 0xe0) x) y ≡ c → 0x800 ≤ c → encode c ≡ b ∷ x ∷ y ∷ []
unfolding encode
spells_three b x y c p q r t r' t' e l =
    let u : 224 + c / 4096 ≡ b = omega arith in
    let v : 128 + c / 64 % 64 ≡ x = omega arith in
    let w : 128 + c % 64 ≡ y = omega arith in
    rw (le-ltb c 128 (omega arith), le-ltb c 2048 l, lt-ltb c 65536 (omega arith), u, v, w) refl

spells_four : (b x y z c : ℕ) → 0xf0 ≤ b → b < 0xf8 → 0x80 ≤ x → x < 0xc0 → 0x80 ≤ y → y < 0xc0 → 0x80 ≤ z → z < 0xc0
    → with_bits (with_bits (with_bits (b - 0xf0) x) y) z ≡ c → 0x10000 ≤ c → encode c ≡ b ∷ x ∷ y ∷ z ∷ []
unfolding encode
spells_four b x y z c p q r t r' t' r'' t'' e l =
    let u : 240 + c / 262144 ≡ b = omega arith in
    let v : 128 + c / 4096 % 64 ≡ x = omega arith in
    let w : 128 + c / 64 % 64 ≡ y = omega arith in
    let k : 128 + c % 64 ≡ z = omega arith in
    rw (le-ltb c 128 (omega arith), le-ltb c 2048 (omega arith), le-ltb c 65536 l, u, v, w, k) refl

spelled : (c : ℕ) (bs t s : List ℕ) → s ≡ bs ++ t → encode c ≡ bs → IsScalar c → IsUtf8 t → IsUtf8 s
spelled c bs t s from e sc h = rw (from, ← e) (IsUtf8-append (encode c) t (IsUtf8-encode c sc) h)

three_in_a_row : (b x y : ℕ) (s t u : List ℕ) → s ≡ x ∷ t → t ≡ y ∷ u → b ∷ s ≡ b ∷ x ∷ y ∷ u
three_in_a_row b x y s t u p q = cc

four_in_a_row : (b x y z : ℕ) (s t u v : List ℕ) → s ≡ x ∷ t → t ≡ y ∷ u → u ≡ z ∷ v → b ∷ s ≡ b ∷ x ∷ y ∷ z ∷ v
four_in_a_row b x y z s t u v p q r = cc

-- what follows the code point is UTF-8 where `next` says so of the lists that are shorter
module _ (n : ℕ) (next : (t : List ℕ) → length t ≤ n → utf8 t ≡ true → IsUtf8 t) (b : ℕ) (s : List ℕ) (len : length s ≤ n) where
  by_one : b < 0x80 → utf8 (b ∷ s) ≡ true → IsUtf8 (b ∷ s)
  by_one p h = spelled b (b ∷ []) s _ refl (encode_ascii b p) (low_scalar b (omega arith)) (next s len (sym (one b s p) ∙ h))

  by_two : 0xc0 ≤ b → b < 0xe0 → utf8 (b ∷ s) ≡ true → IsUtf8 (b ∷ s)
  by_two p q h =
      let l : Last (b - 0xc0) 0x80 s = last_of _ _ s (sym (two b s p q) ∙ h) in
      let shorter : length l.rest ≤ n = omega (arith, ap length l.from) in
      spelled (with_bits (b - 0xc0) l.x) (b ∷ l.x ∷ []) l.rest _ (ap (λ (t : List ℕ). b ∷ t) l.from)
      (spells_two b l.x _ p q l.low l.high refl l.least_is) l.is_scalar (next l.rest shorter l.on)

  by_three : 0xe0 ≤ b → b < 0xf0 → utf8 (b ∷ s) ≡ true → IsUtf8 (b ∷ s)
  by_three p q h =
      let m : Middle 1 (b - 0xe0) 0x800 s = middle 0 _ _ s (sym (three b s p q) ∙ h) in
      let l : Last (with_bits (b - 0xe0) m.x) 0x800 m.rest = last_of _ _ m.rest m.on in
      let shorter : length l.rest ≤ n = omega (arith, ap length m.from, ap length l.from) in
      spelled (with_bits (with_bits (b - 0xe0) m.x) l.x) (b ∷ m.x ∷ l.x ∷ []) l.rest _ (three_in_a_row b _ _ _ _ _ m.from l.from)
      (spells_three b m.x l.x _ p q m.low m.high l.low l.high refl l.least_is) l.is_scalar (next l.rest shorter l.on)

  by_four : 0xf0 ≤ b → b < 0xf8 → utf8 (b ∷ s) ≡ true → IsUtf8 (b ∷ s)
  by_four p q h =
      let k : Middle 2 (b - 0xf0) 0x10000 s = middle 1 _ _ s (sym (four b s p q) ∙ h) in
      let m : Middle 1 (with_bits (b - 0xf0) k.x) 0x10000 k.rest = middle 0 _ _ k.rest k.on in
      let l : Last (with_bits (with_bits (b - 0xf0) k.x) m.x) 0x10000 m.rest = last_of _ _ m.rest m.on in
      let shorter : length l.rest ≤ n = omega (arith, ap length k.from, ap length m.from, ap length l.from) in
      spelled (with_bits (with_bits (with_bits (b - 0xf0) k.x) m.x) l.x) (b ∷ k.x ∷ m.x ∷ l.x ∷ []) l.rest _ (four_in_a_row b _ _ _ _ _ _ _ k.from m.from l.from)
      (spells_four b k.x m.x l.x _ p q k.low k.high m.low m.high l.low l.high refl l.least_is) l.is_scalar (next l.rest shorter l.on)

  by_any : utf8 (b ∷ s) ≡ true → IsUtf8 (b ∷ s)
  by_any h = elim (cases_lt b 0x80) [
    | inl p ↦ by_one p h
    | inr p ↦ elim (cases_lt b 0xc0) [
      | inl q ↦ absurd (both_ways _ (none b s p q) h)
      | inr q ↦ elim (cases_lt b 0xe0) [
        | inl r ↦ by_two q r h
        | inr r ↦ elim (cases_lt b 0xf0) [
          | inl t ↦ by_three r t h
          | inr t ↦ elim (cases_lt b 0xf8) [ inl u ↦ by_four t u h | inr u ↦ absurd (both_ways _ (far b s u) h) ]
        ]
      ]
    ]
  ]

IsUtf8_below : (n : ℕ) (s : List ℕ) → length s ≤ n → utf8 s ≡ true → IsUtf8 s
IsUtf8_below n [] len h = IsUtf8-nil
IsUtf8_below zero (b ∷ s) len h = absurd (omega arith)
IsUtf8_below (suc n) (b ∷ s) len h = by_any n (IsUtf8_below n) b s (omega arith) h

pub IsUtf8-from_utf8 : (s : List ℕ) → utf8 s ≡ true → IsUtf8 s
IsUtf8-from_utf8 s h = IsUtf8_below (length s) s (omega arith) h

-- what std's test answers
pub utf8_is : {A E : Type 0} (P : A → Type 0) (Q : E → Type 0) (s : List ℕ) (r : Result A E) (t : Bool)
    → MatchResult r (λ a. P a × IsUtf8 s) (λ e. ¬ (IsUtf8 s) × Q e) → t ≡ is_ok r → t ≡ utf8 s
utf8_is P Q s (Ok a) t h e = e ∙ sym (utf8-from_IsUtf8 s h.1)
utf8_is P Q s (Err a) t h e = e ∙ sym (not-true_false (utf8 s) (λ k. h.0 (IsUtf8-from_utf8 s k)))
  where
    not-true_false : (b : Bool) → ¬ (b ≡ true) → b ≡ false
    not-true_false true k = absurd (k refl)
    not-true_false false k = refl
