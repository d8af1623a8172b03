-- Laws of parts of the byte area that stand in it once more: what two equal parts say of its bytes, and what these say of two parts.
use Prim.Native.Nat.{ℕ, zero, suc, ◌+◌, ◌-◌, ◌*◌, ◌/◌, ◌≤◌, ◌<◌, min, max}
use native.Mathlib.Omega.{arith}
use mathlib.Core.Bool.{Bool, true, false}
use mathlib.Core.List.{List}
use mathlib.Core.Path.{◌≡◌, refl, sym, ap, ap₂, ◌∙◌, subst}
use lib.ListN.{length, get_or, take, drop, length-drop}
use lib.Dec.{ltb, eqb}
use borrow.Author.Tests.{ltb-true, ltb-false}
use Rattle.std.proofs.lemmas.List.{ext_get_or, get_or-drop, get_or-take, length-take-le}
use Rattle.std.proofs.Math.Nat.{div-mul-le_self}
use Rattle.std.specs.Cmp.Lexicographic.{pointwise}
use Rattle.basics.proofs.Booleans.{both_ways, not_so, false-true}
use Rattle.utf8.specs.Letterlike.{same_bytes}
use Rattle.utf8.proofs.Classes.{same_bytes_is}
use Rattle.pool.proofs.TreeLaws.{bytes_equal, bytes_same}
use Rattle.std.specs.Prelude.{Some}
use Rattle.notation.specs.declared.runs.Parts.{Parts}
use Rattle.notation.specs.Repeats.{RepeatsFrom, equal_parts, StandFor}

part_at : (bytes : List ℕ) (n at i : ℕ) → i < n → get_or (take n (drop at bytes)) i 0 ≡ get_or bytes (at + i) 0
part_at bytes n at i l = get_or-take n (drop at bytes) i 0 l ∙ get_or-drop at bytes i 0

part_length : (bytes : List ℕ) (n at : ℕ) → at + n ≤ length bytes → length (take n (drop at bytes)) ≡ n
part_length bytes n at l = let rest = length-drop at bytes in length-take-le n (drop at bytes) (omega arith)

-- bytes that are there once more are a part that is there once more
repeats_part : (bytes : List ℕ) (shift from n : ℕ) → from + shift + n ≤ length bytes → RepeatsFrom bytes shift from (from + n)
    → take n (drop from bytes) ≡ take n (drop (from + shift) bytes)
repeats_part bytes shift from n inside repeats =
    let long = part_length bytes n from (omega arith) in
    ext_get_or 0 _ _ (long ∙ sym (part_length bytes n (from + shift) inside)) (λ i l. by i (omega arith))
  where
    by : (i : ℕ) → i < n → get_or (take n (drop from bytes)) i 0 ≡ get_or (take n (drop (from + shift) bytes)) i 0
    by i l =
        let place : from + i + shift ≡ from + shift + i = omega arith in
        part_at bytes n from i l ∙ repeats (from + i) (omega arith) (omega arith) ∙ ap (λ (k : ℕ). get_or bytes k 0) place ∙ sym (part_at bytes n (from + shift) i l)

part_repeats : (bytes : List ℕ) (shift from n : ℕ) → take n (drop from bytes) ≡ take n (drop (from + shift) bytes) → RepeatsFrom bytes shift from (from + n)
part_repeats bytes shift from n e k l m =
    let here : k ≡ from + (k - from) = omega arith in
    let there : from + shift + (k - from) ≡ k + shift = omega arith in
    ap (λ (i : ℕ). get_or bytes i 0) here ∙ sym (part_at bytes n from (k - from) (omega arith)) ∙ ap (λ (s : List ℕ). get_or s (k - from) 0) e
    ∙ part_at bytes n (from + shift) (k - from) (omega arith) ∙ ap (λ (i : ℕ). get_or bytes i 0) there

pub moved : (bytes : List ℕ) (shift other from to : ℕ) → shift ≡ other → RepeatsFrom bytes shift from to → RepeatsFrom bytes other from to
moved bytes shift other from to e repeats k l m = repeats k l m ∙ ap (λ (i : ℕ). get_or bytes (k + i) 0) e

-- ---- a comparison of the bytes that are not known

module _ (bytes : List ℕ) (shift from to : ℕ) (order : from ≤ to) (inside : to + shift ≤ length bytes) (v : Bool)
    (h : v ≡ pointwise eqb (take (to - from) (drop from bytes)) (take (to + shift - (from + shift)) (drop (from + shift) bytes))) where
  read_bytes : v ≡ same_bytes (take (to - from) (drop from bytes)) (take (to - from) (drop (from + shift) bytes))
  read_bytes =
      let long : to + shift - (from + shift) ≡ to - from = omega arith in
      h ∙ same_bytes_is _ _ ∙ ap (λ (k : ℕ). same_bytes (take (to - from) (drop from bytes)) (take k (drop (from + shift) bytes))) long

  pub read_repeats : v ≡ true → RepeatsFrom bytes shift from to
  read_repeats t k l m = part_repeats bytes shift from (to - from) (bytes_equal _ _ (sym read_bytes ∙ t)) k l (omega arith)

  pub read_differs : v ≡ false → RepeatsFrom bytes shift from to → ⊥
  read_differs f repeats =
      let equal = repeats_part bytes shift from (to - from) (omega arith) (λ k l m. repeats k l (omega arith)) in
      false-true (sym f ∙ read_bytes ∙ ap (λ (s : List ℕ). same_bytes s (take (to - from) (drop (from + shift) bytes))) equal
      ∙ bytes_same (take (to - from) (drop (from + shift) bytes)))

module _ (bytes : List ℕ) (at shift n : ℕ) (inside : at + shift + n ≤ length bytes) where
  pub parts_same : RepeatsFrom bytes shift at (at + n) → true ≡ same_bytes (take n (drop at bytes)) (take n (drop (at + shift) bytes))
  parts_same repeats =
      sym (ap (λ (s : List ℕ). same_bytes s (take n (drop (at + shift) bytes))) (repeats_part bytes shift at n inside repeats)
      ∙ bytes_same (take n (drop (at + shift) bytes)))

  pub parts_differ : (RepeatsFrom bytes shift at (at + n) → ⊥) → false ≡ same_bytes (take n (drop at bytes)) (take n (drop (at + shift) bytes))
  parts_differ differ = sym (not_so _ (λ q. differ (part_repeats bytes shift at n (bytes_equal _ _ q))))

-- what is known, and the bytes before and after it
pub repeats_more : (bytes : List ℕ) (at shift end from to low high : ℕ) → from ≤ end → at ≤ to → at ≤ end → low ≡ max from at → high ≡ min to end
    → RepeatsFrom bytes shift from to → RepeatsFrom bytes shift at low → RepeatsFrom bytes shift high end → RepeatsFrom bytes shift (min from at) (max to end)
repeats_more bytes at shift end from to low high l m order e f known first last k i j = by (ltb k from) refl (ltb k to) refl
  where
    by : (b : Bool) → ltb k from ≡ b → (d : Bool) → ltb k to ≡ d → get_or bytes k 0 ≡ get_or bytes (k + shift) 0
    by true q d r = let before : k < from = ltb-true k from q in first k (omega arith) (omega arith)
    by false q true r = known k (ltb-false k from q) (ltb-true k to r)
    by false q false r = let past : to ≤ k = ltb-false k to r in last k (omega arith) (omega arith)

-- the same bytes need no reading
pub same_place : (bytes : List ℕ) (at shift n : ℕ) → shift ≡ 0 → true ≡ same_bytes (take n (drop at bytes)) (take n (drop (at + shift) bytes))
same_place bytes at shift n e =
    let here : at + shift ≡ at = omega arith in
    sym (ap (λ (k : ℕ). same_bytes (take n (drop at bytes)) (take n (drop k bytes))) here ∙ bytes_same (take n (drop at bytes)))

-- ---- parts that repeat many times

-- what repeats after some bytes does so after any times as many
repeats_times : (bytes : List ℕ) (step from to : ℕ) → RepeatsFrom bytes step from to → (times k : ℕ) → from ≤ k → k + times * step < to + step
    → get_or bytes k 0 ≡ get_or bytes (k + times * step) 0
repeats_times bytes step from to repeats zero k l m = let here : k ≡ k + 0 * step = omega arith in ap (λ (i : ℕ). get_or bytes i 0) here
repeats_times bytes step from to repeats (suc times) k l m =
    let more : suc times * step ≡ times * step + step = omega arith in
    let last : k + times * step + step ≡ k + suc times * step = omega arith in
    repeats_times bytes step from to repeats times k l (omega arith)
    ∙ repeats (k + times * step) (omega arith) (omega arith) ∙ ap (λ (i : ℕ). get_or bytes i 0) last

one_step : (times step : ℕ) → (times * step ≡ 0 → ⊥) → step ≤ times * step
one_step zero step n = absurd (n (omega arith))
one_step (suc times) step n = let more : suc times * step ≡ times * step + step = omega arith in omega arith

-- a part stands again so many steps after it
times_part : (bytes : List ℕ) (at n step times far reach : ℕ) → far ≡ times * step → reach + step ≡ far + n → at + far + n ≤ length bytes
    → true ≡ equal_parts bytes at step reach → take n (drop at bytes) ≡ take n (drop (at + far) bytes)
times_part bytes at n step times far reach e f inside h =
    repeats_part bytes far at n inside (λ k l m. repeats_times bytes step at _ repeats times k l (omega arith) ∙ ap (λ (i : ℕ). get_or bytes (k + i) 0) (sym e))
  where
    repeats : RepeatsFrom bytes step at (at + reach)
    repeats = part_repeats bytes step at reach (bytes_equal _ _ (sym h))

same_back : (x y : List ℕ) → same_bytes x y ≡ same_bytes y x
same_back x y = both_ways _ _ (back x y) (back y x)
  where
    back : (x y : List ℕ) → same_bytes x y ≡ true → same_bytes y x ≡ true
    back x y e = ap (same_bytes y) (bytes_equal x y e) ∙ bytes_same y

module _ (bytes : List ℕ) (at shift n step : ℕ) (inside : at + shift + n ≤ length bytes) where
  -- the part that is as many steps on as are not past the other
  pub nearer_low : (shift / step * step ≡ 0 → ⊥) → true ≡ equal_parts bytes at step (shift / step * step - step + n)
      → StandFor bytes at shift n record { at = at + shift / step * step; shift = shift - shift / step * step }
  nearer_low some h =
      let one = one_step (shift / step) step some in
      let low = div-mul-le_self shift step in
      let end : at + shift / step * step + (shift - shift / step * step) ≡ at + shift = omega arith in
      let part = times_part bytes at n step (shift / step) (shift / step * step) (shift / step * step - step + n) refl (omega arith) (omega arith) h in
      record { inside = omega arith; same = ap₂ (λ (s : List ℕ) (k : ℕ). same_bytes s (take n (drop k bytes))) (sym part) end }

  -- the part that is one step more on, and so past the other
  pub nearer_past : (past : ℕ) → past + shift ≡ shift / step * step + step → at + shift + past + n ≤ length bytes
      → true ≡ equal_parts bytes at step (shift / step * step + n) → StandFor bytes at shift n record { at = at + shift; shift = past }
  nearer_past past e fits h =
      let times : shift / step * step + step ≡ suc (shift / step) * step = omega arith in
      let end : at + shift + past ≡ at + (shift / step * step + step) = omega arith in
      let part = times_part bytes at n step (suc (shift / step)) (shift / step * step + step) (shift / step * step + n) times (omega arith) (omega arith) h in
      record {
        inside = fits;
        same = ap (λ (k : ℕ). same_bytes (take n (drop (at + shift) bytes)) (take n (drop k bytes))) end
            ∙ ap (same_bytes (take n (drop (at + shift) bytes))) (sym part) ∙ same_back _ _;
      }

  pub nearer_is : (q r : Parts) → Some q ≡ Some r → StandFor bytes at shift n q → StandFor bytes at shift n r
  nearer_is q r e stand = let same : q ≡ r = cc in subst (StandFor bytes at shift n) same stand
