-- Laws of the hashes of bytes: of bytes that come after others, and how the hash of those alone is had back.
use Prim.Native.Nat.{ℕ, suc, ◌+◌, ◌-◌, ◌*◌, ◌/◌, ◌%◌, ◌^◌, ◌≤◌, ◌<◌, min, max}
use native.Mathlib.Omega.{arith}
use mathlib.Core.List.{List, [], ◌∷◌, ◌++◌}
use mathlib.Core.Path.{◌≡◌, refl, sym, ap, ap₂, ◌∙◌, subst}
use lib.ListN.{length, get_or, set, take, drop, length-drop}
use lib.Seq.{drop-cons, take-add}
use Rattle.std.proofs.Common.{add-one}
use Rattle.std.proofs.Math.Nat.{add-mod-mod, mod-add-mod, pow-suc, lt-div-mul-add, div-mul-le_self, div-lt_iff_lt-mul}
use Rattle.std.proofs.lemmas.Nat.{mul-mod, mul-mod_first, mul-mod_second, pow-add}
use Rattle.std.proofs.lemmas.List.{length-take-le}
use Rattle.pool.proofs.Clips.{part_clip, drop_all}
use Rattle.pool.proofs.Unfolds.{depths_more}
use Rattle.notation.specs.Hashes.{bytes_hash, gap, MarkedBelow, Marked}

-- ---- bytes, one after the other

pub bytes_step : (s : List ℕ) (h i b : ℕ) → i < length s → b ≡ get_or s i 0 → bytes_hash ((h * 16777619 + b) % 2147483647) (drop (i + 1) s) ≡ bytes_hash h (drop i s)
unfolding bytes_hash
bytes_step s h i b l e = rw (e, add-one, drop-cons s i 0)

pub bytes_end : (s : List ℕ) (h i : ℕ) → length s ≤ i → bytes_hash h (drop i s) ≡ h
unfolding bytes_hash
bytes_end s h i l = ap (bytes_hash h) (drop_all i s l)

pub hash_small : (h : ℕ) (s : List ℕ) → h < 2147483647 → bytes_hash h s < 2147483647
unfolding bytes_hash
hash_small h [] l = l
hash_small h (b ∷ s) l = hash_small ((h * 16777619 + b) % 2147483647) s (omega arith)

pub hash_append : (h : ℕ) (s t : List ℕ) → bytes_hash h (s ++ t) ≡ bytes_hash (bytes_hash h s) t
unfolding bytes_hash
hash_append h [] t = refl
hash_append h (b ∷ s) t = hash_append ((h * 16777619 + b) % 2147483647) s t

-- the hash of more bytes of an area
pub hash_on : (bytes : List ℕ) (h at more : ℕ) → h ≡ bytes_hash 0 (take at bytes) → bytes_hash h (take more (drop at bytes)) ≡ bytes_hash 0 (take (at + more) bytes)
hash_on bytes h at more e =
    ap (λ (k : ℕ). bytes_hash k (take more (drop at bytes))) e ∙ sym (hash_append 0 (take at bytes) (take more (drop at bytes))) ∙ ap (bytes_hash 0) (sym (take-add at more bytes))

-- ---- the share that the bytes before have in a hash

module _ (base m : ℕ) where
  sum_mod : (a b : ℕ) → (a % m + b % m) % m ≡ (a + b) % m
  sum_mod a b = add-mod-mod (a % m) b m ∙ mod-add-mod a m b

  share_sum : (h b p z : ℕ) → (h * base + b) * p + z ≡ h * (p * base) + (b * p + z)
  share_sum h b p z = omega arith

  share_step : (h b p z : ℕ) → ((h * base + b) % m * p + z) % m ≡ (h * (p * base) + (b % m * p + z) % m) % m
  share_step h b p z =
      left (h * base + b) ∙ ap (λ (k : ℕ). k % m) (share_sum h b p z) ∙ sym (add-mod-mod (h * (p * base)) (b * p + z) m)
      ∙ sym (ap (λ (k : ℕ). (h * (p * base) + k) % m) (left b))
    where
      left : (a : ℕ) → (a % m * p + z) % m ≡ (a * p + z) % m
      left a = sym (mod-add-mod (a % m * p) m z) ∙ ap (λ (k : ℕ). (k + z) % m) (mul-mod_first a p m) ∙ mod-add-mod (a * p) m z

hash_share : (s : List ℕ) (h : ℕ) → h < 2147483647 → bytes_hash h s ≡ (h * 16777619 ^ length s + bytes_hash 0 s) % 2147483647
unfolding bytes_hash
hash_share [] h l = omega arith
hash_share (b ∷ s) h l =
    hash_share s ((h * 16777619 + b) % 2147483647) (omega arith)
    ∙ share_step 16777619 2147483647 h b (16777619 ^ length s) (bytes_hash 0 s)
    ∙ sym (ap₂ (λ (p z : ℕ). (h * p + z) % 2147483647) (pow-suc 16777619 (length s)) (ap (λ (k : ℕ). bytes_hash k s) none ∙ hash_share s (b % 2147483647) (omega arith)))
  where
    none : (0 * 16777619 + b) % 2147483647 ≡ b % 2147483647
    none = omega arith

-- the share is taken away
back : (c y z : ℕ) → c < 2147483647 → z < 2147483647 → y ≡ (c + z) % 2147483647 → (y + 2147483647 - c) % 2147483647 ≡ z
back c y z l m e = omega arith

-- the hash of a part, of the bytes before it and of the bytes before its end
module _ (bytes : List ℕ) (from to before power whole : ℕ) (order : from ≤ to) (inside : to ≤ length bytes) (e : before ≡ bytes_hash 0 (take from bytes))
    (f : power ≡ 16777619 ^ (to - from) % 2147483647) (g : whole ≡ bytes_hash 0 (take to bytes)) where
  abbrev s : List ℕ
  s = take (to - from) (drop from bytes)

  long : length s ≡ to - from
  long = let rest = length-drop from bytes in length-take-le (to - from) (drop from bytes) (omega arith)

  start : before < 2147483647
  start = rw e (hash_small 0 (take from bytes) (omega arith))

  whole_share : whole ≡ (before * 16777619 ^ length s + bytes_hash 0 s) % 2147483647
  whole_share =
      let end : from + (to - from) ≡ to = omega arith in
      g ∙ ap (λ (k : ℕ). bytes_hash 0 (take k bytes)) (sym end) ∙ sym (hash_on bytes before from (to - from) e) ∙ hash_share s before start

  share : before * power % 2147483647 ≡ before * 16777619 ^ length s % 2147483647
  share = ap (λ (k : ℕ). before * k % 2147483647) (f ∙ ap (λ (k : ℕ). 16777619 ^ k % 2147483647) (sym long)) ∙ mul-mod_second before (16777619 ^ length s) 2147483647

  shared : whole ≡ (before * power % 2147483647 + bytes_hash 0 s) % 2147483647
  shared =
      whole_share ∙ sym (mod-add-mod (before * 16777619 ^ length s) 2147483647 (bytes_hash 0 s))
      ∙ ap (λ (k : ℕ). (k + bytes_hash 0 s) % 2147483647) (sym share)

  pub hash_between : (whole + 2147483647 - before * power % 2147483647) % 2147483647 ≡ bytes_hash 0 s
  hash_between = back (before * power % 2147483647) whole (bytes_hash 0 s) (omega arith) (hash_small 0 s (omega arith)) shared

-- ---- powers, by squares

pub power_even : (n half square : ℕ) → half ≡ 16777619 ^ (n / 2) % 2147483647 → square ≡ half * half % 2147483647 → n % 2 ≡ 0 → square ≡ 16777619 ^ n % 2147483647
power_even n half square e f even =
    let twice : n / 2 + n / 2 ≡ n = omega arith in
    f ∙ ap (λ (k : ℕ). k * k % 2147483647) e ∙ sym (mul-mod (16777619 ^ (n / 2)) (16777619 ^ (n / 2)) 2147483647)
    ∙ ap (λ (k : ℕ). k % 2147483647) (sym (pow-add 16777619 (n / 2) (n / 2))) ∙ ap (λ (k : ℕ). 16777619 ^ k % 2147483647) twice

pub power_odd : (n half square : ℕ) → half ≡ 16777619 ^ (n / 2) % 2147483647 → square ≡ half * half % 2147483647 → (n % 2 ≡ 0 → ⊥)
    → square * 16777619 % 2147483647 ≡ 16777619 ^ n % 2147483647
power_odd n half square e f odd =
    let low : (n - 1) / 2 ≡ n / 2 = omega arith in
    let even : (n - 1) % 2 ≡ 0 = omega arith in
    let next : suc (n - 1) ≡ n = omega arith in
    ap (λ (k : ℕ). k * 16777619 % 2147483647) (power_even (n - 1) half square (e ∙ ap (λ (k : ℕ). 16777619 ^ k % 2147483647) (sym low)) f even)
    ∙ mul-mod_first (16777619 ^ (n - 1)) 16777619 2147483647 ∙ ap (λ (k : ℕ). k % 2147483647) (sym (pow-suc 16777619 (n - 1)))
    ∙ ap (λ (k : ℕ). 16777619 ^ k % 2147483647) next

-- ---- marks

pub marks_begin : (bytes : List ℕ) (apart : ℕ) → 0 ≡ bytes_hash 0 (take (0 * apart) bytes)
unfolding bytes_hash
marks_begin bytes apart = let none : 0 * apart ≡ 0 = omega arith in sym (ap (λ (n : ℕ). bytes_hash 0 (take n bytes)) none)

pub mark_more : (bytes : List ℕ) (apart : ℕ) (marks : List ℕ) (k hash : ℕ) → k < length marks → MarkedBelow bytes apart marks k
    → hash ≡ bytes_hash 0 (take (k * apart) bytes) → MarkedBelow bytes apart (set marks k hash) (k + 1)
mark_more bytes apart marks k hash l marked e = depths_more marks (λ (i : ℕ). bytes_hash 0 (take (i * apart) bytes)) k hash l marked e

-- from one mark to the next
pub mark_next : (bytes : List ℕ) (apart k at end h v : ℕ) → at ≡ min (k * apart) (length bytes) → end ≡ min (at + apart) (length bytes)
    → h ≡ bytes_hash 0 (take (k * apart) bytes) → v ≡ bytes_hash h (take (end - at) (drop at bytes))
    → (end ≡ min ((k + 1) * apart) (length bytes)) × (v ≡ bytes_hash 0 (take ((k + 1) * apart) bytes))
mark_next bytes apart k at end h v e f g q =
    let next : (k + 1) * apart ≡ k * apart + apart = omega arith in
    let last : end ≡ min (k * apart + apart) (length bytes) = omega arith in (
      last ∙ ap (λ (n : ℕ). min n (length bytes)) (sym next),
      q ∙ ap (bytes_hash h) (part_clip bytes (k * apart) apart at end e last) ∙ hash_on bytes h (k * apart) apart g
          ∙ ap (λ (n : ℕ). bytes_hash 0 (take n bytes)) (sym next),
    )

-- every place of the area comes soon after a mark
mark_there : (bytes : List ℕ) (count n : ℕ) → 0 < count → n ≤ length bytes → n / gap bytes count < count
mark_there bytes count n some inside =
    let same : max count 1 ≡ count = omega arith in
    let past : length bytes < length bytes / count * count + count = lt-div-mul-add some in
    let all : count * gap bytes count ≡ length bytes / count * count + count =
    ap (λ (k : ℕ). count * (length bytes / k + 1)) same ∙ times (length bytes / count) in
    (div-lt_iff_lt-mul {k = gap bytes count} (omega arith)).1 (omega arith)
  where
    times : (d : ℕ) → count * (d + 1) ≡ d * count + count
    times d = omega arith

module _ (bytes marks : List ℕ) (n apart : ℕ) (some : 0 < length marks) (inside : n ≤ length bytes) (marked : Marked bytes marks) (e : apart ≡ gap bytes (length marks)) where
  mark_is : get_or marks (n / apart) 0 ≡ bytes_hash 0 (take (n / apart * apart) bytes)
  mark_is =
      marked (n / apart) (subst (λ (a : ℕ). n / a < length marks) (sym e) (mark_there bytes (length marks) n some inside))
      ∙ ap (λ (a : ℕ). bytes_hash 0 (take (n / apart * a) bytes)) (sym e)

  pub mark_small : get_or marks (n / apart) 0 < 2147483647
  mark_small = rw mark_is (hash_small 0 (take (n / apart * apart) bytes) (omega arith))

  pub hash_from_mark : (v : ℕ) → v ≡ bytes_hash (get_or marks (n / apart) 0) (take (n - n / apart * apart) (drop (n / apart * apart) bytes)) → v ≡ bytes_hash 0 (take n bytes)
  hash_from_mark v f =
      let low = div-mul-le_self n apart in
      let end : n / apart * apart + (n - n / apart * apart) ≡ n = omega arith in
      f ∙ hash_on bytes _ (n / apart * apart) (n - n / apart * apart) mark_is ∙ ap (λ (k : ℕ). bytes_hash 0 (take k bytes)) end
