-- Strings by their bytes: when their trees are equal, and that their hashes are then.
use Prim.Native.Nat.{ℕ, zero, suc, ◌+◌, ◌-◌, ◌≤◌, ◌<◌}
use native.Mathlib.Omega.{arith}
use mathlib.Core.Bool.{Bool, true, false}
use mathlib.Core.List.{List}
use mathlib.Core.Path.{◌≡◌, refl, sym, ap, ap₂, ◌∙◌}
use lib.ListN.{length, take, drop, length-drop}
use lib.Dec.{leb, eqb}
use borrow.Author.Tests.{eqb-true, eqb-false, leb-true}
use Rattle.std.proofs.lemmas.List.{length-take-le}
use Rattle.basics.proofs.Booleans.{and-true, and_left, and_right, not_so}
use Rattle.utf8.specs.Letterlike.{same_bytes}
use Rattle.pool.specs.Tables.{Pool, S, string_word, string_at}
use Rattle.pool.specs.Rules.{rising, string_ok}
use Rattle.pool.specs.Tree.{node, none, same_shape}
use Rattle.pool.proofs.TreeLaws.{shape_equal}
use Rattle.notation.specs.Hashes.{bytes_hash}
use Rattle.notation.specs.Classes.{NamesRight, string_tree, string_hash, HashesAlike, string_table}

node_bytes : (x y : List ℕ) → node 0 x none ≡ node 0 y none → x ≡ y
node_bytes x y e = cc

hash_alike : (p : Pool) (r s : ℕ) → string_at p r ≡ string_at p s → string_hash p r ≡ string_hash p s
unfolding string_hash
hash_alike p r s e = rw e

pub string_law : HashesAlike string_table
string_law p right r s h k e = hash_alike p r s (node_bytes _ _ e)

pub bytes_test : (p : Pool) (a b : ℕ) → same_bytes (string_at p a) (string_at p b) ≡ same_shape (string_tree p a) (string_tree p b)
unfolding same_shape
bytes_test p a b = sym (and-true (same_bytes (string_at p a) (string_at p b)))

-- ---- hashes

module _ (p : Pool) (r : ℕ) where
  -- a string that keeps its rules stands in the byte area
  pub string_inside : string_ok p r ≡ true → string_word p.names r 0 + string_word p.names r 1 ≤ length p.bytes
  unfolding string_ok
  string_inside ok = leb-true (string_word p.names r 0 + string_word p.names r 1) (length p.bytes) (and_left _ _ ok)

  pub string_hash_is : string_ok p r ≡ true → (from to size n : ℕ) → from ≡ string_word p.names r 0 → size ≡ string_word p.names r 1 → to ≡ from + size
      → n ≡ bytes_hash 0 (take (to - from) (drop from p.bytes)) → size + n ≡ string_hash p r
  unfolding string_hash string_at
  string_hash_is ok from to size n e f g h =
      let inside = string_inside ok in
      let long : to - from ≡ string_word p.names r 1 = omega arith in
      let rest = length-drop (string_word p.names r 0) p.bytes in
      let all = length-take-le (string_word p.names r 1) (drop (string_word p.names r 0) p.bytes) (omega arith) in
      ap₂ ◌+◌ (f ∙ sym all) (h ∙ ap₂ (λ (k i : ℕ). bytes_hash 0 (take k (drop i p.bytes))) long e)

-- ---- a string and a lower one

rise_step : (p : Pool) (r : ℕ) → string_ok p (suc r) ≡ true → string_word p.names r 0 ≤ string_word p.names (suc r) 0
unfolding string_ok rising
rise_step p r ok =
    leb-true (string_word p.names r 0) (string_word p.names (suc r) 0)
    (and_left _ _ (and_right (leb (string_word p.names (suc r) 0 + string_word p.names (suc r) 1) (length p.bytes)) _ ok))

module _ (p : Pool) (right : NamesRight p) where
  -- offsets never fall
  pub rises : (c r : ℕ) → c ≤ r → r < S p.names → string_word p.names c 0 ≤ string_word p.names r 0
  rises c zero l h = let first : c ≡ 0 = omega arith in rw first (omega arith)
  rises c (suc r) l h = by (eqb c (suc r)) refl (λ m. rises c r m (omega arith))
    where
      by : (b : Bool) → eqb c (suc r) ≡ b → (c ≤ r → string_word p.names c 0 ≤ string_word p.names r 0) → string_word p.names c 0 ≤ string_word p.names (suc r) 0
      by true q lower = let same = ap (λ (k : ℕ). string_word p.names k 0) (eqb-true c (suc r) q) in omega arith
      by false q lower =
          let other : c ≡ suc r → ⊥ = eqb-false c (suc r) q in
          let last = rise_step p r (right.strings (suc r) h) in
          let before = lower (omega arith) in
          omega arith

  length_is : (r : ℕ) → r < S p.names → length (string_at p r) ≡ string_word p.names r 1
  unfolding string_at
  length_is r h =
      let inside = string_inside p r (right.strings r h) in
      let rest = length-drop (string_word p.names r 0) p.bytes in
      length-take-le (string_word p.names r 1) (drop (string_word p.names r 0) p.bytes) (omega arith)

  module _ (c r : ℕ) (below : c < r) (row : r < S p.names) where
    -- strings of other lengths differ
    pub lengths_differ : (m n : ℕ) → m ≡ string_word p.names c 1 → n ≡ string_word p.names r 1 → (m ≡ n → ⊥) → false ≡ same_shape (string_tree p c) (string_tree p r)
    lengths_differ m n e f d = sym (not_so _ (λ q. differ (ap length (node_bytes _ _ (shape_equal _ _ q)))))
      where
        differ : length (string_at p c) ≡ length (string_at p r) → ⊥
        differ q = d (e ∙ sym (length_is c (omega arith)) ∙ q ∙ length_is r row ∙ sym f)

    pub parts_tell : (from to m n : ℕ) → from ≡ string_word p.names c 0 → to ≡ string_word p.names r 0 → m ≡ string_word p.names c 1 → n ≡ string_word p.names r 1 → m ≡ n
        → (v : Bool) → v ≡ same_bytes (take n (drop from p.bytes)) (take n (drop (from + (to - from)) p.bytes)) → v ≡ same_shape (string_tree p c) (string_tree p r)
    unfolding string_at
    parts_tell from to m n e f g h q v t =
        let rise = rises c r (omega arith) row in
        let place : from + (to - from) ≡ string_word p.names r 0 = omega arith in
        t
        ∙ ap₂ same_bytes (ap₂ (λ (k i : ℕ). take k (drop i p.bytes)) (sym q ∙ g) e) (ap₂ (λ (k i : ℕ). take k (drop i p.bytes)) h place)
        ∙ bytes_test p c r
