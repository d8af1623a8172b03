-- Names by their last components and the classes of what those are made of: when their trees are equal, and that their hashes are then.
use Prim.Native.Nat.{ℕ, zero, suc, ◌≤◌, ◌<◌}
use native.Mathlib.Omega.{arith}
use mathlib.Core.Bool.{Bool, true, false, not, ◌&&◌}
use mathlib.Core.List.{List}
use mathlib.Core.Path.{◌≡◌, refl, sym, ap, ap₂, ◌∙◌, subst}
use lib.Dec.{ltb, eqb}
use borrow.Author.Tests.{ltb-true, eq-eqb, ne_eqb}
use denote.Enum.Bare.{sameb}
use Rattle.std.specs.Prelude.{Option}
use Rattle.std.specs.Option.{option_eq}
use Rattle.basics.proofs.Booleans.{and_left, and_right, and-true, false-true}
use Rattle.utf8.specs.Letterlike.{same_bytes}
use Rattle.pool.specs.Tables.{Pool, S, N, name_word, string_at}
use Rattle.pool.specs.Codes.{Stands, name_code}
use Rattle.pool.specs.contracts.kinds.NameKind.{the_type as NameType}
use Rattle.pool.proofs.Standing.{names_placed, kinds_one, kinds_two}
use Rattle.pool.specs.Kinds.{name_kind, stringᵏ}
use Rattle.pool.specs.Tree.{Name, anonymous, string, number, node, none, name_shape, same_shape}
use Rattle.pool.specs.Unfold.{name_node, name_at}
use Rattle.pool.specs.Rules.{name_fields_ok, name_ok}
use Rattle.pool.proofs.TreeLaws.{label, labels_differ, shape_same}
use Rattle.pool.proofs.Unfolds.{NamesKept, name_unfolds}
use Rattle.notation.specs.Hashes.{mixed}
use Rattle.notation.specs.Classes.{NamesRight, lowest, string_tree, name_tree, number_at, name_hash, name_hash_by, HashesAlike, name_table}
use Rattle.notation.proofs.Classing.{alike_lowest, lowest_test}
use Rattle.notation.proofs.StringClasses.{bytes_test}

names_kept : (p : Pool) → NamesRight p → NamesKept p (N p.names)
unfolding name_ok
names_kept p right j h = and_left (name_fields_ok p.names j (name_kind (name_word p.names j 0))) _ (right.names j h)

-- ---- a row by its kind

module _ (p : Pool) (right : NamesRight p) (r : ℕ) (h : r < N p.names) where
  abbrev nw : ℕ → ℕ
  nw k = name_word p.names r k

  node_at : (k : ℕ) → nw 0 ≡ k → name_at p r ≡ name_node p (name_at p) r (name_kind k)
  node_at k e = name_unfolds p (N p.names) (names_kept p right) r h ∙ ap (λ (i : ℕ). name_node p (name_at p) r (name_kind i)) e

  kept_at : (k : ℕ) → nw 0 ≡ k → name_fields_ok p.names r (name_kind k) ≡ true
  kept_at k e = subst (λ (i : ℕ). name_fields_ok p.names r (name_kind i) ≡ true) e (names_kept p right r h)

  anonymous_is : nw 0 ≡ 0 → name_at p r ≡ anonymous
  unfolding name_kind name_node
  anonymous_is e = node_at 0 e

  string_is : nw 0 ≡ 1 → name_at p r ≡ string (name_at p (nw 1)) (string_at p (nw 2))
  unfolding name_kind name_node
  string_is e = node_at 1 e

  number_is : nw 0 ≡ 2 → name_at p r ≡ number (name_at p (nw 1)) (number_at p r)
  unfolding name_kind name_node
  number_is e = node_at 2 e

  string_fields : name_fields_ok p.names r stringᵏ ≡ true → (nw 1 < r) × (nw 2 < S p.names)
  unfolding name_fields_ok
  string_fields ok =
      let ok2 = and_right (ltb (nw 1) r) _ ok in
      (ltb-true (nw 1) r (and_left (ltb (nw 1) r) _ ok), ltb-true (nw 2) (S p.names) (and_left (ltb (nw 2) (S p.names)) _ ok2))

  -- what a row with a string refers to is there
  pub string_refers : nw 0 ≡ 1 → (nw 1 < r) × (nw 2 < S p.names)
  unfolding name_kind
  string_refers e = string_fields (kept_at 1 e)

  pub number_refers : nw 0 ≡ 2 → nw 1 < r
  unfolding name_kind name_fields_ok
  number_refers e = ltb-true (nw 1) r (kept_at 2 e)

  small : (k : ℕ) → name_fields_ok p.names r (name_kind k) ≡ true → k < 3
  unfolding name_kind name_fields_ok
  small zero ok = omega arith
  small (suc zero) ok = omega arith
  small (suc (suc zero)) ok = omega arith
  small (suc (suc (suc k))) ok = false-true ok

  pub kind_small : nw 0 < 3
  kind_small = small (nw 0) (names_kept p right r h)

  -- a fact for each kind
  by_kind : (P : ℕ → Type 0) → P 0 → P 1 → P 2 → (k : ℕ) → k < 3 → P k
  by_kind P a b c zero l = a
  by_kind P a b c (suc zero) l = b
  by_kind P a b c (suc (suc zero)) l = c
  by_kind P a b c (suc (suc (suc k))) l = absurd (omega arith)

  pub label_is : label (name_tree p r) ≡ nw 0
  unfolding name_shape label
  label_is =
      by_kind (λ (k : ℕ). nw 0 ≡ k → label (name_tree p r) ≡ nw 0)
      (λ e. ap (λ (n : Name). label (name_shape n)) (anonymous_is e) ∙ sym e)
      (λ e. ap (λ (n : Name). label (name_shape n)) (string_is e) ∙ sym e)
      (λ e. ap (λ (n : Name). label (name_shape n)) (number_is e) ∙ sym e)
      (nw 0) kind_small refl

-- the word of a kind that was found
pub word_of : (w : ℕ) (j k : NameType.D) → name_code j ≡ w → j ≡ k → w ≡ name_code k
word_of w j k e q = sym e ∙ ap name_code q

-- a test of two things, where the first is known
pub first_equal : (x y u v : ℕ) {s : Bool} → eqb x y && eqb u v ≡ s → x ≡ y → eqb u v ≡ s
first_equal x y u v h e = sym (ap (λ (b : Bool). b && eqb u v) (eq-eqb x y e)) ∙ h

pub first_unequal : (x y u v : ℕ) {s : Bool} → eqb x y && eqb u v ≡ s → (x ≡ y → ⊥) → eqb x y ≡ s
first_unequal x y u v h n = ne_eqb x y n ∙ sym (ap (λ (b : Bool). b && eqb u v) (ne_eqb x y n)) ∙ h

-- ---- hashes

hash_at : (p : Pool) (r k : ℕ) → name_word p.names r 0 ≡ k → name_hash_by p r (name_kind k) ≡ name_hash p r
unfolding name_hash
hash_at p r k e = sym (ap (λ (i : ℕ). name_hash_by p r (name_kind i)) e)

pub hash_anonymous : (p : Pool) (r : ℕ) → name_word p.names r 0 ≡ 0 → 0 ≡ name_hash p r
unfolding name_hash_by name_kind
hash_anonymous p r e = hash_at p r 0 e

pub hash_string : (p : Pool) (r x y : ℕ) → name_word p.names r 0 ≡ 1 → x ≡ lowest (name_tree p) (name_word p.names r 1)
    → y ≡ lowest (string_tree p) (name_word p.names r 2) → mixed 1 x y ≡ name_hash p r
unfolding name_hash_by name_kind
hash_string p r x y e a b = ap₂ (mixed 1) a b ∙ hash_at p r 1 e

pub hash_number : (p : Pool) (r x n : ℕ) → name_word p.names r 0 ≡ 2 → x ≡ lowest (name_tree p) (name_word p.names r 1) → n ≡ number_at p r
    → mixed 2 x n ≡ name_hash p r
unfolding name_hash_by name_kind
hash_number p r x n e a b = ap₂ (mixed 2) a b ∙ hash_at p r 2 e

-- ---- equal trees

string_parts : (a b : Name) (x y : List ℕ) → name_shape (string a x) ≡ name_shape (string b y) → (x ≡ y) × (name_shape a ≡ name_shape b)
unfolding name_shape
string_parts a b x y e = (cc, cc)

number_parts : (a b : Name) (x y : ℕ) → name_shape (number a x) ≡ name_shape (number b y) → (x ≡ y) × (name_shape a ≡ name_shape b)
unfolding name_shape
number_parts a b x y e = (cc, cc)

string_tests : (a b : Name) (x y : List ℕ) → same_shape (name_shape (string a x)) (name_shape (string b y)) ≡ same_bytes x y && same_shape (name_shape a) (name_shape b)
unfolding name_shape same_shape
string_tests a b x y = rw (and-true (same_shape (name_shape a) (name_shape b)))

number_tests : (a b : Name) (x y : ℕ) → same_shape (name_shape (number a x)) (name_shape (number b y)) ≡ eqb x y && same_shape (name_shape a) (name_shape b)
unfolding name_shape same_shape same_bytes
number_tests a b x y = rw (and-true (same_shape (name_shape a) (name_shape b)), and-true (eqb x y))

module _ (p : Pool) (right : NamesRight p) (c r : ℕ) (l : c < N p.names) (h : r < N p.names) where
  abbrev wc : ℕ → ℕ
  wc k = name_word p.names c k

  abbrev wr : ℕ → ℕ
  wr k = name_word p.names r k

  pub kinds_differ : (wc 0 ≡ wr 0 → ⊥) → false ≡ same_shape (name_tree p c) (name_tree p r)
  kinds_differ n = sym (labels_differ _ _ (λ e. n (sym (label_is p right c l) ∙ e ∙ label_is p right r h)))

  module _ (o q : Option NameType.D) (s : Stands name_code 2 (wc 0) o) (t : Stands name_code 2 (wr 0) q) (v : Bool) (e : v ≡ not (option_eq (sameb NameType) o q)) where
    low : wc 0 ≤ 2
    low = let k = kind_small p right c l in omega arith

    pub kinds_equal : v ≡ false → wc 0 ≡ wr 0
    kinds_equal = kinds_one NameType name_code 2 (wc 0) names_placed o s (wr 0) q t low v e

    pub kinds_unequal : v ≡ true → false ≡ same_shape (name_tree p c) (name_tree p r)
    kinds_unequal f = kinds_differ (kinds_two NameType name_code 2 (wc 0) names_placed o s (wr 0) q t low v e f)

  pub both_anonymous : wc 0 ≡ 0 → wr 0 ≡ 0 → true ≡ same_shape (name_tree p c) (name_tree p r)
  both_anonymous e q = sym (rw (anonymous_is p right c l e, anonymous_is p right r h q) (shape_same (name_shape anonymous)))

  pub both_string : (x y u v : ℕ) → wc 0 ≡ 1 → wr 0 ≡ 1 → x ≡ lowest (string_tree p) (wc 2) → y ≡ lowest (string_tree p) (wr 2)
      → u ≡ lowest (name_tree p) (wc 1) → v ≡ lowest (name_tree p) (wr 1) → eqb x y && eqb u v ≡ same_shape (name_tree p c) (name_tree p r)
  both_string x y u v e q ex ey eu ev =
      ap₂ ◌&&◌ (ap₂ eqb ex ey ∙ lowest_test (string_tree p) (wc 2) (wr 2) ∙ sym (bytes_test p (wc 2) (wr 2))) (ap₂ eqb eu ev ∙ lowest_test (name_tree p) (wc 1) (wr 1))
      ∙ sym (string_tests _ _ _ _)
      ∙ sym (ap₂ (λ (a b : Name). same_shape (name_shape a) (name_shape b)) (string_is p right c l e) (string_is p right r h q))

  pub both_number : (x y u v : ℕ) → wc 0 ≡ 2 → wr 0 ≡ 2 → x ≡ number_at p c → y ≡ number_at p r
      → u ≡ lowest (name_tree p) (wc 1) → v ≡ lowest (name_tree p) (wr 1) → eqb x y && eqb u v ≡ same_shape (name_tree p c) (name_tree p r)
  both_number x y u v e q ex ey eu ev =
      ap₂ ◌&&◌ (ap₂ eqb ex ey) (ap₂ eqb eu ev ∙ lowest_test (name_tree p) (wc 1) (wr 1))
      ∙ sym (number_tests _ _ _ _)
      ∙ sym (ap₂ (λ (a b : Name). same_shape (name_shape a) (name_shape b)) (number_is p right c l e) (number_is p right r h q))

  alike_anonymous : wc 0 ≡ 0 → wr 0 ≡ 0 → name_hash p c ≡ name_hash p r
  alike_anonymous e q = sym (hash_anonymous p c e) ∙ hash_anonymous p r q

  alike_string : name_tree p c ≡ name_tree p r → wc 0 ≡ 1 → wr 0 ≡ 1 → name_hash p c ≡ name_hash p r
  alike_string t e q =
      let parts = string_parts _ _ _ _ (sym (ap name_shape (string_is p right c l e)) ∙ t ∙ ap name_shape (string_is p right r h q)) in
      let strings = ap (λ (s : List ℕ). node 0 s none) parts.0 in
      sym (hash_string p c _ _ e (alike_lowest (name_tree p) (wr 1) (wc 1) (sym parts.1)) (alike_lowest (string_tree p) (wr 2) (wc 2) (sym strings)))
      ∙ hash_string p r _ _ q refl refl

  alike_number : name_tree p c ≡ name_tree p r → wc 0 ≡ 2 → wr 0 ≡ 2 → name_hash p c ≡ name_hash p r
  alike_number t e q =
      let parts = number_parts _ _ _ _ (sym (ap name_shape (number_is p right c l e)) ∙ t ∙ ap name_shape (number_is p right r h q)) in
      sym (hash_number p c _ _ e (alike_lowest (name_tree p) (wr 1) (wc 1) (sym parts.1)) (sym parts.0)) ∙ hash_number p r _ _ q refl refl

  hashes_alike : name_tree p c ≡ name_tree p r → name_hash p c ≡ name_hash p r
  hashes_alike t =
      let kinds = sym (label_is p right c l) ∙ ap label t ∙ label_is p right r h in
      by_kind p right c l (λ (k : ℕ). wc 0 ≡ k → name_hash p c ≡ name_hash p r)
      (λ e. alike_anonymous e (sym kinds ∙ e)) (λ e. alike_string t e (sym kinds ∙ e)) (λ e. alike_number t e (sym kinds ∙ e))
      (wc 0) (kind_small p right c l) refl

pub name_law : HashesAlike name_table
name_law p right r s h k e = hashes_alike p right r s h k e
