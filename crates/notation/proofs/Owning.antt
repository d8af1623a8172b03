-- Which notation row gives the operator of a class of names, and of a name.
use Prim.Native.Nat.{ℕ, zero, suc, ◌+◌, ◌≤◌, ◌<◌}
use native.Mathlib.Omega.{arith}
use mathlib.Core.Bool.{Bool, true, false, ◌||◌, cond}
use mathlib.Core.List.{List}
use mathlib.Core.Path.{◌≡◌, refl, sym, ap, ◌∙◌, subst}
use lib.ListN.{length, get_or, set}
use lib.Seq.{get_or-set_same, get_or-set_other}
use lib.Dec.{ltb, eqb}
use borrow.Author.Tests.{ltb-true, ltb-false, lt-ltb, eqb-true, eqb-false}
use Rattle.std.specs.Prelude.{is_none}
use Rattle.basics.proofs.Booleans.{and_left, and-false, not_so, false-true, or-true}
use Rattle.byte_check.specs.Scan.{first_bad, found}
use Rattle.byte_check.proofs.Scan.{found_none}
use Rattle.pool.specs.Tables.{Pool, N, T, notation_word}
use Rattle.pool.specs.Tree.{Name, Shape, same_shape}
use Rattle.pool.specs.Unfold.{name_at}
use Rattle.pool.specs.Notation.{operator_name, same_name, notation_fields_ok, given_before, notation_ok}
use Rattle.pool.proofs.TreeLaws.{shape_equal, shape_same}
use Rattle.notation.specs.Classes.{Classed, name_tree}
use Rattle.notation.specs.Tables.{FieldsRight, entry_from, entry_of, Operators, owned_class, Owned}
use Rattle.notation.proofs.Classing.{IsFirst, first_is, lowest_is, alike_lowest, lowest_alike}

-- ---- a row that is not ok

found_from : (ok : ℕ → Bool) (count r v : ℕ) → IsFirst ok count 0 v → r < count → ok r ≡ false → v < count
found_from ok count r v first l e = by (ltb r v) refl
  where
    by : (b : Bool) → ltb r v ≡ b → v < count
    by true q = absurd (false-true (sym e ∙ first.right r (omega arith) (ltb-true r v q)))
    by false q = let m : v ≤ r = ltb-false r v q in omega arith

-- where a row is not ok, one is found
pub found_bad : (ok : ℕ → Bool) (count r : ℕ) → r < count → ok r ≡ false → is_none (found ok count) ≡ false
unfolding found
found_bad ok count r l e = rw (lt-ltb (first_bad ok count 0) count (found_from ok count r _ (first_is ok count 0) l e))

pub found_right : (ok : ℕ → Bool) (count : ℕ) → ((k : ℕ) → k < count → ok k ≡ true) → true ≡ is_none (found ok count)
found_right ok count h = ap is_none (found_none ok count h)

pub fields_wrong : (p : Pool) (r : ℕ) → notation_fields_ok p r ≡ false → notation_ok p r ≡ false
unfolding notation_ok
fields_wrong p r e = rw e

-- ---- the entry of a name

module _ (p : Pool) (n : Name) where
  abbrev has : ℕ → Bool
  has k = same_name (operator_name p k) n

  none_from : (left r : ℕ) → ((k : ℕ) → k < r + left → has k ≡ false) → entry_from p n left r ≡ 0
  unfolding entry_from
  none_from zero r h = refl
  none_from (suc left) r h = rw (h r (omega arith)) (none_from left (suc r) (λ k l. h k (omega arith)))

  first_from : (left r t : ℕ) → r ≤ t → t < r + left → ((k : ℕ) → k < t → has k ≡ false) → has t ≡ true → entry_from p n left r ≡ suc t
  unfolding entry_from
  first_from zero r t l m h e = absurd (omega arith)
  first_from (suc left) r t l m h e = by (eqb r t) refl (λ i j. first_from left (suc r) t i j h e)
    where
      by : (b : Bool) → eqb r t ≡ b → (suc r ≤ t → t < suc r + left → entry_from p n left (suc r) ≡ suc t)
          → cond (has r) (suc r) (entry_from p n left (suc r)) ≡ suc t
      by true q next = let here : r ≡ t = eqb-true r t q in rw (ap has here ∙ e) (ap suc here)
      by false q next =
          let other : r ≡ t → ⊥ = eqb-false r t q in
          rw (h r (omega arith)) (next (omega arith) (omega arith))

  pub no_entry : ((k : ℕ) → k < T p.words → has k ≡ false) → entry_of p n ≡ 0
  no_entry h = none_from (T p.words) 0 (λ k l. h k (omega arith))

  pub entry_is : (t : ℕ) → t < T p.words → ((k : ℕ) → k < t → has k ≡ false) → has t ≡ true → entry_of p n ≡ suc t
  entry_is t l h e = first_from (T p.words) 0 t (omega arith) (omega arith) h e

-- ---- the classes that notation rows own

pub owned_more : (p : Pool) (classes owners : List ℕ) (r class : ℕ) → class ≡ owned_class p classes r → class < length owners → get_or owners class 0 ≡ 0
    → Owned p classes owners r → Owned p classes (set owners class (r + 1)) (r + 1)
owned_more p classes owners r class own l free owned = record { owner = λ c t q. owner c t q (eqb c class) refl; all = λ t i. all t i (eqb t r) refl }
  where
    owner : (c t : ℕ) → get_or (set owners class (r + 1)) c 0 ≡ suc t → (b : Bool) → eqb c class ≡ b → (t < r + 1) × (owned_class p classes t ≡ c)
    owner c t q true g =
        let here : c ≡ class = eqb-true c class g in
        let new = sym (get_or-set_same owners class (r + 1) 0 l) ∙ ap (λ (k : ℕ). get_or (set owners class (r + 1)) k 0) (sym here) ∙ q in
        let last : t ≡ r = omega arith in
        (omega arith, ap (owned_class p classes) last ∙ sym own ∙ sym here)
    owner c t q false g =
        let other : c ≡ class → ⊥ = eqb-false c class g in
        let old = owned.owner c t (sym (get_or-set_other owners class c (r + 1) 0 other) ∙ q) in
        (omega arith, old.1)

    all : (t : ℕ) → t < r + 1 → (b : Bool) → eqb t r ≡ b → get_or (set owners class (r + 1)) (owned_class p classes t) 0 ≡ suc t
    all t i true g =
        let here : t ≡ r = eqb-true t r g in
        let value : r + 1 ≡ suc t = omega arith in
        ap (λ (c : ℕ). get_or (set owners class (r + 1)) c 0) (ap (owned_class p classes) here ∙ sym own) ∙ get_or-set_same owners class (r + 1) 0 l ∙ value
    all t i false g =
        let other : t ≡ r → ⊥ = eqb-false t r g in
        let old = owned.all t (omega arith) in
        get_or-set_other owners class (owned_class p classes t) (r + 1) 0 (λ q. taken t old q) ∙ old
      where
        taken : (t : ℕ) → get_or owners (owned_class p classes t) 0 ≡ suc t → owned_class p classes t ≡ class → ⊥
        taken t old q = let z = sym (ap (λ (c : ℕ). get_or owners c 0) q ∙ free) ∙ old in absurd (omega arith)

module _ (p : Pool) (fields : FieldsRight p) (classes : List ℕ) (classed : Classed (name_tree p) classes (N p.names)) where
  fields_name : (t : ℕ) → notation_fields_ok p t ≡ true → notation_word p.words t 0 < N p.names
  unfolding notation_fields_ok
  fields_name t e = ltb-true (notation_word p.words t 0) (N p.names) (and_left (ltb (notation_word p.words t 0) (N p.names)) _ e)

  pub name_row : (t : ℕ) → t < T p.words → notation_word p.words t 0 < N p.names
  name_row t l = fields_name t (fields t l)

  pub class_row : (r : ℕ) → r < N p.names → get_or classes r 0 < N p.names
  class_row r l = let low = (lowest_is (name_tree p) r).low in let e = classed r l in omega arith

  pub class_owned : (t : ℕ) → t < T p.words → owned_class p classes t < N p.names
  class_owned t l = class_row _ (name_row t l)

  -- two rows of a class have one name
  one_class : (r s : ℕ) → r < N p.names → s < N p.names → get_or classes r 0 ≡ get_or classes s 0 → same_name (name_at p r) (name_at p s) ≡ true
  one_class r s l m e =
      let trees = lowest_alike (name_tree p) r s (sym (classed r l) ∙ e ∙ classed s m) in
      subst (λ (x : Shape). same_shape (name_tree p r) x ≡ true) trees (shape_same (name_tree p r))

  other_class : (r s : ℕ) → r < N p.names → s < N p.names → (get_or classes r 0 ≡ get_or classes s 0 → ⊥) → same_name (name_at p r) (name_at p s) ≡ false
  other_class r s l m n = not_so _ (λ h. n (classed r l ∙ alike_lowest (name_tree p) r s (shape_equal _ _ h) ∙ sym (classed s m)))

  module _ (owners : List ℕ) (n : ℕ) (few : n ≤ T p.words) (owned : Owned p classes owners n) where
    twice : (k r : ℕ) → k < r → r < n → owned_class p classes k ≡ owned_class p classes r → ⊥
    twice k r l m e =
        let first = owned.all k (omega arith) in
        let second = ap (λ (c : ℕ). get_or owners c 0) e ∙ owned.all r m in
        omega arith

    not_before : (r : ℕ) → r < n → (count : ℕ) → count ≤ r → given_before p r count ≡ false
    unfolding given_before
    not_before r l zero m = refl
    not_before r l (suc count) m =
        rw (other_class _ _ (name_row count (omega arith)) (name_row r (omega arith)) (twice count r (omega arith) l)) (not_before r l count (omega arith))

    -- the rows before row n keep their rules
    pub row_right : (r : ℕ) → r < n → notation_ok p r ≡ true
    unfolding notation_ok
    row_right r l = rw (fields r (omega arith), not_before r l r (omega arith))

    given_at : (r t : ℕ) → same_name (operator_name p t) (operator_name p r) ≡ true → (count : ℕ) → t < count → given_before p r count ≡ true
    unfolding given_before
    given_at r t e zero l = absurd (omega arith)
    given_at r t e (suc count) l = by (eqb t count) refl (λ m. given_at r t e count m)
      where
        by : (b : Bool) → eqb t count ≡ b → (t < count → given_before p r count ≡ true)
            → same_name (operator_name p count) (operator_name p r) || given_before p r count ≡ true
        by true q next = rw (← eqb-true t count q, e)
        by false q next =
            let other : t ≡ count → ⊥ = eqb-false t count q in
            rw (next (omega arith)) (or-true _)

    row_given : (r : ℕ) → given_before p r r ≡ true → notation_ok p r ≡ false
    unfolding notation_ok
    row_given r e = rw e (and-false _)

    -- row n does not, where its class is owned
    pub row_wrong : n < T p.words → (get_or owners (owned_class p classes n) 0 ≡ 0 → ⊥) → notation_ok p n ≡ false
    row_wrong l taken = by _ refl
      where
        by : (v : ℕ) → get_or owners (owned_class p classes n) 0 ≡ v → notation_ok p n ≡ false
        by zero q = absurd (taken q)
        by (suc t) q =
            let owner = owned.owner (owned_class p classes n) t q in
            row_given n (given_at n t (one_class _ _ (name_row t (omega arith)) (name_row n l) owner.1) n owner.0)

  module _ (owners : List ℕ) (owned : Owned p classes owners (T p.words)) where
    entry_owned : (r : ℕ) → r < N p.names → (v : ℕ) → get_or owners (get_or classes r 0) 0 ≡ v → v ≡ entry_of p (name_at p r)
    entry_owned r l zero q = sym (no_entry p (name_at p r) (λ k m. other_class _ r (name_row k m) l (λ e. free k m e)))
      where
        free : (k : ℕ) → k < T p.words → owned_class p classes k ≡ get_or classes r 0 → ⊥
        free k m e = let own = sym (owned.all k m) ∙ ap (λ (c : ℕ). get_or owners c 0) e ∙ q in omega arith
    entry_owned r l (suc t) q =
        let owner = owned.owner (get_or classes r 0) t q in
        sym
        (entry_is p (name_at p r) t owner.0 (λ k m. other_class _ r (name_row k (omega arith)) l (λ e. lower k m e))
        (one_class _ r (name_row t owner.0) l owner.1))
      where
        lower : (k : ℕ) → k < t → owned_class p classes k ≡ get_or classes r 0 → ⊥
        lower k m e =
            let row = (owned.owner (get_or classes r 0) t q).0 in
            let own = sym (owned.all k (omega arith)) ∙ ap (λ (c : ℕ). get_or owners c 0) e ∙ q in
            omega arith

    pub entries_are : (table : List ℕ) → ((r : ℕ) → r < N p.names → get_or table r 0 ≡ get_or owners (get_or classes r 0) 0) → Operators p table
    entries_are table read r l = read r l ∙ entry_owned r l _ refl
