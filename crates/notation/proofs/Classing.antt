-- Laws of classes, and of the chains in which rows are looked for.
use Prim.Native.Nat.{ℕ, zero, suc, ◌+◌, ◌-◌, ◌%◌, ◌≤◌, ◌<◌}
use native.Mathlib.Omega.{arith}
use mathlib.Core.Bool.{Bool, true, false, not, cond}
use mathlib.Core.List.{List}
use mathlib.Core.Path.{◌≡◌, refl, sym, ap, ◌∙◌, subst}
use lib.ListN.{length, get_or, set, length-set}
use lib.Seq.{get_or-set_same, get_or-set_other}
use Rattle.std.specs.Prelude.{replicate}
use Rattle.std.proofs.lemmas.List.{get_or-replicate}
use lib.Dec.{eqb, ltb}
use borrow.Author.Count.{below_more}
use borrow.Author.Tests.{eqb-true, eqb-false, eq-eqb, ltb-true, ltb-false, not-true, not-false}
use Rattle.basics.proofs.Booleans.{both_ways, false-true, not_so}
use Rattle.byte_check.specs.Scan.{first_bad}
use Rattle.pool.specs.Tables.{Pool}
use Rattle.pool.specs.Tree.{Shape, same_shape}
use Rattle.pool.proofs.TreeLaws.{shape_equal, shape_same}
use Rattle.notation.specs.Classes.{NamesRight, lowest, ClassTable, HashesAlike, kept_hash, slot, Link, Chains}

-- what a test of two trees tells
pub test_same : (x y : Shape) (v : Bool) → v ≡ same_shape x y → v ≡ true → x ≡ y
test_same x y v e t = shape_equal x y (sym e ∙ t)

pub test_differs : (x y : Shape) (v : Bool) → v ≡ same_shape x y → v ≡ false → x ≡ y → ⊥
test_differs x y v e f q = false-true (sym f ∙ e ∙ subst (λ (z : Shape). same_shape x z ≡ true) q (shape_same x))

-- ---- the first row that is not ok

-- the row v is the first of `left` rows from row r on that is not ok, or the row after them
pub record IsFirst (ok : ℕ → Bool) (left r v : ℕ) : Type 0 where
  pub from : r ≤ v
  pub to : v ≤ r + left
  pub bad : v < r + left → ok v ≡ false
  pub right : (k : ℕ) → r ≤ k → k < v → ok k ≡ true

first_more : (ok : ℕ → Bool) (left r v : ℕ) (b : Bool) → ok r ≡ b → IsFirst ok left (suc r) v → IsFirst ok (suc left) r (cond b v r)
first_more ok left r v true e i =
    record { from = omega arith; to = omega arith; bad = λ h. i.bad (omega arith); right = λ k p q. after k p q (eqb k r) refl }
  where
    after : (k : ℕ) → r ≤ k → k < v → (b : Bool) → eqb k r ≡ b → ok k ≡ true
    after k p q true g = ap ok (eqb-true k r g) ∙ e
    after k p q false g = let h : k ≡ r → ⊥ = eqb-false k r g in i.right k (omega arith) q
first_more ok left r v false e i = record { from = omega arith; to = omega arith; bad = λ h. e; right = λ k p q. absurd (omega arith) }

pub first_is : (ok : ℕ → Bool) (left r : ℕ) → IsFirst ok left r (first_bad ok left r)
unfolding first_bad
first_is ok zero r = record { from = omega arith; to = omega arith; bad = λ h. absurd (omega arith); right = λ k p q. absurd (omega arith) }
first_is ok (suc left) r = first_more ok left r _ (ok r) refl (first_is ok left (suc r))

-- ---- the lowest row with an equal tree

module _ (tree : ℕ → Shape) where
  pub record IsLowest (r v : ℕ) : Type 0 where
    pub low : v ≤ r
    pub alike : tree v ≡ tree r
    pub least : (k : ℕ) → k < v → tree k ≡ tree r → ⊥

  alike_same : (k r : ℕ) → tree k ≡ tree r → same_shape (tree k) (tree r) ≡ true
  alike_same k r e = subst (λ (x : Shape). same_shape (tree k) x ≡ true) e (shape_same (tree k))

  lowest_from : (r v : ℕ) → IsFirst (λ k. not (same_shape (tree k) (tree r))) r 0 v → IsLowest r v
  lowest_from r v first =
      record { low = omega arith; alike = by (ltb v r) refl; least = λ k l e. false-true (sym (not-true _ (first.right k (omega arith) l)) ∙ alike_same k r e) }
    where
      by : (b : Bool) → ltb v r ≡ b → tree v ≡ tree r
      by true e = let l : v < r = ltb-true v r e in shape_equal (tree v) (tree r) (not-false _ (first.bad (omega arith)))
      by false e = let l : r ≤ v = ltb-false v r e in let m : v ≤ 0 + r = first.to in let h : v ≡ r = omega arith in ap tree h

  pub lowest_is : (r : ℕ) → IsLowest r (lowest tree r)
  unfolding lowest
  lowest_is r = lowest_from r _ (first_is _ r 0)

  pub lowest_unique : (r s v w : ℕ) → IsLowest r v → IsLowest s w → tree r ≡ tree s → v ≡ w
  lowest_unique r s v w a b e = by (ltb v w) refl (ltb w v) refl
    where
      by : (x : Bool) → ltb v w ≡ x → (y : Bool) → ltb w v ≡ y → v ≡ w
      by true p y q = absurd (b.least v (ltb-true v w p) (a.alike ∙ e))
      by false p true q = absurd (a.least w (ltb-true w v q) (b.alike ∙ sym e))
      by false p false q = let l : w ≤ v = ltb-false v w p in let m : v ≤ w = ltb-false w v q in omega arith

  -- classes are equal where trees are
  pub alike_lowest : (r s : ℕ) → tree r ≡ tree s → lowest tree r ≡ lowest tree s
  alike_lowest r s e = lowest_unique r s _ _ (lowest_is r) (lowest_is s) e

  pub lowest_alike : (r s : ℕ) → lowest tree r ≡ lowest tree s → tree r ≡ tree s
  lowest_alike r s e = sym (lowest_is r).alike ∙ ap tree e ∙ (lowest_is s).alike

  pub lowest_test : (r s : ℕ) → eqb (lowest tree r) (lowest tree s) ≡ same_shape (tree r) (tree s)
  lowest_test r s =
      both_ways _ _ (λ e. alike_same r s (lowest_alike r s (eqb-true _ _ e))) (λ e. eq-eqb _ _ (alike_lowest r s (shape_equal _ _ e)))

  -- a row of whose tree no lower row is
  pub lowest_own : (r : ℕ) → ((k : ℕ) → k < r → tree k ≡ tree r → ⊥) → r ≡ lowest tree r
  lowest_own r h = lowest_unique r r _ _ record { low = omega arith; alike = refl; least = h } (lowest_is r) refl

-- rows of other hashes have other trees
pub hashes_differ : (t : ClassTable) (p : Pool) → HashesAlike t → NamesRight p → (c r x y : ℕ) → c < t.count p → r < t.count p
    → x ≡ kept_hash t p c → y ≡ kept_hash t p r → (x ≡ y → ⊥) → false ≡ same_shape (t.tree p c) (t.tree p r)
hashes_differ t p law right c r x y l m e f n =
    sym (not_so _ (λ q. n (e ∙ ap (λ (h : ℕ). h % 4294967296) (law p right c r l m (shape_equal _ _ q)) ∙ sym f)))

-- ---- a chain

-- `at` is one more than a row of the chain, or 0, and of the rows from there on and before row r none has its tree
pub record Reached (t : ClassTable) (p : Pool) (size chain r at : ℕ) : Type 0 where
  pub low : at ≤ r
  pub own : 0 < at → slot t p size (at - 1) ≡ chain
  pub other : (k : ℕ) → at ≤ k → k < r → t.tree p k ≡ t.tree p r → ⊥

module _ (t : ClassTable) (p : Pool) (law : HashesAlike t) (right : NamesRight p) (size chain r : ℕ) (row : r < t.count p) (own : chain ≡ slot t p size r) where
  -- rows with equal trees are of one chain
  same_chain : (k : ℕ) → k < r → t.tree p k ≡ t.tree p r → slot t p size k ≡ chain
  same_chain k h e = ap (λ (n : ℕ). n % 4294967296 % size) (law p right k r (omega arith) row e) ∙ sym own

  pub reached_first : (at : ℕ) → Link t p size chain r at → Reached t p size chain r at
  reached_first at link = record { low = link.low; own = link.own; other = λ k l m e. link.rest k l m (same_chain k m e) }

  -- the row before row `at - 1` in its chain, where that has another tree
  pub reached_next : (heads below : List ℕ) → Chains t p size heads below r → (at next : ℕ) → 0 < at → Reached t p size chain r at
      → (t.tree p (at - 1) ≡ t.tree p r → ⊥) → next ≡ get_or below (at - 1) 0 → Reached t p size chain r next
  reached_next heads below chains at next h reached differs read =
      let link = subst (λ (n : ℕ). Link t p size (slot t p size (at - 1)) (at - 1) n) (sym read) (chains.before (at - 1) (omega arith)) in
      record { low = omega arith; own = λ m. link.own m ∙ reached.own h; other = λ k l m e. by link k l m e (ltb k at) refl (eqb k (at - 1)) refl }
    where
      by : Link t p size (slot t p size (at - 1)) (at - 1) next → (k : ℕ) → next ≤ k → k < r → t.tree p k ≡ t.tree p r
          → (a : Bool) → ltb k at ≡ a → (b : Bool) → eqb k (at - 1) ≡ b → ⊥
      by link k l m e true q true g = differs (sym (ap (t.tree p) (eqb-true k (at - 1) g)) ∙ e)
      by link k l m e true q false g =
          let n : k ≡ at - 1 → ⊥ = eqb-false k (at - 1) g in
          let i : k < at = ltb-true k at q in
          link.rest k l (omega arith) (same_chain k m e ∙ sym (reached.own h))
      by link k l m e false q b g = reached.other k (ltb-false k at q) m e

  -- where the chain is at its end, the row is the lowest of its tree
  pub reached_end : (at : ℕ) → Reached t p size chain r at → at ≤ 0 → r ≡ lowest (t.tree p) r
  reached_end at reached h = lowest_own (t.tree p) r (λ k l e. reached.other k (omega arith) l e)

-- ---- the rows by their hash

module _ (t : ClassTable) (p : Pool) where
  -- of no row
  pub chains_begin : (heads below : List ℕ) → heads ≡ replicate (length heads) 0 → Chains t p (length heads) heads below 0
  chains_begin heads below e = record { last = λ h l. first h _ (ap (λ (hs : List ℕ). get_or hs h 0) e ∙ get_or-replicate (length heads) h 0 0 l); before = λ k l. absurd (omega arith) }
    where
      first : (h link : ℕ) → link ≡ 0 → Link t p (length heads) h 0 link
      first h link q = record { low = omega arith; own = λ l. absurd (omega arith); rest = λ j l m x. absurd (omega arith) }

  -- one row more
  chains_with : (size chain r : ℕ) (heads below : List ℕ) → size ≡ length heads → chain < size → r < length below → slot t p size r ≡ chain
      → Chains t p size heads below r → Chains t p size (set heads chain (r + 1)) (set below r (get_or heads chain 0)) (r + 1)
  chains_with size chain r heads below room l m own chains = record {
    last = λ h i. head h i (eqb h chain) refl;
    before = below_more _ r (λ k i. older k i) newest;
  }
    where
      moved : (g h k link : ℕ) {next : ℕ} → h ≡ g → next ≡ link → Link t p size g k link → Link t p size h k next
      moved g h k link e q i = rw (e, q) i

      newer : (h link : ℕ) → h ≡ chain → link ≡ r + 1 → Link t p size h (r + 1) link
      newer h link e q =
          let back : link - 1 ≡ r = omega arith in
          record { low = omega arith; own = λ z. ap (slot t p size) back ∙ own ∙ sym e; rest = λ j x y. absurd (omega arith) }

      kept : (h old : ℕ) {link : ℕ} → (h ≡ chain → ⊥) → Link t p size h r old → link ≡ old → Link t p size h (r + 1) link
      kept h old n i q = rw q record { low = omega arith; own = i.own; rest = λ j x y z. still j x y z (eqb j r) refl }
        where
          still : (j : ℕ) → old ≤ j → j < r + 1 → slot t p size j ≡ h → (b : Bool) → eqb j r ≡ b → ⊥
          still j x y z true g = n (sym z ∙ ap (slot t p size) (eqb-true j r g) ∙ own)
          still j x y z false g = let d : j ≡ r → ⊥ = eqb-false j r g in i.rest j x (omega arith) z

      head : (h : ℕ) → h < size → (b : Bool) → eqb h chain ≡ b → Link t p size h (r + 1) (get_or (set heads chain (r + 1)) h 0)
      head h i true e = newer h _ (eqb-true h chain e) (ap (λ (c : ℕ). get_or (set heads chain (r + 1)) c 0) (eqb-true h chain e) ∙ get_or-set_same heads chain (r + 1) 0 (omega arith))
      head h i false e =
          let n : h ≡ chain → ⊥ = eqb-false h chain e in
          kept h _ n (chains.last h i) (get_or-set_other heads chain h (r + 1) 0 n)

      older : (k : ℕ) → k < r → Link t p size (slot t p size k) k (get_or (set below r (get_or heads chain 0)) k 0)
      older k i = moved _ _ _ _ refl (get_or-set_other below r k (get_or heads chain 0) 0 (λ q. let z : k ≡ r = q in omega arith)) (chains.before k i)

      newest : Link t p size (slot t p size r) r (get_or (set below r (get_or heads chain 0)) r 0)
      newest = moved chain _ _ _ own (get_or-set_same below r (get_or heads chain 0) 0 m) (chains.last chain l)

  pub chains_more : (heads below : List ℕ) (chain r : ℕ) → chain ≡ slot t p (length heads) r → chain < length heads → r < length below
      → Chains t p (length heads) heads below r
      → Chains t p (length (set heads chain (r + 1))) (set heads chain (r + 1)) (set below r (get_or heads chain 0)) (r + 1)
  chains_more heads below chain r own l m chains =
      subst (λ (n : ℕ). Chains t p n (set heads chain (r + 1)) (set below r (get_or heads chain 0)) (r + 1)) (sym (length-set heads chain (r + 1)))
      (chains_with (length heads) chain r heads below refl l m (sym own) chains)
