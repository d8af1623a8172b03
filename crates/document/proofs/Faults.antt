-- Laws of `scan` and `fault`: what the check's loop keeps, and what follows from its result.
use Prim.Native.Nat.{ℕ, zero, suc, ◌+◌, ◌-◌, ◌*◌, ◌≤◌, ◌<◌}
use native.Mathlib.Omega.{arith}
use native.Mathlib.Nat.{eq-or-lt_of_le}
use native.Mathlib.Numerals.{add-one}
use mathlib.Core.Bool.{Bool, true, false, ◌&&◌, cond}
use mathlib.Core.List.{List}
use Rattle.std.proofs.Common.{Some, None}
use mathlib.Core.Logic.{⊎_elim}
use mathlib.Core.Path.{◌≡◌, refl, sym, ap, ap₂, ◌∙◌}
use lib.ListN.{length}
use lib.Dec.{leb, ltb, eqb}
use borrow.Author.Tests.{lt-ltb, le-ltb, ltb-true, ltb-false, leb-true, eqb-true}
use Rattle.document.specs.Rows.{word, own_text, text_before, rule_ok, row_ok, scan, whole, fault, found, Valid, counts_ok, Accepted}
use Rattle.basics.proofs.Booleans.{and_left, and_right}

-- ---- the loop of `fault`

pub text_none : (rows : List ℕ) → 0 ≡ text_before rows 0
unfolding text_before
text_none rows = refl

pub text_next : (rows : List ℕ) (i before own : ℕ) → before ≡ text_before rows i → own ≡ own_text rows i (word rows i 0) → before + own ≡ text_before rows (i + 1)
unfolding text_before
text_next rows i before own p q = ap₂ ◌+◌ p q ∙ ap (text_before rows) (sym (add-one i))

pub ok_is : (rows : List ℕ) (total i before : ℕ) (b : Bool) → before ≡ text_before rows i → b ≡ rule_ok rows total before i (word rows i 0) → row_ok rows total i ≡ b
unfolding row_ok
ok_is rows total i before b p q = ap (λ (s : ℕ). rule_ok rows total s i (word rows i 0)) (sym p) ∙ sym q

pub scan-start : (rows : List ℕ) (total count : ℕ) → scan rows total (count - 0) 0 ≡ scan rows total count 0
scan-start rows total count = let e : count - 0 ≡ count = omega arith in ap (λ (n : ℕ). scan rows total n 0) e

module _ (rows : List ℕ) (total count i : ℕ) (h : i < count) where
  scan_here : scan rows total (count - i) i ≡ cond (row_ok rows total i) (scan rows total (count - (i + 1)) (i + 1)) i
  unfolding scan
  scan_here =
      let e : count - i ≡ suc (count - (i + 1)) = omega arith in
      ap (λ (n : ℕ). scan rows total n i) e
      ∙ ap (λ (j : ℕ). cond (row_ok rows total i) (scan rows total (count - (i + 1)) j) i) (sym (add-one i))

  pub scan_step : row_ok rows total i ≡ true → scan rows total (count - i) i ≡ scan rows total count 0 → scan rows total (count - (i + 1)) (i + 1) ≡ scan rows total count 0
  scan_step ok e = sym (scan_here ∙ ap (λ (b : Bool). cond b (scan rows total (count - (i + 1)) (i + 1)) i) ok) ∙ e

  pub fault_here : row_ok rows total i ≡ false → scan rows total (count - i) i ≡ scan rows total count 0 → i ≡ fault rows total count
  unfolding fault
  fault_here ok e =
      let s : scan rows total count 0 ≡ i = sym e ∙ scan_here ∙ ap (λ (b : Bool). cond b (scan rows total (count - (i + 1)) (i + 1)) i) ok in
      sym (rw (s, lt-ltb i count h))

pub fault_end : (rows : List ℕ) (total count i before last : ℕ) (b : Bool) → i ≤ count → count ≤ i → scan rows total (count - i) i ≡ scan rows total count 0
    → before ≡ text_before rows i → last ≡ word rows (count - 1) 3 → b ≡ eqb last count && eqb before total → cond b count (count - 1) ≡ fault rows total count
unfolding fault scan whole
fault_end rows total count i before last b p q e t l z =
    let n : count - i ≡ 0 = omega arith in
    let c : i ≡ count = omega arith in
    let s : scan rows total count 0 ≡ count = sym e ∙ ap (λ (k : ℕ). scan rows total k i) n ∙ c in
    let t' : before ≡ text_before rows count = t ∙ ap (text_before rows) c in
    let m : count ≤ count = omega arith in
    sym (rw (s, le-ltb count count m, ← l, ← t', ← z))

-- the same as what is found
pub found_here : (i n bound : ℕ) → i ≡ n → i < bound → Some i ≡ found n bound
found_here i n bound e h = ap (λ (b : Bool). cond b (Some i) None) (sym (lt-ltb i bound h)) ∙ ap (λ (k : ℕ). found k bound) e

found_end : (b : Bool) (n count : ℕ) → 0 < count → cond b count (count - 1) ≡ n → cond b None (Some (count - 1)) ≡ found n count
found_end true n count h e = let m : count ≤ count = omega arith in sym (rw (← e, le-ltb count count m))
found_end false n count h e = found_here (count - 1) n count e (omega arith)

-- what is answered after the last row: `was` is the test of the whole document
pub found_last : (rows : List ℕ) (total count i before last : ℕ) (test was : Bool) → was ≡ test → i ≤ count → count ≤ i
    → scan rows total (count - i) i ≡ scan rows total count 0 → before ≡ text_before rows i → 0 < count → last ≡ count - 1
    → was ≡ eqb (word rows last 3) count && eqb before total → cond test None (Some last) ≡ found (fault rows total count) count
found_last rows total count i before last test was same p q e t some l z =
    let w : word rows last 3 ≡ word rows (count - 1) 3 = ap (λ (r : ℕ). word rows r 3) l in
    let f = fault_end rows total count i before (word rows last 3) test p q e t w (sym same ∙ z) in
    ap (λ (r : ℕ). cond test None (Some r)) l ∙ found_end test (fault rows total count) count some f

-- ---- rows that are not at fault

scan_all : (rows : List ℕ) (total n i : ℕ) → i + n ≤ scan rows total n i → (j : ℕ) → i ≤ j → j < i + n → row_ok rows total j ≡ true
unfolding scan
scan_all rows total zero i h j p q = absurd (omega arith)
scan_all rows total (suc n) i h j p q = go (scan_all rows total n (suc i)) (row_ok rows total i) refl h
  where
    go : (suc i + n ≤ scan rows total n (suc i) → (k : ℕ) → suc i ≤ k → k < suc i + n → row_ok rows total k ≡ true)
        → (b : Bool) → row_ok rows total i ≡ b → i + suc n ≤ cond b (scan rows total n (suc i)) i → row_ok rows total j ≡ true
    go ih true e g = ⊎_elim (λ x. ap (row_ok rows total) (sym x) ∙ e) (λ x. ih (omega arith) j x (omega arith)) (eq-or-lt_of_le p)
    go ih false e g = absurd (omega arith)

pub record Sound (rows : List ℕ) (total count : ℕ) : Type 0 where
  pub valid : Valid rows total count
  pub last : word rows (count - 1) 3 ≡ count
  pub texts : text_before rows count ≡ total

pub sound : (rows : List ℕ) (total count : ℕ) → 0 < count → count ≤ fault rows total count → Sound rows total count
unfolding fault Valid whole
sound rows total count pos h = go (ltb (scan rows total count 0) count) refl h
  where
    end : count ≤ scan rows total count 0 → (b : Bool) → eqb (word rows (count - 1) 3) count && eqb (text_before rows count) total ≡ b → count ≤ cond b
        count (count - 1) → Sound rows total count
    end s true e g =
        record {
          valid = λ i p. scan_all rows total count 0 (omega arith) i (omega arith) (omega arith);
          last = eqb-true _ _ (and_left (eqb (word rows (count - 1) 3) count) (eqb (text_before rows count) total) e);
          texts = eqb-true _ _ (and_right (eqb (word rows (count - 1) 3) count) (eqb (text_before rows count) total) e);
        }
    end s false e g = absurd (omega arith)

    go : (b : Bool) → ltb (scan rows total count 0) count ≡ b → count ≤ cond b (scan rows total count 0)
        (cond (eqb (word rows (count - 1) 3) count && eqb (text_before rows count) total) count (count - 1)) → Sound rows total count
    go true e g = absurd (let l : scan rows total count 0 < count = ltb-true _ _ e in omega arith)
    go false e g = end (ltb-false _ _ e) (eqb (word rows (count - 1) 3) count && eqb (text_before rows count) total) refl g

-- ---- counts

pub record Counts (words count bytes total : ℕ) : Type 0 where
  pub pos : 0 < count
  pub few : count ≤ 16384
  pub long : count * 7 ≤ words
  pub within : total ≤ bytes
  pub small : total ≤ 65536

pub counts : (words count bytes total : ℕ) → counts_ok words count bytes total ≡ true → Counts words count bytes total
counts words count bytes total h =
    let h1 = and_right (ltb 0 count) _ h in
    let h2 = and_right (leb count 16384) _ h1 in
    let h3 = and_right (leb (count * 7) words) _ h2 in
    record {
      pos = ltb-true _ _ (and_left (ltb 0 count) _ h);
      few = leb-true _ _ (and_left (leb count 16384) _ h1);
      long = leb-true _ _ (and_left (leb (count * 7) words) _ h2);
      within = leb-true _ _ (and_left (leb total bytes) _ h3);
      small = leb-true _ _ (and_right (leb total bytes) _ h3);
    }

pub accepted_counts : {rows : List ℕ} {count : ℕ} {texts : List ℕ} {total : ℕ} → Accepted rows count texts total → Counts (length rows) count (length texts) total
accepted_counts {rows} {count} {texts} {total} a = counts (length rows) count (length texts) total a.counts

pub accepted_sound : {rows : List ℕ} {count : ℕ} {texts : List ℕ} {total : ℕ} → Accepted rows count texts total → Sound rows total count
accepted_sound {rows} {count} {texts} {total} a =
    let p = (accepted_counts a).pos in
    let f = a.faultless in
    sound rows total count p (omega arith)

-- ---- a fault is no later than the end

pub fault_bound : (rows : List ℕ) (total count : ℕ) → fault rows total count ≤ count
unfolding fault
fault_bound rows total count = go (ltb (scan rows total count 0) count) (whole rows total count) (ltb-true _ _)
  where
    go : (x y : Bool) → (x ≡ true → scan rows total count 0 < count) → cond x (scan rows total count 0) (cond y count (count - 1)) ≤ count
    go true y f = let h = f refl in omega arith
    go false true f = omega arith
    go false false f = omega arith

-- ---- what is found, as a caller reads it

pub found_some : (i n bound : ℕ) → Some i ≡ found n bound → (i ≡ n) × (i < bound)
found_some i n bound e = by (ltb n bound) (ltb-true n bound) e
  where
    by : (b : Bool) → (b ≡ true → n < bound) → Some i ≡ cond b (Some n) None → (i ≡ n) × (i < bound)
    by true f q = let s : i ≡ n = cc in let h = f refl in (s, omega arith)
    by false f q = cc

pub fault_none : (rows : List ℕ) (total count : ℕ) → None ≡ found (fault rows total count) count → fault rows total count ≡ count
fault_none rows total count e = by (ltb (fault rows total count) count) (ltb-false _ _) e
  where
    by : (b : Bool) → (b ≡ false → count ≤ fault rows total count) → None ≡ cond b (Some (fault rows total count)) None → fault rows total count ≡ count
    by true f q = cc
    by false f q = let m = fault_bound rows total count in let h = f refl in omega arith

-- what the loop of `fault` keeps, and what it finds
pub ruleset faults = (text_none, text_next, ok_is, scan-start, scan_step, fault_here, found_here)
