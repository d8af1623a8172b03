-- Laws of what was already answered: a key stands for one triple, and what holds of what an array holds goes on to hold.
use Prim.Native.Nat.{ℕ, zero, suc, ◌+◌, ◌*◌, ◌<◌, ◌≤◌}
use native.Mathlib.Omega.{arith}
use mathlib.Core.Bool.{Bool, true, false, cond}
use mathlib.Core.List.{List}
use Rattle.std.specs.Prelude.{Option, Some, None}
use mathlib.Core.Path.{◌≡◌, refl, sym, ap, ◌∙◌, subst}
use lib.ListN.{length, get_or, set, replicate}
use lib.Seq.{set_out, get_or-set_same, get_or-set_other}
use lib.Dec.{ltb, eqb}
use borrow.Author.Tests.{ltb-true, ltb-false, eqb-true, eqb-false}
use Rattle.basics.proofs.Booleans.{and_right, false-true}
use Rattle.compare.specs.Seen.{packed, is_held, with_key, Holds}

-- a key and the numbers that it stands for
record Fit (a b c k : ℕ) : Type 0 where
  a_fits : a < 16777216
  b_fits : b < 16777216
  c_fits : c < 16384
  is : k ≡ (a * 16777216 + b) * 16384 + c + 1

fit : (a b c k : ℕ) → packed a b c ≡ Some k → Fit a b c k
unfolding packed
fit a b c k e = at_a (ltb a 16777216) refl e
  where
    value : ℕ
    value = (a * 16777216 + b) * 16384 + c + 1

    at_c : (x : Bool) → ltb a 16777216 ≡ true → ltb b 16777216 ≡ true → ltb c 16384 ≡ x → cond x (Some value) None ≡ Some k → Fit a b c k
    at_c true p q r h =
        record { a_fits = ltb-true a 16777216 p; b_fits = ltb-true b 16777216 q; c_fits = ltb-true c 16384 r; is = cc }
    at_c false p q r h = cc

    at_b : (x : Bool) → ltb a 16777216 ≡ true → ltb b 16777216 ≡ x → cond x (cond (ltb c 16384) (Some value) None) None ≡ Some k → Fit a b c k
    at_b true p q h = at_c (ltb c 16384) p q refl h
    at_b false p q h = cc

    at_a : (x : Bool) → ltb a 16777216 ≡ x → cond x (cond (ltb b 16777216) (cond (ltb c 16384) (Some value) None) None) None ≡ Some k → Fit a b c k
    at_a true p h = at_b (ltb b 16777216) p refl h
    at_a false p h = cc

-- numbers are equal where what they make together is
split : (a b a' b' : ℕ) → b < 16777216 → b' < 16777216 → a * 16777216 + b ≡ a' * 16777216 + b' → (a ≡ a') × (b ≡ b')
split a b a' b' h h' e = by (ltb a a') refl (ltb a' a) refl
  where
    by : (x : Bool) → ltb a a' ≡ x → (y : Bool) → ltb a' a ≡ y → (a ≡ a') × (b ≡ b')
    by true p y q = let l : a < a' = ltb-true a a' p in absurd (omega arith)
    by false p true q = let l : a' < a = ltb-true a' a q in absurd (omega arith)
    by false p false q =
        let l : a' ≤ a = ltb-false a a' p in
        let g : a ≤ a' = ltb-false a' a q in
        let s : a ≡ a' = omega arith in
        (s, omega arith)

split_low : (u c u' c' : ℕ) → c < 16384 → c' < 16384 → u * 16384 + c + 1 ≡ u' * 16384 + c' + 1 → (u ≡ u') × (c ≡ c')
split_low u c u' c' h h' e = by (ltb u u') refl (ltb u' u) refl
  where
    by : (x : Bool) → ltb u u' ≡ x → (y : Bool) → ltb u' u ≡ y → (u ≡ u') × (c ≡ c')
    by true p y q = let l : u < u' = ltb-true u u' p in absurd (omega arith)
    by false p true q = let l : u' < u = ltb-true u' u q in absurd (omega arith)
    by false p false q =
        let l : u' ≤ u = ltb-false u u' p in
        let g : u ≤ u' = ltb-false u' u q in
        let s : u ≡ u' = omega arith in
        (s, omega arith)

-- a key stands for one triple
pub packed-one : (a b c a' b' c' k : ℕ) → packed a b c ≡ Some k → packed a' b' c' ≡ Some k → (a ≡ a') × (b ≡ b') × (c ≡ c')
packed-one a b c a' b' c' k e e' =
    let f : Fit a b c k = fit a b c k e in
    let f' : Fit a' b' c' k = fit a' b' c' k e' in
    let low : (a * 16777216 + b ≡ a' * 16777216 + b') × (c ≡ c') =
    split_low (a * 16777216 + b) c (a' * 16777216 + b') c' f.c_fits f'.c_fits (sym f.is ∙ f'.is) in
    let high : (a ≡ a') × (b ≡ b') = split a b a' b' f.b_fits f'.b_fits low.0 in
    (high.0, high.1, low.1)

module _ (P : ℕ → ℕ → ℕ → Type 0) where
  carried : (a b c a' b' c' : ℕ) → a ≡ a' → b ≡ b' → c ≡ c' → P a b c → P a' b' c'
  carried a b c a' b' c' p q r h =
      subst (λ (z : ℕ). P a' b' z) r (subst (λ (y : ℕ). P a' y c) q (subst (λ (x : ℕ). P x b c) p h))

  -- an array of zeros holds nothing
  zeros : (n j : ℕ) → ◌≡◌ {A = ℕ} (get_or (replicate n 0) j 0) 0
  zeros zero j = refl
  zeros (suc n) zero = refl
  zeros (suc n) (suc j) = zeros n j

  pub holds_none : (n : ℕ) → Holds P (replicate n 0)
  holds_none n j a b c e =
      let f : Fit a b c 0 = fit a b c 0 (e ∙ ap (λ (k : ℕ). Some k) (zeros n j)) in
      absurd (omega (arith, f.is))

  -- what the slot holds is true
  pub holds_hit : (seen : List ℕ) (slot : ℕ) (key : Option ℕ) (a b c : ℕ) → Holds P seen → key ≡ packed a b c → is_held seen slot key ≡ true → P a b c
  holds_hit seen slot None a b c h e y = false-true y
  holds_hit seen slot (Some k) a b c h e y =
      let there : get_or seen slot 0 ≡ k = eqb-true (get_or seen slot 0) k (and_right (ltb slot (length seen)) _ y) in
      h slot a b c (sym e ∙ ap (λ (i : ℕ). Some i) (sym there))

  -- one more that is true
  pub holds_put : (seen : List ℕ) (slot : ℕ) (key : Option ℕ) (a b c : ℕ) → Holds P seen → key ≡ packed a b c → P a b c → Holds P (with_key seen slot key)
  holds_put seen slot None a b c h e y j a' b' c' q = h j a' b' c' q
  holds_put seen slot (Some k) a b c h e y j a' b' c' q = there (eqb j slot) refl (ltb slot (length seen)) refl
    where
      there : (x : Bool) → eqb j slot ≡ x → (z : Bool) → ltb slot (length seen) ≡ z → P a' b' c'
      there false p z r = h j a' b' c' (q ∙ ap (λ (i : ℕ). Some i) (get_or-set_other seen slot j k 0 (eqb-false j slot p)))
      there true p false r =
          h j a' b' c' (q ∙ ap (λ (l : List ℕ). Some (get_or l j 0)) (set_out seen slot k (ltb-false slot (length seen) r)))
      there true p true r =
          let v : get_or (set seen slot k) slot 0 ≡ k = get_or-set_same seen slot k 0 (ltb-true slot (length seen) r) in
          let w : get_or (set seen slot k) j 0 ≡ k = ap (λ (i : ℕ). get_or (set seen slot k) i 0) (eqb-true j slot p) ∙ v in
          let one : (a ≡ a') × (b ≡ b') × (c ≡ c') = packed-one a b c a' b' c' k (sym e) (q ∙ ap (λ (i : ℕ). Some i) w) in
          carried a b c a' b' c' one.0 one.1 one.2 y
