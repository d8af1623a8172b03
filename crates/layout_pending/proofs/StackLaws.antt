-- Laws of the pending area: what is put at a place is the entry there, and the entries below it stand.
use Prim.Native.Nat.{ℕ, zero, suc, ◌+◌, ◌-◌, ◌*◌, ◌/◌, ◌%◌, ◌^◌, ◌≤◌, ◌<◌}
use native.Mathlib.Omega.{arith}
use native.Mathlib.Numerals.{add-one}
use mathlib.Core.Bool.{Bool, true, false}
use mathlib.Core.List.{List, [], ◌∷◌}
use mathlib.Core.Path.{◌≡◌, refl, ap, ap₂, ◌∙◌}
use lib.ListN.{length, get_or, set, length-set}
use lib.Seq.{get_or-set_same, get_or-set_other}
use lib.Dec.{eqb}
use Rattle.layout_pending.specs.declared.entries.Entry.{Entry}
use Rattle.layout_pending.specs.Contract.{bit, entry_at, put_at, stack}

-- what fits into the three words of an entry
pub record Small (e : Entry) : Type 0 where
  pub row : e.row < 4294967296
  pub nest : e.nest < 2147483648
  pub next : e.next < 4294967296

-- ---- three words

module _ (p : List ℕ) (i x y z : ℕ) where
  abbrev one : List ℕ
  one = set p i x

  abbrev two : List ℕ
  two = set one (i + 1) y

  abbrev three : List ℕ
  three = set two (i + 2) z

  other : (j : ℕ) → j < i → get_or three j 0 ≡ get_or p j 0
  other j h =
      get_or-set_other two (i + 2) j z 0 (λ e. omega arith)
      ∙ get_or-set_other one (i + 1) j y 0 (λ e. omega arith)
      ∙ get_or-set_other p i j x 0 (λ e. omega arith)

  module _ (h : i + 3 ≤ length p) where
    word0 : get_or three i 0 ≡ x
    word0 =
        get_or-set_other two (i + 2) i z 0 (λ e. omega arith)
        ∙ get_or-set_other one (i + 1) i y 0 (λ e. omega arith)
        ∙ get_or-set_same p i x 0 (omega arith)

    word1 : get_or three (i + 1) 0 ≡ y
    word1 =
        get_or-set_other two (i + 2) (i + 1) z 0 (λ e. omega arith)
        ∙ get_or-set_same one (i + 1) y 0 (rw length-set (omega arith))

    word2 : get_or three (i + 2) 0 ≡ z
    word2 = get_or-set_same two (i + 2) z 0 (simp length-set (omega arith))

-- ---- nest × 2 + flat

nest_back : (n : ℕ) (b : Bool) → n < 2147483648 → (n * 2 + bit b) % 4294967296 / 2 ≡ n
nest_back n true h = omega arith
nest_back n false h = omega arith

flat_back : (n : ℕ) (b : Bool) → n < 2147483648 → eqb ((n * 2 + bit b) % 4294967296 % 2) 1 ≡ b
flat_back n true h = let e : (n * 2 + 1) % 4294967296 % 2 ≡ 1 = omega arith in ap (λ (x : ℕ). eqb x 1) e
flat_back n false h = let e : (n * 2 + 0) % 4294967296 % 2 ≡ 0 = omega arith in ap (λ (x : ℕ). eqb x 1) e

-- ---- entries

module _ (p : List ℕ) (at : ℕ) (e : Entry) where
  entry_below : (n : ℕ) → n < at → entry_at (put_at p at e) n ≡ entry_at p n
  entry_below n h =
      let a = other p (at * 3) (e.row % 2 ^ 32) ((e.nest * 2 + bit e.flat) % 2 ^ 32) (e.next % 2 ^ 32) in
      rw (a (n * 3) (omega arith), a (n * 3 + 1) (omega arith), a (n * 3 + 2) (omega arith))

  stack_below : (n : ℕ) → n ≤ at → stack (put_at p at e) n ≡ stack p n
  unfolding stack
  stack_below zero h = refl
  stack_below (suc n) h = ap₂ (λ (x : Entry) (es : List Entry). x ∷ es) (entry_below n (omega arith)) (stack_below n (omega arith))

  module _ (room : at * 3 + 3 ≤ length p) (small : Small e) where
    entry-put : entry_at (put_at p at e) at ≡ e
    entry-put =
        let x : ℕ = e.row % 2 ^ 32 in
        let y : ℕ = (e.nest * 2 + bit e.flat) % 2 ^ 32 in
        let z : ℕ = e.next % 2 ^ 32 in
        let s = small.row in
        let t = small.next in
        let row : get_or (put_at p at e) (at * 3) 0 ≡ e.row = word0 p (at * 3) x y z room ∙ omega arith in
        let one : get_or (put_at p at e) (at * 3 + 1) 0 ≡ y = word1 p (at * 3) x y z room in
        let next : get_or (put_at p at e) (at * 3 + 2) 0 ≡ e.next = word2 p (at * 3) x y z room ∙ omega arith in
        let nest : get_or (put_at p at e) (at * 3 + 1) 0 / 2 ≡ e.nest = ap (λ (n : ℕ). n / 2) one ∙ nest_back e.nest e.flat small.nest in
        let flat : eqb (get_or (put_at p at e) (at * 3 + 1) 0 % 2) 1 ≡ e.flat = ap (λ (n : ℕ). eqb (n % 2) 1) one ∙ flat_back e.nest e.flat small.nest in
        rw (row, nest, flat, next)

    pub stack-put : stack (put_at p at e) (at + 1) ≡ e ∷ stack p at
    unfolding stack
    stack-put =
        ap (stack (put_at p at e)) (add-one at)
        ∙ ap₂ (λ (x : Entry) (es : List Entry). x ∷ es) entry-put (stack_below at (omega arith))

pub length-put : (p : List ℕ) (at : ℕ) (e : Entry) → length (put_at p at e) ≡ length p
length-put p at e = simp length-set

pub stack_top : (p : List ℕ) (n : ℕ) → 0 < n → stack p n ≡ entry_at p (n - 1) ∷ stack p (n - 1)
unfolding stack
stack_top p zero h = absurd (omega arith)
stack_top p (suc n) h = let e : n ≡ suc n - 1 = omega arith in ap (λ (k : ℕ). entry_at p k ∷ stack p k) e

pub stack_none : (p : List ℕ) (n : ℕ) → n ≤ 0 → stack p n ≡ []
unfolding stack
stack_none p zero h = refl
stack_none p (suc n) h = absurd (omega arith)

pub stack-length : (p : List ℕ) (n : ℕ) → length (stack p n) ≡ n
unfolding stack
stack-length p zero = refl
stack-length p (suc n) = ap suc (stack-length p n)
