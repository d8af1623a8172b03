-- Laws of `&&` and `||`, and that true is not false.
use Prim.Native.Nat.{ℕ}
use native.Mathlib.Omega.{arith}
use mathlib.Core.Bool.{Bool, true, false, ◌&&◌, ◌||◌}
use mathlib.Core.Path.{◌≡◌, refl, sym, ap, ◌∙◌}

pub true-false : {A : Type 0} → true ≡ false → A
true-false h = absurd (let z : ◌≡◌ {A = ℕ} 0 1 = cc in omega arith)

pub false-true : {A : Type 0} → false ≡ true → A
false-true h = absurd (let z : ◌≡◌ {A = ℕ} 0 1 = cc in omega arith)

pub and_left : (a b : Bool) → a && b ≡ true → a ≡ true
and_left true b h = refl
and_left false b h = h

pub and_right : (a b : Bool) → a && b ≡ true → b ≡ true
and_right true b h = h
and_right false b h = false-true h

pub and_both : (a b : Bool) → a && b ≡ true → (a ≡ true) × (b ≡ true)
and_both a b h = (and_left a b h, and_right a b h)

pub and_intro : {a b : Bool} → a ≡ true → b ≡ true → a && b ≡ true
and_intro p q = cc

pub and-true : (a : Bool) → a && true ≡ a
and-true true = refl
and-true false = refl

pub and-false : (a : Bool) → a && false ≡ false
and-false true = refl
and-false false = refl

pub and_assoc : (a b c : Bool) → (a && b) && c ≡ a && (b && c)
and_assoc true b c = refl
and_assoc false b c = refl

pub or_assoc : (a b c : Bool) → (a || b) || c ≡ a || (b || c)
or_assoc true b c = refl
or_assoc false b c = refl

pub or-false : (a : Bool) → a || false ≡ a
or-false true = refl
or-false false = refl

pub or-true : (a : Bool) → a || true ≡ true
or-true true = refl
or-true false = refl

-- the same as answers: what `a && b` and `a || b` are where the parts are known
pub first_false : (a b : Bool) → a ≡ false → false ≡ a && b
first_false a b h = ap (λ (x : Bool). x && b) (sym h)

pub first_true : (a b v : Bool) → a ≡ true → v ≡ b → v ≡ a && b
first_true a b v h e = e ∙ ap (λ (x : Bool). x && b) (sym h)

pub not_so : (b : Bool) → (b ≡ true → ⊥) → b ≡ false
not_so true h = absurd (h refl)
not_so false h = refl

-- two tests are equal if each follows from the other
pub both_ways : (a b : Bool) → (a ≡ true → b ≡ true) → (b ≡ true → a ≡ true) → a ≡ b
both_ways true b f g = cc (f refl)
both_ways false true f g = g refl
both_ways false false f g = refl
