-- Laws of the search for a variable, in the words of its code.
use Prim.Native.Nat.{ℕ, suc, ◌+◌, ◌<◌, ◌≤◌}
use native.Mathlib.Omega.{arith}
use native.Mathlib.Numerals.{add-one}
use mathlib.Core.Bool.{Bool, true, false}
use Rattle.std.specs.Prelude.{Option, Some, None}
use mathlib.Core.Path.{◌≡◌, refl, sym, ◌∙◌, subst}
use mathlib.Core.Logic.{inl, inr}
use Rattle.basics.proofs.Booleans.{or-false, or-true}
use Rattle.pool.specs.Tables.{Pool, E, expr_word}
use Rattle.pool.specs.Sound.{Sound}
use Rattle.pool.specs.Tree.{occurs, loose}
use Rattle.pool.specs.Unfold.{expr_at}
use Rattle.pool.specs.Codes.{Stands, expr_code}
use Rattle.pool.specs.declared.kinds.ExprKind.{ExprKind}
use Rattle.pool.specs.declared.kinds.ExprKind.TheVariants.{Var}
use Rattle.pool.proofs.TreeLaws.{none_above, greatest_occurs}
use Rattle.pool.proofs.ExprUnfolds.{loose-word}
use Rattle.occurrence.specs.Asked.{Told, AtOnce, EitherWay, occurs_in_parts}
use Rattle.occurrence.specs.Parts.{part_of, first_part, second_part, body_part, occurs_at}
use Rattle.occurrence.proofs.PartLaws.{in_parts, first_lower, second_lower, body_lower}

pub there_is : {part : Option ℕ} {r : ℕ} → part ≡ Some r → part_of part ≡ suc r
there_is e = rw e

-- what is answered is told
pub told : (asked b : Bool) → b ≡ asked → Told asked (Some b)
told asked b e = λ c q. cc

-- a row, and its word for loose
module _ (p : Pool) (r i : ℕ) (sound : Sound p) (row : r < E p.words) (l : ℕ) (el : l ≡ expr_word p.words r 7) where
  tree_loose : l ≡ loose (expr_at p r)
  tree_loose = el ∙ loose-word p sound r row

  pub low_at_once : l ≤ i → false ≡ occurs i (expr_at p r)
  low_at_once h = sym (none_above i (expr_at p r) (subst (λ (x : ℕ). x ≤ i) tree_loose h))

  pub last_at_once : l ≡ i + 1 → true ≡ occurs i (expr_at p r)
  last_at_once e = sym (greatest_occurs i (expr_at p r) (sym tree_loose ∙ e ∙ add-one i))

  pub none_told : l ≤ i → AtOnce p r i (Some false)
  none_told h = record { told = told _ _ (low_at_once h); small = λ e. cc; left = λ e. cc }

  pub last_told : l ≡ i + 1 → AtOnce p r i (Some true)
  last_told e = record { told = told _ _ (last_at_once e); small = λ q. cc; left = λ q. cc }

  pub parts_left : (l ≡ i + 1 → ⊥) → i < l → l < 4294967296 → AtOnce p r i None
  parts_left n h few =
      record { told = λ b q. cc; small = λ q. omega arith; left = λ q. in_parts p sound r row i (λ z. n (el ∙ z ∙ sym (add-one i))) }

  pub var_told : (l ≡ i + 1 → ⊥) → {kind : Option ExprKind} → Stands expr_code 9 (expr_word p.words r 0) kind → kind ≡ Some Var → AtOnce p r i (Some false)
  unfolding occurs_at first_part second_part body_part
  var_told n k q =
      let e : 0 ≡ expr_word p.words r 0 = rw q at k in
      record {
        told = told _ _ (sym (in_parts p sound r row i (λ z. n (el ∙ z ∙ sym (add-one i))) ∙ rw (← e)));
        small = λ q. cc;
        left = λ q. cc;
      }

-- what was answered of the parts, as code has them
module _ (p : Pool) (r i : ℕ) (left : occurs i (expr_at p r) ≡ occurs_in_parts p r i) where
  module _ {f : ℕ} (e₁ : f ≡ first_part p.words r (expr_word p.words r 0)) {v₁ : Bool} (a₁ : occurs_at p i f ≡ v₁) where
    pub first_there : v₁ ≡ true → occurs i (expr_at p r) ≡ true
    first_there y = left ∙ rw (← e₁, a₁, y)

    pub on_second : v₁ ≡ false → {s b : ℕ} → s ≡ second_part p.words r (expr_word p.words r 0) → b ≡ body_part p.words r (expr_word p.words r 0) → b ≡ 0
        → occurs i (expr_at p r) ≡ occurs_at p i s
    unfolding occurs_at
    on_second no₁ e₂ e₃ z = left ∙ rw (← e₁, a₁, no₁, ← e₂, ← e₃, z) (or-false _)

  module _ {s : ℕ} (e₂ : s ≡ second_part p.words r (expr_word p.words r 0)) where
    pub second_there : {v₂ : Bool} → occurs_at p i s ≡ v₂ → v₂ ≡ true → occurs i (expr_at p r) ≡ true
    second_there a y = left ∙ rw (← e₂, a, y) (or-true _)

    module _ (no₂ : occurs_at p i s ≡ false) {f b : ℕ} (e₁ : f ≡ first_part p.words r (expr_word p.words r 0)) (e₃ : b ≡ body_part p.words r (expr_word p.words r 0)) where
      pub on_first : b ≡ 0 → occurs i (expr_at p r) ≡ occurs_at p i f
      unfolding occurs_at
      on_first n = left ∙ rw (← e₁, ← e₂, ← e₃, n, no₂) (or-false _)

      pub on_body : occurs_at p i f ≡ false → occurs i (expr_at p r) ≡ occurs_at p (i + 1) b
      on_body no₁ = left ∙ rw (← e₁, ← e₂, ← e₃, no₁, no₂, add-one i)

-- the same of the two parts in the order of a search
module _ (p : Pool) (r i : ℕ) (left : occurs i (expr_at p r) ≡ occurs_in_parts p r i) {f s n m : ℕ}
    (e₁ : f ≡ first_part p.words r (expr_word p.words r 0)) (e₂ : s ≡ second_part p.words r (expr_word p.words r 0)) (way : EitherWay f s n m) where
  pub near_there : {v : Bool} → occurs_at p i n ≡ v → v ≡ true → occurs i (expr_at p r) ≡ true
  near_there a y = elim way [
    | inl h ↦ first_there p r i left (h.0 ∙ e₁) a y
    | inr h ↦ second_there p r i left (h.0 ∙ e₂) a y
  ]

  pub far_there : {v : Bool} → occurs_at p i m ≡ v → v ≡ true → occurs i (expr_at p r) ≡ true
  far_there a y = elim way [
    | inl h ↦ second_there p r i left (h.1 ∙ e₂) a y
    | inr h ↦ first_there p r i left (h.1 ∙ e₁) a y
  ]

  module _ (noₘ : occurs_at p i m ≡ false) {b : ℕ} (e₃ : b ≡ body_part p.words r (expr_word p.words r 0)) where
    pub on_near : b ≡ 0 → occurs i (expr_at p r) ≡ occurs_at p i n
    on_near z = elim way [
      | inl h ↦ on_first p r i left (h.1 ∙ e₂) noₘ (h.0 ∙ e₁) e₃ z
      | inr h ↦ on_second p r i left (h.1 ∙ e₁) noₘ refl (h.0 ∙ e₂) e₃ z
    ]

  module _ (noₙ : occurs_at p i n ≡ false) {b : ℕ} (e₃ : b ≡ body_part p.words r (expr_word p.words r 0)) where
    pub on_far : b ≡ 0 → occurs i (expr_at p r) ≡ occurs_at p i m
    on_far z = elim way [
      | inl h ↦ on_second p r i left (h.0 ∙ e₁) noₙ refl (h.1 ∙ e₂) e₃ z
      | inr h ↦ on_first p r i left (h.0 ∙ e₂) noₙ (h.1 ∙ e₁) e₃ z
    ]

    pub on_body_last : occurs_at p i m ≡ false → occurs i (expr_at p r) ≡ occurs_at p (i + 1) b
    on_body_last none = elim way [
      | inl h ↦ on_body p r i left (h.1 ∙ e₂) none (h.0 ∙ e₁) e₃ noₙ
      | inr h ↦ on_body p r i left (h.0 ∙ e₂) noₙ (h.1 ∙ e₁) e₃ none
    ]

-- they are lower rows
module _ (p : Pool) (r : ℕ) (sound : Sound p) (row : r < E p.words) where
  pub first_row : {f : ℕ} → f ≡ first_part p.words r (expr_word p.words r 0) → f ≤ r
  first_row e = rw e (first_lower p sound r row)

  pub second_row : {s : ℕ} → s ≡ second_part p.words r (expr_word p.words r 0) → s ≤ r
  second_row e = rw e (second_lower p sound r row)

  pub near_row : {f s n m : ℕ} → f ≡ first_part p.words r (expr_word p.words r 0) → s ≡ second_part p.words r (expr_word p.words r 0) → EitherWay f s n m → n ≤ r
  near_row e₁ e₂ way = elim way [ inl h ↦ first_row (h.0 ∙ e₁) | inr h ↦ second_row (h.0 ∙ e₂) ]

  pub far_row : {f s n m : ℕ} → f ≡ first_part p.words r (expr_word p.words r 0) → s ≡ second_part p.words r (expr_word p.words r 0) → EitherWay f s n m → m ≤ r
  far_row e₁ e₂ way = elim way [ inl h ↦ second_row (h.1 ∙ e₂) | inr h ↦ first_row (h.1 ∙ e₁) ]

  pub body_row : {b : ℕ} → b ≡ body_part p.words r (expr_word p.words r 0) → b ≤ r
  body_row e = rw e (body_lower p sound r row)

-- a part that is there
module _ (p : Pool) (i : ℕ) {part : Option ℕ} where
  pub no_part : part ≡ None → false ≡ occurs_at p i (part_of part)
  unfolding occurs_at
  no_part e = rw e

  pub a_part : {r : ℕ} → part ≡ Some r → occurs_at p i (part_of part) ≡ occurs i (expr_at p r)
  unfolding occurs_at
  a_part e = rw e
