-- Laws of the parts of a row: they are lower, and what holds of a row's tree holds of its parts.
use Prim.Native.Nat.{ℕ, zero, suc, ◌+◌, ◌<◌, ◌≤◌, max}
use native.Mathlib.Omega.{arith}
use native.Mathlib.Numerals.{add-one}
use mathlib.Core.Bool.{◌||◌}
use mathlib.Core.Path.{◌≡◌, refl, ap, ◌∙◌}
use borrow.Author.Tests.{ne_eqb}
use Rattle.basics.proofs.Booleans.{or-false}
use Rattle.pool.specs.Tables.{Pool, E, expr_word}
use Rattle.pool.specs.Tree.{Expr, var, sort, const, app, pi, lam, letᵉ, proj, nat, str, occurs, loose, depth}
use Rattle.pool.specs.Unfold.{expr_at}
use Rattle.pool.specs.Sound.{Sound}
use Rattle.pool.proofs.ExprUnfolds.{kind_small, loose-word, var_at, sort_at, const_at, app_at, pi_at, lam_at, let_at, proj_at, nat_at, str_at, app_ok, pi_ok, lam_ok}
use Rattle.pool.proofs.ExprUnfolds.{let_ok, proj_ok}
use Rattle.occurrence.specs.Parts.{first_part, second_part, body_part, occurs_at}

-- the ten kinds, one by one
pub ten : (P : ℕ → Type 0) → P 0 → P 1 → P 2 → P 3 → P 4 → P 5 → P 6 → P 7 → P 8 → P 9 → (k : ℕ) → k < 10 → P k
ten P a b c d e f g h i j zero l = a
ten P a b c d e f g h i j (suc zero) l = b
ten P a b c d e f g h i j (suc (suc zero)) l = c
ten P a b c d e f g h i j (suc (suc (suc zero))) l = d
ten P a b c d e f g h i j (suc (suc (suc (suc zero)))) l = e
ten P a b c d e f g h i j (suc (suc (suc (suc (suc zero))))) l = f
ten P a b c d e f g h i j (suc (suc (suc (suc (suc (suc zero)))))) l = g
ten P a b c d e f g h i j (suc (suc (suc (suc (suc (suc (suc zero))))))) l = h
ten P a b c d e f g h i j (suc (suc (suc (suc (suc (suc (suc (suc zero)))))))) l = i
ten P a b c d e f g h i j (suc (suc (suc (suc (suc (suc (suc (suc (suc zero))))))))) l = j
ten P a b c d e f g h i j (suc (suc (suc (suc (suc (suc (suc (suc (suc (suc k)))))))))) l = absurd (omega arith)

module _ (p : Pool) (sound : Sound p) (r : ℕ) (h : r < E p.words) where
  abbrev w : ℕ → ℕ
  w k = expr_word p.words r k

  -- each part is a lower row
  pub first_lower : first_part p.words r (w 0) ≤ r
  unfolding first_part
  first_lower =
      ten (λ (k : ℕ). w 0 ≡ k → first_part p.words r k ≤ r) (λ e. omega arith) (λ e. omega arith) (λ e. omega arith)
      (λ e. omega (arith, (app_ok p sound r h e).0)) (λ e. omega (arith, (pi_ok p sound r h e).2)) (λ e. omega (arith, (lam_ok p sound r h e).2))
      (λ e. omega (arith, (let_ok p sound r h e).1)) (λ e. omega (arith, (proj_ok p sound r h e).1)) (λ e. omega arith) (λ e. omega arith)
      (w 0) (kind_small p sound r h) refl

  pub second_lower : second_part p.words r (w 0) ≤ r
  unfolding second_part
  second_lower =
      ten (λ (k : ℕ). w 0 ≡ k → second_part p.words r k ≤ r) (λ e. omega arith) (λ e. omega arith) (λ e. omega arith)
      (λ e. omega (arith, (app_ok p sound r h e).1)) (λ e. omega arith) (λ e. omega arith)
      (λ e. omega (arith, (let_ok p sound r h e).2)) (λ e. omega arith) (λ e. omega arith) (λ e. omega arith)
      (w 0) (kind_small p sound r h) refl

  pub body_lower : body_part p.words r (w 0) ≤ r
  unfolding body_part
  body_lower =
      ten (λ (k : ℕ). w 0 ≡ k → body_part p.words r k ≤ r) (λ e. omega arith) (λ e. omega arith) (λ e. omega arith)
      (λ e. omega arith) (λ e. omega (arith, (pi_ok p sound r h e).3)) (λ e. omega (arith, (lam_ok p sound r h e).3))
      (λ e. omega (arith, (let_ok p sound r h e).3)) (λ e. omega arith) (λ e. omega arith) (λ e. omega arith)
      (w 0) (kind_small p sound r h) refl

-- a variable in a part
at_next : (p : Pool) (i r : ℕ) → occurs_at p i (r + 1) ≡ occurs i (expr_at p r)
unfolding occurs_at
at_next p i r = ap (occurs_at p i) (add-one r)

module _ (p : Pool) (sound : Sound p) (r : ℕ) (h : r < E p.words) (i : ℕ) where
  abbrev w₂ : ℕ → ℕ
  w₂ k = expr_word p.words r k

  -- it occurs in a row's tree where it occurs in a part
  abbrev InParts : ℕ → Type 0
  InParts k =
      occurs i (expr_at p r)
      ≡ occurs_at p i (first_part p.words r k) || (occurs_at p i (second_part p.words r k) || occurs_at p (suc i) (body_part p.words r k))

  in_var : (w₂ 7 ≡ suc i → ⊥) → w₂ 0 ≡ 0 → InParts 0
  unfolding occurs occurs_at first_part second_part body_part loose
  in_var n e =
      ap (occurs i) (var_at p sound r h e)
      ∙ ne_eqb (w₂ 1) i (λ q. n (loose-word p sound r h ∙ ap loose (var_at p sound r h e) ∙ ap suc q))

  in_sort : w₂ 0 ≡ 1 → InParts 1
  unfolding occurs occurs_at first_part second_part body_part
  in_sort e = ap (occurs i) (sort_at p sound r h e)

  in_const : w₂ 0 ≡ 2 → InParts 2
  unfolding occurs occurs_at first_part second_part body_part
  in_const e = ap (occurs i) (const_at p sound r h e)

  in_app : w₂ 0 ≡ 3 → InParts 3
  unfolding occurs occurs_at first_part second_part body_part
  in_app e =
      ap (occurs i) (app_at p sound r h e)
      ∙ rw (add-one (w₂ 1), add-one (w₂ 2), or-false (occurs i (expr_at p (w₂ 2))))

  in_pi : w₂ 0 ≡ 4 → InParts 4
  unfolding occurs occurs_at first_part second_part body_part
  in_pi e = ap (occurs i) (pi_at p sound r h e) ∙ rw (add-one (w₂ 3), add-one (w₂ 4))

  in_lam : w₂ 0 ≡ 5 → InParts 5
  unfolding occurs occurs_at first_part second_part body_part
  in_lam e = ap (occurs i) (lam_at p sound r h e) ∙ rw (add-one (w₂ 3), add-one (w₂ 4))

  in_let : w₂ 0 ≡ 6 → InParts 6
  unfolding occurs occurs_at first_part second_part body_part
  in_let e = ap (occurs i) (let_at p sound r h e) ∙ rw (add-one (w₂ 2), add-one (w₂ 3), add-one (w₂ 4))

  in_proj : w₂ 0 ≡ 7 → InParts 7
  unfolding occurs occurs_at first_part second_part body_part
  in_proj e = ap (occurs i) (proj_at p sound r h e) ∙ rw (add-one (w₂ 3), or-false (occurs i (expr_at p (w₂ 3))))

  in_nat : w₂ 0 ≡ 8 → InParts 8
  unfolding occurs occurs_at first_part second_part body_part
  in_nat e = ap (occurs i) (nat_at p sound r h e)

  in_str : w₂ 0 ≡ 9 → InParts 9
  unfolding occurs occurs_at first_part second_part body_part
  in_str e = ap (occurs i) (str_at p sound r h e)

  pub in_parts : (w₂ 7 ≡ suc i → ⊥) → InParts (w₂ 0)
  in_parts n =
      ten (λ (k : ℕ). w₂ 0 ≡ k → InParts k) (in_var n) in_sort in_const in_app in_pi in_lam in_let in_proj in_nat in_str
      (w₂ 0) (kind_small p sound r h) refl

-- a part is less deep than its row
abbrev pub depth_at : Pool → ℕ → ℕ
depth_at p zero = 0
depth_at p (suc r) = depth (expr_at p r)

deep_next : (p : Pool) (r : ℕ) → depth_at p (r + 1) ≡ depth (expr_at p r)
deep_next p r = ap (depth_at p) (add-one r)

pub some_depth : (e : Expr) → 0 < depth e
unfolding depth
some_depth (var i) = omega arith
some_depth (sort l) = omega arith
some_depth (const n ls) = omega arith
some_depth (app f a) = omega arith
some_depth (pi p n s t b) = omega arith
some_depth (lam p n s t b) = omega arith
some_depth (letᵉ p n t v b d) = omega arith
some_depth (proj n i e) = omega arith
some_depth (nat s) = omega arith
some_depth (str s) = omega arith

module _ (p : Pool) (sound : Sound p) (r : ℕ) (h : r < E p.words) where
  abbrev w₃ : ℕ → ℕ
  w₃ k = expr_word p.words r k

  abbrev deep : ℕ
  deep = depth (expr_at p r)

  none_deep : 0 < deep
  none_deep = some_depth (expr_at p r)

  app_deep : w₃ 0 ≡ 3 → (depth_at p (w₃ 1 + 1) < deep) × (depth_at p (w₃ 2 + 1) < deep)
  unfolding depth
  app_deep e =
      let q : deep ≡ suc (max (depth (expr_at p (w₃ 1))) (depth (expr_at p (w₃ 2)))) = ap depth (app_at p sound r h e) in
      (omega (arith, q, deep_next p (w₃ 1)), omega (arith, q, deep_next p (w₃ 2)))

  pi_deep : w₃ 0 ≡ 4 → (depth_at p (w₃ 3 + 1) < deep) × (depth_at p (w₃ 4 + 1) < deep)
  unfolding depth
  pi_deep e =
      let q : deep ≡ suc (max (depth (expr_at p (w₃ 3))) (depth (expr_at p (w₃ 4)))) = ap depth (pi_at p sound r h e) in
      (omega (arith, q, deep_next p (w₃ 3)), omega (arith, q, deep_next p (w₃ 4)))

  lam_deep : w₃ 0 ≡ 5 → (depth_at p (w₃ 3 + 1) < deep) × (depth_at p (w₃ 4 + 1) < deep)
  unfolding depth
  lam_deep e =
      let q : deep ≡ suc (max (depth (expr_at p (w₃ 3))) (depth (expr_at p (w₃ 4)))) = ap depth (lam_at p sound r h e) in
      (omega (arith, q, deep_next p (w₃ 3)), omega (arith, q, deep_next p (w₃ 4)))

  let_deep : w₃ 0 ≡ 6 → (depth_at p (w₃ 2 + 1) < deep) × (depth_at p (w₃ 3 + 1) < deep) × (depth_at p (w₃ 4 + 1) < deep)
  unfolding depth
  let_deep e =
      let q : deep ≡ suc (max (depth (expr_at p (w₃ 2))) (max (depth (expr_at p (w₃ 3))) (depth (expr_at p (w₃ 4))))) = ap depth (let_at p sound r h e) in
      (omega (arith, q, deep_next p (w₃ 2)), omega (arith, q, deep_next p (w₃ 3)), omega (arith, q, deep_next p (w₃ 4)))

  proj_deep : w₃ 0 ≡ 7 → depth_at p (w₃ 3 + 1) < deep
  unfolding depth
  proj_deep e = let q : deep ≡ suc (depth (expr_at p (w₃ 3))) = ap depth (proj_at p sound r h e) in omega (arith, q, deep_next p (w₃ 3))

  pub first_deep : depth_at p (first_part p.words r (w₃ 0)) < depth (expr_at p r)
  unfolding first_part
  first_deep =
      ten (λ (k : ℕ). w₃ 0 ≡ k → depth_at p (first_part p.words r k) < deep) (λ e. none_deep) (λ e. none_deep) (λ e. none_deep)
      (λ e. (app_deep e).0) (λ e. (pi_deep e).0) (λ e. (lam_deep e).0) (λ e. (let_deep e).0) proj_deep (λ e. none_deep) (λ e. none_deep)
      (w₃ 0) (kind_small p sound r h) refl

  pub second_deep : depth_at p (second_part p.words r (w₃ 0)) < depth (expr_at p r)
  unfolding second_part
  second_deep =
      ten (λ (k : ℕ). w₃ 0 ≡ k → depth_at p (second_part p.words r k) < deep) (λ e. none_deep) (λ e. none_deep) (λ e. none_deep)
      (λ e. (app_deep e).1) (λ e. none_deep) (λ e. none_deep) (λ e. (let_deep e).1) (λ e. none_deep) (λ e. none_deep) (λ e. none_deep)
      (w₃ 0) (kind_small p sound r h) refl

  pub body_deep : depth_at p (body_part p.words r (w₃ 0)) < depth (expr_at p r)
  unfolding body_part
  body_deep =
      ten (λ (k : ℕ). w₃ 0 ≡ k → depth_at p (body_part p.words r k) < deep) (λ e. none_deep) (λ e. none_deep) (λ e. none_deep)
      (λ e. none_deep) (λ e. (pi_deep e).1) (λ e. (lam_deep e).1) (λ e. (let_deep e).2) (λ e. none_deep) (λ e. none_deep) (λ e. none_deep)
      (w₃ 0) (kind_small p sound r h) refl
