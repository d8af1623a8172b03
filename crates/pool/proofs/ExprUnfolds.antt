-- The tree of an expression row in a sound pool: its node over the trees of lower rows; the words for depth and loose are the tree's.
use Prim.Native.Nat.{ℕ, zero, suc, ◌-◌, ◌≤◌, ◌<◌, max}
use native.Mathlib.Omega.{arith}
use native.Mathlib.Numerals.{one-add}
use mathlib.Core.Bool.{true, ◌&&◌}
use mathlib.Core.Path.{◌≡◌, refl, sym, ap, ap₂, ◌∙◌, subst}
use lib.Dec.{leb, ltb, eqb}
use borrow.Author.Tests.{ltb-true, leb-true, eqb-true}
use Rattle.pool.specs.Tables.{Pool, S, N, L, K, E, expr_word, string_at}
use Rattle.pool.specs.Kinds.{ExprKind, expr_kind, varᵏ, sortᵏ, constᵏ, appᵏ, piᵏ, lamᵏ, letᵏ, projᵏ, natᵏ, strᵏ, noExprᵏ}
use Rattle.pool.specs.Tree.{Expr, var, sort, const, app, pi, lam, letᵉ, proj, nat, str, depth, loose, shape}
use Rattle.pool.specs.Unfold.{name_at, level_at, list_at, expr_node, expr_to, expr_at}
use Rattle.pool.specs.Rules.{last_projection, expr_fields_ok_with, expr_fields_ok, depth_by, loose_by, expr_ok_with}
use Rattle.pool.specs.Sound.{Sound}
use Rattle.basics.proofs.Booleans.{and_left, and_right, false-true}
use Rattle.pool.proofs.TreeLaws.{label}
use Rattle.pool.proofs.Unfolds.{ExprsKept}

-- ---- what a row's fields are, by its kind

module _ (p : Pool) (r : ℕ) where
  abbrev word : ℕ → ℕ
  word k = expr_word p.words r k

  pub var_fields : expr_fields_ok p r varᵏ ≡ true → word 1 ≤ 4095
  unfolding expr_fields_ok_with
  var_fields ok = leb-true (word 1) 4095 (and_left (leb (word 1) 4095) _ ok)

  pub sort_fields : expr_fields_ok p r sortᵏ ≡ true → word 1 < L p.words
  unfolding expr_fields_ok_with
  sort_fields ok = ltb-true (word 1) (L p.words) (and_left (ltb (word 1) (L p.words)) _ ok)

  pub const_fields : expr_fields_ok p r constᵏ ≡ true → (word 1 < N p.names) × (word 2 < K p.words)
  unfolding expr_fields_ok_with
  const_fields ok =
      let ok2 = and_right (ltb (word 1) (N p.names)) _ ok in (
        ltb-true (word 1) (N p.names) (and_left (ltb (word 1) (N p.names)) _ ok),
        ltb-true (word 2) (K p.words) (and_left (ltb (word 2) (K p.words)) _ ok2),
      )

  pub app_fields : expr_fields_ok p r appᵏ ≡ true → (word 1 < r) × (word 2 < r)
  unfolding expr_fields_ok_with
  app_fields ok =
      let ok2 = and_right (ltb (word 1) r) _ ok in
      (ltb-true (word 1) r (and_left (ltb (word 1) r) _ ok), ltb-true (word 2) r (and_left (ltb (word 2) r) _ ok2))

  pub pi_fields : expr_fields_ok p r piᵏ ≡ true → (word 1 < N p.names) × (word 2 < 4) × (word 3 < r) × (word 4 < r)
  unfolding expr_fields_ok_with
  pi_fields ok =
      let ok2 = and_right (ltb (word 1) (N p.names)) _ ok in
      let ok3 = and_right (ltb (word 2) 4) _ ok2 in
      let ok4 = and_right (ltb (word 3) r) _ ok3 in (
        ltb-true (word 1) (N p.names) (and_left (ltb (word 1) (N p.names)) _ ok),
        ltb-true (word 2) 4 (and_left (ltb (word 2) 4) _ ok2),
        ltb-true (word 3) r (and_left (ltb (word 3) r) _ ok3),
        ltb-true (word 4) r (and_left (ltb (word 4) r) _ ok4),
      )

  pub lam_fields : expr_fields_ok p r lamᵏ ≡ true → (word 1 < N p.names) × (word 2 < 4) × (word 3 < r) × (word 4 < r)
  unfolding expr_fields_ok_with
  lam_fields ok = pi_fields ok

  pub let_fields : expr_fields_ok p r letᵏ ≡ true → (word 1 < N p.names) × (word 2 < r) × (word 3 < r) × (word 4 < r) × (word 5 < 2)
  unfolding expr_fields_ok_with
  let_fields ok =
      let ok2 = and_right (ltb (word 1) (N p.names)) _ ok in
      let ok3 = and_right (ltb (word 2) r) _ ok2 in
      let ok4 = and_right (ltb (word 3) r) _ ok3 in (
        ltb-true (word 1) (N p.names) (and_left (ltb (word 1) (N p.names)) _ ok),
        ltb-true (word 2) r (and_left (ltb (word 2) r) _ ok2),
        ltb-true (word 3) r (and_left (ltb (word 3) r) _ ok3),
        ltb-true (word 4) r (and_left (ltb (word 4) r) _ ok4),
        ltb-true (word 5) 2 (and_right (ltb (word 4) r) _ ok4),
      )

  pub proj_fields : expr_fields_ok p r projᵏ ≡ true → (word 1 < N p.names) × (word 3 < r)
  unfolding expr_fields_ok_with
  proj_fields ok =
      let ok2 = and_right (ltb (word 1) (N p.names)) _ ok in
      let ok3 = and_right (leb (word 2) last_projection) _ ok2 in
      (ltb-true (word 1) (N p.names) (and_left (ltb (word 1) (N p.names)) _ ok), ltb-true (word 3) r (and_left (ltb (word 3) r) _ ok3))

  pub nat_fields : expr_fields_ok p r natᵏ ≡ true → word 1 < S p.names
  unfolding expr_fields_ok_with
  nat_fields ok = ltb-true (word 1) (S p.names) (and_left (ltb (word 1) (S p.names)) _ ok)

  pub str_fields : expr_fields_ok p r strᵏ ≡ true → word 1 < S p.names
  unfolding expr_fields_ok_with
  str_fields ok = ltb-true (word 1) (S p.names) (and_left (ltb (word 1) (S p.names)) _ ok)

  -- a row that keeps its rules is of one of the ten kinds
  pub kind_known : expr_fields_ok p r noExprᵏ ≡ true → ⊥
  unfolding expr_fields_ok_with
  kind_known ok = false-true ok

-- ---- unfolding does not depend on the bound

expr_node_lem : (p : Pool) (f g : ℕ → Expr) (i : ℕ) (k : ExprKind) → expr_fields_ok p i k ≡ true → ((j : ℕ) → j < i → f j ≡ g j)
    → expr_node p f i k ≡ expr_node p g i k
unfolding expr_node
expr_node_lem p f g i varᵏ ok e = refl
expr_node_lem p f g i sortᵏ ok e = refl
expr_node_lem p f g i constᵏ ok e = refl
expr_node_lem p f g i appᵏ ok e = let w = app_fields p i ok in ap₂ app (e _ w.0) (e _ w.1)
expr_node_lem p f g i piᵏ ok e = let w = pi_fields p i ok in rw (e _ w.2, e _ w.3)
expr_node_lem p f g i lamᵏ ok e = let w = lam_fields p i ok in rw (e _ w.2, e _ w.3)
expr_node_lem p f g i letᵏ ok e = let w = let_fields p i ok in rw (e _ w.1, e _ w.2, e _ w.3)
expr_node_lem p f g i projᵏ ok e = let w = proj_fields p i ok in rw (e _ w.1)
expr_node_lem p f g i natᵏ ok e = refl
expr_node_lem p f g i strᵏ ok e = refl
expr_node_lem p f g i noExprᵏ ok e = refl

-- the same tree at every bound above the row
pub expr_bound : (p : Pool) (n : ℕ) → ExprsKept p n → (b c i : ℕ) → i < n → i < b → i < c → expr_to b p i ≡ expr_to c p i
unfolding expr_to
expr_bound p n kept zero c i h hb hc = absurd (omega arith)
expr_bound p n kept (suc b) zero i h hb hc = absurd (omega arith)
expr_bound p n kept (suc b) (suc c) i h hb hc =
    expr_node_lem p (expr_to b p) (expr_to c p) i _ (kept i h) (λ j l. expr_bound p n kept b c j (omega arith) (omega arith) (omega arith))

-- the tree of a row is its node over the trees of lower rows
pub expr_unfolds_kept : (p : Pool) (n : ℕ) → ExprsKept p n → (r : ℕ) → r < n
    → expr_at p r ≡ expr_node p (expr_at p) r (expr_kind (expr_word p.words r 0))
unfolding expr_at expr_to
expr_unfolds_kept p n kept r h =
    expr_node_lem p (expr_to r p) (expr_at p) r _ (kept r h) (λ j l. expr_bound p n kept r (suc j) j (omega arith) l (omega arith))

pub expr_kept : (p : Pool) → Sound p → ExprsKept p (E p.words)
unfolding expr_ok_with
expr_kept p sound j h = and_left (expr_fields_ok p j (expr_kind (expr_word p.words j 0))) _ (sound.exprs j h)

pub expr_unfolds : (p : Pool) → Sound p → (r : ℕ) → r < E p.words
    → expr_at p r ≡ expr_node p (expr_at p) r (expr_kind (expr_word p.words r 0))
expr_unfolds p sound r h = expr_unfolds_kept p (E p.words) (expr_kept p sound) r h

-- ---- the words for depth and loose

-- the depth of a node, and its `loose`, from those of lower rows
node-depth : (p : Pool) (r : ℕ) (k : ExprKind) → expr_fields_ok p r k ≡ true
    → ((j : ℕ) → j < r → expr_word p.words j 6 ≡ depth (expr_at p j)) → depth_by p r k ≡ depth (expr_node p (expr_at p) r k)
unfolding depth_by depth expr_node
node-depth p r varᵏ ok e = refl
node-depth p r sortᵏ ok e = refl
node-depth p r constᵏ ok e = refl
node-depth p r appᵏ ok e = let w = app_fields p r ok in one-add _ ∙ ap suc (ap₂ max (e _ w.0) (e _ w.1))
node-depth p r piᵏ ok e = let w = pi_fields p r ok in one-add _ ∙ ap suc (ap₂ max (e _ w.2) (e _ w.3))
node-depth p r lamᵏ ok e = let w = lam_fields p r ok in one-add _ ∙ ap suc (ap₂ max (e _ w.2) (e _ w.3))
node-depth p r letᵏ ok e = let w = let_fields p r ok in one-add _ ∙ ap suc (ap₂ max (e _ w.1) (ap₂ max (e _ w.2) (e _ w.3)))
node-depth p r projᵏ ok e = let w = proj_fields p r ok in one-add _ ∙ ap suc (e _ w.1)
node-depth p r natᵏ ok e = refl
node-depth p r strᵏ ok e = refl
node-depth p r noExprᵏ ok e = refl

less_one : ℕ → ℕ
less_one n = n - 1

node-loose : (p : Pool) (r : ℕ) (k : ExprKind) → expr_fields_ok p r k ≡ true
    → ((j : ℕ) → j < r → expr_word p.words j 7 ≡ loose (expr_at p j)) → loose_by p r k ≡ loose (expr_node p (expr_at p) r k)
unfolding loose_by loose expr_node less_one
node-loose p r varᵏ ok e = one-add _
node-loose p r sortᵏ ok e = refl
node-loose p r constᵏ ok e = refl
node-loose p r appᵏ ok e = let w = app_fields p r ok in ap₂ max (e _ w.0) (e _ w.1)
node-loose p r piᵏ ok e = let w = pi_fields p r ok in ap₂ max (e _ w.2) (ap less_one (e _ w.3))
node-loose p r lamᵏ ok e = let w = lam_fields p r ok in ap₂ max (e _ w.2) (ap less_one (e _ w.3))
node-loose p r letᵏ ok e = let w = let_fields p r ok in ap₂ max (e _ w.1) (ap₂ max (e _ w.2) (ap less_one (e _ w.3)))
node-loose p r projᵏ ok e = let w = proj_fields p r ok in e _ w.1
node-loose p r natᵏ ok e = refl
node-loose p r strᵏ ok e = refl
node-loose p r noExprᵏ ok e = absurd (kind_known p r ok)

module _ (p : Pool) (sound : Sound p) where
  abbrev kind_at : ℕ → ExprKind
  kind_at r = expr_kind (expr_word p.words r 0)

  -- the rules of a row, one by one
  pub fields_kept : (r : ℕ) → r < E p.words → expr_fields_ok p r (expr_kind (expr_word p.words r 0)) ≡ true
  fields_kept = expr_kept p sound

  others : (r : ℕ) → r < E p.words
      → eqb (expr_word p.words r 6) (depth_by p r (kind_at r)) && (leb (expr_word p.words r 6) 256 && eqb (expr_word p.words r 7) (loose_by p r (kind_at r))) ≡ true
  unfolding expr_ok_with
  others r h = and_right (expr_fields_ok p r (kind_at r)) _ (sound.exprs r h)

  pub depth_small : (r : ℕ) → r < E p.words → expr_word p.words r 6 ≤ 256
  depth_small r h =
      leb-true (expr_word p.words r 6) 256
      (and_left (leb (expr_word p.words r 6) 256) _ (and_right (eqb (expr_word p.words r 6) (depth_by p r (kind_at r))) _ (others r h)))

  depth_by_lem : (r : ℕ) → r < E p.words → expr_word p.words r 6 ≡ depth_by p r (kind_at r)
  depth_by_lem r h = eqb-true _ _ (and_left (eqb (expr_word p.words r 6) (depth_by p r (kind_at r))) _ (others r h))

  loose_by_lem : (r : ℕ) → r < E p.words → expr_word p.words r 7 ≡ loose_by p r (kind_at r)
  loose_by_lem r h =
      eqb-true _ _
      (and_right (leb (expr_word p.words r 6) 256) _ (and_right (eqb (expr_word p.words r 6) (depth_by p r (kind_at r))) _ (others r h)))

  depth_below : (b r : ℕ) → r < b → r < E p.words → expr_word p.words r 6 ≡ depth (expr_at p r)
  depth_below zero r hb h = absurd (omega arith)
  depth_below (suc b) r hb h =
      depth_by_lem r h
      ∙ node-depth p r (kind_at r) (fields_kept r h) (λ j l. depth_below b j (omega arith) (omega arith))
      ∙ sym (ap depth (expr_unfolds p sound r h))

  loose_below : (b r : ℕ) → r < b → r < E p.words → expr_word p.words r 7 ≡ loose (expr_at p r)
  loose_below zero r hb h = absurd (omega arith)
  loose_below (suc b) r hb h =
      loose_by_lem r h
      ∙ node-loose p r (kind_at r) (fields_kept r h) (λ j l. loose_below b j (omega arith) (omega arith))
      ∙ sym (ap loose (expr_unfolds p sound r h))

  pub depth-word : (r : ℕ) → r < E p.words → expr_word p.words r 6 ≡ depth (expr_at p r)
  depth-word r h = depth_below (suc r) r (omega arith) h

  pub loose-word : (r : ℕ) → r < E p.words → expr_word p.words r 7 ≡ loose (expr_at p r)
  loose-word r h = loose_below (suc r) r (omega arith) h

-- ---- the kind word is the tree's label

label_node : (p : Pool) (f : ℕ → Expr) (r k : ℕ) → expr_fields_ok p r (expr_kind k) ≡ true → label (shape (expr_node p f r (expr_kind k))) ≡ k
unfolding expr_kind expr_node shape label
label_node p f r zero ok = refl
label_node p f r (suc zero) ok = refl
label_node p f r (suc (suc zero)) ok = refl
label_node p f r (suc (suc (suc zero))) ok = refl
label_node p f r (suc (suc (suc (suc zero)))) ok = refl
label_node p f r (suc (suc (suc (suc (suc zero))))) ok = refl
label_node p f r (suc (suc (suc (suc (suc (suc zero)))))) ok = refl
label_node p f r (suc (suc (suc (suc (suc (suc (suc zero))))))) ok = refl
label_node p f r (suc (suc (suc (suc (suc (suc (suc (suc zero)))))))) ok = refl
label_node p f r (suc (suc (suc (suc (suc (suc (suc (suc (suc zero))))))))) ok = refl
label_node p f r (suc (suc (suc (suc (suc (suc (suc (suc (suc (suc k)))))))))) ok = absurd (kind_known p r ok)

pub label_word : (p : Pool) → Sound p → (r : ℕ) → r < E p.words → label (shape (expr_at p r)) ≡ expr_word p.words r 0
label_word p sound r h =
    ap (λ (e : Expr). label (shape e)) (expr_unfolds p sound r h) ∙ label_node p (expr_at p) r _ (expr_kept p sound r h)

-- ---- a row of each kind, by its number: its fields, and its tree

module _ (p : Pool) (sound : Sound p) (r : ℕ) (h : r < E p.words) where
  abbrev w : ℕ → ℕ
  w k = expr_word p.words r k

  node_at : (k : ℕ) → expr_word p.words r 0 ≡ k → expr_at p r ≡ expr_node p (expr_at p) r (expr_kind k)
  node_at k e = expr_unfolds p sound r h ∙ ap (λ (i : ℕ). expr_node p (expr_at p) r (expr_kind i)) e

  kept_at : (k : ℕ) → expr_word p.words r 0 ≡ k → expr_fields_ok p r (expr_kind k) ≡ true
  kept_at k e = subst (λ (i : ℕ). expr_fields_ok p r (expr_kind i) ≡ true) e (expr_kept p sound r h)

  pub var_at : w 0 ≡ 0 → expr_at p r ≡ var (w 1)
  unfolding expr_kind expr_node
  var_at e = node_at 0 e

  pub sort_at : w 0 ≡ 1 → expr_at p r ≡ sort (level_at p (w 1))
  unfolding expr_kind expr_node
  sort_at e = node_at 1 e

  pub const_at : w 0 ≡ 2 → expr_at p r ≡ const (name_at p (w 1)) (list_at p (w 2))
  unfolding expr_kind expr_node
  const_at e = node_at 2 e

  pub app_at : w 0 ≡ 3 → expr_at p r ≡ app (expr_at p (w 1)) (expr_at p (w 2))
  unfolding expr_kind expr_node
  app_at e = node_at 3 e

  pub pi_at : w 0 ≡ 4 → expr_at p r ≡ pi r (name_at p (w 1)) (w 2) (expr_at p (w 3)) (expr_at p (w 4))
  unfolding expr_kind expr_node
  pi_at e = node_at 4 e

  pub lam_at : w 0 ≡ 5 → expr_at p r ≡ lam r (name_at p (w 1)) (w 2) (expr_at p (w 3)) (expr_at p (w 4))
  unfolding expr_kind expr_node
  lam_at e = node_at 5 e

  pub let_at : w 0 ≡ 6 → expr_at p r ≡ letᵉ r (name_at p (w 1)) (expr_at p (w 2)) (expr_at p (w 3)) (expr_at p (w 4)) (w 5)
  unfolding expr_kind expr_node
  let_at e = node_at 6 e

  pub proj_at : w 0 ≡ 7 → expr_at p r ≡ proj (name_at p (w 1)) (w 2) (expr_at p (w 3))
  unfolding expr_kind expr_node
  proj_at e = node_at 7 e

  pub nat_at : w 0 ≡ 8 → expr_at p r ≡ nat (string_at p (w 1))
  unfolding expr_kind expr_node
  nat_at e = node_at 8 e

  pub str_at : w 0 ≡ 9 → expr_at p r ≡ str (string_at p (w 1))
  unfolding expr_kind expr_node
  str_at e = node_at 9 e

  pub var_ok : w 0 ≡ 0 → w 1 ≤ 4095
  unfolding expr_kind
  var_ok e = var_fields p r (kept_at 0 e)

  pub sort_ok : w 0 ≡ 1 → w 1 < L p.words
  unfolding expr_kind
  sort_ok e = sort_fields p r (kept_at 1 e)

  pub const_ok : w 0 ≡ 2 → (w 1 < N p.names) × (w 2 < K p.words)
  unfolding expr_kind
  const_ok e = const_fields p r (kept_at 2 e)

  pub app_ok : w 0 ≡ 3 → (w 1 < r) × (w 2 < r)
  unfolding expr_kind
  app_ok e = app_fields p r (kept_at 3 e)

  pub pi_ok : w 0 ≡ 4 → (w 1 < N p.names) × (w 2 < 4) × (w 3 < r) × (w 4 < r)
  unfolding expr_kind
  pi_ok e = pi_fields p r (kept_at 4 e)

  pub lam_ok : w 0 ≡ 5 → (w 1 < N p.names) × (w 2 < 4) × (w 3 < r) × (w 4 < r)
  unfolding expr_kind
  lam_ok e = lam_fields p r (kept_at 5 e)

  pub let_ok : w 0 ≡ 6 → (w 1 < N p.names) × (w 2 < r) × (w 3 < r) × (w 4 < r) × (w 5 < 2)
  unfolding expr_kind
  let_ok e = let_fields p r (kept_at 6 e)

  pub proj_ok : w 0 ≡ 7 → (w 1 < N p.names) × (w 3 < r)
  unfolding expr_kind
  proj_ok e = proj_fields p r (kept_at 7 e)

  pub nat_ok : w 0 ≡ 8 → w 1 < S p.names
  unfolding expr_kind
  nat_ok e = nat_fields p r (kept_at 8 e)

  pub str_ok : w 0 ≡ 9 → w 1 < S p.names
  unfolding expr_kind
  str_ok e = str_fields p r (kept_at 9 e)

  kind_below : (k : ℕ) → expr_fields_ok p r (expr_kind k) ≡ true → k < 10
  unfolding expr_kind
  kind_below zero ok = omega arith
  kind_below (suc zero) ok = omega arith
  kind_below (suc (suc zero)) ok = omega arith
  kind_below (suc (suc (suc zero))) ok = omega arith
  kind_below (suc (suc (suc (suc zero)))) ok = omega arith
  kind_below (suc (suc (suc (suc (suc zero))))) ok = omega arith
  kind_below (suc (suc (suc (suc (suc (suc zero)))))) ok = omega arith
  kind_below (suc (suc (suc (suc (suc (suc (suc zero))))))) ok = omega arith
  kind_below (suc (suc (suc (suc (suc (suc (suc (suc zero)))))))) ok = omega arith
  kind_below (suc (suc (suc (suc (suc (suc (suc (suc (suc zero))))))))) ok = omega arith
  kind_below (suc (suc (suc (suc (suc (suc (suc (suc (suc (suc k)))))))))) ok = absurd (kind_known p r ok)

  pub kind_small : w 0 < 10
  kind_small = kind_below (w 0) (expr_kept p sound r h)
