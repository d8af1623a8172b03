-- What a row of a chain is, and what a row is that is none.
use Prim.Native.Nat.{ℕ, zero, suc, ◌<◌, ◌≤◌}
use native.Mathlib.Omega.{arith}
use mathlib.Core.Bool.{Bool, true, false, ◌||◌, cond}
use mathlib.Core.List.{[], ◌∷◌}
use mathlib.Core.Path.{◌≡◌, refl, ap, ◌∙◌}
use lib.Dec.{eqb}
use borrow.Author.Tests.{eqb-true}
use Rattle.pool.specs.Tables.{Pool, N, E, expr_word}
use Rattle.pool.specs.Tree.{Name, Expr, var, sort, const, app, pi, lam, letᵉ, proj, nat, str, occurs}
use Rattle.pool.specs.Unfold.{name_at, expr_at}
use Rattle.pool.specs.Sound.{Sound}
use Rattle.pool.proofs.ExprUnfolds.{kind_small, var_at, sort_at, const_at, app_at, pi_at, lam_at, let_at, proj_at, nat_at, str_at, pi_ok, lam_ok}
use Rattle.binders.specs.declared.stack.Stack.{Stack}
use Rattle.binders.specs.Binders.{chain_body, is_arrow, is_named_pi}
use Rattle.binders.specs.Rename.{rename}
use Rattle.binders.specs.Scopes.{entry, place_in, scoped, last_scope, Chained}
use Rattle.binders.specs.Steps.{first_binder, in_run, run_length, in_group, group_length, drop_chain, mk_binder, is_binder, binder_kind, chain_length}

-- ---- a binder

pub first_made : (i : Bool) (q : ℕ) (n : Name) (s : ℕ) (t b : Expr) → first_binder (mk_binder i q n s t b) ≡ record { is_pi = i; used = occurs 0 b; name = n; style = s; type = t; place = q }
unfolding mk_binder first_binder
first_made true q n s t b = refl
first_made false q n s t b = refl

pub binder_made : (i : Bool) (q : ℕ) (n : Name) (s : ℕ) (t b : Expr) → is_binder (mk_binder i q n s t b) ≡ true
unfolding mk_binder is_binder
binder_made true q n s t b = refl
binder_made false q n s t b = refl

pub length_made : (i : Bool) (q : ℕ) (n : Name) (s : ℕ) (t b : Expr) → chain_length (mk_binder i q n s t b) ≡ suc (chain_length b)
unfolding mk_binder chain_length
length_made true q n s t b = refl
length_made false q n s t b = refl

pub body_made : (i : Bool) (q : ℕ) (n : Name) (s : ℕ) (t b : Expr) → chain_body (mk_binder i q n s t b) ≡ chain_body b
unfolding mk_binder chain_body
body_made true q n s t b = refl
body_made false q n s t b = refl

pub drop_made : (i : Bool) (q : ℕ) (n : Name) (s : ℕ) (t b : Expr) (m : ℕ) → drop_chain (suc m) (mk_binder i q n s t b) ≡ drop_chain m b
unfolding mk_binder drop_chain
drop_made true q n s t b m = refl
drop_made false q n s t b m = refl

pub scope_made : (i : Bool) (q : ℕ) (n : Name) (s : ℕ) (t b : Expr) (h m : ℕ) → last_scope h m (mk_binder i q n s t b) ≡ last_scope (suc m) (suc m) b
unfolding mk_binder last_scope
scope_made true q n s t b h m = refl
scope_made false q n s t b h m = refl

pub scoped_made : (i : Bool) (q : ℕ) (n : Name) (s : ℕ) (t b : Expr) (k : Stack) (h m : ℕ) → scoped k h m (mk_binder i q n s t b) ≡ record
    { is_pi = i; used = occurs 0 b; name = n; style = s; type = rename (place_in k h) t; place = q } ∷ scoped k (suc m) (suc m) b
unfolding mk_binder scoped
scoped_made true q n s t b k h m = refl
scoped_made false q n s t b k h m = refl

pub run_made : (i : Bool) (q : ℕ) (n : Name) (s : ℕ) (t b : Expr) (c : Bool) → run_length c (mk_binder i q n s t b) ≡ cond (in_run c (first_binder (mk_binder i q n s t b))) (suc (run_length c b)) 0
unfolding mk_binder run_length
run_made true q n s t b c = refl
run_made false q n s t b c = refl

pub group_made : (i : Bool) (q : ℕ) (a : Name) (s : ℕ) (t b : Expr) (n style : ℕ) (type : Expr) (j : ℕ) → group_length (suc n) style type j
    (mk_binder i q a s t b) ≡ cond (in_group style type j (first_binder (mk_binder i q a s t b))) (suc (group_length n style type (suc j) b)) 0
unfolding mk_binder group_length
group_made true q a s t b n style type j = refl
group_made false q a s t b n style type j = refl

pub chained_made : (p : Pool) (k : Stack) (h m : ℕ) (i : Bool) (q : ℕ) (n : Name) (s : ℕ) (t b : Expr) →
    (entry k m).link ≡ h → name_at p (entry k m).name ≡ n → Chained p k (suc m) (suc m) b → Chained p k h m (mk_binder i q n s t b)
unfolding mk_binder Chained
chained_made p k h m true q n s t b l e c = (l, e, c)
chained_made p k h m false q n s t b l e c = (l, e, c)

pub chained_parts : (p : Pool) (k : Stack) (h m : ℕ) (i : Bool) (q : ℕ) (n : Name) (s : ℕ) (t b : Expr) →
    Chained p k h m (mk_binder i q n s t b) → ((entry k m).link ≡ h) × (name_at p (entry k m).name ≡ n) × Chained p k (suc m) (suc m) b
unfolding mk_binder Chained
chained_parts p k h m true q n s t b c = c
chained_parts p k h m false q n s t b c = c

-- ---- no binder

pub length_none : (e : Expr) → is_binder e ≡ false → chain_length e ≡ 0
unfolding is_binder chain_length
length_none (var i) h₀ = refl
length_none (sort l) h₀ = refl
length_none (const n ls) h₀ = refl
length_none (app f a) h₀ = refl
length_none (pi p n s t b) h₀ = cc
length_none (lam p n s t b) h₀ = cc
length_none (letᵉ p n t v b d) h₀ = refl
length_none (proj n i e) h₀ = refl
length_none (nat s) h₀ = refl
length_none (str s) h₀ = refl

pub body_none : (e : Expr) → is_binder e ≡ false → chain_body e ≡ e
unfolding is_binder chain_body
body_none (var i) h₀ = refl
body_none (sort l) h₀ = refl
body_none (const n ls) h₀ = refl
body_none (app f a) h₀ = refl
body_none (pi p n s t b) h₀ = cc
body_none (lam p n s t b) h₀ = cc
body_none (letᵉ p n t v b d) h₀ = refl
body_none (proj n i e) h₀ = refl
body_none (nat s) h₀ = refl
body_none (str s) h₀ = refl

pub scope_none : (h m : ℕ) (e : Expr) → is_binder e ≡ false → last_scope h m e ≡ h
unfolding is_binder last_scope
scope_none h m (var i) h₀ = refl
scope_none h m (sort l) h₀ = refl
scope_none h m (const n ls) h₀ = refl
scope_none h m (app f a) h₀ = refl
scope_none h m (pi p n s t b) h₀ = cc
scope_none h m (lam p n s t b) h₀ = cc
scope_none h m (letᵉ p n t v b d) h₀ = refl
scope_none h m (proj n i e) h₀ = refl
scope_none h m (nat s) h₀ = refl
scope_none h m (str s) h₀ = refl

pub scoped_none : (k : Stack) (h m : ℕ) (e : Expr) → is_binder e ≡ false → scoped k h m e ≡ []
unfolding is_binder scoped
scoped_none k h m (var i) h₀ = refl
scoped_none k h m (sort l) h₀ = refl
scoped_none k h m (const n ls) h₀ = refl
scoped_none k h m (app f a) h₀ = refl
scoped_none k h m (pi p n s t b) h₀ = cc
scoped_none k h m (lam p n s t b) h₀ = cc
scoped_none k h m (letᵉ p n t v b d) h₀ = refl
scoped_none k h m (proj n i e) h₀ = refl
scoped_none k h m (nat s) h₀ = refl
scoped_none k h m (str s) h₀ = refl

pub run_none : (c : Bool) (e : Expr) → is_binder e ≡ false → run_length c e ≡ 0
unfolding is_binder run_length
run_none c (var i) h₀ = refl
run_none c (sort l) h₀ = refl
run_none c (const n ls) h₀ = refl
run_none c (app f a) h₀ = refl
run_none c (pi p n s t b) h₀ = cc
run_none c (lam p n s t b) h₀ = cc
run_none c (letᵉ p n t v b d) h₀ = refl
run_none c (proj n i e) h₀ = refl
run_none c (nat s) h₀ = refl
run_none c (str s) h₀ = refl

-- among no binders
pub group_none : (style : ℕ) (type : Expr) (j : ℕ) (e : Expr) → group_length 0 style type j e ≡ 0
unfolding group_length
group_none style type j (var i) = refl
group_none style type j (sort l) = refl
group_none style type j (const a ls) = refl
group_none style type j (app f a) = refl
group_none style type j (pi p a s t b) = refl
group_none style type j (lam p a s t b) = refl
group_none style type j (letᵉ p a t v b d) = refl
group_none style type j (proj a i e) = refl
group_none style type j (nat s) = refl
group_none style type j (str s) = refl

pub drop_none : (m : ℕ) (e : Expr) → is_binder e ≡ false → drop_chain m e ≡ e
unfolding is_binder drop_chain
drop_none m (var i) h₀ = refl
drop_none m (sort l) h₀ = refl
drop_none m (const n ls) h₀ = refl
drop_none m (app f a) h₀ = refl
drop_none m (pi p n s t b) h₀ = cc
drop_none m (lam p n s t b) h₀ = cc
drop_none m (letᵉ p n t v b d) h₀ = refl
drop_none m (proj n i e) h₀ = refl
drop_none m (nat s) h₀ = refl
drop_none m (str s) h₀ = refl

pub chained_none : (p : Pool) (k : Stack) (h m : ℕ) (e : Expr) → is_binder e ≡ false → k.count ≡ m → Chained p k h m e
unfolding is_binder Chained
chained_none p₀ k h m (var i) h₀ c = c
chained_none p₀ k h m (sort l) h₀ c = c
chained_none p₀ k h m (const n ls) h₀ c = c
chained_none p₀ k h m (app f a) h₀ c = c
chained_none p₀ k h m (pi p n s t b) h₀ c = cc
chained_none p₀ k h m (lam p n s t b) h₀ c = cc
chained_none p₀ k h m (letᵉ p n t v b d) h₀ c = c
chained_none p₀ k h m (proj n i e) h₀ c = c
chained_none p₀ k h m (nat s) h₀ c = c
chained_none p₀ k h m (str s) h₀ c = c

-- a binder that is no arrow starts a run
pub run_starts : (e : Expr) → is_binder e ≡ true → is_arrow (first_binder e) ≡ false → 1 ≤ run_length (first_binder e).is_pi e
unfolding is_binder first_binder run_length in_run is_named_pi
run_starts (var i) h₀ a₀ = cc
run_starts (sort l) h₀ a₀ = cc
run_starts (const n ls) h₀ a₀ = cc
run_starts (app f a) h₀ a₀ = cc
run_starts (pi p n s t b) h₀ a₀ = rw a₀ (omega arith)
run_starts (lam p n s t b) h₀ a₀ = omega arith
run_starts (letᵉ p n t v b d) h₀ a₀ = cc
run_starts (proj n i e) h₀ a₀ = cc
run_starts (nat s) h₀ a₀ = cc
run_starts (str s) h₀ a₀ = cc

-- ---- rows

module _ (p : Pool) (sound : Sound p) (r : ℕ) (h : r < E p.words) where
  abbrev w : ℕ → ℕ
  w k = expr_word p.words r k

  pub binder_row : binder_kind (w 0) ≡ is_binder (expr_at p r)
  unfolding binder_kind is_binder
  binder_row = by (w 0) refl (kind_small p sound r h)
    where
      by : (k : ℕ) → w 0 ≡ k → k < 10 → eqb (w 0) 4 || eqb (w 0) 5 ≡ is_binder (expr_at p r)
      by zero e l = rw (e, var_at p sound r h e)
      by (suc zero) e l = rw (e, sort_at p sound r h e)
      by (suc (suc zero)) e l = rw (e, const_at p sound r h e)
      by (suc (suc (suc zero))) e l = rw (e, app_at p sound r h e)
      by (suc (suc (suc (suc zero)))) e l = rw (e, pi_at p sound r h e)
      by (suc (suc (suc (suc (suc zero))))) e l = rw (e, lam_at p sound r h e)
      by (suc (suc (suc (suc (suc (suc zero)))))) e l = rw (e, let_at p sound r h e)
      by (suc (suc (suc (suc (suc (suc (suc zero))))))) e l = rw (e, proj_at p sound r h e)
      by (suc (suc (suc (suc (suc (suc (suc (suc zero)))))))) e l = rw (e, nat_at p sound r h e)
      by (suc (suc (suc (suc (suc (suc (suc (suc (suc zero))))))))) e l = rw (e, str_at p sound r h e)
      by (suc (suc (suc (suc (suc (suc (suc (suc (suc (suc k)))))))))) e l = absurd (omega arith)

  -- the row of a binder
  pub record BinderRow : Type 0 where
    pub made : expr_at p r ≡ mk_binder (eqb (w 0) 4) r (name_at p (w 1)) (w 2) (expr_at p (w 3)) (expr_at p (w 4))
    pub first : first_binder (expr_at p r)
        ≡ record { is_pi = eqb (w 0) 4; used = occurs 0 (expr_at p (w 4)); name = name_at p (w 1); style = w 2; type = expr_at p (w 3); place = r }
    pub name : w 1 < N p.names
    pub style : w 2 < 4
    pub type : w 3 < r
    pub body : w 4 < r

  first_from : expr_at p r ≡ mk_binder (eqb (w 0) 4) r (name_at p (w 1)) (w 2) (expr_at p (w 3)) (expr_at p (w 4)) →
      first_binder (expr_at p r)
      ≡ record { is_pi = eqb (w 0) 4; used = occurs 0 (expr_at p (w 4)); name = name_at p (w 1); style = w 2; type = expr_at p (w 3); place = r }
  first_from made = ap first_binder made ∙ first_made (eqb (w 0) 4) r (name_at p (w 1)) (w 2) (expr_at p (w 3)) (expr_at p (w 4))

  pub binder_at : binder_kind (w 0) ≡ true → BinderRow
  unfolding binder_kind mk_binder
  binder_at e = by (eqb (w 0) 4) (eqb (w 0) 5) refl refl e
    where
      by : (x y : Bool) → eqb (w 0) 4 ≡ x → eqb (w 0) 5 ≡ y → x || y ≡ true → BinderRow
      by true y f g _ =
          let e4 : w 0 ≡ 4 = eqb-true (w 0) 4 f in
          let ok = pi_ok p sound r h e4 in
          let made : expr_at p r ≡ mk_binder (eqb (w 0) 4) r (name_at p (w 1)) (w 2) (expr_at p (w 3)) (expr_at p (w 4)) = rw f (pi_at p sound r h e4) in
          record { made = made; first = first_from made; name = ok.0; style = ok.1; type = ok.2; body = ok.3 }
      by false true f g _ =
          let e5 : w 0 ≡ 5 = eqb-true (w 0) 5 g in
          let ok = lam_ok p sound r h e5 in
          let made : expr_at p r ≡ mk_binder (eqb (w 0) 4) r (name_at p (w 1)) (w 2) (expr_at p (w 3)) (expr_at p (w 4)) = rw f (lam_at p sound r h e5) in
          record { made = made; first = first_from made; name = ok.0; style = ok.1; type = ok.2; body = ok.3 }
      by false false f g z = cc
