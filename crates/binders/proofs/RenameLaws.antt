-- Laws of renaming: they agree where the renamings do, compose, and `lift` is one.
use Prim.Native.Nat.{ℕ, zero, suc, ◌+◌}
use native.Mathlib.Omega.{arith}
use mathlib.Core.Bool.{Bool, true, false, cond}
use mathlib.Core.Path.{◌≡◌, refl, sym, ap, ap₂, ◌∙◌, fun_ext}
use lib.Dec.{ltb, eqb, leb-zero, leb-suc-suc, leb-suc-zero, eqb-suc-suc, eqb-zero-suc, eqb-suc-zero}
use Rattle.pool.specs.Tree.{Expr, var, sort, const, app, pi, lam, letᵉ, proj, nat, str, lift, occurs, depth, forget}
use Rattle.binders.specs.Rename.{up, rename, lifted}

pub rename_agrees : (ρ σ : ℕ → ℕ) → ((i : ℕ) → ρ i ≡ σ i) → (e : Expr) → rename ρ e ≡ rename σ e
rename_agrees ρ σ h e = ap (λ (f : ℕ → ℕ). rename f e) (fun_ext h)

pub up_agrees : (ρ σ : ℕ → ℕ) → ((i : ℕ) → ρ i ≡ σ i) → (i : ℕ) → up ρ i ≡ up σ i
unfolding up
up_agrees ρ σ h zero = refl
up_agrees ρ σ h (suc i) = ap suc (h i)

up_id : (ρ : ℕ → ℕ) → ((i : ℕ) → ρ i ≡ i) → (i : ℕ) → up ρ i ≡ i
unfolding up
up_id ρ h zero = refl
up_id ρ h (suc i) = ap suc (h i)

pub rename-same : (ρ : ℕ → ℕ) → ((i : ℕ) → ρ i ≡ i) → (e : Expr) → rename ρ e ≡ e
unfolding rename
rename-same ρ h (var i) = ap var (h i)
rename-same ρ h (sort l) = refl
rename-same ρ h (const n ls) = refl
rename-same ρ h (app f a) = ap₂ app (rename-same ρ h f) (rename-same ρ h a)
rename-same ρ h (pi p n s t b) = ap₂ (pi p n s) (rename-same ρ h t) (rename-same (up ρ) (up_id ρ h) b)
rename-same ρ h (lam p n s t b) = ap₂ (lam p n s) (rename-same ρ h t) (rename-same (up ρ) (up_id ρ h) b)
rename-same ρ h (letᵉ p n t v b d) = rw (rename-same ρ h t, rename-same ρ h v, rename-same (up ρ) (up_id ρ h) b)
rename-same ρ h (proj n i e) = ap (proj n i) (rename-same ρ h e)
rename-same ρ h (nat s) = refl
rename-same ρ h (str s) = refl

up_composes : (ρ σ τ : ℕ → ℕ) → ((i : ℕ) → ρ (σ i) ≡ τ i) → (i : ℕ) → up ρ (up σ i) ≡ up τ i
unfolding up
up_composes ρ σ τ h zero = refl
up_composes ρ σ τ h (suc i) = ap suc (h i)

pub rename_composes : (ρ σ τ : ℕ → ℕ) → ((i : ℕ) → ρ (σ i) ≡ τ i) → (e : Expr) → rename ρ (rename σ e) ≡ rename τ e
unfolding rename
rename_composes ρ σ τ h (var i) = ap var (h i)
rename_composes ρ σ τ h (sort l) = refl
rename_composes ρ σ τ h (const n ls) = refl
rename_composes ρ σ τ h (app f a) = ap₂ app (rename_composes ρ σ τ h f) (rename_composes ρ σ τ h a)
rename_composes ρ σ τ h (pi p n s t b) =
    ap₂ (pi p n s) (rename_composes ρ σ τ h t) (rename_composes (up ρ) (up σ) (up τ) (up_composes ρ σ τ h) b)
rename_composes ρ σ τ h (lam p n s t b) =
    ap₂ (lam p n s) (rename_composes ρ σ τ h t) (rename_composes (up ρ) (up σ) (up τ) (up_composes ρ σ τ h) b)
rename_composes ρ σ τ h (letᵉ p n t v b d) =
    rw (rename_composes ρ σ τ h t, rename_composes ρ σ τ h v, rename_composes (up ρ) (up σ) (up τ) (up_composes ρ σ τ h) b)
rename_composes ρ σ τ h (proj n i e) = ap (proj n i) (rename_composes ρ σ τ h e)
rename_composes ρ σ τ h (nat s) = refl
rename_composes ρ σ τ h (str s) = refl

up-lifted : (n c i : ℕ) → up (lifted n c) i ≡ lifted n (suc c) i
unfolding up
up-lifted n c zero = rw (leb-suc-suc 0 c, leb-zero c)
up-lifted n c (suc i) = rw (leb-suc-suc (suc i) c) (by (ltb i c))
  where
    by : (b : Bool) → suc (cond b i (i + n)) ≡ cond b (suc i) (suc i + n)
    by true = refl
    by false = omega arith

pub lift_renames : (n c : ℕ) (e : Expr) → lift n c e ≡ rename (lifted n c) e
unfolding lift rename
lift_renames n c (var i) = refl
lift_renames n c (sort l) = refl
lift_renames n c (const a ls) = refl
lift_renames n c (app f a) = ap₂ app (lift_renames n c f) (lift_renames n c a)
lift_renames n c (pi p a s t b) = ap₂ (pi p a s) (lift_renames n c t) (lift_renames n (suc c) b ∙ sym (rename_agrees _ _ (up-lifted n c) b))
lift_renames n c (lam p a s t b) = ap₂ (lam p a s) (lift_renames n c t) (lift_renames n (suc c) b ∙ sym (rename_agrees _ _ (up-lifted n c) b))
lift_renames n c (letᵉ p a t v b d) =
    rw (lift_renames n c t, lift_renames n c v, lift_renames n (suc c) b, ← rename_agrees _ _ (up-lifted n c) b)
lift_renames n c (proj a i e) = ap (proj a i) (lift_renames n c e)
lift_renames n c (nat s) = refl
lift_renames n c (str s) = refl

-- lifting by n past nothing adds n
pub lift_adds : (n : ℕ) (ρ : ℕ → ℕ) (e : Expr) → lift n 0 (rename ρ e) ≡ rename (λ i. ρ i + n) e
lift_adds n ρ e = lift_renames n 0 (rename ρ e) ∙ rename_composes (lifted n 0) ρ (λ i. ρ i + n) (λ i. rw (leb-suc-zero (ρ i))) e

-- ---- what a renaming leaves as it is

pub rename-depth : (ρ : ℕ → ℕ) (e : Expr) → depth (rename ρ e) ≡ depth e
unfolding rename depth
rename-depth ρ (var i) = refl
rename-depth ρ (sort l) = refl
rename-depth ρ (const n ls) = refl
rename-depth ρ (app f a) = rw (rename-depth ρ f, rename-depth ρ a)
rename-depth ρ (pi p n s t b) = rw (rename-depth ρ t, rename-depth (up ρ) b)
rename-depth ρ (lam p n s t b) = rw (rename-depth ρ t, rename-depth (up ρ) b)
rename-depth ρ (letᵉ p n t v b d) = rw (rename-depth ρ t, rename-depth ρ v, rename-depth (up ρ) b)
rename-depth ρ (proj n i e) = rw (rename-depth ρ e)
rename-depth ρ (nat s) = refl
rename-depth ρ (str s) = refl

pub rename_forgets : (ρ : ℕ → ℕ) (e : Expr) → forget (rename ρ e) ≡ rename ρ (forget e)
unfolding rename forget
rename_forgets ρ (var i) = refl
rename_forgets ρ (sort l) = refl
rename_forgets ρ (const n ls) = refl
rename_forgets ρ (app f a) = ap₂ app (rename_forgets ρ f) (rename_forgets ρ a)
rename_forgets ρ (pi p n s t b) = ap₂ (pi 0 n s) (rename_forgets ρ t) (rename_forgets (up ρ) b)
rename_forgets ρ (lam p n s t b) = ap₂ (lam 0 n s) (rename_forgets ρ t) (rename_forgets (up ρ) b)
rename_forgets ρ (letᵉ p n t v b d) = rw (rename_forgets ρ t, rename_forgets ρ v, rename_forgets (up ρ) b)
rename_forgets ρ (proj n i e) = ap (proj n i) (rename_forgets ρ e)
rename_forgets ρ (nat s) = refl
rename_forgets ρ (str s) = refl

-- m is the only index that a renaming takes to k: then k occurs exactly where m did
Only : (ℕ → ℕ) → ℕ → ℕ → Type 0
Only ρ k m = (i : ℕ) → eqb (ρ i) k ≡ eqb i m

up_only : (ρ : ℕ → ℕ) (k m : ℕ) → Only ρ k m → Only (up ρ) (suc k) (suc m)
unfolding Only up
up_only ρ k m h zero = rw (eqb-zero-suc k, eqb-zero-suc m)
up_only ρ k m h (suc i) = rw (eqb-suc-suc (ρ i) k, eqb-suc-suc i m) (h i)

rename-occurs : (ρ : ℕ → ℕ) (k m : ℕ) → Only ρ k m → (e : Expr) → occurs k (rename ρ e) ≡ occurs m e
unfolding rename occurs Only
rename-occurs ρ k m h (var i) = h i
rename-occurs ρ k m h (sort l) = refl
rename-occurs ρ k m h (const n ls) = refl
rename-occurs ρ k m h (app f a) = rw (rename-occurs ρ k m h f, rename-occurs ρ k m h a)
rename-occurs ρ k m h (pi p n s t b) = rw (rename-occurs ρ k m h t, rename-occurs (up ρ) (suc k) (suc m) (up_only ρ k m h) b)
rename-occurs ρ k m h (lam p n s t b) = rw (rename-occurs ρ k m h t, rename-occurs (up ρ) (suc k) (suc m) (up_only ρ k m h) b)
rename-occurs ρ k m h (letᵉ p n t v b d) =
    rw (rename-occurs ρ k m h t, rename-occurs ρ k m h v, rename-occurs (up ρ) (suc k) (suc m) (up_only ρ k m h) b)
rename-occurs ρ k m h (proj n i e) = rename-occurs ρ k m h e
rename-occurs ρ k m h (nat s) = refl
rename-occurs ρ k m h (str s) = refl

-- a binder's own variable occurs as before
pub own_variable : (ρ : ℕ → ℕ) (e : Expr) → occurs 0 (rename (up ρ) e) ≡ occurs 0 e
unfolding Only up
own_variable ρ e = rename-occurs (up ρ) 0 0 only e
  where
    only : Only (up ρ) 0 0
    only zero = refl
    only (suc i) = rw (eqb-suc-zero (ρ i), eqb-suc-zero i)
