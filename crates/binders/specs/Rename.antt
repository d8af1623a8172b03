-- Renaming of loose variables: what a scope does to the variables of a row's tree. `lift` is one.
use Rattle.std.specs.Prelude.{ℕ, zero, suc, ◌+◌, cond, ltb}
use Rattle.pool.specs.Tree.{Expr, var, sort, const, app, pi, lam, letᵉ, proj, nat, str}

-- a renaming inside a binder
unfoldable pub up : (ℕ → ℕ) → ℕ → ℕ
up ρ zero = zero
up ρ (suc i) = suc (ρ i)

unfoldable pub rename : (ℕ → ℕ) → Expr → Expr
rename ρ (var i) = var (ρ i)
rename ρ (sort l) = sort l
rename ρ (const n ls) = const n ls
rename ρ (app f a) = app (rename ρ f) (rename ρ a)
rename ρ (pi p n s t b) = pi p n s (rename ρ t) (rename (up ρ) b)
rename ρ (lam p n s t b) = lam p n s (rename ρ t) (rename (up ρ) b)
rename ρ (letᵉ p n t v b d) = letᵉ p n (rename ρ t) (rename ρ v) (rename (up ρ) b) d
rename ρ (proj n i e) = proj n i (rename ρ e)
rename ρ (nat s) = nat s
rename ρ (str s) = str s

-- what `lift` does to an index
abbrev pub lifted : ℕ → ℕ → ℕ → ℕ
lifted n c i = cond (ltb i c) i (i + n)
