-- The spine of an application: its arguments, the last one first, and its head.
use Rattle.std.specs.Prelude.{ℕ, zero, suc, ◌+◌, ◌<◌, ◌≤◌, List, ◌≡◌, length, get_or}
use Rattle.pool.specs.Tables.{Pool, expr_word}
use Rattle.pool.specs.Tree.{Expr, var, sort, const, app, pi, lam, letᵉ, proj, nat, str}
use Rattle.pool.specs.Unfold.{expr_at}

-- an application without its last argument
unfoldable pub function_of : Expr → Expr
function_of (var i) = var i
function_of (sort l) = sort l
function_of (const n ls) = const n ls
function_of (app f a) = f
function_of (pi p n s t b) = pi p n s t b
function_of (lam p n s t b) = lam p n s t b
function_of (letᵉ p n t v b d) = letᵉ p n t v b d
function_of (proj n i e) = proj n i e
function_of (nat s) = nat s
function_of (str s) = str s

-- without its last n arguments
unfoldable pub drop_arguments : ℕ → Expr → Expr
drop_arguments zero e = e
drop_arguments (suc n) e = function_of (drop_arguments n e)

-- the rows of the arguments and of the head of row r
pub record SpineOf (p : Pool) (r : ℕ) (arguments : List ℕ) (count head : ℕ) : Type 0 where
  pub full : length arguments ≡ 256
  pub few : count < 256
  pub argument : (j : ℕ) → j < count → drop_arguments j (expr_at p r) ≡ app (drop_arguments (suc j) (expr_at p r)) (expr_at p (get_or arguments j 0))
  pub below : (j : ℕ) → j < count → get_or arguments j 0 < r
  pub word : (j : ℕ) → j < count → get_or arguments j 0 < 4294967296
  pub tree : expr_at p head ≡ drop_arguments count (expr_at p r)
  pub low : head + count ≤ r
  pub ended : expr_word p.words head 0 ≡ 3 → ⊥
