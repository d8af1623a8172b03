-- 01, Pool: "A tree is a root's full unfolding". References go to lower rows, so a bound above the row reaches the leaves;
-- where a row breaks a rule, what stands here does not matter.
use Rattle.std.specs.Prelude.{ℕ, zero, suc, ◌+◌, ◌*◌, ◌^◌, Bool, cond, List, [], ◌∷◌}
use Rattle.utf8.specs.Utf8.{within}
use Rattle.pool.specs.Kinds.{NameKind, name_kind, anonymousᵏ, stringᵏ, numberᵏ, noNameᵏ, LevelKind, level_kind, zeroᵏ, succᵏ, maxᵏ, imaxᵏ, paramᵏ}
use Rattle.pool.specs.Kinds.{noLevelᵏ, ExprKind, expr_kind, varᵏ, sortᵏ, constᵏ, appᵏ, piᵏ, lamᵏ, letᵏ, projᵏ, natᵏ, strᵏ, noExprᵏ}
use Rattle.pool.specs.Tables.{Pool, name_word, level_word, list_word, list_entry, expr_word, declar_word, string_at}
use Rattle.pool.specs.Tree.{Name, anonymous, string, number, Level, zeroˡ, succˡ, maxˡ, imaxˡ, paramˡ, Expr, var, sort, const, app, pi, lam, letᵉ, proj}
use Rattle.pool.specs.Tree.{nat, str, Declar, typed, valued}

-- the tree of row r of a kind, from the trees of lower rows
unfoldable pub name_node : Pool → (ℕ → Name) → ℕ → NameKind → Name
name_node p lower r anonymousᵏ = anonymous
name_node p lower r stringᵏ = string (lower (name_word p.names r 1)) (string_at p (name_word p.names r 2))
name_node p lower r numberᵏ =
    number (lower (name_word p.names r 1)) (name_word p.names r 2 + name_word p.names r 3 * 2 ^ 32)
name_node p lower r noNameᵏ = anonymous

unfoldable pub name_to : ℕ → Pool → ℕ → Name
name_to zero p r = anonymous
name_to (suc bound) p r = name_node p (name_to bound p) r (name_kind (name_word p.names r 0))

unfoldable pub name_at : Pool → ℕ → Name
name_at p r = name_to (suc r) p r

unfoldable pub level_node : Pool → (ℕ → Level) → ℕ → LevelKind → Level
level_node p lower r zeroᵏ = zeroˡ
level_node p lower r succᵏ = succˡ (lower (level_word p.words r 1))
level_node p lower r maxᵏ = maxˡ (lower (level_word p.words r 1)) (lower (level_word p.words r 2))
level_node p lower r imaxᵏ = imaxˡ (lower (level_word p.words r 1)) (lower (level_word p.words r 2))
level_node p lower r paramᵏ = paramˡ (name_at p (level_word p.words r 1))
level_node p lower r noLevelᵏ = zeroˡ

unfoldable pub level_to : ℕ → Pool → ℕ → Level
level_to zero p r = zeroˡ
level_to (suc bound) p r = level_node p (level_to bound p) r (level_kind (level_word p.words r 0))

unfoldable pub level_at : Pool → ℕ → Level
level_at p r = level_to (suc r) p r

-- "lists by their levels in order": so many from the list word i on
unfoldable pub levels_from : Pool → ℕ → ℕ → List Level
levels_from p i zero = []
levels_from p i (suc n) = level_at p (list_entry p.words i) ∷ levels_from p (suc i) n

unfoldable pub list_at : Pool → ℕ → List Level
list_at p r = levels_from p (list_word p.words r 0) (list_word p.words r 1)

unfoldable pub expr_node : Pool → (ℕ → Expr) → ℕ → ExprKind → Expr
expr_node p lower r varᵏ = var (expr_word p.words r 1)
expr_node p lower r sortᵏ = sort (level_at p (expr_word p.words r 1))
expr_node p lower r constᵏ = const (name_at p (expr_word p.words r 1)) (list_at p (expr_word p.words r 2))
expr_node p lower r appᵏ = app (lower (expr_word p.words r 1)) (lower (expr_word p.words r 2))
expr_node p lower r piᵏ =
    pi r (name_at p (expr_word p.words r 1)) (expr_word p.words r 2) (lower (expr_word p.words r 3)) (lower (expr_word p.words r 4))
expr_node p lower r lamᵏ =
    lam r (name_at p (expr_word p.words r 1)) (expr_word p.words r 2) (lower (expr_word p.words r 3)) (lower (expr_word p.words r 4))
expr_node p lower r letᵏ =
    letᵉ r (name_at p (expr_word p.words r 1)) (lower (expr_word p.words r 2)) (lower (expr_word p.words r 3)) (lower (expr_word p.words r 4)) (expr_word p.words r 5)
expr_node p lower r projᵏ = proj (name_at p (expr_word p.words r 1)) (expr_word p.words r 2) (lower (expr_word p.words r 3))
expr_node p lower r natᵏ = nat (string_at p (expr_word p.words r 1))
expr_node p lower r strᵏ = str (string_at p (expr_word p.words r 1))
expr_node p lower r noExprᵏ = var 0

unfoldable pub expr_to : ℕ → Pool → ℕ → Expr
expr_to zero p r = var 0
expr_to (suc bound) p r = expr_node p (expr_to bound p) r (expr_kind (expr_word p.words r 0))

unfoldable pub expr_at : Pool → ℕ → Expr
expr_at p r = expr_to (suc r) p r

-- "value is used by 2 to 4 only"
abbrev pub has_value : ℕ → Bool
has_value kind = within 2 5 kind

unfoldable pub declar_at : Pool → ℕ → Declar
declar_at p r =
    let kind : ℕ = declar_word p.words r 0 in
    let name : Name = name_at p (declar_word p.words r 1) in
    let levels : List Level = list_at p (declar_word p.words r 2) in
    let type : Expr = expr_at p (declar_word p.words r 3) in
    cond (has_value kind) (valued kind name levels type (expr_at p (declar_word p.words r 4))) (typed kind name levels type)
