-- Which operator acts on an application, as the code finds it.
use Rattle.std.specs.Prelude.{ℕ, suc, ◌<◌, cond, Option, None, Some, MatchOption, ◌≡◌, eqb}
use Rattle.pool.specs.Kinds.{NotationKind, prefixᵏ, infixᵏ, postfixᵏ, noNotationᵏ}
use Rattle.pool.specs.Notation.{Operator, operator_at}
use Rattle.pool.specs.Tables.{Pool, T}
use Rattle.pool.specs.Tree.{Expr, var, sort, const, app, pi, lam, letᵉ, proj, nat, str}
use Rattle.binders.specs.Operators.{head_operator}
use Rattle.binders.specs.Options.{PpOptions}

-- how many operands an operator has
unfoldable pub operands : NotationKind → ℕ
operands prefixᵏ = 1
operands infixᵏ = 2
operands postfixᵏ = 1
operands noNotationᵏ = 0

-- how many arguments an application has
unfoldable pub argument_count : Expr → ℕ
argument_count (var i) = 0
argument_count (sort l) = 0
argument_count (const n ls) = 0
argument_count (app f a) = suc (argument_count f)
argument_count (pi p n s t b) = 0
argument_count (lam p n s t b) = 0
argument_count (letᵉ p n t v b d) = 0
argument_count (proj n i e) = 0
argument_count (nat s) = 0
argument_count (str s) = 0

-- an operator, if it acts on so many arguments
unfoldable pub acting_on : Option Operator → ℕ → Option Operator
acting_on None count = None
acting_on (Some o) count = cond (eqb count (operands o.kind)) (Some o) None

-- the operator that acts on an application
abbrev pub acting : PpOptions → Expr → Option Operator
acting opts e = acting_on (head_operator opts e) (argument_count e)

-- the operator of a constant
unfoldable pub constant_operator : PpOptions → Expr → Option Operator
constant_operator opts (var i) = None
constant_operator opts (sort l) = None
constant_operator opts (const n ls) = opts.operators n
constant_operator opts (app f a) = None
constant_operator opts (pi p n s t b) = None
constant_operator opts (lam p n s t b) = None
constant_operator opts (letᵉ p n t v b d) = None
constant_operator opts (proj n i e) = None
constant_operator opts (nat s) = None
constant_operator opts (str s) = None

-- a notation row that gives an operator, or none where there is no operator
abbrev pub Gives : Pool → Option Operator → Option ℕ → Type 0
Gives p o v = MatchOption v (o ≡ None) (λ t. (t < T p.words) × (o ≡ Some (operator_at p t)))
