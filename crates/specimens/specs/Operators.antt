-- Document 02, P5: what operators make of their operands, computed by the definitions.
use Rattle.std.specs.Prelude.{ℕ, cond, List, [], ◌∷◌, ◌≡◌, refl, Option, None, Some}
use Rattle.utf8.specs.Quoted.{bytes}
use Rattle.document.specs.Walk.{Marked}
use Rattle.pool.specs.Kinds.{prefixᵏ, infixᵏ, postfixᵏ}
use Rattle.pool.specs.Notation.{Operator, same_name}
use Rattle.pool.specs.Tree.{Name, Expr, var, app, lam}
use Rattle.binders.specs.Options.{PpOptions}
use Rattle.pretty_printer.specs.Exprs.{expr_doc}
use Rattle.specimens.specs.Specimens.{name, constant, listing, counts}
use Rattle.specimens.specs.Computing.{computing}

-- a sum, a negation, a factorial
sum : Operator
sum = record { kind = infixᵏ; priority = 65; string = bytes "+" }

negation : Operator
negation = record { kind = prefixᵏ; priority = 75; string = bytes "-" }

factorial : Operator
factorial = record { kind = postfixᵏ; priority = 1023; string = bytes "!" }

operators : Name → Option Operator
operators n =
    cond (same_name n (name "add")) (Some sum)
    (cond (same_name n (name "neg")) (Some negation) (cond (same_name n (name "fact")) (Some factorial) None))

algebra : PpOptions
algebra = record { indent = 2; operators = operators }

doc : Expr → Marked
doc e = expr_doc algebra e

expr : Expr → List ℕ
expr e = listing 120 (doc e)

a : Expr
a = constant "a"

b : Expr
b = constant "b"

add : Expr → Expr → Expr
add x y = app (app (constant "add") x) y

neg : Expr → Expr
neg x = app (constant "neg") x

fact : Expr → Expr
fact x = app (constant "fact") x

pub printed : List (List ℕ)
printed =
    -- each of them, and its rows
    expr (add a b)
    ∷ expr (neg a)
    ∷ expr (fact a)
    ∷ counts 120 (doc (add a b))
    ∷ counts 120 (doc (neg a))
    ∷ counts 120 (doc (fact a))
    -- on other counts of arguments they do not act
    ∷ expr (app (constant "add") a)
    ∷ expr (app (add a b) a)
    ∷ expr (app (neg a) b)
    ∷ expr (constant "neg")
    -- "Operands print under the priority, the result has priority less 1"
    ∷ expr (add (add a b) (add b a))
    ∷ expr (add (neg a) (fact b))
    ∷ expr (neg (add a b))
    ∷ expr (neg (neg a))
    ∷ expr (fact (app (constant "f") a))
    ∷ expr (app (constant "f") (fact a))
    ∷ expr (lam 0 (name "x") 0 (add a b) (add (var 0) b))
    -- rows of limited width: the break is empty
    ∷ listing 5 (doc (add a b))
    ∷ listing 4 (doc (add a b))
    ∷ listing 2 (doc (neg a))
    ∷ listing 2 (doc (fact a))
    ∷ []

pub expected : List (List ℕ)
expected =
    bytes "@a+@b"
    ∷ bytes "-@a"
    ∷ bytes "@a!"
    ∷ (14 ∷ 5 ∷ 5 ∷ 5 ∷ [])
    ∷ (9 ∷ 3 ∷ 3 ∷ 3 ∷ [])
    ∷ (9 ∷ 3 ∷ 3 ∷ 3 ∷ [])
    ∷ bytes "@add @a"
    ∷ bytes "@add @a @b @a"
    ∷ bytes "@neg @a @b"
    ∷ bytes "@neg"
    ∷ bytes "(@a+@b)+(@b+@a)"
    ∷ bytes "-@a+@b!"
    ∷ bytes "-(@a+@b)"
    ∷ bytes "-(-@a)"
    ∷ bytes "@f @a!"
    ∷ bytes "@f (@a!)"
    ∷ bytes "fun (x : @a+@b) => x+@b"
    ∷ bytes "@a+@b"
    ∷ bytes "@a+\n  @b"
    ∷ bytes "-\n@a"
    ∷ bytes "@a\n!"
    ∷ []

pub operators_print : printed ≡ expected
unfolding computing listing counts name constant sum negation factorial operators algebra doc expr a b add neg fact printed expected
operators_print = refl
