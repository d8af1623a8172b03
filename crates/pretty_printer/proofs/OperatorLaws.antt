-- Applications, with an operator that acts on them and without: what the printers put.
use Prim.Native.Nat.{ℕ, suc, ◌+◌, ◌-◌}
use native.Mathlib.Omega.{arith}
use mathlib.Core.Bool.{Bool, true, false, cond}
use mathlib.Core.List.{List, [], ◌∷◌}
use mathlib.Core.Path.{◌≡◌, refl, ap, ap₂, ◌∙◌}
use lib.Dec.{eqb}
use lib.ListN.{length}
use borrow.Author.Tests.{eqb-true}
use Rattle.std.specs.Prelude.{Option, None, Some}
use Rattle.basics.proofs.Booleans.{true-false}
use Rattle.document.specs.Walk.{textᵐ}
use Rattle.document.specs.Sink.{State, put_join, put_break, put_nest, put_group, emit}
use Rattle.pool.specs.Kinds.{NotationKind, prefixᵏ, infixᵏ, postfixᵏ, noNotationᵏ}
use Rattle.pool.specs.Notation.{Operator}
use Rattle.pool.specs.Tables.{Pool}
use Rattle.pool.specs.Tree.{Expr, var, sort, const, app, pi, lam, letᵉ, proj, nat, str, shape}
use Rattle.pool.proofs.TreeLaws.{label}
use Rattle.pieces.specs.Docs.{Parenable, under}
use Rattle.binders.specs.declared.stack.Stack.{Stack}
use Rattle.binders.specs.Acting.{operands, argument_count, acting_on, acting}
use Rattle.binders.specs.Operators.{head_operator, prefix_par, postfix_par, infix_par}
use Rattle.binders.specs.Options.{PpOptions}
use Rattle.binders.specs.Rename.{rename}
use Rattle.binders.specs.Scopes.{names_of, place_in}
use Rattle.pretty_printer.specs.Exprs.{app_head, app_args, app_par, operator_par, applied_par, expr_par}
use Rattle.pretty_printer.specs.Parts.{in_scope}
use Rattle.pretty_printer.proofs.ExprLaws.{prints_app}

-- ---- arguments

pub args_length : (e : Expr) (others : List Expr) → length (app_args e others) ≡ argument_count e + length others
unfolding app_args argument_count
args_length (var i) others = omega arith
args_length (sort l) others = omega arith
args_length (const n ls) others = omega arith
args_length (app f a) others = omega (arith, args_length f (a ∷ others))
args_length (pi p n s t b) others = omega arith
args_length (lam p n s t b) others = omega arith
args_length (letᵉ p n t v b d) others = omega arith
args_length (proj n i e) others = omega arith
args_length (nat s) others = omega arith
args_length (str s) others = omega arith

no_arguments : (e : Expr) (others : List Expr) → argument_count e ≡ 0 → app_args e others ≡ others
unfolding app_args argument_count
no_arguments (var i) others h = refl
no_arguments (sort l) others h = refl
no_arguments (const n ls) others h = refl
no_arguments (app f a) others h = absurd (omega (arith, h))
no_arguments (pi p n s t b) others h = refl
no_arguments (lam p n s t b) others h = refl
no_arguments (letᵉ p n t v b d) others h = refl
no_arguments (proj n i e) others h = refl
no_arguments (nat s) others h = refl
no_arguments (str s) others h = refl

has_argument : (e : Expr) → argument_count e ≡ 1 → label (shape e) ≡ 3
unfolding argument_count label shape
has_argument (var i) h = absurd (omega (arith, h))
has_argument (sort l) h = absurd (omega (arith, h))
has_argument (const n ls) h = absurd (omega (arith, h))
has_argument (app f a) h = refl
has_argument (pi p n s t b) h = absurd (omega (arith, h))
has_argument (lam p n s t b) h = absurd (omega (arith, h))
has_argument (letᵉ p n t v b d) h = absurd (omega (arith, h))
has_argument (proj n i e) h = absurd (omega (arith, h))
has_argument (nat s) h = absurd (omega (arith, h))
has_argument (str s) h = absurd (omega (arith, h))

-- renaming leaves them as many
count_renamed : (ρ : ℕ → ℕ) (e : Expr) → argument_count (rename ρ e) ≡ argument_count e
unfolding rename argument_count
count_renamed ρ (var i) = refl
count_renamed ρ (sort l) = refl
count_renamed ρ (const n ls) = refl
count_renamed ρ (app f a) = ap suc (count_renamed ρ f)
count_renamed ρ (pi p n s t b) = refl
count_renamed ρ (lam p n s t b) = refl
count_renamed ρ (letᵉ p n t v b d) = refl
count_renamed ρ (proj n i e) = refl
count_renamed ρ (nat s) = refl
count_renamed ρ (str s) = refl

-- the operator that acts, by its head and the count of its operands
acts_if : (b : Bool) (x o : Operator) → cond b (Some x) None ≡ Some o → (b ≡ true) × (x ≡ o)
acts_if true x o e = (refl, cc)
acts_if false x o e = absurd (cc)

acts_not : (b : Bool) (x : Operator) → cond b (Some x) None ≡ None → b ≡ false
acts_not true x e = absurd (cc)
acts_not false x e = refl

acting_parts : (h : Option Operator) (n : ℕ) (o : Operator) → acting_on h n ≡ Some o → (h ≡ Some o) × (n ≡ operands o.kind)
unfolding acting_on
acting_parts None n o e = absurd (cc)
acting_parts (Some x) n o e =
    let g = acts_if (eqb n (operands x.kind)) x o e in
    (ap (λ (y : Operator). Some y) g.1, eqb-true n (operands x.kind) g.0 ∙ ap (λ (y : Operator). operands y.kind) g.1)

module _ (opts : PpOptions) where
  operator_renamed : (ρ : ℕ → ℕ) (e : Expr) → head_operator opts (rename ρ e) ≡ head_operator opts e
  unfolding rename head_operator
  operator_renamed ρ (var i) = refl
  operator_renamed ρ (sort l) = refl
  operator_renamed ρ (const n ls) = refl
  operator_renamed ρ (app f a) = operator_renamed ρ f
  operator_renamed ρ (pi p n s t b) = refl
  operator_renamed ρ (lam p n s t b) = refl
  operator_renamed ρ (letᵉ p n t v b d) = refl
  operator_renamed ρ (proj n i e) = refl
  operator_renamed ρ (nat s) = refl
  operator_renamed ρ (str s) = refl

  acting_renamed : (ρ : ℕ → ℕ) (e : Expr) → acting opts (rename ρ e) ≡ acting opts e
  acting_renamed ρ e = ap₂ acting_on (operator_renamed ρ e) (count_renamed ρ e)

  -- an infix operator acts on an application of an application
  pub infix_function : (f a : Expr) (o : Operator) → acting opts (app f a) ≡ Some o → o.kind ≡ infixᵏ → label (shape f) ≡ 3
  unfolding head_operator argument_count operands
  infix_function f a o e i =
      let parts = acting_parts _ _ o e in
      let two : suc (argument_count f) ≡ 2 = parts.1 ∙ ap operands i in
      has_argument f (omega (arith, two))

  module _ (pp : Expr → Parenable) where
    -- an operator of a kind on another count of arguments
    operator_idle : (o : Operator) (k : NotationKind) (head : Expr) (args : List Expr) → eqb (length args) (operands k) ≡ false
        → operator_par opts pp o k head args ≡ app_par opts pp head args
    unfolding operator_par operands
    operator_idle o prefixᵏ head [] e = refl
    operator_idle o prefixᵏ head (x ∷ []) e = true-false e
    operator_idle o prefixᵏ head (x ∷ y ∷ more) e = refl
    operator_idle o infixᵏ head [] e = refl
    operator_idle o infixᵏ head (x ∷ []) e = refl
    operator_idle o infixᵏ head (x ∷ y ∷ []) e = true-false e
    operator_idle o infixᵏ head (x ∷ y ∷ z ∷ more) e = refl
    operator_idle o postfixᵏ head [] e = refl
    operator_idle o postfixᵏ head (x ∷ []) e = true-false e
    operator_idle o postfixᵏ head (x ∷ y ∷ more) e = refl
    operator_idle o noNotationᵏ head args e = refl

    idle : (h : Option Operator) (head : Expr) (args : List Expr) → acting_on h (length args) ≡ None
        → applied_par opts pp h head args ≡ app_par opts pp head args
    unfolding applied_par acting_on
    idle None head args e = refl
    idle (Some o) head args e = operator_idle o o.kind head args (acts_not (eqb (length args) (operands o.kind)) o e)

    -- no operator acts
    pub applied_idle : (f a : Expr) → acting opts (app f a) ≡ None
        → applied_par opts pp (head_operator opts f) (app_head f) (app_args f (a ∷ [])) ≡ app_par opts pp (app_head f) (app_args f (a ∷ []))
    unfolding head_operator argument_count
    applied_idle f a e =
        let n : length (app_args f (a ∷ [])) ≡ suc (argument_count f) = omega (arith, args_length f (a ∷ [])) in
        idle (head_operator opts f) (app_head f) (app_args f (a ∷ [])) (ap (acting_on (head_operator opts f)) n ∙ e)

    -- one acts on one argument
    one_applied : (f a : Expr) (o : Operator) → acting opts (app f a) ≡ Some o → operands o.kind ≡ 1
        → applied_par opts pp (head_operator opts f) (app_head f) (app_args f (a ∷ [])) ≡ operator_par opts pp o o.kind (app_head f) (a ∷ [])
    unfolding head_operator argument_count applied_par
    one_applied f a o e one =
        let parts = acting_parts _ _ o e in
        let none : argument_count f ≡ 0 = omega (arith, parts.1, one) in
        ap₂ (λ (h : Option Operator) (args : List Expr). applied_par opts pp h (app_head f) args) parts.0 (no_arguments f (a ∷ []) none)

    pub prefix_applied : (f a : Expr) (o : Operator) → acting opts (app f a) ≡ Some o → o.kind ≡ prefixᵏ
        → applied_par opts pp (head_operator opts f) (app_head f) (app_args f (a ∷ [])) ≡ prefix_par opts o (pp a)
    unfolding operator_par operands
    prefix_applied f a o e i =
        one_applied f a o e (ap operands i) ∙ ap (λ (k : NotationKind). operator_par opts pp o k (app_head f) (a ∷ [])) i

    pub postfix_applied : (f a : Expr) (o : Operator) → acting opts (app f a) ≡ Some o → o.kind ≡ postfixᵏ
        → applied_par opts pp (head_operator opts f) (app_head f) (app_args f (a ∷ [])) ≡ postfix_par opts o (pp a)
    unfolding operator_par operands
    postfix_applied f a o e i =
        one_applied f a o e (ap operands i) ∙ ap (λ (k : NotationKind). operator_par opts pp o k (app_head f) (a ∷ [])) i

    -- and on two
    pub infix_applied : (g b a : Expr) (o : Operator) → acting opts (app (app g b) a) ≡ Some o → o.kind ≡ infixᵏ
        → applied_par opts pp (head_operator opts (app g b)) (app_head (app g b)) (app_args (app g b) (a ∷ [])) ≡ infix_par opts o (pp b) (pp a)
    unfolding head_operator argument_count applied_par operator_par operands app_args
    infix_applied g b a o e i =
        let parts = acting_parts _ _ o e in
        let two : operands o.kind ≡ 2 = ap operands i in
        let none : argument_count g ≡ 0 = omega (arith, parts.1, two) in
        ap₂ (λ (h : Option Operator) (args : List Expr). applied_par opts pp h (app_head (app g b)) args) parts.0 (no_arguments g (b ∷ a ∷ []) none)
        ∙ ap (λ (k : NotationKind). operator_par opts pp o k (app_head (app g b)) (b ∷ a ∷ [])) i

-- ---- what they put

module _ (opts : PpOptions) (p : Pool) (k : Stack) (h : ℕ) where
  abbrev pp : Expr → Parenable
  pp = expr_par opts (names_of p k)

  abbrev ρ : ℕ → ℕ
  ρ = place_in k h

  pub idle_prints : (f a : Expr) → acting opts (app f a) ≡ None → expr_par opts (names_of p k) (app (rename ρ f) (rename ρ a))
      ≡ app_par opts pp (app_head (rename ρ f)) (app_args (rename ρ f) (rename ρ a ∷ []))
  unfolding rename
  idle_prints f a e =
      prints_app opts (names_of p k) (rename ρ f) (rename ρ a) ∙ applied_idle opts pp (rename ρ f) (rename ρ a) (acting_renamed opts ρ (app f a) ∙ e)

  -- the document and the level of each kind
  pub prefix_prints : (f a : Expr) (o : Operator) → acting opts (app f a) ≡ Some o → o.kind ≡ prefixᵏ
      → in_scope opts p k h (app f a) ≡ prefix_par opts o (in_scope opts p k h a)
  unfolding in_scope rename
  prefix_prints f a o e i =
      prints_app opts (names_of p k) (rename ρ f) (rename ρ a) ∙ prefix_applied opts pp (rename ρ f) (rename ρ a) o (acting_renamed opts ρ (app f a) ∙ e) i

  pub postfix_prints : (f a : Expr) (o : Operator) → acting opts (app f a) ≡ Some o → o.kind ≡ postfixᵏ
      → in_scope opts p k h (app f a) ≡ postfix_par opts o (in_scope opts p k h a)
  unfolding in_scope rename
  postfix_prints f a o e i =
      prints_app opts (names_of p k) (rename ρ f) (rename ρ a) ∙ postfix_applied opts pp (rename ρ f) (rename ρ a) o (acting_renamed opts ρ (app f a) ∙ e) i

  pub infix_prints : (g b a : Expr) (o : Operator) → acting opts (app (app g b) a) ≡ Some o → o.kind ≡ infixᵏ
      → in_scope opts p k h (app (app g b) a) ≡ infix_par opts o (in_scope opts p k h b) (in_scope opts p k h a)
  unfolding in_scope rename
  infix_prints g b a o e i =
      prints_app opts (names_of p k) (app (rename ρ g) (rename ρ b)) (rename ρ a)
      ∙ infix_applied opts pp (rename ρ g) (rename ρ b) (rename ρ a) o (acting_renamed opts ρ (app (app g b) a) ∙ e) i

-- what their documents put
module _ (opts : PpOptions) (o : Operator) (x : Parenable) where
  pub prefix_puts : (st : State) → emit (prefix_par opts o x).doc st
      ≡ put_join (emit (under o.priority x) (put_group (put_join (put_break 0 (emit (textᵐ o.string) st)))))
  unfolding prefix_par emit
  prefix_puts st = refl

  pub postfix_puts : (st : State) → emit (postfix_par opts o x).doc st
      ≡ put_group (put_join (emit (textᵐ o.string) (put_join (put_break 0 (emit (under o.priority x) st)))))
  unfolding postfix_par emit
  postfix_puts st = refl

  pub infix_puts : (y : Parenable) (st : State) → emit (infix_par opts o x y).doc st
      ≡ put_nest opts.indent (put_group (put_join (emit (under o.priority y)
      (put_join (put_break 0 (put_join (emit (textᵐ o.string) (emit (under o.priority x) st))))))))
  unfolding infix_par emit
  infix_puts y st = refl

  pub levels_are : (y : Parenable) → ((prefix_par opts o x).inner ≡ o.priority - 1) × ((infix_par opts o x y).inner ≡ o.priority - 1) × ((postfix_par opts o x).inner ≡ o.priority - 1)
  unfolding prefix_par infix_par postfix_par
  levels_are y = (refl, refl, refl)
