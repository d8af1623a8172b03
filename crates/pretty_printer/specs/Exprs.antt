-- 01, Expressions to documents; with the operators of document 02, P5.
use Rattle.std.specs.Prelude.{ℕ, zero, suc, ◌+◌, List, [], ◌∷◌, map, length, Option, None, Some}
use Rattle.document.specs.Walk.{Marked, textᵐ, names}
use Rattle.pool.specs.Kinds.{NotationKind, prefixᵏ, infixᵏ, postfixᵏ, noNotationᵏ}
use Rattle.pool.specs.Notation.{Operator}
use Rattle.pool.specs.Tree.{Name, Expr, var, sort, const, app, pi, lam, letᵉ, proj, nat, str, depth}
use Rattle.pieces.specs.Docs.{◌⊹◌, quoted, line, G, NG, Parenable, with_inner, under, tile, number_doc}
use Rattle.names.specs.Names.{name_doc}
use Rattle.levels.specs.Levels.{sort_doc}
use Rattle.binders.specs.Variables.{var_doc}
use Rattle.binders.specs.Binders.{Binder, binders, chain_body, pushed, in_force, binders_par}
use Rattle.binders.specs.Operators.{head_operator, prefix_par, postfix_par, infix_par}
use Rattle.binders.specs.Options.{PpOptions}
use Rattle.binders.specs.Shown.{shown, NamesInForce}

-- an application's head, and its arguments before others
unfoldable pub app_head : Expr → Expr
app_head (var i) = var i
app_head (sort l) = sort l
app_head (const n ls) = const n ls
app_head (app f a) = app_head f
app_head (pi p n s t b) = pi p n s t b
app_head (lam p n s t b) = lam p n s t b
app_head (letᵉ p n t v b d) = letᵉ p n t v b d
app_head (proj n i e) = proj n i e
app_head (nat s) = nat s
app_head (str s) = str s

unfoldable pub app_args : Expr → List Expr → List Expr
app_args (var i) others = others
app_args (sort l) others = others
app_args (const n ls) others = others
app_args (app f a) others = app_args f (a ∷ others)
app_args (pi p n s t b) others = others
app_args (lam p n s t b) others = others
app_args (letᵉ p n t v b d) others = others
app_args (proj n i e) others = others
app_args (nat s) others = others
app_args (str s) others = others

module _ (opts : PpOptions) where
  -- "Application: tile of G(head under 1,023) and G(each argument under 1,024), all N(G), inner 1,023."
  unfoldable pub app_par : (Expr → Parenable) → Expr → List Expr → Parenable
  app_par pp head args =
      with_inner 1023 (NG opts.indent (tile (G (under 1023 (pp head)) ∷ map (λ a. G (under 1024 (pp a))) args)))

  -- "It acts on a constant of that name (equal name trees) applied to exactly one argument, or two for infix.": on others the application prints
  -- as it would without an operator
  unfoldable pub operator_par : (Expr → Parenable) → Operator → NotationKind → Expr → List Expr → Parenable
  operator_par pp o prefixᵏ head [] = app_par pp head []
  operator_par pp o prefixᵏ head (x ∷ []) = prefix_par opts o (pp x)
  operator_par pp o prefixᵏ head (x ∷ y ∷ more) = app_par pp head (x ∷ y ∷ more)
  operator_par pp o infixᵏ head [] = app_par pp head []
  operator_par pp o infixᵏ head (x ∷ []) = app_par pp head (x ∷ [])
  operator_par pp o infixᵏ head (x ∷ y ∷ []) = infix_par opts o (pp x) (pp y)
  operator_par pp o infixᵏ head (x ∷ y ∷ z ∷ more) = app_par pp head (x ∷ y ∷ z ∷ more)
  operator_par pp o postfixᵏ head [] = app_par pp head []
  operator_par pp o postfixᵏ head (x ∷ []) = postfix_par opts o (pp x)
  operator_par pp o postfixᵏ head (x ∷ y ∷ more) = app_par pp head (x ∷ y ∷ more)
  operator_par pp o noNotationᵏ head args = app_par pp head args

  -- an application whose head has an operator, or none
  unfoldable pub applied_par : (Expr → Parenable) → Option Operator → Expr → List Expr → Parenable
  applied_par pp None head args = app_par pp head args
  applied_par pp (Some o) head args = operator_par pp o o.kind head args

  -- a chain, whose `bs` are its binders: their names are in force from before its first row
  unfoldable pub chain_par : (Expr → Parenable) → List Binder → ℕ → Expr → Parenable
  chain_par pp bs outside body =
      let p : Parenable = binders_par opts pp bs (pp body) in
      with_inner p.inner (in_force bs outside p.doc)

  -- "Let: N(G("let"+" "+G(name+" "+":"+|+G(type under 1))+" "+":="+|+G(value)+";"))+|+body, all G, inner 0."; its name is in
  -- force from before the body
  unfoldable pub let_par : ℕ → ℕ → Name → Parenable → Parenable → Parenable → Parenable
  let_par place in_force name type value body =
      with_inner 0
      (G
      (NG opts.indent
      (quoted "let"
      ⊹ quoted " "
      ⊹ G (name_doc name ⊹ quoted " " ⊹ quoted ":" ⊹ line ⊹ G (under 1 type))
      ⊹ quoted " "
      ⊹ quoted ":="
      ⊹ line
      ⊹ G (under 0 value)
      ⊹ quoted ";")
      ⊹ line
      ⊹ names place in_force (under 0 body)))

  -- an expression under the names in force; the bound is at least its depth
  unfoldable pub expr_par_to : ℕ → NamesInForce → Expr → Parenable
  expr_par_to zero ns e = with_inner 1024 (quoted "")
  expr_par_to (suc k) ns (var i) = with_inner 1024 (var_doc ns i i)
  expr_par_to (suc k) ns (sort l) = with_inner 1024 (sort_doc l)
  expr_par_to (suc k) ns (const n ls) = with_inner 1024 (quoted "@" ⊹ name_doc n)
  expr_par_to (suc k) ns (app f a) = applied_par (expr_par_to k ns) (head_operator opts f) (app_head f) (app_args f (a ∷ []))
  expr_par_to (suc k) ns (pi p n s t b) =
      let bs : List Binder = binders (pi p n s t b) in chain_par (expr_par_to k (pushed bs ns)) bs (length ns) (chain_body b)
  expr_par_to (suc k) ns (lam p n s t b) =
      let bs : List Binder = binders (lam p n s t b) in chain_par (expr_par_to k (pushed bs ns)) bs (length ns) (chain_body b)
  expr_par_to (suc k) ns (letᵉ p n t v b d) =
      let_par p (suc (length ns)) n (expr_par_to k ns t) (expr_par_to k ns v) (expr_par_to k (shown n ∷ ns) b)
  expr_par_to (suc k) ns (proj n i e) =
      with_inner 1024 (G (under 1024 (expr_par_to k ns e)) ⊹ quoted "." ⊹ number_doc (i + 1))
  expr_par_to (suc k) ns (nat s) = with_inner 1024 (textᵐ s)
  expr_par_to (suc k) ns (str s) = with_inner 1024 (quoted "\"" ⊹ textᵐ s ⊹ quoted "\"")

  unfoldable pub expr_par : NamesInForce → Expr → Parenable
  expr_par ns e = expr_par_to (depth e) ns e

  -- "Every listing is one outer G."
  unfoldable pub expr_doc : Expr → Marked
  expr_doc e = G (under 0 (expr_par [] e))
