-- What an expression prints, kind by kind, with no bound: each part at its own depth.
use Prim.Native.Nat.{ℕ, suc, ◌+◌, ◌≤◌, max}
use native.Mathlib.Omega.{arith}
use mathlib.Core.List.{List, [], ◌∷◌}
use mathlib.Core.Path.{◌≡◌, refl}
use lib.ListN.{length}
use Rattle.pool.specs.Tree.{Name, Level, Expr, var, sort, const, app, pi, lam, letᵉ, proj, nat, str, depth}
use Rattle.document.specs.Walk.{textᵐ}
use Rattle.pieces.specs.Docs.{◌⊹◌, quoted, G, with_inner, under, number_doc}
use Rattle.names.specs.Names.{name_doc}
use Rattle.levels.specs.Levels.{sort_doc}
use Rattle.binders.specs.Binders.{Binder, binders, chain_body, pushed}
use Rattle.binders.specs.Operators.{head_operator}
use Rattle.pretty_printer.specs.Exprs.{app_head, app_args, applied_par, chain_par, let_par, expr_par_to, expr_par}
use Rattle.binders.specs.Variables.{var_doc}
use Rattle.binders.proofs.RunLaws.{All}
use Rattle.pretty_printer.proofs.BoundLaws.{bound_does_not_matter, head_depth, args_depth, body_depth, types_depth, all_one, all_map, Within, TypeWithin, Agree}
use Rattle.pretty_printer.proofs.BoundLaws.{applied_agrees, chain_agrees}
use Rattle.binders.specs.Options.{PpOptions}
use Rattle.binders.specs.Shown.{NamesInForce}

module _ (opts : PpOptions) (ns : NamesInForce) where
  -- at any bound from its depth on
  pub at_depth : (k : ℕ) (e : Expr) → depth e ≤ k → expr_par_to opts k ns e ≡ expr_par opts ns e
  unfolding expr_par
  at_depth k e h = bound_does_not_matter opts k (depth e) ns e h (omega arith)

  pub prints_var : (i : ℕ) → expr_par opts ns (var i) ≡ with_inner 1024 (var_doc ns i i)
  unfolding expr_par expr_par_to depth
  prints_var i = refl

  pub prints_sort : (l : Level) → expr_par opts ns (sort l) ≡ with_inner 1024 (sort_doc l)
  unfolding expr_par expr_par_to depth
  prints_sort l = refl

  pub prints_const : (n : Name) (ls : List Level) → expr_par opts ns (const n ls) ≡ with_inner 1024 (quoted "@" ⊹ name_doc n)
  unfolding expr_par expr_par_to depth
  prints_const n ls = refl

  pub prints_nat : (s : List ℕ) → expr_par opts ns (nat s) ≡ with_inner 1024 (textᵐ s)
  unfolding expr_par expr_par_to depth
  prints_nat s = refl

  pub prints_str : (s : List ℕ) → expr_par opts ns (str s) ≡ with_inner 1024 (quoted "\"" ⊹ textᵐ s ⊹ quoted "\"")
  unfolding expr_par expr_par_to depth
  prints_str s = refl

  pub prints_proj : (n : Name) (i : ℕ) (e : Expr) → expr_par opts ns (proj n i e) ≡ with_inner 1024 (G (under 1024 (expr_par opts ns e)) ⊹ quoted "." ⊹ number_doc (i + 1))
  unfolding expr_par expr_par_to depth
  prints_proj n i e = refl

  pub prints_app : (f a : Expr) → expr_par opts ns (app f a)
      ≡ applied_par opts (expr_par opts ns) (head_operator opts f) (app_head f) (app_args f (a ∷ []))
  unfolding expr_par expr_par_to depth
  prints_app f a =
      let d : ℕ = max (depth f) (depth a) in
      applied_agrees opts (expr_par_to opts d ns) (expr_par opts ns) (head_operator opts f) (app_head f) (app_args f (a ∷ []))
      (at_depth d (app_head f) (omega (arith, head_depth f)))
      (all_map (Within d) (λ x. expr_par_to opts d ns x ≡ expr_par opts ns x) (λ x h. at_depth d x h) (app_args f (a ∷ []))
      (args_depth d f (a ∷ []) (omega arith) (all_one (Within d) a (omega arith))))

-- a chain whose parts are not deeper than the bound
chain_at_depth : (opts : PpOptions) (k : ℕ) (ns : NamesInForce) (bs : List Binder) (outside : ℕ) (body : Expr) → All (TypeWithin k) bs → depth body ≤ k →
    chain_par opts (expr_par_to opts k ns) bs outside body ≡ chain_par opts (expr_par opts ns) bs outside body
chain_at_depth opts k ns bs outside body p h =
    chain_agrees opts (expr_par_to opts k ns) (expr_par opts ns) bs outside body
    (all_map (TypeWithin k) (Agree opts (expr_par_to opts k ns) (expr_par opts ns)) (λ b x. at_depth opts ns k b.type x) bs p)
    (at_depth opts ns k body h)

module _ (opts : PpOptions) (ns : NamesInForce) where
  pub prints_pi : (p : ℕ) (n : Name) (s : ℕ) (t b : Expr) →
      expr_par opts ns (pi p n s t b) ≡ chain_par opts (expr_par opts (pushed (binders (pi p n s t b)) ns)) (binders (pi p n s t b)) (length ns) (chain_body (pi p n s t b))
  unfolding expr_par expr_par_to depth chain_body
  prints_pi p n s t b =
      chain_at_depth opts (max (depth t) (depth b)) (pushed (binders (pi p n s t b)) ns) (binders (pi p n s t b)) (length ns) (chain_body b)
      (types_depth (max (depth t) (depth b)) (pi p n s t b) (omega arith)) (omega (arith, body_depth b))

  pub prints_lam : (p : ℕ) (n : Name) (s : ℕ) (t b : Expr) →
      expr_par opts ns (lam p n s t b) ≡ chain_par opts (expr_par opts (pushed (binders (lam p n s t b)) ns)) (binders (lam p n s t b)) (length ns) (chain_body (lam p n s t b))
  unfolding expr_par expr_par_to depth chain_body
  prints_lam p n s t b =
      chain_at_depth opts (max (depth t) (depth b)) (pushed (binders (lam p n s t b)) ns) (binders (lam p n s t b)) (length ns) (chain_body b)
      (types_depth (max (depth t) (depth b)) (lam p n s t b) (omega arith)) (omega (arith, body_depth b))

  pub prints_let : (p : ℕ) (n : Name) (t v b : Expr) (d : ℕ) →
      expr_par opts ns (letᵉ p n t v b d) ≡ let_par opts p (suc (length ns)) n (expr_par opts ns t) (expr_par opts ns v) (expr_par opts (n ∷ ns) b)
  unfolding expr_par expr_par_to depth
  prints_let p n t v b d =
      let k : ℕ = max (depth t) (max (depth v) (depth b)) in
      rw (at_depth opts ns k t (omega arith), at_depth opts ns k v (omega arith), at_depth opts (n ∷ ns) k b (omega arith))
