-- A print's document keeps 01's limits on blanks and nests, so its rows are accepted by the row rules of 9.
use Prim.Native.Nat.{ℕ, zero, suc, ◌≤◌}
use native.Mathlib.Omega.{arith}
use mathlib.Core.Bool.{Bool, true, false, ◌&&◌, not, cond}
use mathlib.Core.List.{List, [], ◌∷◌, map}
use lib.Dec.{ltb}
use lib.ListN.{length, take, drop}
use Rattle.document.specs.Stored.{Fine}
use Rattle.document.specs.Walk.{Marked, nestᵐ, unmarked}
use Rattle.pool.specs.Tree.{Name, Level, zeroˡ, succˡ, maxˡ, imaxˡ, paramˡ, Expr, var, sort, const, app, pi, lam, letᵉ, proj, nat, str, Declar, typed, valued}
use Rattle.pool.specs.Tree.{lift, depth}
use Rattle.pieces.specs.Docs.{◌⊹◌, quoted, line, G, Parenable, with_inner, under, tile, tile_from, number_doc, opening, closing}
use Rattle.names.specs.Names.{name_doc, is_anonymous}
use Rattle.levels.specs.Levels.{plus, max_par, succs_par, level_par, sort_doc, levels_doc}
use Rattle.binders.specs.Runs.{runs, leading, following}
use Rattle.binders.specs.Binders.{
  Binder,
  binders,
  chain_body,
  pushed,
  in_force,
  is_arrow,
  is_named_pi,
  same_group,
  goes_along,
  binder_name,
  group_doc,
  telescope,
  arrow_par,
  forall_par,
  fun_par,
  run_par,
  runs_par,
  binders_par,
}
use Rattle.std.specs.Prelude.{Option, None, Some}
use Rattle.pool.specs.Kinds.{NotationKind, prefixᵏ, infixᵏ, postfixᵏ, noNotationᵏ}
use Rattle.pool.specs.Notation.{Operator}
use Rattle.binders.specs.Operators.{head_operator, prefix_par, postfix_par, infix_par}
use Rattle.pretty_printer.specs.Exprs.{app_head, app_args, app_par, operator_par, applied_par, chain_par, let_par, expr_par_to, expr_par, expr_doc}
use Rattle.binders.specs.Variables.{var_doc}
use Rattle.declarations.specs.Declars.{keyword, info, taken, Taken, def_rest, main_def, axiom_rest, main_axiom, declar_doc}
use Rattle.binders.proofs.RunLaws.{All}
use Rattle.binders.specs.Options.{PpOptions}
use Rattle.binders.specs.Shown.{NamesInForce}

-- of a document with its marks
abbrev pub Fineᵐ : Marked → Type 0
Fineᵐ m = Fine (unmarked m)

fine_under : (outer : ℕ) (q : Parenable) → Fineᵐ q.doc → Fineᵐ (under outer q)
unfolding under quoted unmarked Fine
fine_under outer q f = by (ltb q.inner outer)
  where
    by : (b : Bool) → Fineᵐ (cond b (quoted "(" ⊹ q.doc ⊹ quoted ")") q.doc)
    by true = ((tt, f), tt)
    by false = f

fine_tile_from : (d : Marked) (ds : List Marked) → Fineᵐ d → All Fineᵐ ds → Fineᵐ (tile_from d ds)
unfolding tile_from unmarked Fine All
fine_tile_from d [] f h = f
fine_tile_from d (next ∷ ds) f h = fine_tile_from (d ⊹ G (line ⊹ next)) ds (f, (omega arith, h.0)) h.1

fine_tile : (ds : List Marked) → All Fineᵐ ds → Fineᵐ (tile ds)
unfolding tile quoted unmarked Fine All
fine_tile [] h = tt
fine_tile (d ∷ ds) h = fine_tile_from d ds h.0 h.1

fine_map : {A : Type 0} (f : A → Marked) → ((x : A) → Fineᵐ (f x)) → (xs : List A) → All Fineᵐ (map f xs)
unfolding All
fine_map f h [] = tt
fine_map f h (x ∷ xs) = (h x, fine_map f h xs)

fine_name : (n : Name) → Fineᵐ (name_doc n)
unfolding name_doc unmarked Fine
fine_name n = tt

-- ---- levels

fine_plus : (q : Parenable) (n : ℕ) → Fineᵐ q.doc → Fineᵐ (plus q n).doc
unfolding plus quoted number_doc unmarked Fine
fine_plus q zero f = f
fine_plus q (suc n) f = ((fine_under 1 q f, tt), tt)

fine_level : (l : Level) (n : ℕ) → Fineᵐ (succs_par l n).doc
unfolding succs_par max_par quoted number_doc unmarked Fine
fine_level zeroˡ n = tt
fine_level (succˡ a) n = fine_level a (suc n)
fine_level (maxˡ a b) n =
    fine_plus (max_par "max" (succs_par a 0) (succs_par b 0)) n ((((tt, tt), fine_under 1 (succs_par a 0) (fine_level a 0)), omega arith), fine_under 1 (succs_par b 0) (fine_level b 0))
fine_level (imaxˡ a b) n =
    fine_plus (max_par "imax" (succs_par a 0) (succs_par b 0)) n ((((tt, tt), fine_under 1 (succs_par a 0) (fine_level a 0)), omega arith), fine_under 1 (succs_par b 0) (fine_level b 0))
fine_level (paramˡ p) n = fine_plus (with_inner 1024 (name_doc p)) n (fine_name p)

fine_sort : (l : Level) → Fineᵐ (sort_doc l)
unfolding sort_doc quoted unmarked Fine
fine_sort zeroˡ = tt
fine_sort (succˡ a) = ((tt, tt), fine_under 1024 (level_par a) (fine_level a 0))
fine_sort (maxˡ a b) = ((tt, tt), fine_under 1024 (level_par (maxˡ a b)) (fine_level (maxˡ a b) 0))
fine_sort (imaxˡ a b) = ((tt, tt), fine_under 1024 (level_par (imaxˡ a b)) (fine_level (imaxˡ a b) 0))
fine_sort (paramˡ p) = ((tt, tt), fine_under 1024 (level_par (paramˡ p)) (fine_level (paramˡ p) 0))

fine_levels : (ls : List Level) → Fineᵐ (levels_doc ls)
unfolding levels_doc quoted unmarked Fine
fine_levels [] = tt
fine_levels (l ∷ ls) =
    (tt, ((tt, fine_tile (map (λ x. under 0 (level_par x)) (l ∷ ls)) (fine_map (λ x. under 0 (level_par x)) (λ x. fine_under 0 (level_par x) (fine_level x 0)) (l ∷ ls))), tt))

-- ---- binders

fine_bracket : (style : ℕ) → Fineᵐ (opening style) × Fineᵐ (closing style)
unfolding opening closing quoted unmarked Fine
fine_bracket zero = (tt, tt)
fine_bracket (suc zero) = (tt, tt)
fine_bracket (suc (suc zero)) = (tt, tt)
fine_bracket (suc (suc (suc n))) = (tt, tt)

fine_binder_name : (b : Binder) → Fineᵐ (binder_name b)
unfolding binder_name quoted unmarked Fine
fine_binder_name b = by (is_anonymous b.name && not b.used)
  where
    by : (c : Bool) → Fineᵐ (cond c (quoted "_") (name_doc b.name))
    by true = tt
    by false = fine_name b.name

module _ (opts : PpOptions) (small : opts.indent ≤ 64) (pp : Expr → Parenable) (fine : (e : Expr) → Fineᵐ (pp e).doc) where
  fine_group : (bs : List Binder) → Fineᵐ (group_doc opts pp bs)
  unfolding group_doc quoted unmarked Fine
  fine_group [] = tt
  fine_group (b ∷ bs) = (
    small,
    (
      (
        (fine_bracket b.style).0,
        ((((fine_tile (map binder_name (b ∷ bs)) (fine_map binder_name fine_binder_name (b ∷ bs)), tt), tt), omega arith), fine_under 1 (pp b.type) (fine b.type)),
      ),
      (fine_bracket b.style).1,
    ),
  )

  fine_telescope : (bs : List Binder) → Fineᵐ (telescope opts pp bs)
  unfolding telescope
  fine_telescope bs = fine_tile (map (group_doc opts pp) (runs same_group bs)) (fine_map (group_doc opts pp) fine_group (runs same_group bs))

  fine_run : (bs : List Binder) (tail : Parenable) → Fineᵐ tail.doc → Fineᵐ (run_par opts pp bs tail).doc
  unfolding run_par arrow_par forall_par fun_par quoted unmarked Fine
  fine_run [] tail f = f
  fine_run (b ∷ bs) tail f = by (is_arrow b) b.is_pi
    where
      by : (x y : Bool) → Fineᵐ (cond x (arrow_par opts pp b tail) (cond y (forall_par opts pp (b ∷ bs) tail) (fun_par opts pp (b ∷ bs) tail))).doc
      by true y = (((((small, fine_under 25 (pp b.type) (fine b.type)), tt), tt), omega arith), fine_under 24 tail f)
      by false true = (((small, (((tt, tt), fine_telescope (b ∷ bs)), tt)), omega arith), fine_under 0 tail f)
      by false false = (((small, ((((tt, tt), fine_telescope (b ∷ bs)), tt), tt)), omega arith), fine_under 0 tail f)

  fine_runs : (rs : List (List Binder)) (body : Parenable) → Fineᵐ body.doc → Fineᵐ (runs_par opts pp rs body).doc
  unfolding runs_par
  fine_runs [] body f = f
  fine_runs (r ∷ rs) body f = fine_run r (runs_par opts pp rs body) (fine_runs rs body f)

  fine_binders : (bs : List Binder) (body : Parenable) → Fineᵐ body.doc → Fineᵐ (binders_par opts pp bs body).doc
  unfolding binders_par
  fine_binders bs body f = fine_runs (runs goes_along bs) body f

  fine_in_force : (bs : List Binder) (outside : ℕ) (d : Marked) → Fineᵐ d → Fineᵐ (in_force bs outside d)
  unfolding in_force unmarked
  fine_in_force [] outside d f = f
  fine_in_force (b ∷ bs) outside d f = f

  fine_chain : (bs : List Binder) (outside : ℕ) (body : Expr) → Fineᵐ (chain_par opts pp bs outside body).doc
  unfolding chain_par
  fine_chain bs outside body = fine_in_force bs outside (binders_par opts pp bs (pp body)).doc (fine_binders bs (pp body) (fine body))

  fine_app : (head : Expr) (args : List Expr) → Fineᵐ (app_par opts pp head args).doc
  unfolding app_par tile unmarked Fine
  fine_app head args = (
    small,
    fine_tile_from (G (under 1023 (pp head))) (map (λ a. G (under 1024 (pp a))) args) (fine_under 1023 (pp head) (fine head))
        (fine_map (λ a. G (under 1024 (pp a))) (λ a. fine_under 1024 (pp a) (fine a)) args),
  )

  fine_operator : (o : Operator) (k : NotationKind) (head : Expr) (args : List Expr) → Fineᵐ (operator_par opts pp o k head args).doc
  unfolding operator_par prefix_par infix_par postfix_par unmarked Fine
  fine_operator o prefixᵏ head [] = fine_app head []
  fine_operator o prefixᵏ head (x ∷ []) = ((tt, omega arith), fine_under o.priority (pp x) (fine x))
  fine_operator o prefixᵏ head (x ∷ y ∷ more) = fine_app head (x ∷ y ∷ more)
  fine_operator o infixᵏ head [] = fine_app head []
  fine_operator o infixᵏ head (x ∷ []) = fine_app head (x ∷ [])
  fine_operator o infixᵏ head (x ∷ y ∷ []) =
      (small, (((fine_under o.priority (pp x) (fine x), tt), omega arith), fine_under o.priority (pp y) (fine y)))
  fine_operator o infixᵏ head (x ∷ y ∷ z ∷ more) = fine_app head (x ∷ y ∷ z ∷ more)
  fine_operator o postfixᵏ head [] = fine_app head []
  fine_operator o postfixᵏ head (x ∷ []) = ((fine_under o.priority (pp x) (fine x), omega arith), tt)
  fine_operator o postfixᵏ head (x ∷ y ∷ more) = fine_app head (x ∷ y ∷ more)
  fine_operator o noNotationᵏ head args = fine_app head args

  fine_applied : (o : Option Operator) (head : Expr) (args : List Expr) → Fineᵐ (applied_par opts pp o head args).doc
  unfolding applied_par
  fine_applied None head args = fine_app head args
  fine_applied (Some o) head args = fine_operator o o.kind head args

-- ---- expressions

fine_var : (ns : NamesInForce) (i index : ℕ) → Fineᵐ (var_doc ns i index)
unfolding var_doc number_doc unmarked Fine
fine_var [] i index = tt
fine_var (n ∷ ns) zero index = fine_name n
fine_var (n ∷ ns) (suc i) index = fine_var ns i index

module _ (opts : PpOptions) (small : opts.indent ≤ 64) where
  fine_to : (k : ℕ) (ns : NamesInForce) (e : Expr) → Fineᵐ (expr_par_to opts k ns e).doc
  unfolding expr_par_to let_par quoted number_doc unmarked Fine
  fine_to zero ns e = tt
  fine_to (suc k) ns (var i) = fine_var ns i i
  fine_to (suc k) ns (sort l) = fine_sort l
  fine_to (suc k) ns (const n ls) = (tt, fine_name n)
  fine_to (suc k) ns (app f a) =
      fine_applied opts small (expr_par_to opts k ns) (fine_to k ns) (head_operator opts f) (app_head f) (app_args f (a ∷ []))
  fine_to (suc k) ns (pi p n s t b) =
      let bs : List Binder = binders (pi p n s t b) in
      fine_chain opts small (expr_par_to opts k (pushed bs ns)) (fine_to k (pushed bs ns)) bs (length ns) (chain_body b)
  fine_to (suc k) ns (lam p n s t b) =
      let bs : List Binder = binders (lam p n s t b) in
      fine_chain opts small (expr_par_to opts k (pushed bs ns)) (fine_to k (pushed bs ns)) bs (length ns) (chain_body b)
  fine_to (suc k) ns (letᵉ p n t v b d) = (
    (
      (
        small,
        (
          (
            (((((tt, tt), ((((fine_name n, tt), tt), omega arith), fine_under 1 (expr_par_to opts k ns t) (fine_to k ns t))), tt), tt), omega arith),
            fine_under 0 (expr_par_to opts k ns v) (fine_to k ns v),
          ),
          tt,
        ),
      ),
      omega arith,
    ),
    fine_under 0 (expr_par_to opts k (n ∷ ns) b) (fine_to k (n ∷ ns) b),
  )
  fine_to (suc k) ns (proj n i e) = ((fine_under 1024 (expr_par_to opts k ns e) (fine_to k ns e), tt), tt)
  fine_to (suc k) ns (nat s) = tt
  fine_to (suc k) ns (str s) = ((tt, tt), tt)

  fine_expr : (ns : NamesInForce) (e : Expr) → Fineᵐ (expr_par opts ns e).doc
  unfolding expr_par
  fine_expr ns e = fine_to (depth e) ns e

  -- an expression's document
  pub expr_fine : (e : Expr) → Fineᵐ (expr_doc opts e)
  unfolding expr_doc unmarked Fine
  expr_fine e = fine_under 0 (expr_par opts [] e) (fine_expr [] e)

-- ---- declarations

fine_word : (k : ℕ) → Fineᵐ (keyword k)
unfolding keyword quoted unmarked Fine
fine_word zero = tt
fine_word (suc zero) = tt
fine_word (suc (suc zero)) = tt
fine_word (suc (suc (suc zero))) = tt
fine_word (suc (suc (suc (suc zero)))) = tt
fine_word (suc (suc (suc (suc (suc zero))))) = tt
fine_word (suc (suc (suc (suc (suc (suc zero)))))) = tt
fine_word (suc (suc (suc (suc (suc (suc (suc k))))))) = tt

fine_info : (n : Name) (ls : List Level) → Fineᵐ (info n ls)
unfolding info unmarked Fine
fine_info n ls = (fine_name n, fine_levels ls)

module _ (opts : PpOptions) (small : opts.indent ≤ 64) (pp : Expr → Parenable) (fine : (e : Expr) → Fineᵐ (pp e).doc) where
  fine_def_rest : (bs : List Binder) (T : Marked) → Fineᵐ T → Fineᵐ (def_rest opts pp bs T)
  unfolding def_rest quoted unmarked Fine
  fine_def_rest [] T f = (((tt, f), tt), tt)
  fine_def_rest (b ∷ bs) T f = ((((((small, fine_telescope opts small pp fine (b ∷ bs)), tt), tt), f), tt), tt)

  fine_axiom_rest : (bs : List Binder) (T : Marked) → Fineᵐ T → Fineᵐ (axiom_rest opts pp bs T)
  unfolding axiom_rest quoted unmarked Fine
  fine_axiom_rest [] T f = (small, ((tt, omega arith), f))
  fine_axiom_rest (b ∷ bs) T f = (small, ((((fine_telescope opts small pp fine (b ∷ bs), tt), tt), omega arith), f))

module _ (opts : PpOptions) (small : opts.indent ≤ 64) where
  -- a declaration's document
  pub declar_fine : (d : Declar) → Fineᵐ (declar_doc opts d)
  unfolding declar_doc main_def main_axiom quoted unmarked Fine
  declar_fine (typed kind name levels type) =
      let bs : List Binder = binders type in
      let pp : Expr → Parenable = expr_par opts (pushed bs []) in
      let fine : (e : Expr) → Fineᵐ (pp e).doc = fine_expr opts small (pushed bs []) in
      let rest : List Binder = following is_named_pi bs in
      let T : Parenable = binders_par opts pp rest (pp (chain_body type)) in (
        (((fine_word kind, tt), fine_info name levels), tt),
        fine_in_force opts small pp fine bs 0 (axiom_rest opts pp (leading is_named_pi bs) (under 0 T))
            (fine_axiom_rest opts small pp fine (leading is_named_pi bs) (under 0 T) (fine_under 0 T (fine_binders opts small pp fine rest (pp (chain_body type)) (fine (chain_body type))))),
      )
  declar_fine (valued kind name levels type value) =
      let bs : List Binder = binders type in
      let pp : Expr → Parenable = expr_par opts (pushed bs []) in
      let fine : (e : Expr) → Fineᵐ (pp e).doc = fine_expr opts small (pushed bs []) in
      let t : Taken = taken bs value 0 in
      let rest : List Binder = drop t.count bs in
      let T : Parenable = binders_par opts pp rest (pp (chain_body type)) in
      let v : Expr = lift (length rest) 0 t.value in (
        (
          (((fine_word kind, tt), fine_info name levels), tt),
          fine_in_force opts small pp fine bs 0 (def_rest opts pp (take t.count bs) (nestᵐ opts.indent (line ⊹ G (under 0 T))))
              (fine_def_rest opts small pp fine (take t.count bs) (nestᵐ opts.indent (line ⊹ G (under 0 T)))
              (small, (omega arith, fine_under 0 T (fine_binders opts small pp fine rest (pp (chain_body type)) (fine (chain_body type)))))),
        ),
        (small, (omega arith, fine_under 0 (pp v) (fine v))),
      )
