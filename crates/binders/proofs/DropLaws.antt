-- What is left of a chain on the stack after its first binders.
use Prim.Native.Nat.{ℕ, zero, suc, ◌+◌, ◌<◌, ◌≤◌}
use native.Mathlib.Nat.{add-zero}
use native.Mathlib.Omega.{arith}
use mathlib.Core.Bool.{Bool, true, false, cond}
use mathlib.Core.List.{List, ◌∷◌, map}
use mathlib.Core.Path.{◌≡◌, refl, sym, ap, ap₂, ◌∙◌}
use lib.ListN.{length, take, drop}
use Rattle.document.specs.Walk.{Marked}
use Rattle.pool.specs.Tables.{Pool}
use Rattle.pool.specs.Tree.{Name, Expr, var, sort, const, app, pi, lam, letᵉ, proj, nat, str}
use Rattle.binders.specs.declared.stack.Stack.{Stack}
use Rattle.binders.specs.Binders.{chain_body, binder_name}
use Rattle.binders.specs.Scopes.{scoped, last_scope, Chained}
use Rattle.binders.specs.Steps.{first_binder, in_run, run_length, in_group, group_length, drop_chain, chain_length, name_docs, mk_binder}
use Rattle.binders.proofs.RunningLaws.{drop_nothing}
use Rattle.binders.proofs.ViewLaws.{length_made, body_made, drop_made, scope_made, scoped_made, chained_parts}

-- the chain e, whose first entry is m and first scope h, without its first n binders
pub record Later (p : Pool) (k : Stack) (h m n : ℕ) (e : Expr) : Type 0 where
  pub rest : scoped k (m + n) (m + n) (drop_chain n e) ≡ drop n (scoped k h m e)
  pub scope : last_scope (m + n) (m + n) (drop_chain n e) ≡ last_scope h m e
  pub body : chain_body (drop_chain n e) ≡ chain_body e
  pub chained : Chained p k h m e → Chained p k (m + n) (m + n) (drop_chain n e)
  pub left : chain_length (drop_chain n e) + n ≡ chain_length e

module _ (p : Pool) (k : Stack) where
  later_none : (m : ℕ) (e : Expr) → Later p k m m 0 e
  later_none m e =
      let d : drop_chain 0 e ≡ e = drop_nothing e in
      let z : m + 0 ≡ m = add-zero m in
      record {
        rest = rw (d, z);
        scope = rw (d, z);
        body = rw d;
        chained = λ c. rw (d, z) c;
        left = rw d (add-zero (chain_length e));
      }

  later_made : (i : Bool) (h m n q : ℕ) (a : Name) (s : ℕ) (t b : Expr) → Later p k (suc m) (suc m) n b
      → Later p k h m (suc n) (mk_binder i q a s t b)
  later_made i h m n q a s t b l =
      let z : m + suc n ≡ suc m + n = omega arith in
      record {
        rest = rw (drop_made i q a s t b n, scoped_made i q a s t b k h m, z) l.rest;
        scope = rw (drop_made i q a s t b n, scope_made i q a s t b h m, z) l.scope;
        body = rw (drop_made i q a s t b n, body_made i q a s t b) l.body;
        chained = λ c. rw (drop_made i q a s t b n, z) (l.chained (chained_parts p k h m i q a s t b c).2);
        left = rw (drop_made i q a s t b n, length_made i q a s t b) (omega (arith, l.left));
      }

  -- from a first scope that is the first entry's own
  pub later : (m n : ℕ) (e : Expr) → n ≤ chain_length e → Later p k m m n e
  unfolding chain_length mk_binder
  later m zero e l = later_none m e
  later m (suc n) (var i) l = absurd (omega arith)
  later m (suc n) (sort i) l = absurd (omega arith)
  later m (suc n) (const a ls) l = absurd (omega arith)
  later m (suc n) (app f a) l = absurd (omega arith)
  later m (suc n) (pi q a s t b) l = later_made true m m n q a s t b (later (suc m) n b (omega arith))
  later m (suc n) (lam q a s t b) l = later_made false m m n q a s t b (later (suc m) n b (omega arith))
  later m (suc n) (letᵉ q a t v b d) l = absurd (omega arith)
  later m (suc n) (proj a i e) l = absurd (omega arith)
  later m (suc n) (nat s) l = absurd (omega arith)
  later m (suc n) (str s) l = absurd (omega arith)

  -- after one binder at least
  pub later_some : (h m n : ℕ) (e : Expr) → 0 < n → n ≤ chain_length e → Later p k h m n e
  unfolding chain_length mk_binder
  later_some h m zero e s l = absurd (omega arith)
  later_some h m (suc n) (var i) s l = absurd (omega arith)
  later_some h m (suc n) (sort i) s l = absurd (omega arith)
  later_some h m (suc n) (const a ls) s l = absurd (omega arith)
  later_some h m (suc n) (app f a) s l = absurd (omega arith)
  later_some h m (suc n) (pi q a u t b) s l = later_made true h m n q a u t b (later (suc m) n b (omega arith))
  later_some h m (suc n) (lam q a u t b) s l = later_made false h m n q a u t b (later (suc m) n b (omega arith))
  later_some h m (suc n) (letᵉ q a t v b d) s l = absurd (omega arith)
  later_some h m (suc n) (proj a i e) s l = absurd (omega arith)
  later_some h m (suc n) (nat u) s l = absurd (omega arith)
  later_some h m (suc n) (str u) s l = absurd (omega arith)

-- the names of a chain's first binders
pub names_taken : (k : Stack) (n h m : ℕ) (e : Expr) → n ≤ chain_length e → map binder_name (take n (scoped k h m e)) ≡ name_docs n e
unfolding chain_length scoped name_docs binder_name first_binder drop_chain
names_taken k zero h m e l = refl
names_taken k (suc n) h m (var i) l = absurd (omega arith)
names_taken k (suc n) h m (sort i) l = absurd (omega arith)
names_taken k (suc n) h m (const a ls) l = absurd (omega arith)
names_taken k (suc n) h m (app f a) l = absurd (omega arith)
names_taken k (suc n) h m (pi q a s t b) l =
    ap₂ (λ (x : Marked) (y : List Marked). x ∷ y) refl (names_taken k n (suc m) (suc m) b (omega arith) ∙ ap (name_docs n) (sym (drop_nothing b)))
names_taken k (suc n) h m (lam q a s t b) l =
    ap₂ (λ (x : Marked) (y : List Marked). x ∷ y) refl (names_taken k n (suc m) (suc m) b (omega arith) ∙ ap (name_docs n) (sym (drop_nothing b)))
names_taken k (suc n) h m (letᵉ q a t v b d) l = absurd (omega arith)
names_taken k (suc n) h m (proj a i e) l = absurd (omega arith)
names_taken k (suc n) h m (nat s) l = absurd (omega arith)
names_taken k (suc n) h m (str s) l = absurd (omega arith)

pub length-scoped : (k : Stack) (h m : ℕ) (e : Expr) → length (scoped k h m e) ≡ chain_length e
unfolding scoped chain_length
length-scoped k h m (var i) = refl
length-scoped k h m (sort l) = refl
length-scoped k h m (const n ls) = refl
length-scoped k h m (app f a) = refl
length-scoped k h m (pi q n s t b) = ap suc (length-scoped k (suc m) (suc m) b)
length-scoped k h m (lam q n s t b) = ap suc (length-scoped k (suc m) (suc m) b)
length-scoped k h m (letᵉ q n t v b d) = refl
length-scoped k h m (proj n i e) = refl
length-scoped k h m (nat s) = refl
length-scoped k h m (str s) = refl

-- ---- lengths of runs and groups

count_less : (v : Bool) (x y : ℕ) → x ≤ y → cond v (suc x) 0 ≤ suc y
count_less true x y l = omega arith
count_less false x y l = omega arith

pub run-within : (c : Bool) (e : Expr) → run_length c e ≤ chain_length e
unfolding run_length chain_length
run-within c (var i) = omega arith
run-within c (sort l) = omega arith
run-within c (const n ls) = omega arith
run-within c (app f a) = omega arith
run-within c (pi q n s t b) = count_less (in_run c (first_binder (pi q n s t b))) (run_length c b) (chain_length b) (run-within c b)
run-within c (lam q n s t b) = count_less (in_run c (first_binder (lam q n s t b))) (run_length c b) (chain_length b) (run-within c b)
run-within c (letᵉ q n t v b d) = omega arith
run-within c (proj n i e) = omega arith
run-within c (nat s) = omega arith
run-within c (str s) = omega arith

pub group_within : (n style : ℕ) (type : Expr) (j : ℕ) (e : Expr) → group_length n style type j e ≤ n
unfolding group_length
group_within n style type j (var i) = omega arith
group_within n style type j (sort l) = omega arith
group_within n style type j (const a ls) = omega arith
group_within n style type j (app f a) = omega arith
group_within zero style type j (pi q a s t b) = omega arith
group_within (suc n) style type j (pi q a s t b) = count_less (in_group style type j (first_binder (pi q a s t b))) (group_length n style type (suc j) b) n (group_within n style type (suc j) b)
group_within zero style type j (lam q a s t b) = omega arith
group_within (suc n) style type j (lam q a s t b) = count_less (in_group style type j (first_binder (lam q a s t b))) (group_length n style type (suc j) b) n (group_within n style type (suc j) b)
group_within n style type j (letᵉ q a t v b d) = omega arith
group_within n style type j (proj a i e) = omega arith
group_within n style type j (nat s) = omega arith
group_within n style type j (str s) = omega arith
