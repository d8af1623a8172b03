-- The parts of a chain on the stack: an arrow binder or a run of others, and what follows it.
use Prim.Native.Nat.{ℕ, suc, ◌+◌, ◌<◌, ◌≤◌}
use native.Mathlib.Omega.{arith}
use mathlib.Core.Bool.{Bool, true, false, cond}
use mathlib.Core.List.{List, [], ◌∷◌}
use mathlib.Core.Path.{◌≡◌, refl, sym, ap, ap₂, ◌∙◌}
use lib.Dec.{ltb}
use lib.ListN.{length, take, drop}
use Rattle.basics.proofs.Booleans.{and_left, or-false}
use Rattle.document.specs.Sink.{State, put_join, emit}
use Rattle.pool.specs.Tables.{Pool}
use Rattle.pool.specs.Tree.{Name, Expr, occurs}
use Rattle.pieces.specs.Docs.{Parenable, under}
use Rattle.pieces.specs.Parens.{open_if, close_if}
use Rattle.pieces.proofs.Emitting.{under_emits}
use Rattle.binders.specs.declared.stack.Stack.{Stack}
use Rattle.binders.specs.Runs.{leading, following}
use Rattle.binders.specs.Binders.{Binder, chain_body, is_arrow, is_named_pi, goes_along, arrow_par, forall_par, fun_par, binders_par}
use Rattle.binders.specs.Rename.{rename}
use Rattle.binders.specs.Scopes.{place_in, scoped, last_scope}
use Rattle.binders.specs.Steps.{first_binder, is_binder, in_run, run_length, part_length, drop_chain, chain_length, mk_binder}
use Rattle.pretty_printer.specs.Parts.{printed, in_scope, chain_part, groups_part, run_part}
use Rattle.binders.specs.Steps.{level_of}
use Rattle.pretty_printer.proofs.ChainLaws.{leading_takes, following_drops, run_length_lem}
use Rattle.pretty_printer.proofs.EmitLaws.{no_binders, arrow_first, run_first, arrow_puts, run_puts}
use Rattle.binders.proofs.ViewLaws.{first_made, length_made, scoped_made, body_none, scope_none, scoped_none}
use Rattle.binders.proofs.DropLaws.{Later, later_some, run-within}
use Rattle.binders.specs.Options.{PpOptions}

-- ---- lists: tests that agree

module _ {A : Type 0} (q r : A → Bool) (same : (x : A) → q x ≡ r x) where
  pub leading_agrees : (xs : List A) → leading q xs ≡ leading r xs
  unfolding leading
  leading_agrees [] = refl
  leading_agrees (x ∷ xs) = ap₂ (λ (v : Bool) (l : List A). cond v (x ∷ l) []) (same x) (leading_agrees xs)

  pub following_agrees : (xs : List A) → following q xs ≡ following r xs
  unfolding following
  following_agrees [] = refl
  following_agrees (x ∷ xs) = ap₂ (λ (v : Bool) (l : List A). cond v l (x ∷ xs)) (same x) (following_agrees xs)

-- ---- what goes along with a binder that is no arrow: those of its run

run_of_pis : (x y : Binder) → x.is_pi ≡ true → is_arrow x ≡ false → goes_along x y ≡ in_run true y
unfolding goes_along in_run is_named_pi
run_of_pis x y e n = rw (n, e) (or-false (is_named_pi y))

run_of_lambdas : (x y : Binder) → x.is_pi ≡ false → goes_along x y ≡ in_run false y
unfolding goes_along in_run is_named_pi
run_of_lambdas x y e = rw e

pub along_run : (x y : Binder) → is_arrow x ≡ false → goes_along x y ≡ in_run x.is_pi y
along_run x y n = by x.is_pi refl
  where
    by : (c : Bool) → x.is_pi ≡ c → goes_along x y ≡ in_run c y
    by true e = run_of_pis x y e n
    by false e = run_of_lambdas x y e

own_pi : (x : Binder) → x.is_pi ≡ true → is_arrow x ≡ false → in_run true x ≡ true
unfolding in_run is_named_pi
own_pi x e n = rw (n, e)

own_lambda : (x : Binder) → x.is_pi ≡ false → in_run false x ≡ true
unfolding in_run
own_lambda x e = rw e

pub starts_run : (x : Binder) → is_arrow x ≡ false → in_run x.is_pi x ≡ true
starts_run x n = by x.is_pi refl
  where
    by : (c : Bool) → x.is_pi ≡ c → in_run c x ≡ true
    by true e = own_pi x e n
    by false e = own_lambda x e

arrow_is_pi : (x : Binder) → is_arrow x ≡ true → x.is_pi ≡ true
unfolding is_arrow
arrow_is_pi x e = and_left x.is_pi _ e

-- an arrow binder is one whatever its type
pub arrow_type : (i u : Bool) (n : Name) (s : ℕ) (t v : Expr) (q : ℕ) →
    is_arrow (record { is_pi = i; used = u; name = n; style = s; type = t; place = q })
    ≡ is_arrow (record { is_pi = i; used = u; name = n; style = s; type = v; place = q })
unfolding is_arrow
arrow_type i u n s t v q = refl

-- ---- no binder

module _ (opts : PpOptions) (p : Pool) (k : Stack) where
  pub part_none : (h m : ℕ) (e : Expr) → is_binder e ≡ false → chain_part opts p k h m e ≡ in_scope opts p k h e
  unfolding chain_part
  part_none h m e n =
      rw (scoped_none k h m e n, scope_none h m e n, body_none e n) (no_binders opts (printed opts p k) (in_scope opts p k h e))

-- the level of binders
module _ (opts : PpOptions) (pp : Expr → Parenable) where
  run_inner : (c : Bool) (bs : List Binder) (tail : Parenable) → (cond c (forall_par opts pp bs tail) (fun_par opts pp bs tail)).inner ≡ 0
  unfolding forall_par fun_par
  run_inner true bs tail = refl
  run_inner false bs tail = refl

  pub binders_level : (x : Binder) (xs : List Binder) (body : Parenable) → (binders_par opts pp (x ∷ xs) body).inner ≡ level_of (is_arrow x)
  unfolding level_of arrow_par
  binders_level x xs body = by (is_arrow x) refl
    where
      by : (v : Bool) → is_arrow x ≡ v → (binders_par opts pp (x ∷ xs) body).inner ≡ cond v 24 0
      by true e = ap (λ (c : Parenable). c.inner) (arrow_first opts pp x xs body e (arrow_is_pi x e))
      by false e = ap (λ (c : Parenable). c.inner) (run_first opts pp x xs body e) ∙ run_inner x.is_pi _ _

-- ---- a binder

module _ (opts : PpOptions) (p : Pool) (k : Stack) (i : Bool) (q : ℕ) (a : Name) (s : ℕ) (t b : Expr) (h m : ℕ) where
  abbrev pp : Expr → Parenable
  pp = printed opts p k

  abbrev e : Expr
  e = mk_binder i q a s t b

  abbrev x : Binder
  x = record { is_pi = i; used = occurs 0 b; name = a; style = s; type = rename (place_in k h) t; place = q }

  abbrev xs : List Binder
  xs = scoped k (suc m) (suc m) b

  abbrev body : Parenable
  body = in_scope opts p k (last_scope h m e) (chain_body e)

  part_made : chain_part opts p k h m e ≡ binders_par opts pp (x ∷ xs) body
  unfolding chain_part
  part_made = ap (λ (l : List Binder). binders_par opts pp l body) (scoped_made i q a s t b k h m)

  -- what follows n binders
  tail_is : (n : ℕ) → 0 < n → n ≤ chain_length e → binders_par opts pp (drop n (x ∷ xs)) body ≡ chain_part opts p k (m + n) (m + n) (drop_chain n e)
  unfolding chain_part
  tail_is n some few =
      let l : Later p k h m n e = later_some p k h m n e some few in
      sym (rw (l.rest, l.scope, l.body) (ap (λ (y : List Binder). binders_par opts pp (drop n y) body) (scoped_made i q a s t b k h m)))

  arrow_part : is_arrow x ≡ true → chain_part opts p k h m e ≡ arrow_par opts pp x (chain_part opts p k (m + 1) (m + 1) (drop_chain 1 e))
  arrow_part y =
      part_made
      ∙ arrow_first opts pp x xs body y (arrow_is_pi x y)
      ∙ ap (arrow_par opts pp x) (tail_is 1 (omega arith) (rw (length_made i q a s t b) (omega arith)))

  run_part_lem : is_arrow x ≡ false → (n : ℕ) → n ≡ run_length i e → chain_part opts p k h m e ≡
      cond i (forall_par opts pp (take n (scoped k h m e)) (chain_part opts p k (m + n) (m + n) (drop_chain n e)))
      (fun_par opts pp (take n (scoped k h m e)) (chain_part opts p k (m + n) (m + n) (drop_chain n e)))
  unfolding leading
  run_part_lem y n z =
      let run : leading (in_run i) (scoped k h m e) ≡ x ∷ leading (in_run i) xs =
      ap (leading (in_run i)) (scoped_made i q a s t b k h m) ∙ ap (λ (v : Bool). cond v (x ∷ leading (in_run i) xs) []) (starts_run x y) in
      let whole : take n (scoped k h m e) ≡ x ∷ leading (in_run i) xs =
      ap (λ (c : ℕ). take c (scoped k h m e)) (z ∙ sym (run_length_lem k h m i e)) ∙ sym (leading_takes (in_run i) (scoped k h m e)) ∙ run in
      let count : n ≡ suc (length (leading (in_run i) xs)) = z ∙ sym (run_length_lem k h m i e) ∙ ap length run in
      let few : n ≤ chain_length e = rw z (run-within i e) in
      let first : leading (goes_along x) xs ≡ leading (in_run i) xs = leading_agrees (goes_along x) (in_run i) (λ w. along_run x w y) xs in
      let after : following (goes_along x) xs ≡ drop n (x ∷ xs) =
      following_agrees (goes_along x) (in_run i) (λ w. along_run x w y) xs ∙ following_drops (in_run i) xs ∙ ap (λ (c : ℕ). drop c (x ∷ xs)) (sym count) in
      let rest : binders_par opts pp (following (goes_along x) xs) body ≡ chain_part opts p k (m + n) (m + n) (drop_chain n e) =
      ap (λ (l : List Binder). binders_par opts pp l body) after ∙ tail_is n (omega arith) few in
      part_made
      ∙ run_first opts pp x xs body y
      ∙ rw (rest, first, whole)

  first_arrow : is_arrow (first_binder e) ≡ is_arrow x
  first_arrow = ap is_arrow (first_made i q a s t b) ∙ arrow_type i (occurs 0 b) a s t (rename (place_in k h) t) q

  -- the level of a part
  pub part_level : (v : Bool) → v ≡ is_arrow (first_binder e) → (chain_part opts p k h m e).inner ≡ level_of v
  part_level v z = ap (λ (c : Parenable). c.inner) part_made ∙ binders_level opts pp x xs body ∙ ap level_of (sym (z ∙ first_arrow))

  part_doc : (v : Bool) (n : ℕ) (st : State) → v ≡ is_arrow (first_binder e) → n ≡ part_length v e →
      emit (chain_part opts p k h m e).doc st
      ≡ put_join (emit (under (level_of v) (chain_part opts p k (m + n) (m + n) (drop_chain n e))) (run_part opts p k v (first_binder e).is_pi h m n e st))
  unfolding level_of run_part groups_part part_length in_scope
  part_doc true n st z c =
      rw (c, first_made i q a s t b)
      (ap (λ (y : Parenable). emit y.doc st) (arrow_part (sym (z ∙ first_arrow)))
      ∙ arrow_puts opts pp x (chain_part opts p k (m + 1) (m + 1) (drop_chain 1 e)) st)
  part_doc false n st z c =
      let own : (first_binder e).is_pi ≡ i = ap (λ (y : Binder). y.is_pi) (first_made i q a s t b) in
      let count : n ≡ run_length i e = c ∙ ap (λ (v : Bool). run_length v e) own in
      rw own
      (ap (λ (y : Parenable). emit y.doc st) (run_part_lem (sym (z ∙ first_arrow)) n count)
      ∙ run_puts opts pp i (take n (scoped k h m e)) (chain_part opts p k (m + n) (m + n) (drop_chain n e)) st)

  -- a part: what it starts with, and what follows
  pub part_puts : (outer : ℕ) (v : Bool) (n : ℕ) (st : State) → v ≡ is_arrow (first_binder e) → n ≡ part_length v e →
      emit (under outer (chain_part opts p k h m e)) st
      ≡ close_if (ltb (level_of v) outer)
      (put_join
      (emit (under (level_of v) (chain_part opts p k (m + n) (m + n) (drop_chain n e)))
      (run_part opts p k v (first_binder e).is_pi h m n e (open_if (ltb (level_of v) outer) st))))
  part_puts outer v n st z c =
      under_emits outer (chain_part opts p k h m e) st
      ∙ ap (λ (l : ℕ). close_if (ltb l outer) (emit (chain_part opts p k h m e).doc (open_if (ltb l outer) st))) (part_level v z)
      ∙ ap (close_if (ltb (level_of v) outer)) (part_doc v n (open_if (ltb (level_of v) outer) st) z c)

-- the same, at a row's tree, with the code's own numbers
pub parts_at : (opts : PpOptions) (p : Pool) (k : Stack) (i : Bool) (q : ℕ) (a : Name) (s : ℕ) (t b : Expr) (h m n next outer level : ℕ) (v : Bool) (e₀ e₁ : Expr) (st : State) →
    e₀ ≡ mk_binder i q a s t b → v ≡ is_arrow (first_binder e₀) → n ≡ part_length v e₀ → e₁ ≡ drop_chain n e₀ → next ≡ m + n → level ≡ level_of v →
    close_if (ltb level outer)
    (put_join (emit (under level (chain_part opts p k next next e₁)) (run_part opts p k v (first_binder e₀).is_pi h m n e₀ (open_if (ltb level outer) st))))
    ≡ emit (under outer (chain_part opts p k h m e₀)) st
parts_at opts p k i q a s t b h m n next outer level v e₀ e₁ st made arrow length rest nexts levels =
    let z : v ≡ is_arrow (first_binder (mk_binder i q a s t b)) = rw made at arrow in
    let c : n ≡ part_length v (mk_binder i q a s t b) = rw made at length in
    rw (rest, nexts, levels, made) (sym (part_puts opts p k i q a s t b h m outer v n st z c))
