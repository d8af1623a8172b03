-- The binders that leave a type while its value opens: what the tests say, and what the loop keeps.
use Prim.Native.Nat.{ℕ, suc, ◌+◌, ◌<◌, ◌≤◌}
use native.Mathlib.Omega.{arith}
use native.Mathlib.Numerals.{add-one}
use mathlib.Core.Bool.{Bool, true, false, ◌&&◌, not, cond}
use mathlib.Core.List.{List, [], ◌∷◌}
use mathlib.Core.Path.{◌≡◌, refl, sym, ap, ap₂, ◌∙◌}
use lib.Dec.{eqb}
use lib.ListN.{length}
use Rattle.basics.proofs.Booleans.{and_both, and-true}
use Rattle.pool.specs.Tables.{Pool, E, expr_word}
use Rattle.pool.specs.Tree.{Name, Expr, var, sort, const, app, pi, lam, letᵉ, proj, nat, str, lift, occurs}
use Rattle.pool.specs.Unfold.{name_at, expr_at}
use Rattle.pool.specs.Sound.{Sound}
use Rattle.binders.specs.Binders.{Binder, binders}
use Rattle.declarations.specs.Declars.{can_leave, Taken, taken}
use Rattle.declarations.specs.Heads.{can_take, TakenEnd}
use Rattle.binders.specs.Steps.{binder_kind, is_binder, first_binder, in_run, chain_length, drop_chain, mk_binder}
use Rattle.binders.proofs.ViewLaws.{binder_row, BinderRow, binder_at, first_made, length_made, drop_made}
use Rattle.binders.proofs.BinderLaws.{first_at_lem, turned_true}
use Rattle.pretty_printer.proofs.CallLaws.{binders_made}
use Rattle.binders.proofs.RunningLaws.{drop_nothing, drop_more}

-- ---- trees

-- whether a binder can leave does not depend on its type
leave_type : (i u : Bool) (a : Name) (s : ℕ) (t v : Expr) (q : ℕ) →
    can_leave (record { is_pi = i; used = u; name = a; style = s; type = t; place = q }) ≡ can_leave (record { is_pi = i; used = u; name = a; style = s; type = v; place = q })
unfolding can_leave
leave_type i u a s t v q = refl

take_lam : (x : Binder) (xs : List Binder) (q : ℕ) (a : Name) (s : ℕ) (t b : Expr) (n : ℕ) → can_leave x ≡ true →
    taken (x ∷ xs) (mk_binder false q a s t b) n ≡ taken xs b (suc n)
unfolding taken mk_binder
take_lam x xs q a s t b n e = ap (λ (y : Bool). cond y (taken xs b (suc n)) (record { count = n; value = lam q a s t b })) e

take_step : (i : Bool) (q : ℕ) (a : Name) (s : ℕ) (t b : Expr) (q' : ℕ) (a' : Name) (s' : ℕ) (t' b' : Expr) (n : ℕ) → can_leave (first_binder (mk_binder i q a s t b)) ≡ true →
    taken (binders (mk_binder i q a s t b)) (mk_binder false q' a' s' t' b') n ≡ taken (binders b) b' (suc n)
take_step i q a s t b q' a' s' t' b' n e =
    ap (λ (l : List Binder). taken l (mk_binder false q' a' s' t' b') n) (binders_made i q a s t b)
    ∙ take_lam _ (binders b) q' a' s' t' b' n
    (leave_type i (occurs 0 b) a s (lift (suc (length (binders b))) 0 t) t q ∙ ap can_leave (sym (first_made i q a s t b)) ∙ e)

take_none : (x : Binder) (xs : List Binder) (v : Expr) (n : ℕ) → can_leave x && (is_binder v && in_run false (first_binder v)) ≡ false →
    taken (x ∷ xs) v n ≡ record { count = n; value = v }
unfolding taken is_binder in_run first_binder
take_none x xs (var i) n e = refl
take_none x xs (sort l) n e = refl
take_none x xs (const a ls) n e = refl
take_none x xs (app f a) n e = refl
take_none x xs (pi q a s t b) n e = refl
take_none x xs (lam q a s t b) n e = ap (λ (y : Bool). cond y (taken xs b (suc n)) (record { count = n; value = lam q a s t b })) (sym (and-true (can_leave x)) ∙ e)
take_none x xs (letᵉ q a t v b d) n e = refl
take_none x xs (proj a i v) n e = refl
take_none x xs (nat s) n e = refl
take_none x xs (str s) n e = refl

take_stops : (e v : Expr) (n : ℕ) → can_take e v ≡ false → taken (binders e) v n ≡ record { count = n; value = v }
unfolding can_take binders is_binder first_binder taken can_leave
take_stops (var i) v n z = refl
take_stops (sort l) v n z = refl
take_stops (const a ls) v n z = refl
take_stops (app f a) v n z = refl
take_stops (pi q a s t b) v n z =
    take_none (record { is_pi = true; used = occurs 0 b; name = a; style = s; type = lift (suc (length (binders b))) 0 t; place = q }) (binders b) v n z
take_stops (lam q a s t b) v n z =
    take_none (record { is_pi = false; used = occurs 0 b; name = a; style = s; type = lift (suc (length (binders b))) 0 t; place = q }) (binders b) v n z
take_stops (letᵉ q a t u b d) v n z = refl
take_stops (proj a i e) v n z = refl
take_stops (nat s) v n z = refl
take_stops (str s) v n z = refl

-- no more leave than there are
pub taken_few : (xs : List Binder) (v : Expr) (n : ℕ) → (taken xs v n).count ≤ n + length xs
unfolding taken
taken_few [] v n = omega arith
taken_few (x ∷ xs) (var i) n = omega arith
taken_few (x ∷ xs) (sort l) n = omega arith
taken_few (x ∷ xs) (const a ls) n = omega arith
taken_few (x ∷ xs) (app f a) n = omega arith
taken_few (x ∷ xs) (pi q a s t b) n = omega arith
taken_few (x ∷ xs) (lam q a s t b) n = by (can_leave x) (taken_few xs b (suc n))
  where
    by : (y : Bool) → (taken xs b (suc n)).count ≤ suc n + length xs → (cond y (taken xs b (suc n)) (record { count = n; value = lam q a s t b })).count ≤ n + suc (length xs)
    by true l = omega arith
    by false l = omega arith
taken_few (x ∷ xs) (letᵉ q a t v b d) n = omega arith
taken_few (x ∷ xs) (proj a i v) n = omega arith
taken_few (x ∷ xs) (nat s) n = omega arith
taken_few (x ∷ xs) (str s) n = omega arith

-- ---- the loop

pub record Taking (p : Pool) (r v at opened n : ℕ) : Type 0 where
  pub row : at < E p.words
  pub value_row : opened < E p.words
  pub low : at + n ≤ r
  pub same : taken (binders (expr_at p at)) (expr_at p opened) n ≡ taken (binders (expr_at p r)) (expr_at p v) 0
  pub tree : expr_at p at ≡ drop_chain n (expr_at p r)
  pub count : n + chain_length (expr_at p at) ≡ chain_length (expr_at p r)

pub taking_start : (p : Pool) (r v : ℕ) → r < E p.words → v < E p.words → Taking p r v r v 0
taking_start p r v h l = record { row = h; value_row = l; low = omega arith; same = refl; tree = sym (drop_nothing (expr_at p r)); count = omega arith }

module _ (p : Pool) (sound : Sound p) (r v at opened n : ℕ) (i : Taking p r v at opened n) (t : Bool) (is : t ≡ can_take (expr_at p at) (expr_at p opened)) where
  module _ (e : t ≡ true) where
    both : (is_binder (expr_at p at) && can_leave (first_binder (expr_at p at)) ≡ true) × (is_binder (expr_at p opened) && in_run false (first_binder (expr_at p opened)) ≡ true)
    unfolding can_take
    both = and_both (is_binder (expr_at p at) && can_leave (first_binder (expr_at p at))) (is_binder (expr_at p opened) && in_run false (first_binder (expr_at p opened))) (sym is ∙ e)

    type_row : BinderRow p sound at i.row
    type_row = binder_at p sound at i.row (binder_row p sound at i.row ∙ (and_both (is_binder (expr_at p at)) (can_leave (first_binder (expr_at p at))) both.0).0)

    leaves : can_leave (first_binder (expr_at p at)) ≡ true
    leaves = (and_both (is_binder (expr_at p at)) (can_leave (first_binder (expr_at p at))) both.0).1

    lambda_kind : binder_kind (expr_word p.words opened 0) ≡ true
    lambda_kind = binder_row p sound opened i.value_row ∙ (and_both (is_binder (expr_at p opened)) (in_run false (first_binder (expr_at p opened))) both.1).0

    lambda_row : BinderRow p sound opened i.value_row
    lambda_row = binder_at p sound opened i.value_row lambda_kind

    lambda_is : eqb (expr_word p.words opened 0) 4 ≡ false
    unfolding in_run
    lambda_is =
        turned_true (eqb (expr_word p.words opened 0) 4)
        (sym (ap (λ (y : Binder). not y.is_pi) (first_at_lem p sound opened i.value_row lambda_kind))
        ∙ (and_both (is_binder (expr_at p opened)) (in_run false (first_binder (expr_at p opened))) both.1).1)

    abbrev inside : ℕ
    inside = expr_word p.words at 4

    abbrev beyond : ℕ
    beyond = expr_word p.words opened 4

    lambda_made : expr_at p opened ≡ mk_binder false opened (name_at p (expr_word p.words opened 1)) (expr_word p.words opened 2) (expr_at p (expr_word p.words opened 3)) (expr_at p beyond)
    lambda_made =
        lambda_row.made
        ∙ ap (λ (y : Bool). mk_binder y opened (name_at p (expr_word p.words opened 1)) (expr_word p.words opened 2) (expr_at p (expr_word p.words opened 3)) (expr_at p beyond)) lambda_is

    stepped : taken (binders (expr_at p at)) (expr_at p opened) n ≡ taken (binders (expr_at p inside)) (expr_at p beyond) (suc n)
    stepped =
        ap₂ (λ (x y : Expr). taken (binders x) y n) type_row.made lambda_made
        ∙ take_step (eqb (expr_word p.words at 0) 4) at (name_at p (expr_word p.words at 1)) (expr_word p.words at 2) (expr_at p (expr_word p.words at 3)) (expr_at p inside)
        opened (name_at p (expr_word p.words opened 1)) (expr_word p.words opened 2) (expr_at p (expr_word p.words opened 3)) (expr_at p beyond) n
        (ap (λ (x : Expr). can_leave (first_binder x)) (sym type_row.made) ∙ leaves)

    pub taking_falls : (next : ℕ) → next ≡ inside → next < at
    taking_falls next f = omega (arith, type_row.body)

    pub taking_next : (next after : ℕ) → next ≡ inside → after ≡ beyond → Taking p r v next after (n + 1)
    taking_next next after f g =
        let one : chain_length (expr_at p at) ≡ suc (chain_length (expr_at p inside)) = ap chain_length type_row.made ∙ length_made _ _ _ _ _ _ in
        let own : chain_length (expr_at p next) ≡ chain_length (expr_at p inside) = ap (λ (x : ℕ). chain_length (expr_at p x)) f in
        record {
          row = omega (arith, type_row.body, i.row);
          value_row = omega (arith, lambda_row.body, i.value_row);
          low = omega (arith, type_row.body, i.low);
          same =
              ap₂ (λ (x y : ℕ). taken (binders (expr_at p x)) (expr_at p y) (n + 1)) f g
              ∙ ap (taken (binders (expr_at p inside)) (expr_at p beyond)) (add-one n)
              ∙ sym stepped
              ∙ i.same;
          tree =
              ap (expr_at p) f
              ∙ sym (ap (λ (x : ℕ). drop_chain x (expr_at p r)) (add-one n) ∙ drop_more n (expr_at p r)
              ∙ ap (drop_chain 1) (sym i.tree ∙ type_row.made) ∙ drop_made _ _ _ _ _ _ 0 ∙ drop_nothing _);
          count = omega (arith, i.count);
        }

  pub taking_done : t ≡ false → TakenEnd p r v at opened n
  taking_done e =
      let end : taken (binders (expr_at p r)) (expr_at p v) 0 ≡ record { count = n; value = expr_at p opened } =
      sym i.same ∙ take_stops (expr_at p at) (expr_at p opened) n (sym is ∙ e) in
      record {
        is_count = sym (ap (λ (x : Taken). x.count) end);
        is_value = sym (ap (λ (x : Taken). x.value) end);
        tree = i.tree;
        few = omega (arith, i.count);
        row_low = i.row;
        value_low = i.value_row;
      }
