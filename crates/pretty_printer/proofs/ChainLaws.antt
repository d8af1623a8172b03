-- Runs and groups of a chain on the stack, counted on the chain's own tree.
use Prim.Native.Nat.{ℕ, zero, suc, ◌+◌, ◌-◌, ◌<◌, ◌≤◌, min}
use native.Mathlib.Omega.{arith}
use native.Mathlib.Decide.{dec_le, dec_lt}
use borrow.Author.Tests.{lt-ltb, le-ltb}
use native.Mathlib.Nat.{add-zero, zero-add, add-suc}
use mathlib.Core.Bool.{Bool, true, false, cond}
use mathlib.Core.List.{List, [], ◌∷◌}
use mathlib.Core.Path.{◌≡◌, refl, sym, ap, ◌∙◌}
use lib.Dec.{ltb, leb-suc-zero}
use lib.ListN.{length, take, drop}
use Rattle.pool.specs.Tables.{Pool}
use Rattle.pool.specs.Tree.{Name, Expr, var, sort, const, app, pi, lam, letᵉ, proj, nat, str, lift, occurs, same, forget}
use Rattle.pool.proofs.TreeLaws.{same_forgets as tells, forgets_same as shows}
use Rattle.binders.specs.declared.stack.Stack.{Stack}
use Rattle.binders.specs.Runs.{leading, following}
use Rattle.binders.specs.Binders.{Binder, is_arrow, is_named_pi, same_group}
use Rattle.binders.specs.Rename.{rename, lifted}
use Rattle.binders.specs.Scopes.{place_in, Linked, scoped, Chained}
use Rattle.binders.specs.Steps.{first_binder, in_run, run_length, in_group, group_length}
use Rattle.binders.proofs.RenameLaws.{rename_composes, lift_renames, rename_forgets, rename-same}
use Rattle.binders.proofs.ScopeLaws.{place_rises, place_out, chain_length_lem}

-- ---- lists

module _ {A : Type 0} where
  pub leading_takes : (q : A → Bool) (xs : List A) → leading q xs ≡ take (length (leading q xs)) xs
  unfolding leading
  leading_takes q [] = refl
  leading_takes q (x ∷ xs) = by (q x) (leading_takes q xs)
    where
      by : (b : Bool) → leading q xs ≡ take (length (leading q xs)) xs → cond b (x ∷ leading q xs) [] ≡ take (length (cond b (x ∷ leading q xs) [])) (x ∷ xs)
      by true e = ap (λ (l : List A). x ∷ l) e
      by false e = refl

  pub following_drops : (q : A → Bool) (xs : List A) → following q xs ≡ drop (length (leading q xs)) xs
  unfolding leading following
  following_drops q [] = refl
  following_drops q (x ∷ xs) = by (q x) (following_drops q xs)
    where
      by : (b : Bool) → following q xs ≡ drop (length (leading q xs)) xs → cond b (following q xs) (x ∷ xs) ≡ drop (length (cond b (x ∷ leading q xs) [])) (x ∷ xs)
      by true e = e
      by false e = refl

-- ---- the chain on the stack

count_step : (v : Bool) (x : Binder) (l : List Binder) (n : ℕ) → length l ≡ n → length (cond v (x ∷ l) []) ≡ cond v (suc n) 0
count_step true x l n e = ap suc e
count_step false x l n e = refl

-- a run does not look at types
run_type : (c i u : Bool) (n : Name) (s : ℕ) (t v : Expr) (p : ℕ) →
    in_run c (record { is_pi = i; used = u; name = n; style = s; type = t; place = p })
    ≡ in_run c (record { is_pi = i; used = u; name = n; style = s; type = v; place = p })
unfolding in_run is_named_pi is_arrow
run_type true i u n s t v p = refl
run_type false i u n s t v p = refl

pub run_length_lem : (k : Stack) (h m : ℕ) (c : Bool) (e : Expr) → length (leading (in_run c) (scoped k h m e)) ≡ run_length c e
unfolding scoped leading run_length first_binder
run_length_lem k h m c (var i) = refl
run_length_lem k h m c (sort l) = refl
run_length_lem k h m c (const n ls) = refl
run_length_lem k h m c (app g a) = refl
run_length_lem k h m c (pi q n s t b) =
    rw (run_type c true (occurs 0 b) n s (rename (place_in k h) t) t q)
    (count_step (in_run c (first_binder (pi q n s t b)))
    (record { is_pi = true; used = occurs 0 b; name = n; style = s; type = rename (place_in k h) t; place = q })
    (leading (in_run c) (scoped k (suc m) (suc m) b)) (run_length c b) (run_length_lem k (suc m) (suc m) c b))
run_length_lem k h m c (lam q n s t b) =
    rw (run_type c false (occurs 0 b) n s (rename (place_in k h) t) t q)
    (count_step (in_run c (first_binder (lam q n s t b)))
    (record { is_pi = false; used = occurs 0 b; name = n; style = s; type = rename (place_in k h) t; place = q })
    (leading (in_run c) (scoped k (suc m) (suc m) b)) (run_length c b) (run_length_lem k (suc m) (suc m) c b))
run_length_lem k h m c (letᵉ q n t v b d) = refl
run_length_lem k h m c (proj n i e) = refl
run_length_lem k h m c (nat s) = refl
run_length_lem k h m c (str s) = refl

-- ---- groups

not_lt : {i j : ℕ} → (i < j → ⊥) → j ≤ i
not_lt {i} {j} n = by (dec_le j i)
  where
    by : Dec (j ≤ i) → j ≤ i
    by (yes h) = h
    by (no k) = absurd (n (omega arith))

-- a renaming that rises tells indices apart, so trees are equal after it exactly where they were before
module _ (σ : ℕ → ℕ) (rises : (i : ℕ) → σ i < σ (suc i)) where
  rises_by : (i d : ℕ) → σ i + d ≤ σ (i + d)
  rises_by i zero = rw (add-zero i) (omega arith)
  rises_by i (suc d) = rw (add-suc i d) (omega (arith, rises_by i d, rises (i + d)))

  keeps_order : (i j : ℕ) → ltb (σ i) (σ j) ≡ ltb i j
  keeps_order i j = by (dec_lt i j)
    where
      by : Dec (i < j) → ltb (σ i) (σ j) ≡ ltb i j
      by (yes h) =
          let e : suc i + (j - suc i) ≡ j = omega arith in
          let f : σ (suc i) + (j - suc i) ≤ σ j = rw e at (rises_by (suc i) (j - suc i)) in
          lt-ltb (σ i) (σ j) (omega (arith, rises i)) ∙ sym (lt-ltb i j h)
      by (no n) =
          let l : j ≤ i = not_lt n in
          let e : j + (i - j) ≡ i = omega arith in
          let f : σ j + (i - j) ≤ σ i = rw e at (rises_by j (i - j)) in
          le-ltb (σ i) (σ j) (omega arith) ∙ sym (le-ltb i j l)

  -- how many of the first n indices come to stand below a place
  below : ℕ → ℕ → ℕ
  below place zero = 0
  below place (suc n) = cond (ltb (σ n) place) 1 0 + below place n

  below_own : (i n : ℕ) → below (σ i) n ≡ min i n
  unfolding below
  below_own i zero = omega arith
  below_own i (suc n) = rw (keeps_order n i, below_own i n) (by (dec_lt n i))
    where
      by : Dec (n < i) → cond (ltb n i) 1 0 + min i n ≡ min i (suc n)
      by (yes h) = rw (lt-ltb n i h) (omega arith)
      by (no k) = let l : i ≤ n = not_lt k in rw (le-ltb n i l) (omega arith)

  -- the index that comes to stand at a place
  back : ℕ → ℕ
  back place = below place place

  goes_back : (i : ℕ) → back (σ i) ≡ i
  unfolding back
  goes_back i = let f : σ 0 + i ≤ σ i = rw (zero-add i) at (rises_by 0 i) in below_own i (σ i) ∙ omega arith

  pub same_renamed : (a b : Expr) → same (rename σ a) (rename σ b) ≡ same a b
  same_renamed a b = both_true (same (rename σ a) (rename σ b)) (same a b) there back_again
    where
      both_true : (x y : Bool) → (x ≡ true → y ≡ true) → (y ≡ true → x ≡ true) → x ≡ y
      both_true true true f g = refl
      both_true true false f g = sym (f refl)
      both_true false true f g = g refl
      both_true false false f g = refl

      undone : (e : Expr) → rename back (rename σ e) ≡ e
      undone e = rename_composes back σ (λ i. i) goes_back e ∙ rename-same (λ i. i) (λ i. refl) e

      there : same (rename σ a) (rename σ b) ≡ true → same a b ≡ true
      there e =
          shows a b
          (sym (undone (forget a))
          ∙ ap (rename back) (sym (rename_forgets σ a) ∙ tells (rename σ a) (rename σ b) e ∙ rename_forgets σ b)
          ∙ undone (forget b))

      back_again : same a b ≡ true → same (rename σ a) (rename σ b) ≡ true
      back_again e = shows (rename σ a) (rename σ b) (rename_forgets σ a ∙ ap (rename σ) (tells a b e) ∙ sym (rename_forgets σ b))

-- the binders after a group's first, on the stack, that belong to the group
module _ (p : Pool) (k : Stack) (linked : Linked k) (i₀ u₀ : Bool) (n₀ : Name) (style : ℕ) (t : Expr) (q₀ h₀ : ℕ) where
  type_same : (h j : ℕ) (u : Expr) → h ≤ k.count → ((i : ℕ) → place_in k h (i + j) ≡ place_in k h₀ i) →
      same (rename (place_in k h₀) t) (rename (place_in k h) u) ≡ same (lift j 0 t) u
  type_same h j u b f =
      ap (λ (x : Expr). same x (rename (place_in k h) u))
      (sym (ap (rename (place_in k h)) (lift_renames j 0 t) ∙ rename_composes (place_in k h) (lifted j 0) (place_in k h₀) (λ i. rw (leb-suc-zero i) (f i)) t))
      ∙ same_renamed (place_in k h) (λ i. place_rises k linked h i b) (lift j 0 t) u

  -- the group's first binder, on the stack
  abbrev pub first_on : Binder
  first_on = record { is_pi = i₀; used = u₀; name = n₀; style = style; type = rename (place_in k h₀) t; place = q₀ }

  pub group_length_lem :
      (n j h m : ℕ) (e : Expr) → Chained p k h m e → h ≤ k.count → ((i : ℕ) → place_in k h (i + j) ≡ place_in k h₀ i) →
      length (leading (same_group first_on) (take n (scoped k h m e))) ≡ group_length n style t j e
  unfolding scoped leading group_length in_group first_binder same_group Chained
  group_length_lem zero j h m (var i) ch b₀ f = refl
  group_length_lem (suc n) j h m (var i) ch b₀ f = refl
  group_length_lem zero j h m (sort l) ch b₀ f = refl
  group_length_lem (suc n) j h m (sort l) ch b₀ f = refl
  group_length_lem zero j h m (const a ls) ch b₀ f = refl
  group_length_lem (suc n) j h m (const a ls) ch b₀ f = refl
  group_length_lem zero j h m (app g a) ch b₀ f = refl
  group_length_lem (suc n) j h m (app g a) ch b₀ f = refl
  group_length_lem zero j h m (pi q a s u b) ch b₀ f = refl
  group_length_lem (suc n) j h m (pi q a s u b) ch b₀ f =
      let x : Binder = record { is_pi = true; used = occurs 0 b; name = a; style = s; type = rename (place_in k h) u; place = q } in
      let len : length (scoped k (suc m) (suc m) b) + suc m ≡ k.count = chain_length_lem p k (suc m) (suc m) b ch.2 in
      let next : (i : ℕ) → place_in k (suc m) (i + suc j) ≡ place_in k h₀ i =
      λ i. ap (place_in k (suc m)) (add-suc i j) ∙ place_out k m (i + j) ∙ ap (λ (y : ℕ). place_in k y (i + j)) ch.0 ∙ f i in
      rw (type_same h j u b₀ f)
      (count_step (in_group style t j (first_binder (pi q a s u b))) x (leading (same_group first_on) (take n (scoped k (suc m) (suc m) b)))
      (group_length n style t (suc j) b) (group_length_lem n (suc j) (suc m) (suc m) b ch.2 (omega arith) next))
  group_length_lem zero j h m (lam q a s u b) ch b₀ f = refl
  group_length_lem (suc n) j h m (lam q a s u b) ch b₀ f =
      let x : Binder = record { is_pi = false; used = occurs 0 b; name = a; style = s; type = rename (place_in k h) u; place = q } in
      let len : length (scoped k (suc m) (suc m) b) + suc m ≡ k.count = chain_length_lem p k (suc m) (suc m) b ch.2 in
      let next : (i : ℕ) → place_in k (suc m) (i + suc j) ≡ place_in k h₀ i =
      λ i. ap (place_in k (suc m)) (add-suc i j) ∙ place_out k m (i + j) ∙ ap (λ (y : ℕ). place_in k y (i + j)) ch.0 ∙ f i in
      rw (type_same h j u b₀ f)
      (count_step (in_group style t j (first_binder (lam q a s u b))) x (leading (same_group first_on) (take n (scoped k (suc m) (suc m) b)))
      (group_length n style t (suc j) b) (group_length_lem n (suc j) (suc m) (suc m) b ch.2 (omega arith) next))
  group_length_lem zero j h m (letᵉ q a u v b d) ch b₀ f = refl
  group_length_lem (suc n) j h m (letᵉ q a u v b d) ch b₀ f = refl
  group_length_lem zero j h m (proj a i e) ch b₀ f = refl
  group_length_lem (suc n) j h m (proj a i e) ch b₀ f = refl
  group_length_lem zero j h m (nat s) ch b₀ f = refl
  group_length_lem (suc n) j h m (nat s) ch b₀ f = refl
  group_length_lem zero j h m (str s) ch b₀ f = refl
  group_length_lem (suc n) j h m (str s) ch b₀ f = refl
