-- The bound of `expr_par_to` does not matter: an expression's document is the same for every bound from its depth on.
use Prim.Native.Nat.{ℕ, zero, suc, ◌≤◌}
use native.Mathlib.Omega.{arith}
use mathlib.Core.List.{List, [], ◌∷◌, map}
use mathlib.Core.Path.{◌≡◌, refl, ap, ap₂}
use lib.ListN.{length}
use Rattle.pool.proofs.TreeLaws.{lift-depth}
use Rattle.std.specs.Prelude.{Option, None, Some}
use Rattle.pool.specs.Kinds.{NotationKind, prefixᵏ, infixᵏ, postfixᵏ, noNotationᵏ}
use Rattle.pool.specs.Notation.{Operator}
use Rattle.pool.specs.Tree.{Expr, var, sort, const, app, pi, lam, letᵉ, proj, nat, str, depth}
use Rattle.pieces.specs.Docs.{Parenable, G, under, tile}
use Rattle.binders.specs.Runs.{runs}
use Rattle.binders.specs.Binders.{Binder, binders, chain_body, pushed, group_doc, telescope, arrow_par, forall_par, fun_par, run_par, runs_par, binders_par, same_group}
use Rattle.binders.specs.Binders.{goes_along}
use Rattle.binders.specs.Operators.{head_operator}
use Rattle.pretty_printer.specs.Exprs.{app_head, app_args, app_par, operator_par, applied_par, chain_par, expr_par_to}
use Rattle.binders.proofs.RunLaws.{All, all_runs}
use Rattle.binders.specs.Options.{PpOptions}
use Rattle.binders.specs.Shown.{NamesInForce}

-- ---- the parts of an application and of a chain are not deeper

pub head_depth : (e : Expr) → depth (app_head e) ≤ depth e
unfolding app_head depth
head_depth (var i) = omega arith
head_depth (sort l) = omega arith
head_depth (const n ls) = omega arith
head_depth (app f a) = omega (arith, head_depth f)
head_depth (pi p n s t b) = omega arith
head_depth (lam p n s t b) = omega arith
head_depth (letᵉ p n t v b d) = omega arith
head_depth (proj n i e) = omega arith
head_depth (nat s) = omega arith
head_depth (str s) = omega arith

abbrev pub Within : ℕ → Expr → Type 0
Within k e = depth e ≤ k

pub args_depth : (k : ℕ) (e : Expr) (others : List Expr) → depth e ≤ k → All (Within k) others → All (Within k) (app_args e others)
unfolding app_args depth All
args_depth k (var i) others h t = t
args_depth k (sort l) others h t = t
args_depth k (const n ls) others h t = t
args_depth k (app f a) others h t = args_depth k f (a ∷ others) (omega arith) (omega arith, t)
args_depth k (pi p n s t' b) others h t = t
args_depth k (lam p n s t' b) others h t = t
args_depth k (letᵉ p n t' v b d) others h t = t
args_depth k (proj n i e) others h t = t
args_depth k (nat s) others h t = t
args_depth k (str s) others h t = t

pub body_depth : (e : Expr) → depth (chain_body e) ≤ depth e
unfolding chain_body depth
body_depth (var i) = omega arith
body_depth (sort l) = omega arith
body_depth (const n ls) = omega arith
body_depth (app f a) = omega arith
body_depth (pi p n s t b) = omega (arith, body_depth b)
body_depth (lam p n s t b) = omega (arith, body_depth b)
body_depth (letᵉ p n t v b d) = omega arith
body_depth (proj n i e) = omega arith
body_depth (nat s) = omega arith
body_depth (str s) = omega arith

abbrev pub TypeWithin : ℕ → Binder → Type 0
TypeWithin k b = depth b.type ≤ k

pub types_depth : (k : ℕ) (e : Expr) → depth e ≤ suc k → All (TypeWithin k) (binders e)
unfolding binders depth All
types_depth k (var i) h = tt
types_depth k (sort l) h = tt
types_depth k (const n ls) h = tt
types_depth k (app f a) h = tt
types_depth k (pi p n s t b) h =
    (omega (arith, lift-depth (suc (length (binders b))) 0 t), types_depth k b (omega arith))
types_depth k (lam p n s t b) h =
    (omega (arith, lift-depth (suc (length (binders b))) 0 t), types_depth k b (omega arith))
types_depth k (letᵉ p n t v b d) h = tt
types_depth k (proj n i e) h = tt
types_depth k (nat s) h = tt
types_depth k (str s) h = tt

-- ---- printers of parts that agree on the parts agree on the whole

pub map_agrees : {A B : Type 0} (f g : A → B) (xs : List A) → All (λ x. f x ≡ g x) xs → map f xs ≡ map g xs
unfolding All
map_agrees f g [] h = refl
map_agrees f g (x ∷ xs) h = ap₂ ◌∷◌ h.0 (map_agrees f g xs h.1)

pub all_map : {A : Type 0} (P Q : A → Type 0) → ((x : A) → P x → Q x) → (xs : List A) → All P xs → All Q xs
unfolding All
all_map P Q f [] h = tt
all_map P Q f (x ∷ xs) h = (f x h.0, all_map P Q f xs h.1)

module _ (opts : PpOptions) (pp qq : Expr → Parenable) where
  abbrev pub Agree : Binder → Type 0
  Agree b = pp b.type ≡ qq b.type

  group_agrees : (bs : List Binder) → All Agree bs → group_doc opts pp bs ≡ group_doc opts qq bs
  unfolding group_doc All
  group_agrees [] h = refl
  group_agrees (b ∷ bs) h = rw h.0

  pub telescope_agrees : (bs : List Binder) → All Agree bs → telescope opts pp bs ≡ telescope opts qq bs
  unfolding telescope runs
  telescope_agrees bs h =
      ap tile
      (map_agrees (group_doc opts pp) (group_doc opts qq) (runs same_group bs)
      (all_map (All Agree) (λ g. group_doc opts pp g ≡ group_doc opts qq g) group_agrees (runs same_group bs)
      (all_runs Agree (length bs) same_group bs h)))

  run_agrees : (bs : List Binder) (x y : Parenable) → All Agree bs → x ≡ y → run_par opts pp bs x ≡ run_par opts qq bs y
  unfolding run_par arrow_par forall_par fun_par All
  run_agrees [] x y h e = e
  run_agrees (b ∷ bs) x y h e = rw (e, h.0, telescope_agrees (b ∷ bs) h)

  runs_agree : (rs : List (List Binder)) (x y : Parenable) → All (All Agree) rs → x ≡ y → runs_par opts pp rs x ≡ runs_par opts qq rs y
  unfolding runs_par All
  runs_agree [] x y h e = e
  runs_agree (r ∷ rs) x y h e = run_agrees r _ _ h.0 (runs_agree rs x y h.1 e)

  pub binders_agree : (bs : List Binder) (x y : Parenable) → All Agree bs → x ≡ y → binders_par opts pp bs x ≡ binders_par opts qq bs y
  unfolding binders_par runs
  binders_agree bs x y h e = runs_agree (runs goes_along bs) x y (all_runs Agree (length bs) goes_along bs h) e

  pub chain_agrees : (bs : List Binder) (outside : ℕ) (body : Expr) → All Agree bs → pp body ≡ qq body → chain_par opts pp bs outside body ≡ chain_par opts qq bs outside body
  unfolding chain_par
  chain_agrees bs outside body h e = rw (binders_agree bs (pp body) (qq body) h e)

  pub app_agrees : (head : Expr) (args : List Expr) → pp head ≡ qq head → All (λ a. pp a ≡ qq a) args → app_par opts pp head args ≡ app_par opts qq head args
  unfolding app_par
  app_agrees head args e h =
      rw (
        e,
        map_agrees (λ a. G (under 1024 (pp a))) (λ a. G (under 1024 (qq a))) args
            (all_map (λ a. pp a ≡ qq a) (λ a. G (under 1024 (pp a)) ≡ G (under 1024 (qq a))) (λ a w. ap (λ p. G (under 1024 p)) w) args h),
      )

  abbrev AgreeOn : Expr → Type 0
  AgreeOn a = pp a ≡ qq a

  operator_agrees : (o : Operator) (k : NotationKind) (head : Expr) (args : List Expr) → pp head ≡ qq head → All AgreeOn args
      → operator_par opts pp o k head args ≡ operator_par opts qq o k head args
  unfolding operator_par All
  operator_agrees o prefixᵏ head [] e h = app_agrees head [] e h
  operator_agrees o prefixᵏ head (x ∷ []) e h = rw h.0
  operator_agrees o prefixᵏ head (x ∷ y ∷ more) e h = app_agrees head (x ∷ y ∷ more) e h
  operator_agrees o infixᵏ head [] e h = app_agrees head [] e h
  operator_agrees o infixᵏ head (x ∷ []) e h = app_agrees head (x ∷ []) e h
  operator_agrees o infixᵏ head (x ∷ y ∷ []) e h = rw (h.0, h.1.0)
  operator_agrees o infixᵏ head (x ∷ y ∷ z ∷ more) e h = app_agrees head (x ∷ y ∷ z ∷ more) e h
  operator_agrees o postfixᵏ head [] e h = app_agrees head [] e h
  operator_agrees o postfixᵏ head (x ∷ []) e h = rw h.0
  operator_agrees o postfixᵏ head (x ∷ y ∷ more) e h = app_agrees head (x ∷ y ∷ more) e h
  operator_agrees o noNotationᵏ head args e h = app_agrees head args e h

  pub applied_agrees : (o : Option Operator) (head : Expr) (args : List Expr) → pp head ≡ qq head → All AgreeOn args
      → applied_par opts pp o head args ≡ applied_par opts qq o head args
  unfolding applied_par
  applied_agrees None head args e h = app_agrees head args e h
  applied_agrees (Some o) head args e h = operator_agrees o o.kind head args e h

-- ---- the bound

depth_positive : (e : Expr) → 1 ≤ depth e
unfolding depth
depth_positive (var i) = omega arith
depth_positive (sort l) = omega arith
depth_positive (const n ls) = omega arith
depth_positive (app f a) = omega arith
depth_positive (pi p n s t b) = omega arith
depth_positive (lam p n s t b) = omega arith
depth_positive (letᵉ p n t v b d) = omega arith
depth_positive (proj n i e) = omega arith
depth_positive (nat s) = omega arith
depth_positive (str s) = omega arith

-- one step of the bound: `below` says it of the parts
pub all_two : {A : Type 0} (P Q R : A → Type 0) → ((x : A) → P x → Q x → R x) → (xs : List A) → All P xs → All Q xs → All R xs
unfolding All
all_two P Q R f [] p q = tt
all_two P Q R f (x ∷ xs) p q = (f x p.0 q.0, all_two P Q R f xs p.1 q.1)

pub all_one : {A : Type 0} (P : A → Type 0) (x : A) → P x → All P (x ∷ [])
unfolding All
all_one P x h = (h, tt)

-- a chain whose binders and body are not deeper than the two bounds
chain_bound : (opts : PpOptions) (m n : ℕ) → ((ns : NamesInForce) (e : Expr) → depth e ≤ m → depth e ≤ n → expr_par_to opts m ns e ≡ expr_par_to opts n ns e) →
    (ns : NamesInForce) (bs : List Binder) (outside : ℕ) (body : Expr) → All (TypeWithin m) bs → All (TypeWithin n) bs → depth body ≤ m → depth body ≤ n →
    chain_par opts (expr_par_to opts m ns) bs outside body ≡ chain_par opts (expr_par_to opts n ns) bs outside body
chain_bound opts m n below ns bs outside body p q h k =
    chain_agrees opts (expr_par_to opts m ns) (expr_par_to opts n ns) bs outside body
    (all_two (TypeWithin m) (TypeWithin n) (Agree opts (expr_par_to opts m ns) (expr_par_to opts n ns)) (λ b x y. below ns b.type x y) bs p q)
    (below ns body h k)

step : (opts : PpOptions) (m n : ℕ) → ((ns : NamesInForce) (e : Expr) → depth e ≤ m → depth e ≤ n → expr_par_to opts m ns e ≡ expr_par_to opts n ns e) →
    (ns : NamesInForce) (e : Expr) → depth e ≤ suc m → depth e ≤ suc n → expr_par_to opts (suc m) ns e ≡ expr_par_to opts (suc n) ns e
unfolding expr_par_to depth
step opts m n below ns (var i) h k = refl
step opts m n below ns (sort l) h k = refl
step opts m n below ns (const a ls) h k = refl
step opts m n below ns (app f a) h k =
    applied_agrees opts (expr_par_to opts m ns) (expr_par_to opts n ns) (head_operator opts f) (app_head f) (app_args f (a ∷ []))
    (below ns (app_head f) (omega (arith, head_depth f)) (omega (arith, head_depth f)))
    (all_two (Within m) (Within n) (λ x. expr_par_to opts m ns x ≡ expr_par_to opts n ns x) (λ x p q. below ns x p q) (app_args f (a ∷ []))
    (args_depth m f (a ∷ []) (omega arith) (all_one (Within m) a (omega arith)))
    (args_depth n f (a ∷ []) (omega arith) (all_one (Within n) a (omega arith))))
step opts m n below ns (pi p a s t b) h k =
    let bs : List Binder = binders (pi p a s t b) in
    chain_bound opts m n below (pushed bs ns) bs (length ns) (chain_body b)
    (types_depth m (pi p a s t b) h) (types_depth n (pi p a s t b) k)
    (omega (arith, body_depth b)) (omega (arith, body_depth b))
step opts m n below ns (lam p a s t b) h k =
    let bs : List Binder = binders (lam p a s t b) in
    chain_bound opts m n below (pushed bs ns) bs (length ns) (chain_body b)
    (types_depth m (lam p a s t b) h) (types_depth n (lam p a s t b) k)
    (omega (arith, body_depth b)) (omega (arith, body_depth b))
step opts m n below ns (letᵉ p a t v b d) h k =
    rw (below ns t (omega arith) (omega arith), below ns v (omega arith) (omega arith), below (a ∷ ns) b (omega arith) (omega arith))
step opts m n below ns (proj a i e) h k = rw (below ns e (omega arith) (omega arith))
step opts m n below ns (nat s) h k = refl
step opts m n below ns (str s) h k = refl

-- "an expression's document is the same for every bound from its depth on"
pub bound_does_not_matter : (opts : PpOptions) (m n : ℕ) (ns : NamesInForce) (e : Expr) → depth e ≤ m → depth e ≤ n → expr_par_to opts m ns e ≡ expr_par_to opts n ns e
bound_does_not_matter opts zero n ns e h k = absurd (omega (arith, depth_positive e))
bound_does_not_matter opts (suc m) zero ns e h k = absurd (omega (arith, depth_positive e))
bound_does_not_matter opts (suc m) (suc n) ns e h k = step opts m n (bound_does_not_matter opts m n) ns e h k
