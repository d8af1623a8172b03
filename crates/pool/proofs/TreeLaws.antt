-- Laws of trees: lifting composes and leaves the depth, no loose variable is at or above `loose`, and equality of trees is
-- that of what is left once places are forgotten.
use Prim.Native.Nat.{ℕ, zero, suc, ◌+◌, ◌-◌, ◌<◌, ◌≤◌, max}
use native.Mathlib.Omega.{arith}
use mathlib.Core.Bool.{Bool, true, false, ◌||◌, cond}
use mathlib.Core.List.{List, [], ◌∷◌}
use mathlib.Core.Path.{◌≡◌, refl, sym, ap, ap₂, ◌∙◌, subst}
use lib.Dec.{ltb, leb, eqb}
use borrow.Author.Tests.{ltb-true, ltb-false, leb-true, leb-false, eqb-true, eqb-false, lt-ltb, le-ltb, le-leb, lt-leb, eq-eqb, ne_eqb}
use Rattle.utf8.specs.Letterlike.{same_bytes}
use Rattle.pool.specs.Tree.{Name, anonymous, string, number, Level, zeroˡ, succˡ, maxˡ, imaxˡ, paramˡ, Expr, var, sort, const, app, pi, lam, letᵉ, proj}
use Rattle.pool.specs.Tree.{nat, str, forget, depth, loose, lift, occurs, Shape, node, Shapes, none, ◌and◌, name_shape, level_shape, level_shapes, shape, same_shape}
use Rattle.pool.specs.Tree.{same_shapes, same}
use Rattle.basics.proofs.Booleans.{true-false, false-true, and_left, and_right, or-true, not_so}

-- ---- lifting

index_none : (b : Bool) (i : ℕ) → cond b i (i + 0) ≡ i
index_none true i = refl
index_none false i = omega arith

pub lift_none : (c : ℕ) (e : Expr) → lift 0 c e ≡ e
unfolding lift
lift_none c (var i) = ap var (index_none (ltb i c) i)
lift_none c (sort l) = refl
lift_none c (const n ls) = refl
lift_none c (app f a) = ap₂ app (lift_none c f) (lift_none c a)
lift_none c (pi p n s t b) = ap₂ (pi p n s) (lift_none c t) (lift_none (suc c) b)
lift_none c (lam p n s t b) = ap₂ (lam p n s) (lift_none c t) (lift_none (suc c) b)
lift_none c (letᵉ p n t v b d) = rw (lift_none c t, lift_none c v, lift_none (suc c) b)
lift_none c (proj n i e) = ap (proj n i) (lift_none c e)
lift_none c (nat s) = refl
lift_none c (str s) = refl

-- the index that a lifted variable has
pub lift_var_low : (n c i : ℕ) → i < c → lift n c (var i) ≡ var i
unfolding lift
lift_var_low n c i h = rw (lt-ltb i c h)

pub lift_var_high : (n c i : ℕ) → c ≤ i → lift n c (var i) ≡ var (i + n)
unfolding lift
lift_var_high n c i h = rw (le-ltb i c h)

index_twice : (n m c i : ℕ) → lift n c (lift m c (var i)) ≡ lift (m + n) c (var i)
index_twice n m c i = by (ltb i c) refl
  where
    by : (b : Bool) → ltb i c ≡ b → lift n c (lift m c (var i)) ≡ lift (m + n) c (var i)
    by true e =
        let h : i < c = ltb-true i c e in
        ap (lift n c) (lift_var_low m c i h) ∙ lift_var_low n c i h ∙ sym (lift_var_low (m + n) c i h)
    by false e =
        let h : c ≤ i = ltb-false i c e in
        let q : i + m + n ≡ i + (m + n) = omega arith in
        ap (lift n c) (lift_var_high m c i h) ∙ lift_var_high n c (i + m) (omega arith) ∙ ap var q ∙ sym (lift_var_high (m + n) c i h)

pub lift_twice : (n m c : ℕ) (e : Expr) → lift n c (lift m c e) ≡ lift (m + n) c e
unfolding lift
lift_twice n m c (var i) = index_twice n m c i
lift_twice n m c (sort l) = refl
lift_twice n m c (const a ls) = refl
lift_twice n m c (app f a) = ap₂ app (lift_twice n m c f) (lift_twice n m c a)
lift_twice n m c (pi p a s t b) = ap₂ (pi p a s) (lift_twice n m c t) (lift_twice n m (suc c) b)
lift_twice n m c (lam p a s t b) = ap₂ (lam p a s) (lift_twice n m c t) (lift_twice n m (suc c) b)
lift_twice n m c (letᵉ p a t v b d) = rw (lift_twice n m c t, lift_twice n m c v, lift_twice n m (suc c) b)
lift_twice n m c (proj a i e) = ap (proj a i) (lift_twice n m c e)
lift_twice n m c (nat s) = refl
lift_twice n m c (str s) = refl

pub lift-depth : (n c : ℕ) (e : Expr) → depth (lift n c e) ≡ depth e
unfolding lift depth
lift-depth n c (var i) = refl
lift-depth n c (sort l) = refl
lift-depth n c (const a ls) = refl
lift-depth n c (app f a) = rw (lift-depth n c f, lift-depth n c a)
lift-depth n c (pi p a s t b) = rw (lift-depth n c t, lift-depth n (suc c) b)
lift-depth n c (lam p a s t b) = rw (lift-depth n c t, lift-depth n (suc c) b)
lift-depth n c (letᵉ p a t v b d) = rw (lift-depth n c t, lift-depth n c v, lift-depth n (suc c) b)
lift-depth n c (proj a i e) = rw (lift-depth n c e)
lift-depth n c (nat s) = refl
lift-depth n c (str s) = refl

pub lift_forgets : (n c : ℕ) (e : Expr) → forget (lift n c e) ≡ lift n c (forget e)
unfolding lift forget
lift_forgets n c (var i) = refl
lift_forgets n c (sort l) = refl
lift_forgets n c (const a ls) = refl
lift_forgets n c (app f a) = ap₂ app (lift_forgets n c f) (lift_forgets n c a)
lift_forgets n c (pi p a s t b) = ap₂ (pi 0 a s) (lift_forgets n c t) (lift_forgets n (suc c) b)
lift_forgets n c (lam p a s t b) = ap₂ (lam 0 a s) (lift_forgets n c t) (lift_forgets n (suc c) b)
lift_forgets n c (letᵉ p a t v b d) = rw (lift_forgets n c t, lift_forgets n c v, lift_forgets n (suc c) b)
lift_forgets n c (proj a i e) = ap (proj a i) (lift_forgets n c e)
lift_forgets n c (nat s) = refl
lift_forgets n c (str s) = refl

-- ---- forgetting

pub forget_twice : (e : Expr) → forget (forget e) ≡ forget e
unfolding forget
forget_twice (var i) = refl
forget_twice (sort l) = refl
forget_twice (const a ls) = refl
forget_twice (app f a) = ap₂ app (forget_twice f) (forget_twice a)
forget_twice (pi p a s t b) = ap₂ (pi 0 a s) (forget_twice t) (forget_twice b)
forget_twice (lam p a s t b) = ap₂ (lam 0 a s) (forget_twice t) (forget_twice b)
forget_twice (letᵉ p a t v b d) = rw (forget_twice t, forget_twice v, forget_twice b)
forget_twice (proj a i e) = ap (proj a i) (forget_twice e)
forget_twice (nat s) = refl
forget_twice (str s) = refl

pub forget-depth : (e : Expr) → depth (forget e) ≡ depth e
unfolding forget depth
forget-depth (var i) = refl
forget-depth (sort l) = refl
forget-depth (const a ls) = refl
forget-depth (app f a) = rw (forget-depth f, forget-depth a)
forget-depth (pi p a s t b) = rw (forget-depth t, forget-depth b)
forget-depth (lam p a s t b) = rw (forget-depth t, forget-depth b)
forget-depth (letᵉ p a t v b d) = rw (forget-depth t, forget-depth v, forget-depth b)
forget-depth (proj a i e) = rw (forget-depth e)
forget-depth (nat s) = refl
forget-depth (str s) = refl

pub forget-loose : (e : Expr) → loose (forget e) ≡ loose e
unfolding forget loose
forget-loose (var i) = refl
forget-loose (sort l) = refl
forget-loose (const a ls) = refl
forget-loose (app f a) = rw (forget-loose f, forget-loose a)
forget-loose (pi p a s t b) = rw (forget-loose t, forget-loose b)
forget-loose (lam p a s t b) = rw (forget-loose t, forget-loose b)
forget-loose (letᵉ p a t v b d) = rw (forget-loose t, forget-loose v, forget-loose b)
forget-loose (proj a i e) = forget-loose e
forget-loose (nat s) = refl
forget-loose (str s) = refl

pub forget-occurs : (k : ℕ) (e : Expr) → occurs k (forget e) ≡ occurs k e
unfolding forget occurs
forget-occurs k (var i) = refl
forget-occurs k (sort l) = refl
forget-occurs k (const a ls) = refl
forget-occurs k (app f a) = rw (forget-occurs k f, forget-occurs k a)
forget-occurs k (pi p a s t b) = rw (forget-occurs k t, forget-occurs (suc k) b)
forget-occurs k (lam p a s t b) = rw (forget-occurs k t, forget-occurs (suc k) b)
forget-occurs k (letᵉ p a t v b d) = rw (forget-occurs k t, forget-occurs k v, forget-occurs (suc k) b)
forget-occurs k (proj a i e) = forget-occurs k e
forget-occurs k (nat s) = refl
forget-occurs k (str s) = refl

-- ---- loose variables

-- none occurs from `loose` on
pub none_above : (k : ℕ) (e : Expr) → loose e ≤ k → occurs k e ≡ false
unfolding loose occurs
none_above k (var i) h = ne_eqb i k (λ q. omega arith)
none_above k (sort l) h = refl
none_above k (const n ls) h = refl
none_above k (app f a) h = rw (none_above k f (omega arith), none_above k a (omega arith))
none_above k (pi p n s t b) h = rw (none_above k t (omega arith), none_above (suc k) b (omega arith))
none_above k (lam p n s t b) h = rw (none_above k t (omega arith), none_above (suc k) b (omega arith))
none_above k (letᵉ p n t v b d) h =
    rw (none_above k t (omega arith), none_above k v (omega arith), none_above (suc k) b (omega arith))
none_above k (proj n i e) h = none_above k e h
none_above k (nat s) h = refl
none_above k (str s) h = refl

pub occurs_below : (k : ℕ) (e : Expr) → occurs k e ≡ true → k < loose e
occurs_below k e h = by (ltb k (loose e)) refl
  where
    by : (b : Bool) → ltb k (loose e) ≡ b → k < loose e
    by true q = ltb-true k (loose e) q
    by false q = true-false (sym h ∙ none_above k e (ltb-false k (loose e) q))

-- the greater of two is one of them
greater : (x y k : ℕ) (a b : Bool) → (x ≡ suc k → a ≡ true) → (y ≡ suc k → b ≡ true) → max x y ≡ suc k → a || b ≡ true
greater x y k a b p q h = by (eqb x (suc k)) refl
  where
    by : (c : Bool) → eqb x (suc k) ≡ c → a || b ≡ true
    by true e = rw (p (eqb-true x (suc k) e))
    by false e =
        let n : x ≡ suc k → ⊥ = eqb-false x (suc k) e in
        rw (q (omega arith)) (or-true a)

-- the greatest index below `loose` occurs
pub greatest_occurs : (k : ℕ) (e : Expr) → loose e ≡ suc k → occurs k e ≡ true
unfolding loose occurs
greatest_occurs k (var i) h = eq-eqb i k (omega arith)
greatest_occurs k (sort l) h = absurd (omega arith)
greatest_occurs k (const n ls) h = absurd (omega arith)
greatest_occurs k (app f a) h = greater (loose f) (loose a) k _ _ (greatest_occurs k f) (greatest_occurs k a) h
greatest_occurs k (pi p n s t b) h =
    greater (loose t) (loose b - 1) k _ _ (greatest_occurs k t) (λ q. greatest_occurs (suc k) b (omega arith)) h
greatest_occurs k (lam p n s t b) h =
    greater (loose t) (loose b - 1) k _ _ (greatest_occurs k t) (λ q. greatest_occurs (suc k) b (omega arith)) h
greatest_occurs k (letᵉ p n t v b d) h =
    greater (loose t) (max (loose v) (loose b - 1)) k _ _ (greatest_occurs k t)
    (greater (loose v) (loose b - 1) k _ _ (greatest_occurs k v) (λ q. greatest_occurs (suc k) b (omega arith))) h
greatest_occurs k (proj n i e) h = greatest_occurs k e h
greatest_occurs k (nat s) h = absurd (omega arith)
greatest_occurs k (str s) h = absurd (omega arith)

-- lifting from `loose` on changes nothing
pub lift_closed : (n c : ℕ) (e : Expr) → loose e ≤ c → lift n c e ≡ e
unfolding loose lift
lift_closed n c (var i) h = lift_var_low n c i h
lift_closed n c (sort l) h = refl
lift_closed n c (const a ls) h = refl
lift_closed n c (app f a) h = ap₂ app (lift_closed n c f (omega arith)) (lift_closed n c a (omega arith))
lift_closed n c (pi p a s t b) h = ap₂ (pi p a s) (lift_closed n c t (omega arith)) (lift_closed n (suc c) b (omega arith))
lift_closed n c (lam p a s t b) h = ap₂ (lam p a s) (lift_closed n c t (omega arith)) (lift_closed n (suc c) b (omega arith))
lift_closed n c (letᵉ p a t v b d) h =
    rw (lift_closed n c t (omega arith), lift_closed n c v (omega arith), lift_closed n (suc c) b (omega arith))
lift_closed n c (proj a i e) h = ap (proj a i) (lift_closed n c e h)
lift_closed n c (nat s) h = refl
lift_closed n c (str s) h = refl

-- what `loose` is after lifting
unfoldable pub raised : ℕ → ℕ → ℕ → ℕ
raised n c k = cond (leb k c) k (k + n)

pub raised_low : (n c k : ℕ) → k ≤ c → raised n c k ≡ k
unfolding raised
raised_low n c k h = rw (le-leb k c h)

pub raised_high : (n c k : ℕ) → c < k → raised n c k ≡ k + n
unfolding raised
raised_high n c k h = rw (lt-leb k c h)

-- what a proof by cases on k ≤ c needs
data Sides (c k : ℕ) : Type 0 where
  low : k ≤ c → Sides c k
  high : c < k → Sides c k

sides : (c k : ℕ) → Sides c k
sides c k = by (leb k c) refl
  where
    by : (b : Bool) → leb k c ≡ b → Sides c k
    by true e = low (leb-true k c e)
    by false e = high (leb-false k c e)

raised_max : (n c a b : ℕ) → raised n c (max a b) ≡ max (raised n c a) (raised n c b)
raised_max n c a b = by (sides c a) (sides c b)
  where
    by : Sides c a → Sides c b → raised n c (max a b) ≡ max (raised n c a) (raised n c b)
    by (low p) (low q) = omega (arith, raised_low n c a p, raised_low n c b q, raised_low n c (max a b) (omega arith))
    by (low p) (high q) = omega (arith, raised_low n c a p, raised_high n c b q, raised_high n c (max a b) (omega arith))
    by (high p) (low q) = omega (arith, raised_high n c a p, raised_low n c b q, raised_high n c (max a b) (omega arith))
    by (high p) (high q) = omega (arith, raised_high n c a p, raised_high n c b q, raised_high n c (max a b) (omega arith))

raised_under : (n c b : ℕ) → raised n c (b - 1) ≡ raised n (suc c) b - 1
raised_under n c b = by (sides (suc c) b)
  where
    by : Sides (suc c) b → raised n c (b - 1) ≡ raised n (suc c) b - 1
    by (low p) = omega (arith, raised_low n (suc c) b p, raised_low n c (b - 1) (omega arith))
    by (high p) = omega (arith, raised_high n (suc c) b p, raised_high n c (b - 1) (omega arith))

raised_var : (n c i : ℕ) → loose (lift n c (var i)) ≡ raised n c (suc i)
unfolding loose
raised_var n c i = by (sides c (suc i))
  where
    by : Sides c (suc i) → loose (lift n c (var i)) ≡ raised n c (suc i)
    by (low p) = ap loose (lift_var_low n c i p) ∙ sym (raised_low n c (suc i) p)
    by (high p) =
        let q : suc (i + n) ≡ suc i + n = omega arith in
        ap loose (lift_var_high n c i (omega arith)) ∙ q ∙ sym (raised_high n c (suc i) p)

raised_zero : (n c : ℕ) → raised n c 0 ≡ 0
raised_zero n c = raised_low n c 0 (omega arith)

pub lift-loose : (n c : ℕ) (e : Expr) → loose (lift n c e) ≡ raised n c (loose e)
unfolding loose lift
lift-loose n c (var i) = raised_var n c i
lift-loose n c (sort l) = sym (raised_zero n c)
lift-loose n c (const a ls) = sym (raised_zero n c)
lift-loose n c (app f a) = rw (lift-loose n c f, lift-loose n c a, raised_max n c (loose f) (loose a))
lift-loose n c (pi p a s t b) =
    rw (lift-loose n c t, lift-loose n (suc c) b, raised_max n c (loose t) (loose b - 1), raised_under n c (loose b))
lift-loose n c (lam p a s t b) =
    rw (lift-loose n c t, lift-loose n (suc c) b, raised_max n c (loose t) (loose b - 1), raised_under n c (loose b))
lift-loose n c (letᵉ p a t v b d) =
    rw (
      lift-loose n c t,
      lift-loose n c v,
      lift-loose n (suc c) b,
      raised_max n c (loose t) (max (loose v) (loose b - 1)),
      raised_max n c (loose v) (loose b - 1),
      raised_under n c (loose b),
    )
lift-loose n c (proj a i e) = lift-loose n c e
lift-loose n c (nat s) = sym (raised_zero n c)
lift-loose n c (str s) = sym (raised_zero n c)

-- ---- equality of shapes

pub bytes_equal : (a b : List ℕ) → same_bytes a b ≡ true → a ≡ b
unfolding same_bytes
bytes_equal [] [] h = refl
bytes_equal [] (y ∷ ys) h = false-true h
bytes_equal (x ∷ xs) [] h = false-true h
bytes_equal (x ∷ xs) (y ∷ ys) h =
    ap₂ (λ (z : ℕ) (zs : List ℕ). z ∷ zs) (eqb-true x y (and_left (eqb x y) _ h)) (bytes_equal xs ys (and_right (eqb x y) _ h))

pub bytes_same : (a : List ℕ) → same_bytes a a ≡ true
unfolding same_bytes
bytes_same [] = refl
bytes_same (x ∷ xs) = rw (eq-eqb x x refl) (bytes_same xs)

node_equal : (k l : ℕ) (a b : List ℕ) (xs ys : Shapes) → k ≡ l → a ≡ b → xs ≡ ys → node k a xs ≡ node l b ys
node_equal k l a b xs ys p q r = cc

mutual
  unfolding same_shape

  pub shape_equal : (x y : Shape) → same_shape x y ≡ true → x ≡ y
  shape_equal (node k a xs) (node l b ys) h =
      node_equal k l a b xs ys (eqb-true k l (and_left (eqb k l) _ h))
      (bytes_equal a b (and_left (same_bytes a b) _ (and_right (eqb k l) _ h)))
      (shapes_equal xs ys (and_right (same_bytes a b) _ (and_right (eqb k l) _ h)))

  pub shapes_equal : (xs ys : Shapes) → same_shapes xs ys ≡ true → xs ≡ ys
  shapes_equal none none h = refl
  shapes_equal none (y and ys) h = false-true h
  shapes_equal (x and xs) none h = false-true h
  shapes_equal (x and xs) (y and ys) h =
      ap₂ ◌and◌ (shape_equal x y (and_left (same_shape x y) _ h)) (shapes_equal xs ys (and_right (same_shape x y) _ h))

mutual
  unfolding same_shape

  pub shape_same : (x : Shape) → same_shape x x ≡ true
  shape_same (node k a xs) = rw (eq-eqb k k refl, bytes_same a) (shapes_same xs)

  pub shapes_same : (xs : Shapes) → same_shapes xs xs ≡ true
  shapes_same none = refl
  shapes_same (x and xs) = rw (shape_same x) (shapes_same xs)

-- ---- a shape gives its tree back, but for places

at : {A : Type 0} → A → List A → ℕ → A
at z [] i = z
at z (x ∷ xs) zero = x
at z (x ∷ xs) (suc i) = at z xs i

rest : {A : Type 0} → List A → List A
rest [] = []
rest (x ∷ xs) = xs

name_of : ℕ → List ℕ → List Name → Name
name_of k s ns = cond (eqb k 0) anonymous (cond (eqb k 1) (string (at anonymous ns 0) s) (number (at anonymous ns 0) (at 0 s 0)))

mutual
  unname : Shape → Name
  unname (node k s xs) = name_of k s (unnames xs)

  unnames : Shapes → List Name
  unnames none = []
  unnames (x and xs) = unname x ∷ unnames xs

level_of : ℕ → List Name → List Level → Level
level_of k ns ls =
    cond (eqb k 0) zeroˡ
    (cond (eqb k 1) (succˡ (at zeroˡ ls 0))
    (cond (eqb k 2) (maxˡ (at zeroˡ ls 0) (at zeroˡ ls 1))
    (cond (eqb k 3) (imaxˡ (at zeroˡ ls 0) (at zeroˡ ls 1)) (paramˡ (at anonymous ns 0)))))

mutual
  unlevel : Shape → Level
  unlevel (node k s xs) = level_of k (unnames xs) (unlevels xs)

  unlevels : Shapes → List Level
  unlevels none = []
  unlevels (x and xs) = unlevel x ∷ unlevels xs

module _ (k : ℕ) (s : List ℕ) (ns : List Name) (ls : List Level) (es : List Expr) where
  leaf : ℕ → Expr
  leaf i = at (var 0) es i

  expr_of : Expr
  expr_of =
      cond (eqb k 0) (var (at 0 s 0))
      (cond (eqb k 1) (sort (at zeroˡ ls 0))
      (cond (eqb k 2) (const (at anonymous ns 0) (rest ls))
      (cond (eqb k 3) (app (leaf 0) (leaf 1))
      (cond (eqb k 4) (pi 0 (at anonymous ns 0) (at 0 s 0) (leaf 1) (leaf 2))
      (cond (eqb k 5) (lam 0 (at anonymous ns 0) (at 0 s 0) (leaf 1) (leaf 2))
      (cond (eqb k 6) (letᵉ 0 (at anonymous ns 0) (leaf 1) (leaf 2) (leaf 3) (at 0 s 0))
      (cond (eqb k 7) (proj (at anonymous ns 0) (at 0 s 0) (leaf 1))
      (cond (eqb k 8) (nat s) (str s)))))))))

mutual
  unshape : Shape → Expr
  unshape (node k s xs) = expr_of k s (unnames xs) (unlevels xs) (unshapes xs)

  unshapes : Shapes → List Expr
  unshapes none = []
  unshapes (x and xs) = unshape x ∷ unshapes xs

name_back : (n : Name) → unname (name_shape n) ≡ n
unfolding unname name_of name_shape at
name_back anonymous = refl
name_back (string p s) = ap (λ (q : Name). string q s) (name_back p)
name_back (number p n) = ap (λ (q : Name). number q n) (name_back p)

level_back : (l : Level) → unlevel (level_shape l) ≡ l
unfolding unlevel unname level_of level_shape at
level_back zeroˡ = refl
level_back (succˡ a) = ap succˡ (level_back a)
level_back (maxˡ a b) = ap₂ maxˡ (level_back a) (level_back b)
level_back (imaxˡ a b) = ap₂ imaxˡ (level_back a) (level_back b)
level_back (paramˡ n) = ap paramˡ (name_back n)

levels_back : (ls : List Level) → unlevels (level_shapes ls) ≡ ls
unfolding unlevel level_shapes
levels_back [] = refl
levels_back (l ∷ ls) = ap₂ (λ (z : Level) (zs : List Level). z ∷ zs) (level_back l) (levels_back ls)

expr_back : (e : Expr) → unshape (shape e) ≡ forget e
unfolding unshape unlevel unname expr_of leaf shape forget at rest
expr_back (var i) = refl
expr_back (sort l) = ap sort (level_back l)
expr_back (const n ls) = ap₂ const (name_back n) (levels_back ls)
expr_back (app f a) = ap₂ app (expr_back f) (expr_back a)
expr_back (pi p n s t b) = rw (name_back n, expr_back t, expr_back b)
expr_back (lam p n s t b) = rw (name_back n, expr_back t, expr_back b)
expr_back (letᵉ p n t v b d) = rw (name_back n, expr_back t, expr_back v, expr_back b)
expr_back (proj n i e) = rw (name_back n, expr_back e)
expr_back (nat s) = refl
expr_back (str s) = refl

pub forget-shape : (e : Expr) → shape (forget e) ≡ shape e
unfolding shape forget
forget-shape (var i) = refl
forget-shape (sort l) = refl
forget-shape (const n ls) = refl
forget-shape (app f a) = rw (forget-shape f, forget-shape a)
forget-shape (pi p n s t b) = rw (forget-shape t, forget-shape b)
forget-shape (lam p n s t b) = rw (forget-shape t, forget-shape b)
forget-shape (letᵉ p n t v b d) = rw (forget-shape t, forget-shape v, forget-shape b)
forget-shape (proj n i e) = rw (forget-shape e)
forget-shape (nat s) = refl
forget-shape (str s) = refl

-- ---- equality of trees

pub name_equal : (a b : Name) → same_shape (name_shape a) (name_shape b) ≡ true → a ≡ b
name_equal a b h = sym (name_back a) ∙ ap unname (shape_equal (name_shape a) (name_shape b) h) ∙ name_back b

pub level_equal : (a b : Level) → same_shape (level_shape a) (level_shape b) ≡ true → a ≡ b
level_equal a b h = sym (level_back a) ∙ ap unlevel (shape_equal (level_shape a) (level_shape b) h) ∙ level_back b

pub levels_equal_lem : (a b : List Level) → same_shapes (level_shapes a) (level_shapes b) ≡ true → a ≡ b
levels_equal_lem a b h = sym (levels_back a) ∙ ap unlevels (shapes_equal (level_shapes a) (level_shapes b) h) ∙ levels_back b

pub same_forgets : (a b : Expr) → same a b ≡ true → forget a ≡ forget b
same_forgets a b h = sym (expr_back a) ∙ ap unshape (shape_equal (shape a) (shape b) h) ∙ expr_back b

pub forgets_same : (a b : Expr) → forget a ≡ forget b → same a b ≡ true
forgets_same a b h =
    subst (λ (x : Shape). same_shape (shape a) x ≡ true) (sym (forget-shape a) ∙ ap shape h ∙ forget-shape b) (shape_same (shape a))

pub same_self : (a : Expr) → same a a ≡ true
same_self a = shape_same (shape a)

pub same_sym : (a b : Expr) → same a b ≡ true → same b a ≡ true
same_sym a b h = forgets_same b a (sym (same_forgets a b h))

pub same_trans : (a b c : Expr) → same a b ≡ true → same b c ≡ true → same a c ≡ true
same_trans a b c h k = forgets_same a c (same_forgets a b h ∙ same_forgets b c k)

pub same-depth : (a b : Expr) → same a b ≡ true → depth a ≡ depth b
same-depth a b h = sym (forget-depth a) ∙ ap depth (same_forgets a b h) ∙ forget-depth b

pub same-loose : (a b : Expr) → same a b ≡ true → loose a ≡ loose b
same-loose a b h = sym (forget-loose a) ∙ ap loose (same_forgets a b h) ∙ forget-loose b

pub differs_depth : (a b : Expr) → (depth a ≡ depth b → ⊥) → same a b ≡ false
differs_depth a b h = not_so (same a b) (λ q. h (same-depth a b q))

pub differs_loose : (a b : Expr) → (loose a ≡ loose b → ⊥) → same a b ≡ false
differs_loose a b h = not_so (same a b) (λ q. h (same-loose a b q))

-- the kind of a node
unfoldable pub label : Shape → ℕ
label (node k s xs) = k

pub labels_differ : (x y : Shape) → (label x ≡ label y → ⊥) → same_shape x y ≡ false
unfolding label same_shape
labels_differ (node k s xs) (node l t ys) h = rw (ne_eqb k l h)
