-- 01, Pool: "A tree is a root's full unfolding, strings by their bytes, lists by their levels in order, a declaration's
-- kind, name and list included; rows may repeat."
use Rattle.std.specs.Prelude.{ℕ, suc, ◌+◌, ◌-◌, max, Bool, true, false, ◌&&◌, ◌||◌, cond, List, [], ◌∷◌, ltb, eqb}
use Rattle.utf8.specs.Letterlike.{same_bytes}

pub data Name : Type 0 where
  anonymous : Name
  string : Name → List ℕ → Name
  number : Name → ℕ → Name

pub data Level : Type 0 where
  zeroˡ : Level
  succˡ : Level → Level
  maxˡ : Level → Level → Level
  imaxˡ : Level → Level → Level
  paramˡ : Name → Level

-- A pi, a lambda and a let carry their place first: the row where the pool has them. Number 7 reports it, and nothing else
-- depends on it: a tree in 01's sense is one whose places are forgotten.
pub data Expr : Type 0 where
  var : ℕ → Expr
  sort : Level → Expr
  const : Name → List Level → Expr
  app : Expr → Expr → Expr
  pi : ℕ → Name → ℕ → Expr → Expr → Expr
  lam : ℕ → Name → ℕ → Expr → Expr → Expr
  letᵉ : ℕ → Name → Expr → Expr → Expr → ℕ → Expr
  proj : Name → ℕ → Expr → Expr
  nat : List ℕ → Expr
  str : List ℕ → Expr

-- kind, name, list, type; and a value for the kinds 2 to 4
pub data Declar : Type 0 where
  typed : ℕ → Name → List Level → Expr → Declar
  valued : ℕ → Name → List Level → Expr → Expr → Declar

unfoldable pub forget : Expr → Expr
forget (var i) = var i
forget (sort l) = sort l
forget (const n ls) = const n ls
forget (app f a) = app (forget f) (forget a)
forget (pi p n s t b) = pi 0 n s (forget t) (forget b)
forget (lam p n s t b) = lam 0 n s (forget t) (forget b)
forget (letᵉ p n t v b d) = letᵉ 0 n (forget t) (forget v) (forget b) d
forget (proj n i e) = proj n i (forget e)
forget (nat s) = nat s
forget (str s) = str s

unfoldable pub forgetᵈ : Declar → Declar
forgetᵈ (typed k n ls t) = typed k n ls (forget t)
forgetᵈ (valued k n ls t v) = valued k n ls (forget t) (forget v)

-- "Depth is 1 at a leaf, else one more than the deepest child in its table"
unfoldable pub name_depth : Name → ℕ
name_depth anonymous = 1
name_depth (string p s) = suc (name_depth p)
name_depth (number p n) = suc (name_depth p)

unfoldable pub level_depth : Level → ℕ
level_depth zeroˡ = 1
level_depth (succˡ a) = suc (level_depth a)
level_depth (maxˡ a b) = suc (max (level_depth a) (level_depth b))
level_depth (imaxˡ a b) = suc (max (level_depth a) (level_depth b))
level_depth (paramˡ n) = 1

unfoldable pub depth : Expr → ℕ
depth (var i) = 1
depth (sort l) = 1
depth (const n ls) = 1
depth (app f a) = suc (max (depth f) (depth a))
depth (pi p n s t b) = suc (max (depth t) (depth b))
depth (lam p n s t b) = suc (max (depth t) (depth b))
depth (letᵉ p n t v b d) = suc (max (depth t) (max (depth v) (depth b)))
depth (proj n i e) = suc (depth e)
depth (nat s) = 1
depth (str s) = 1

-- "Loose is the least number above every loose variable index."
unfoldable pub loose : Expr → ℕ
loose (var i) = suc i
loose (sort l) = 0
loose (const n ls) = 0
loose (app f a) = max (loose f) (loose a)
loose (pi p n s t b) = max (loose t) (loose b - 1)
loose (lam p n s t b) = max (loose t) (loose b - 1)
loose (letᵉ p n t v b d) = max (loose t) (max (loose v) (loose b - 1))
loose (proj n i e) = loose e
loose (nat s) = 0
loose (str s) = 0

-- "its loose indices lifted past ..": by n, those from c on (`lift`)
unfoldable pub lift : ℕ → ℕ → Expr → Expr
lift n c (var i) = var (cond (ltb i c) i (i + n))
lift n c (sort l) = sort l
lift n c (const a ls) = const a ls
lift n c (app f a) = app (lift n c f) (lift n c a)
lift n c (pi p a s t b) = pi p a s (lift n c t) (lift n (suc c) b)
lift n c (lam p a s t b) = lam p a s (lift n c t) (lift n (suc c) b)
lift n c (letᵉ p a t v b d) = letᵉ p a (lift n c t) (lift n c v) (lift n (suc c) b) d
lift n c (proj a i e) = proj a i (lift n c e)
lift n c (nat s) = nat s
lift n c (str s) = str s

-- whether the loose variable k occurs (`has_var`)
unfoldable pub occurs : ℕ → Expr → Bool
occurs k (var i) = eqb i k
occurs k (sort l) = false
occurs k (const n ls) = false
occurs k (app f a) = occurs k f || occurs k a
occurs k (pi p n s t b) = occurs k t || occurs (suc k) b
occurs k (lam p n s t b) = occurs k t || occurs (suc k) b
occurs k (letᵉ p n t v b d) = occurs k t || (occurs k v || occurs (suc k) b)
occurs k (proj n i e) = occurs k e
occurs k (nat s) = false
occurs k (str s) = false

-- What equality of trees looks at: a kind, the fields that are numbers or bytes, and the parts that are trees. No places.
mutual
  pub data Shape : Type 0 where
    node : ℕ → List ℕ → Shapes → Shape

  pub data Shapes : Type 0 where
    none : Shapes
    ◌and◌ : Shape → Shapes → Shapes

infixr 40 ◌and◌
unfoldable pub name_shape : Name → Shape
name_shape anonymous = node 0 [] none
name_shape (string p s) = node 1 s (name_shape p and none)
name_shape (number p n) = node 2 (n ∷ []) (name_shape p and none)

unfoldable pub level_shape : Level → Shape
level_shape zeroˡ = node 0 [] none
level_shape (succˡ a) = node 1 [] (level_shape a and none)
level_shape (maxˡ a b) = node 2 [] (level_shape a and level_shape b and none)
level_shape (imaxˡ a b) = node 3 [] (level_shape a and level_shape b and none)
level_shape (paramˡ n) = node 4 [] (name_shape n and none)

unfoldable pub level_shapes : List Level → Shapes
level_shapes [] = none
level_shapes (l ∷ ls) = level_shape l and level_shapes ls

unfoldable pub shape : Expr → Shape
shape (var i) = node 0 (i ∷ []) none
shape (sort l) = node 1 [] (level_shape l and none)
shape (const n ls) = node 2 [] (name_shape n and level_shapes ls)
shape (app f a) = node 3 [] (shape f and shape a and none)
shape (pi p n s t b) = node 4 (s ∷ []) (name_shape n and shape t and shape b and none)
shape (lam p n s t b) = node 5 (s ∷ []) (name_shape n and shape t and shape b and none)
shape (letᵉ p n t v b d) = node 6 (d ∷ []) (name_shape n and shape t and shape v and shape b and none)
shape (proj n i e) = node 7 (i ∷ []) (name_shape n and shape e and none)
shape (nat s) = node 8 s none
shape (str s) = node 9 s none

unfoldable mutual
  pub same_shape : Shape → Shape → Bool
  same_shape (node k a xs) (node l b ys) = eqb k l && (same_bytes a b && same_shapes xs ys)

  pub same_shapes : Shapes → Shapes → Bool
  same_shapes none none = true
  same_shapes none (y and ys) = false
  same_shapes (x and xs) none = false
  same_shapes (x and xs) (y and ys) = same_shape x y && same_shapes xs ys

-- equality of trees, all fields
abbrev pub same : Expr → Expr → Bool
same a b = same_shape (shape a) (shape b)
