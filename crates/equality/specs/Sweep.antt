-- What a sweep by levels owes: in one array that trees lifted from c on are trees of rows, in a second that trees lifted from c + 1 on are, in a third that
-- trees of two rows are equal (links/Links).
use Rattle.std.specs.Prelude.{ℕ, zero, suc, ◌+◌, ◌-◌, Bool, true, false, Option, Some, List, ◌≡◌, ◌↔◌, ◌⊎◌}
use Rattle.pool.specs.Tables.{Pool, expr_word}
use Rattle.pool.specs.Tree.{Shape, shape, lift}
use Rattle.pool.specs.Unfold.{expr_at}
use Rattle.occurrence.specs.Parts.{first_part, second_part, body_part}
use Rattle.links.specs.Links.{Owes, Clear}

-- what the tree of a row is, and what it is once lifted by d from c on
abbrev pub tree_at : Pool → ℕ → Shape
tree_at p r = shape (expr_at p r)

abbrev pub lifted_at : Pool → ℕ → ℕ → ℕ → Shape
lifted_at p d c r = shape (lift d c (expr_at p r))

-- two parts, each a row and one or 0 where there is none, are equal
unfoldable pub Tied : (ℕ → Shape) → (ℕ → Shape) → ℕ → ℕ → Type 0
Tied F S zero zero = ◌≡◌ {A = ℕ} 0 0
Tied F S zero (suc y) = ⊥
Tied F S (suc x) zero = ⊥
Tied F S (suc x) (suc y) = F x ≡ S y

-- the parts of rows a and b, of a's kind: F of those under as many binders, G of those under one more
pub record PartsTied (F G S : ℕ → Shape) (ws : List ℕ) (a b : ℕ) : Type 0 where
  pub first : Tied F S (first_part ws a (expr_word ws a 0)) (first_part ws b (expr_word ws a 0))
  pub second : Tied F S (second_part ws a (expr_word ws a 0)) (second_part ws b (expr_word ws a 0))
  pub body : Tied G S (body_part ws a (expr_word ws a 0)) (body_part ws b (expr_word ws a 0))

-- what is owed at the level c
pub record Owed (p : Pool) (d c : ℕ) (cur next owed : List ℕ) : Type 0 where
  pub here : Owes (lifted_at p d c) (tree_at p) cur
  pub below : Owes (lifted_at p d (c + 1)) (tree_at p) next
  pub plain : Owes (tree_at p) (tree_at p) owed

-- a step from what was owed to what is owed now: false, it is not so; true, it is so where the other is; else nothing
pub record Moved (Before After : Type 0) (v : Option Bool) : Type 0 where
  pub refuted : v ≡ Some false → Before → ⊥
  pub down : v ≡ Some true → After → Before
  pub up : v ≡ Some true → Before → After

-- two parts are put aside by a step R, which is told whether they stand under one binder more; or neither is there
abbrev pub PartBy : {F : Type 0} → (Bool → ℕ → ℕ → F → F → Type 0) → Bool → ℕ → ℕ → F → F → Type 0
PartBy R below x y f g = ((x ≡ 0) × (g ≡ f)) ⊎ ((x ≡ 0 → ⊥) × R below (x - 1) (y - 1) f g)

-- the parts of rows a and b of a's kind, one after the other
pub record PartsBy {F : Type 0} (R : Bool → ℕ → ℕ → F → F → Type 0) (ws : List ℕ) (a b : ℕ) (f₀ f₃ : F) : Type 0 where
  pub f₁ : F
  pub f₂ : F
  pub first : PartBy R false (first_part ws a (expr_word ws a 0)) (first_part ws b (expr_word ws a 0)) f₀ f₁
  pub second : PartBy R false (second_part ws a (expr_word ws a 0)) (second_part ws b (expr_word ws a 0)) f₁ f₂
  pub body : PartBy R true (body_part ws a (expr_word ws a 0)) (body_part ws b (expr_word ws a 0)) f₂ f₃

-- all parts of two rows of one kind
pub record PutParts (ws : List ℕ) (a b : ℕ) (cur next owed cur' next' owed' : List ℕ) : Type 0 where
  pub moved : (F G S : ℕ → Shape) → ((Owes F S cur × Owes G S next × Owes S S owed) × PartsTied F G S ws a b) ↔ (Owes F S cur' × Owes G S next' × Owes S S owed')

pub record LinkParts (ws : List ℕ) (a b : ℕ) (owed owed' : List ℕ) : Type 0 where
  pub moved : (S : ℕ → Shape) → (Owes S S owed × PartsTied S S S ws a b) ↔ Owes S S owed'

-- the rows of a level: nothing is left in its array
pub record Level (p : Pool) (d c : ℕ) (cur next owed cur' next' owed' : List ℕ) (v : Option Bool) : Type 0 where
  pub moved : Moved (Owed p d c cur next owed) (Owed p d c cur' next' owed') v
  pub clear : v ≡ Some true → Clear cur'
