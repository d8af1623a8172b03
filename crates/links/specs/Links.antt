-- What an array owes: that rows have to be equal. S is what a row is, and F what a row is that stands for something else, as its lifted tree.
use Rattle.std.specs.Prelude.{ℕ, suc, Bool, true, false, Option, None, Some, List, ◌≡◌, get_or}
use Rattle.pool.specs.Tree.{Shape}

-- the row that an entry names: it is one more than the row, or 0 for none
abbrev pub entry_of : Option ℕ → ℕ
entry_of None = 0
entry_of (Some m) = suc m

-- each row is what it owes to be
abbrev pub Owes : (ℕ → Shape) → (ℕ → Shape) → List ℕ → Type 0
Owes F S owed = (x m : ℕ) → get_or owed x 0 ≡ suc m → F x ≡ S m

-- nothing is owed
abbrev pub Clear : List ℕ → Type 0
Clear owed = (x : ℕ) → get_or owed x 0 ≡ 0

-- what was owed, and x and y to be equal, is owed now, and nothing else
pub record Linked (before after : List ℕ) (x y : ℕ) : Type 0 where
  pub down : (S : ℕ → Shape) → Owes S S after → Owes S S before
  pub tied : (S : ℕ → Shape) → Owes S S after → S x ≡ S y
  pub up : (S : ℕ → Shape) → Owes S S before → S x ≡ S y → Owes S S after

-- the same of a row that stands for something else
pub record Put (array owed array' owed' : List ℕ) (x y : ℕ) : Type 0 where
  pub down : (F S : ℕ → Shape) → Owes F S array' → Owes S S owed' → Owes F S array × Owes S S owed
  pub tied : (F S : ℕ → Shape) → Owes F S array' → Owes S S owed' → F x ≡ S y
  pub up : (F S : ℕ → Shape) → Owes F S array → Owes S S owed → F x ≡ S y → Owes F S array' × Owes S S owed'

-- a step of the pass from the top row down: false, what was owed is not so; true, it is so where what is owed now is; else nothing
pub record Stepped (S : ℕ → Shape) (before after : List ℕ) (v : Option Bool) : Type 0 where
  pub refuted : v ≡ Some false → Owes S S before → ⊥
  pub down : v ≡ Some true → Owes S S after → Owes S S before
  pub up : v ≡ Some true → Owes S S before → Owes S S after

-- the whole pass: false, what was owed is not so; true, it is so; else nothing
pub record Settled (S : ℕ → Shape) (before : List ℕ) (v : Option Bool) : Type 0 where
  pub refuted : v ≡ Some false → Owes S S before → ⊥
  pub holds : v ≡ Some true → Owes S S before
