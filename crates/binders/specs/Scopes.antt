-- The stack of names: the names in force, and what a scope makes of a variable.
use Rattle.std.specs.Prelude.{ℕ, zero, suc, ◌+◌, ◌-◌, ◌<◌, ◌≤◌, List, [], ◌∷◌, ◌≡◌, length, get_or, set, true, false}
use Rattle.pool.specs.Tables.{Pool, N}
use Rattle.pool.specs.Tree.{Expr, var, sort, const, app, pi, lam, letᵉ, proj, nat, str, occurs}
use Rattle.pool.specs.Unfold.{name_at}
use Rattle.binders.specs.declared.stack.Entry.{Entry}
use Rattle.binders.specs.declared.stack.Stack.{Stack}
use Rattle.binders.specs.Binders.{Binder}
use Rattle.binders.specs.Rename.{rename}
use Rattle.binders.specs.Shown.{shown, NamesInForce}

abbrev pub no_entry : Entry
no_entry = record { name = 0; link = 0 }

abbrev pub entry : Stack → ℕ → Entry
entry k i = get_or k.entries i no_entry

-- the names of the entries below a place, innermost first
unfoldable pub names_below : Pool → Stack → ℕ → NamesInForce
names_below p k zero = []
names_below p k (suc i) = shown (name_at p (entry k i).name) ∷ names_below p k i

-- the names in force
unfoldable pub names_of : Pool → Stack → NamesInForce
names_of p k = names_below p k k.count

-- where the variable i of the scope h stands among the names in force; past the last name, as far past them all
unfoldable pub outward : Stack → ℕ → ℕ → (ℕ → ℕ) → ℕ
outward k i zero next = k.count + i
outward k i (suc h) next = next (entry k h).link

unfoldable pub place_by : Stack → ℕ → ℕ → ℕ
place_by k zero h = outward k zero h (λ _. k.count - h)
place_by k (suc i) h = outward k (suc i) h (place_by k i)

abbrev pub place_in : Stack → ℕ → ℕ → ℕ
place_in k h i = place_by k i h

-- each entry's link is a scope below it
pub record Linked (k : Stack) : Type 0 where
  pub full : length k.entries ≡ 1024
  pub small : k.count ≤ 1024
  pub below : (i : ℕ) → i < k.count → (entry k i).link ≤ i

-- a stack whose links are sound and whose names are rows of the pool
pub record Held (p : Pool) (k : Stack) : Type 0 where
  pub linked : Linked k
  pub named : (i : ℕ) → i < k.count → (entry k i).name < N p.names

-- one name more, in a scope
abbrev pub push : Stack → ℕ → ℕ → Stack
push k name link =
    record { entries = set k.entries k.count (record { name = name; link = link }); count = k.count + 1 }

-- the entries of k are still there
pub record Grown (k l : Stack) : Type 0 where
  pub more : k.count ≤ l.count
  pub kept : (i : ℕ) → i < k.count → entry l i ≡ entry k i

-- The binders of a chain whose names are on the stack: the first one's entry is m, and its type is in the scope h.
unfoldable pub scoped : Stack → ℕ → ℕ → Expr → List Binder
scoped k h m (var i) = []
scoped k h m (sort l) = []
scoped k h m (const n ls) = []
scoped k h m (app f a) = []
scoped k h m (pi p n s t b) =
    record { is_pi = true; used = occurs 0 b; name = n; style = s; type = rename (place_in k h) t; place = p }
    ∷ scoped k (suc m) (suc m) b
scoped k h m (lam p n s t b) =
    record { is_pi = false; used = occurs 0 b; name = n; style = s; type = rename (place_in k h) t; place = p }
    ∷ scoped k (suc m) (suc m) b
scoped k h m (letᵉ p n t v b d) = []
scoped k h m (proj n i e) = []
scoped k h m (nat s) = []
scoped k h m (str s) = []

-- the scope of what stands after the chain
unfoldable pub last_scope : ℕ → ℕ → Expr → ℕ
last_scope h m (var i) = h
last_scope h m (sort l) = h
last_scope h m (const n ls) = h
last_scope h m (app f a) = h
last_scope h m (pi p n s t b) = last_scope (suc m) (suc m) b
last_scope h m (lam p n s t b) = last_scope (suc m) (suc m) b
last_scope h m (letᵉ p n t v b d) = h
last_scope h m (proj n i e) = h
last_scope h m (nat s) = h
last_scope h m (str s) = h

-- the stack ends with a chain's names: the first one's entry is m, and h was in force before it
unfoldable pub Chained : Pool → Stack → ℕ → ℕ → Expr → Type 0
Chained p k h m (var i) = k.count ≡ m
Chained p k h m (sort l) = k.count ≡ m
Chained p k h m (const n ls) = k.count ≡ m
Chained p k h m (app f a) = k.count ≡ m
Chained p k h m (pi q n s t b) =
    ((entry k m).link ≡ h) × (name_at p (entry k m).name ≡ n) × Chained p k (suc m) (suc m) b
Chained p k h m (lam q n s t b) =
    ((entry k m).link ≡ h) × (name_at p (entry k m).name ≡ n) × Chained p k (suc m) (suc m) b
Chained p k h m (letᵉ q n t v b d) = k.count ≡ m
Chained p k h m (proj n i e) = k.count ≡ m
Chained p k h m (nat s) = k.count ≡ m
Chained p k h m (str s) = k.count ≡ m
