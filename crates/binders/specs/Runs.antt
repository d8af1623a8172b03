-- 01: "Runs are leading runs."
use Rattle.std.specs.Prelude.{ℕ, zero, suc, Bool, cond, List, [], ◌∷◌, length}

module _ {A : Type 0} where
  -- the leading run of those that pass a test, and what follows it
  unfoldable pub leading : (A → Bool) → List A → List A
  leading test [] = []
  leading test (x ∷ xs) = cond (test x) (x ∷ leading test xs) []

  unfoldable pub following : (A → Bool) → List A → List A
  following test [] = []
  following test (x ∷ xs) = cond (test x) (following test xs) (x ∷ xs)

  -- a list in runs: each the leading run of those that go with its first; so many runs at most
  unfoldable pub runs_to : ℕ → (A → A → Bool) → List A → List (List A)
  runs_to zero goes xs = []
  runs_to (suc n) goes [] = []
  runs_to (suc n) goes (x ∷ xs) = (x ∷ leading (goes x) xs) ∷ runs_to n goes (following (goes x) xs)

  unfoldable pub runs : (A → A → Bool) → List A → List (List A)
  runs goes xs = runs_to (length xs) goes xs
