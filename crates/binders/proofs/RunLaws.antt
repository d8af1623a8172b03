-- Runs are 01's leading runs, and the bound on their number does not matter.
use Prim.Native.Nat.{ℕ, zero, suc, ◌≤◌}
use native.Mathlib.Omega.{arith}
use mathlib.Core.Bool.{Bool, true, false, cond}
use mathlib.Core.List.{List, [], ◌∷◌, ◌++◌}
use mathlib.Core.Path.{◌≡◌, refl, ap}
use lib.ListN.{length}
use Rattle.binders.specs.Runs.{leading, following, runs_to, runs}

module _ {A : Type 0} where
  -- what follows a leading run is no longer than the whole
  pub following_shorter : (test : A → Bool) (xs : List A) → length (following test xs) ≤ length xs
  unfolding following
  following_shorter test [] = omega arith
  following_shorter test (x ∷ xs) = by (test x) (following_shorter test xs)
    where
      by : (b : Bool) → length (following test xs) ≤ length xs → length (cond b (following test xs) (x ∷ xs)) ≤ length (x ∷ xs)
      by true h = omega arith
      by false h = omega arith

  -- a leading run and what follows it are the whole
  pub leading-following : (test : A → Bool) (xs : List A) → leading test xs ++ following test xs ≡ xs
  unfolding leading following
  leading-following test [] = refl
  leading-following test (x ∷ xs) = by (test x) (leading-following test xs)
    where
      by : (b : Bool) → leading test xs ++ following test xs ≡ xs → cond b (x ∷ leading test xs) [] ++ cond b (following test xs) (x ∷ xs) ≡ x ∷ xs
      by true h = ap (λ (l : List A). x ∷ l) h
      by false h = refl

  pub runs_bound : (m n : ℕ) (goes : A → A → Bool) (xs : List A) → length xs ≤ m → length xs ≤ n → runs_to m goes xs ≡ runs_to n goes xs
  unfolding runs_to
  runs_bound zero zero goes xs h k = refl
  runs_bound zero (suc n) goes [] h k = refl
  runs_bound zero (suc n) goes (x ∷ xs) h k = absurd (omega arith)
  runs_bound (suc m) zero goes [] h k = refl
  runs_bound (suc m) zero goes (x ∷ xs) h k = absurd (omega arith)
  runs_bound (suc m) (suc n) goes [] h k = refl
  runs_bound (suc m) (suc n) goes (x ∷ xs) h k =
      let shorter : length (following (goes x) xs) ≤ length xs = following_shorter (goes x) xs in
      ap (λ (l : List (List A)). (x ∷ leading (goes x) xs) ∷ l) (runs_bound m n goes (following (goes x) xs) (omega arith) (omega arith))

  -- "each the leading run": the first run is the first element with the leading run of those that go with it, and the other runs
  -- are those of what follows
  pub runs_are_leading : (goes : A → A → Bool) (x : A) (xs : List A) → runs goes (x ∷ xs) ≡ (x ∷ leading (goes x) xs) ∷ runs goes (following (goes x) xs)
  unfolding runs runs_to
  runs_are_leading goes x xs =
      let shorter : length (following (goes x) xs) ≤ length xs = following_shorter (goes x) xs in
      ap (λ (l : List (List A)). (x ∷ leading (goes x) xs) ∷ l)
      (runs_bound (length xs) (length (following (goes x) xs)) goes (following (goes x) xs) shorter (omega arith))

  pub runs_of_none : (goes : A → A → Bool) → runs goes [] ≡ []
  unfolding runs runs_to
  runs_of_none goes = refl

  -- what holds of each element of a list
  unfoldable pub All : (A → Type 0) → List A → Type 0
  All P [] = Unit {0}
  All P (x ∷ xs) = P x × All P xs

  pub all_leading : (P : A → Type 0) (test : A → Bool) (xs : List A) → All P xs → All P (leading test xs)
  unfolding All leading
  all_leading P test [] h = tt
  all_leading P test (x ∷ xs) h = by (test x) (all_leading P test xs h.1)
    where
      by : (b : Bool) → All P (leading test xs) → All P (cond b (x ∷ leading test xs) [])
      by true t = (h.0, t)
      by false t = tt

  pub all_following : (P : A → Type 0) (test : A → Bool) (xs : List A) → All P xs → All P (following test xs)
  unfolding All following
  all_following P test [] h = tt
  all_following P test (x ∷ xs) h = by (test x) (all_following P test xs h.1)
    where
      by : (b : Bool) → All P (following test xs) → All P (cond b (following test xs) (x ∷ xs))
      by true t = t
      by false t = h

module _ {A : Type 0} where
  pub all_runs : (P : A → Type 0) (n : ℕ) (goes : A → A → Bool) (xs : List A) → All P xs → All (All P) (runs_to n goes xs)
  unfolding All runs_to
  all_runs P zero goes xs h = tt
  all_runs P (suc n) goes [] h = tt
  all_runs P (suc n) goes (x ∷ xs) h =
      ((h.0, all_leading P (goes x) xs h.1), all_runs P n goes (following (goes x) xs) (all_following P (goes x) xs h.1))
