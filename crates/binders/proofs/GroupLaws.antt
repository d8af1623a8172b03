-- A chain's groups and runs: an instance binder is alone in its group, an arrow binder in its run, and neither a group nor a run
-- takes in what does not go with its first binder.
use mathlib.Core.Bool.{Bool, true, false, cond}
use mathlib.Core.List.{List, [], ◌∷◌}
use mathlib.Core.Path.{◌≡◌, refl, ◌∙◌}
use borrow.Author.Tests.{eq-eqb}
use Rattle.binders.specs.Runs.{leading, following, runs}
use Rattle.binders.specs.Binders.{Binder, same_group, goes_along, is_named_pi, is_arrow}
use Rattle.binders.proofs.RunLaws.{All, runs_are_leading}

module _ {A : Type 0} where
  none_pass : (test : A → Bool) → ((x : A) → test x ≡ false) → (xs : List A) → leading test xs ≡ []
  unfolding leading
  none_pass test h [] = refl
  none_pass test h (x ∷ xs) = rw (h x)

  all_stay : (test : A → Bool) → ((x : A) → test x ≡ false) → (xs : List A) → following test xs ≡ xs
  unfolding following
  all_stay test h [] = refl
  all_stay test h (x ∷ xs) = rw (h x)

  -- where nothing goes with the first, it is a run by itself
  pub alone : (goes : A → A → Bool) (x : A) → ((y : A) → goes x y ≡ false) → (xs : List A) → runs goes (x ∷ xs) ≡ (x ∷ []) ∷ runs goes xs
  alone goes x h xs = runs_are_leading goes x xs ∙ rw (none_pass (goes x) h xs, all_stay (goes x) h xs)

  -- each of a leading run passes the test
  pub leading_pass : (test : A → Bool) (xs : List A) → All (λ x. test x ≡ true) (leading test xs)
  unfolding leading All
  leading_pass test [] = tt
  leading_pass test (x ∷ xs) = by (test x) refl (leading_pass test xs)
    where
      by : (b : Bool) → test x ≡ b → All (λ y. test y ≡ true) (leading test xs) → All (λ y. test y ≡ true) (cond b (x ∷ leading test xs) [])
      by true e h = (e, h)
      by false e h = tt

-- "an instance binder is alone"
pub instance_alone : (b : Binder) → b.style ≡ 3 → (bs : List Binder) → runs same_group (b ∷ bs) ≡ (b ∷ []) ∷ runs same_group bs
unfolding same_group
instance_alone b e bs = alone same_group b (λ c. rw (eq-eqb b.style 3 e)) bs

-- an arrow binder is printed by itself
pub arrow_alone : (b : Binder) → is_arrow b ≡ true → b.is_pi ≡ true → (bs : List Binder) → runs goes_along (b ∷ bs) ≡ (b ∷ []) ∷ runs goes_along bs
unfolding goes_along is_named_pi
arrow_alone b e p bs = alone goes_along b (λ c. rw (e, p)) bs
