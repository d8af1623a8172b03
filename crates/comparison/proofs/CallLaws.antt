-- Laws of the call: what each of its ends answers.
use Prim.Native.Nat.{ℕ, ◌<◌, ◌≤◌}
use mathlib.Core.Bool.{true, false, ◌&&◌}
use mathlib.Core.List.{List}
use mathlib.Core.Path.{◌≡◌, refl, sym, ap, ◌∙◌, subst}
use lib.Dec.{ltb}
use borrow.Author.Tests.{lt-ltb, le-ltb}
use Rattle.basics.proofs.Booleans.{and_intro, and-false}
use Rattle.std.specs.Prelude.{Some, None, Ok, Err}
use Rattle.pool.specs.Tables.{Pool, E, pool}
use Rattle.pool_check.specs.declared.PoolError.{PoolError}
use Rattle.pool_check.specs.Check.{verdict}
use Rattle.difference.specs.declared.walk.Found.{Found}
use Rattle.difference.specs.declared.walk.Found.TheVariants.{Differ, Equal, Unknown}
use Rattle.difference.specs.Order.{first_pair}
use Rattle.difference.specs.Walks.{Compares}
use Rattle.comparison.specs.declared.error.CompareError.TheVariants.{Root}
use Rattle.comparison.specs.declared.error.CompareError.TheVariants as errors
use Rattle.comparison.specs.Call.{answer_of, decided, comparison}

-- a row that is not there
pub first_missing : (first second n : ℕ) → n ≤ first → ltb first n && ltb second n ≡ false
first_missing first second n h = rw (le-ltb first n h)

pub second_missing : (first second n : ℕ) → n ≤ second → ltb first n && ltb second n ≡ false
second_missing first second n h = rw (le-ltb second n h) (and-false (ltb first n))

module _ (bs ws : List ℕ) (first second : ℕ) where
  pub pool_refused : (e : PoolError) → verdict bs ws ≡ Err e → Err (errors.Pool e) ≡ comparison bs ws first second
  unfolding comparison decided
  pool_refused e v = rw v

  module _ (v : verdict bs ws ≡ Ok tt) where
    pub row_missing : ltb first (E ws) && ltb second (E ws) ≡ false → Err Root ≡ comparison bs ws first second
    unfolding comparison decided
    row_missing e = rw (v, e)

    module _ (q : Pool) (same : q ≡ pool bs ws) (here : first < E q.words) (there : second < E q.words) where
      present : ltb first (E ws) && ltb second (E ws) ≡ true
      present = let e : E q.words ≡ E ws = ap (λ (p : Pool). E p.words) same in
          and_intro (subst (λ (n : ℕ). ltb first n ≡ true) e (lt-ltb _ _ here)) (subst (λ (n : ℕ). ltb second n ≡ true) e (lt-ltb _ _ there))

      answered : comparison bs ws first second ≡ answer_of (first_pair q 0 first second)
      unfolding comparison decided
      answered = rw (v, present, same)

      module _ (f : Found) (c : Compares (first_pair q 0 first second) 0 f) where
        pub rows_differ : (a b : ℕ) → f ≡ Differ a b → Ok (Some (record { first = a; second = b })) ≡ comparison bs ws first second
        unfolding answer_of
        rows_differ a b e = sym (answered ∙ ap answer_of (c.told.no a b e))

      -- nothing is lifted, so the comparison tells
      pub rows_equal : (f : Found) → Compares (first_pair q 0 first second) 0 f → ((a b : ℕ) → f ≡ Differ a b → ⊥) → Ok None ≡ comparison bs ws first second
      unfolding answer_of
      rows_equal (Differ a b) c other = absurd (other a b refl)
      rows_equal Equal c other = sym (answered ∙ ap answer_of (c.told.yes refl))
      rows_equal Unknown c other = absurd ((c.apart refl).1 refl)
