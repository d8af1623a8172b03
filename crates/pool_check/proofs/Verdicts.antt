-- Laws of the verdict, in the order of the check.
use Prim.Native.Nat.{ℕ}
use mathlib.Core.Bool.{Bool, true, false}
use mathlib.Core.List.{List}
use mathlib.Core.Path.{◌≡◌, refl, sym, ap, ◌∙◌}
use lib.Dec.{ltb}
use Rattle.std.specs.Prelude.{None, Some, is_none, Result, Ok, Err}
use Rattle.basics.proofs.Booleans.{true-false, false-true}
use Rattle.std.specs.Result.{IsErrAnd}
use Rattle.pool_check.specs.declared.PoolError.{PoolError}
use Rattle.pool_check.specs.declared.PoolError.TheVariants.{Words, Limit}
use Rattle.pool.specs.Tables.{Pool, pool}
use Rattle.byte_check.specs.Scan.{first_bad, found}
use Rattle.pool_check.specs.Stages.{limits}
use Rattle.pool_check.specs.Check.{in_table, words_ok, limits_ok, rows_verdict, verdict_with, verdict}

-- a table in the words of the code, which knows the first bad row
module _ (ok : ℕ → Bool) (count : ℕ) (refused : ℕ → PoolError) (next : Result Unit PoolError) where
  pub refused_here : (r : ℕ) → Some r ≡ found ok count → Err (refused r) ≡ in_table ok count refused next
  unfolding found
  refused_here r e = by (ltb (first_bad ok count 0) count) refl
    where
      by : (b : Bool) → ltb (first_bad ok count 0) count ≡ b → Err (refused r) ≡ in_table ok count refused next
      by true q = let f = rw q at e in let g : r ≡ first_bad ok count 0 = cc in rw (q, g)
      by false q = let f = rw q at e in absurd (cc)

  pub passed_on : None ≡ found ok count → next ≡ in_table ok count refused next
  unfolding found
  passed_on e = by (ltb (first_bad ok count 0) count) refl
    where
      by : (b : Bool) → ltb (first_bad ok count 0) count ≡ b → next ≡ in_table ok count refused next
      by true q = let f = rw q at e in absurd (cc)
      by false q = rw q

-- a table of which the code knows whether all rows are right, refused in one way whatever the row
module _ (ok : ℕ → Bool) (count : ℕ) (e : PoolError) (next : Result Unit PoolError) (right : Bool) (is : right ≡ is_none (found ok count)) where
  pub refused_whole : right ≡ false → Err e ≡ in_table ok count (λ r. e) next
  unfolding found
  refused_whole f = by (ltb (first_bad ok count 0) count) refl
    where
      by : (b : Bool) → ltb (first_bad ok count 0) count ≡ b → Err e ≡ in_table ok count (λ r. e) next
      by true q = rw q
      by false q = let g = rw q at is in true-false (sym g ∙ f)

  pub passed_whole : right ≡ true → next ≡ in_table ok count (λ r. e) next
  unfolding found
  passed_whole f = by (ltb (first_bad ok count 0) count) refl
    where
      by : (b : Bool) → ltb (first_bad ok count 0) count ≡ b → next ≡ in_table ok count (λ r. e) next
      by true q = let g = rw q at is in false-true (sym g ∙ f)
      by false q = rw q

-- the whole check of the pool p: w and l are what its two first tests find
module _ (bs ws : List ℕ) (p : Pool) (e : p ≡ pool bs ws) (w : Bool) (ew : w ≡ words_ok p.words) where
  head_read : (b : Bool) → w ≡ b → words_ok ws ≡ b
  head_read b y = sym (ew ∙ ap (λ (q : Pool). words_ok q.words) e) ∙ y

  pub verdict_words : w ≡ false → Err Words ≡ verdict bs ws
  unfolding verdict_with
  verdict_words y = rw (head_read false y)

  module _ (y : w ≡ true) (l : Bool) (el : l ≡ limits p) where
    limits_read : (b : Bool) → l ≡ b → limits_ok bs ws ≡ b
    limits_read b z = sym (el ∙ ap limits e) ∙ z

    pub verdict_limit : l ≡ false → Err Limit ≡ verdict bs ws
    unfolding verdict_with
    verdict_limit z = rw (head_read true y, limits_read false z)

    pub verdict_rows : l ≡ true → rows_verdict p ≡ verdict bs ws
    unfolding verdict_with
    verdict_rows z = rw (head_read true y, limits_read true z) (ap rows_verdict e)

-- what `?` hands on
pub err_is : {A E : Type 0} (r : Result A E) (e : E) → IsErrAnd r (λ d. d ≡ e) → r ≡ Err e
err_is (Ok u) e h = absurd h
err_is (Err d) e h = ap (λ (x : _). Err x) h
