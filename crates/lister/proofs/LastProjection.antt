-- Pools without the last projection are accepted or refused, and listed, as before.
use Prim.Native.Nat.{ℕ, suc}
use native.Mathlib.Omega.{arith}
use mathlib.Core.Bool.{Bool, true, false}
use mathlib.Core.Path.{◌≡◌, refl}
use lib.Dec.{leb}
use borrow.Author.Tests.{leb-true, le-leb}
use Rattle.pool.specs.Rules.{last_projection}
use Rattle.pool_check.proofs.GreatestIndex.{verdict_agrees}
use Rattle.lister.specs.Source.{Source}
use Rattle.lister.specs.Prints.{print_with}
use Rattle.lister.specs.LastProjection.{Without, last_before, AsBefore}

-- an index that is not the last one is at most the last but one exactly if it is at most the last
not_last : (n i : ℕ) → (i ≡ suc n → ⊥) → leb i (suc n) ≡ leb i n
not_last n i h = by (leb i n) refl
  where
    by : (b : Bool) → leb i n ≡ b → leb i (suc n) ≡ b
    by true e = le-leb i (suc n) (let l = leb-true i n e in omega arith)
    by false e = grind (arith)

pub as_before : (source : Source) → Without source.words → AsBefore source
unfolding print_with
as_before source h =
    let same = verdict_agrees last_projection last_before source.bytes source.words (λ r l k. not_last last_before _ (h r l k)) in
    record { checked = same; printed = λ root indent width areas. rw same }
