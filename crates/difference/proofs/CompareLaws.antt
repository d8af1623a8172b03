-- Laws of the comparison: what a walk of two rows asks and tells, and what a sweep does.
use Prim.Native.Nat.{ℕ, suc, ◌<◌}
use native.Mathlib.Omega.{arith}
use mathlib.Core.Bool.{Bool, true, false}
use mathlib.Core.List.{List}
use mathlib.Core.Path.{◌≡◌, refl, sym, ap, ◌∙◌, subst}
use Rattle.basics.proofs.Booleans.{true-false, not_so}
use Rattle.std.specs.Prelude.{Option, None}
use Rattle.pool.specs.Tables.{Pool, E}
use Rattle.pool.specs.Sound.{Sound}
use Rattle.compare.specs.Equal.{trees_same}
use Rattle.difference.specs.declared.walk.Found.{Found}
use Rattle.difference.specs.declared.walk.Found.TheVariants.{Differ, Equal, Unknown}
use Rattle.difference.specs.Order.{Comparison, first_pair}
use Rattle.difference.specs.Walks.{first_at, Tells, Walked, Compares}
use Rattle.difference.proofs.OrderLaws.{is_equal, equal_is, equal_trees}

module _ (pool : Pool) (d a b : ℕ) where
  rows_told : first_at (suc a) pool d 0 (suc a) (suc b) ≡ first_pair pool d a b
  unfolding first_at first_pair
  rows_told = refl

  module _ (steps left : Option ℕ) (kept : List ℕ) (v : Found) (w : Walked pool d 0 (suc a) (suc b) steps left kept v) where
    pub walk_tells : Tells (first_pair pool d a b) v
    walk_tells = subst (λ (k : Comparison). Tells k v) rows_told (w.told (suc a) (omega arith))

    pub walk_compares : steps ≡ None → Compares (first_pair pool d a b) d v
    walk_compares e = record { told = walk_tells; apart = λ q. absurd (w.sure e q) }

  module _ (sound : Sound pool) (ha : a < E pool.words) (hb : b < E pool.words) where
    is_equal_lem : is_equal (first_pair pool d a b) ≡ trees_same pool d 0 a b
    unfolding first_pair
    is_equal_lem = equal_trees pool sound (suc a) d 0 a b ha hb (omega arith)

    pub sweep_equal : trees_same pool d 0 a b ≡ true → Compares (first_pair pool d a b) d Equal
    sweep_equal s =
        record { told = record { no = λ x y e. cc; yes = λ e. equal_is _ (is_equal_lem ∙ s) }; apart = λ e. cc }

    pub sweep_differs : trees_same pool d 0 a b ≡ false → (d ≡ 0 → ⊥) → Compares (first_pair pool d a b) d Unknown
    unfolding is_equal
    sweep_differs s n =
        record {
          told = record { no = λ x y e. cc; yes = λ e. cc };
          apart = λ e. (λ l. true-false (sym (ap is_equal l) ∙ is_equal_lem ∙ s), n);
        }

    pub compare_is : (v : Found) → Compares (first_pair pool d a b) d v → (r : Bool) → (v ≡ Equal → r ≡ true) → ((v ≡ Equal → ⊥) → r ≡ false)
        → r ≡ trees_same pool d 0 a b
    unfolding is_equal
    compare_is Equal c r f g = f refl ∙ sym (ap is_equal (c.told.yes refl)) ∙ is_equal_lem
    compare_is (Differ x y) c r f g = g (λ e. cc) ∙ sym (ap is_equal (c.told.no x y refl)) ∙ is_equal_lem
    compare_is Unknown c r f g =
        g (λ e. cc) ∙ sym (not_so _ (λ e. (c.apart refl).0 (equal_is _ (is_equal_lem ∙ e))))
