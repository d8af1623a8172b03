-- What an entry says of the operator of a name.
use Prim.Native.Nat.{ℕ, zero, suc, ◌+◌, ◌<◌}
use native.Mathlib.Omega.{arith}
use mathlib.Core.Bool.{Bool, true, false, cond}
use mathlib.Core.Path.{◌≡◌, refl}
use Rattle.std.specs.Prelude.{Option, None, Some}
use Rattle.pool.specs.Notation.{Operator, operator_at, operator_name, operator_from, operator_of, same_name}
use Rattle.pool.specs.Tables.{Pool, T}
use Rattle.pool.specs.Tree.{Name}
use Rattle.notation.specs.Tables.{entry_from, entry_of}

-- 0 says that there is no operator, and else the row before it gives the operator
pub record Says (p : Pool) (o : Option Operator) (rows entry : ℕ) : Type 0 where
  pub none : entry ≡ 0 → o ≡ None
  pub gives : (t : ℕ) → entry ≡ suc t → (t < rows) × (o ≡ Some (operator_at p t))

module _ (p : Pool) (n : Name) where
  first_says : (left r : ℕ) (b : Bool) → Says p (operator_from p n left (suc r)) (suc r + left) (entry_from p n left (suc r))
      → Says p (cond b (Some (operator_at p r)) (operator_from p n left (suc r))) (r + suc left) (cond b (suc r) (entry_from p n left (suc r)))
  first_says left r true later =
      record { none = λ e. absurd (omega (arith, e)); gives = λ t e. let q : t ≡ r = omega (arith, e) in (omega arith, rw q) }
  first_says left r false later =
      record { none = later.none; gives = λ t e. let g = later.gives t e in (omega (arith, g.0), g.1) }

  from_says : (left r : ℕ) → Says p (operator_from p n left r) (r + left) (entry_from p n left r)
  unfolding operator_from entry_from
  from_says zero r = record { none = λ e. refl; gives = λ t e. absurd (omega (arith, e)) }
  from_says (suc left) r = first_says left r (same_name (operator_name p r) n) (from_says left (suc r))

  pub entry_says : Says p (operator_of p n) (T p.words) (entry_of p n)
  unfolding operator_of
  entry_says = let e : 0 + T p.words ≡ T p.words = omega arith in rw e at (from_says (T p.words) 0)
