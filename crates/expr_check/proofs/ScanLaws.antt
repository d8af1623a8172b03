-- Laws of the scan of the expressions.
use Prim.Native.Nat.{ℕ, ◌+◌, ◌<◌}
use native.Mathlib.Omega.{arith}
use mathlib.Core.Bool.{Bool, true, false}
use mathlib.Core.List.{List, []}
use mathlib.Core.Path.{◌≡◌, refl, sym, ◌∙◌}
use mathlib.Core.Logic.{◌⊎◌, inl, inr}
use lib.Dec.{leb}
use borrow.Author.Tests.{leb-true, leb-false}
use Rattle.basics.proofs.Booleans.{true-false}
use Rattle.std.specs.Prelude.{Option, None, Some}
use Rattle.pool.specs.Tables.{Pool, E, expr_word}
use Rattle.pool.specs.Rules.{expr_ok}
use Rattle.byte_check.specs.Scan.{found}
use Rattle.byte_check.specs.Runs.{Marked}
use Rattle.byte_check.proofs.Scan.{found_at, found_none}
use Rattle.expr_check.specs.Marks.{MarkedFor, Right, Scanned}

module _ (p : Pool) where
  -- a row that the code takes, where v is what it finds of it
  pub taken_right : (marks : List ℕ) (r : ℕ) (v : Bool) → (marks ≡ []) ⊎ Marked p marks → (MarkedFor p marks r → v ≡ expr_ok p r)
      → (marks ≡ [] → expr_word p.words r 0 ≡ 8 → v ≡ false) → v ≡ true → expr_ok p r ≡ true
  taken_right marks r v (inr m) f g e = sym (f (λ q. m)) ∙ e
  taken_right marks r v (inl n) f g e = sym (f (λ q. true-false (sym e ∙ g n q))) ∙ e

  pub right_more : (from r : ℕ) → Right p from r → expr_ok p r ≡ true → Right p from (r + 1)
  right_more from r h e k l g = by (leb r k) refl
    where
      by : (b : Bool) → leb r k ≡ b → expr_ok p k ≡ true
      by true q = let s : k ≡ r = omega (arith, leb-true r k q) in rw s e
      by false q = h k l (leb-false r k q)

  right_join : (from to : ℕ) → Right p 0 from → Right p from to → (k : ℕ) → k < to → expr_ok p k ≡ true
  right_join from to a b k l = by (leb from k) refl
    where
      by : (x : Bool) → leb from k ≡ x → expr_ok p k ≡ true
      by true q = b k (leb-true from k q) l
      by false q = a k (omega arith) (leb-false from k q)

  -- a scan over marked strings finds the first bad row of the table, where those before its own are right
  pub scanned_found : (marks : List ℕ) (from : ℕ) (v : Option ℕ) → Right p 0 from → Marked p marks → Scanned p marks from v → v ≡ found (expr_ok p) (E p.words)
  scanned_found marks from None a m s = found_none (expr_ok p) (E p.words) (right_join from (E p.words) a s)
  scanned_found marks from (Some r) a m s = found_at (expr_ok p) (E p.words) r s.1 (right_join from r a s.3) (s.2 (λ e. m))
