-- Where no projection's index lies between two greatest ones, check says the same under both.
use Prim.Native.Nat.{ℕ, ◌<◌}
use native.Mathlib.Omega.{arith}
use mathlib.Core.List.{List}
use mathlib.Core.Path.{◌≡◌, refl}
use lib.Dec.{leb}
use Rattle.byte_check.proofs.Scan.{bad_agrees}
use Rattle.pool.specs.Kinds.{ExprKind, expr_kind, varᵏ, sortᵏ, constᵏ, appᵏ, piᵏ, lamᵏ, letᵏ, projᵏ, natᵏ, strᵏ, noExprᵏ}
use Rattle.pool.specs.Tables.{Pool, pool, E, expr_word}
use Rattle.pool.specs.Rules.{expr_fields_ok_with, expr_ok_with}
use Rattle.pool_check.specs.Check.{rows_verdict_with, verdict_with}

module _ (a b : ℕ) where
  -- the index of row r, where it is a projection, is allowed under both or under neither
  abbrev Agrees : List ℕ → ℕ → Type 0
  Agrees ws r = expr_kind (expr_word ws r 0) ≡ projᵏ → leb (expr_word ws r 2) a ≡ leb (expr_word ws r 2) b

  fields_agree : (p : Pool) (r : ℕ) (k : ExprKind) → (k ≡ projᵏ → leb (expr_word p.words r 2) a ≡ leb (expr_word p.words r 2) b)
      → expr_fields_ok_with p r a k ≡ expr_fields_ok_with p r b k
  unfolding expr_fields_ok_with
  fields_agree p r varᵏ h = refl
  fields_agree p r sortᵏ h = refl
  fields_agree p r constᵏ h = refl
  fields_agree p r appᵏ h = refl
  fields_agree p r piᵏ h = refl
  fields_agree p r lamᵏ h = refl
  fields_agree p r letᵏ h = refl
  fields_agree p r projᵏ h = rw (h refl)
  fields_agree p r natᵏ h = refl
  fields_agree p r strᵏ h = refl
  fields_agree p r noExprᵏ h = refl

  row_agrees : (p : Pool) (r : ℕ) → Agrees p.words r → expr_ok_with a p r ≡ expr_ok_with b p r
  unfolding expr_ok_with
  row_agrees p r h = rw (fields_agree p r (expr_kind (expr_word p.words r 0)) h)

  rows_agree : (p : Pool) → ((r : ℕ) → r < E p.words → Agrees p.words r) → rows_verdict_with a p ≡ rows_verdict_with b p
  unfolding rows_verdict_with
  rows_agree p h = rw (bad_agrees (expr_ok_with a p) (expr_ok_with b p) (E p.words) 0 (λ r l m. row_agrees p r (h r (omega arith))))

  pub verdict_agrees : (bs ws : List ℕ) → ((r : ℕ) → r < E ws → Agrees ws r) → verdict_with a bs ws ≡ verdict_with b bs ws
  unfolding verdict_with
  verdict_agrees bs ws h = rw (rows_agree (pool bs ws) h)
