-- Laws of the tests of an expression row: its unused words, and what is asked of it.
use Prim.Native.Nat.{ℕ}
use mathlib.Core.Bool.{Bool, true, false, ◌&&◌}
use mathlib.Core.List.{List, [], ◌∷◌}
use mathlib.Core.Path.{◌≡◌, refl, sym}
use lib.Dec.{eqb, leb}
use Rattle.std.specs.Prelude.{None, Some}
use Rattle.std.specs.List.{fold}
use Rattle.basics.proofs.Booleans.{and-true}
use Rattle.pool.specs.Tables.{Pool, expr_word}
use Rattle.pool.specs.Kinds.{ExprKind, expr_kind}
use Rattle.pool.specs.Rules.{unused, expr_fields_ok, depth_by, loose_by, expr_ok_with, expr_ok}
use Rattle.expr_check.specs.declared.kinds.Asked.{Asked}
use Rattle.expr_check.specs.Fields.{asked_by}

pub unused_fold : (ws : List ℕ) (b : Bool) → fold (λ b w. b && eqb w 0) b ws ≡ b && unused ws
unfolding unused
unused_fold [] b = sym (and-true b)
unused_fold (w ∷ ws) true = unused_fold ws (eqb w 0)
unused_fold (w ∷ ws) false = unused_fold ws false

-- what is asked of a row decides on it
module _ (p : Pool) (r : ℕ) where
  abbrev kind : ExprKind
  kind = expr_kind (expr_word p.words r 0)

  abbrev as_asked : Asked → Bool
  as_asked w = eqb (expr_word p.words r 6) w.depth && (leb (expr_word p.words r 6) 256 && eqb (expr_word p.words r 7) w.loose)

  pub nothing_asked : None ≡ asked_by p r kind → false ≡ expr_ok p r
  unfolding expr_ok_with
  nothing_asked e = by (expr_fields_ok p r kind) refl
    where
      by : (b : Bool) → expr_fields_ok p r kind ≡ b → false ≡ expr_ok p r
      by false q = rw q
      by true q = let d = rw q at e in cc

  pub so_asked : (w : Asked) → Some w ≡ asked_by p r kind → as_asked w ≡ expr_ok p r
  unfolding expr_ok_with
  so_asked w e = by (expr_fields_ok p r kind) refl
    where
      by : (b : Bool) → expr_fields_ok p r kind ≡ b → as_asked w ≡ expr_ok p r
      by false q = let d = rw q at e in cc
      by true q =
          let d = rw q at e in
          let g : w ≡ record { depth = depth_by p r kind; loose = loose_by p r kind } = cc in
          rw (q, g)
