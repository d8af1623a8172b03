-- What the row of a binder says of it.
use Prim.Native.Nat.{ℕ, suc, ◌<◌}
use mathlib.Core.Bool.{Bool, true, false, not}
use mathlib.Core.List.{[], ◌∷◌}
use mathlib.Core.Path.{◌≡◌, refl, sym, ap, ◌∙◌}
use lib.Dec.{eqb}
use Rattle.utf8.specs.Quoted.{bytes, encode}
use Rattle.document.specs.Sink.{State, put_text, emit}
use Rattle.pool.specs.Tables.{Pool, N, E, expr_word}
use Rattle.pool.specs.Tree.{Expr, occurs}
use Rattle.pool.specs.Unfold.{name_at, expr_at}
use Rattle.pool.specs.Sound.{Sound}
use Rattle.pieces.specs.Docs.{quoted}
use Rattle.pieces.proofs.Emitting.{emit_stopped}
use Rattle.binders.specs.declared.printer.Printer.{Printer}
use Rattle.binders.specs.Options.{pool_of}
use Rattle.binders.specs.Binders.{Binder}
use Rattle.binders.specs.Steps.{binder_kind, is_binder, first_binder, chain_length}
use Rattle.binders.proofs.ViewLaws.{binder_row, BinderRow, binder_at, length_made, length_none}

pub first_at_lem : (p : Pool) (sound : Sound p) (r : ℕ) (h : r < E p.words) → binder_kind (expr_word p.words r 0) ≡ true →
    first_binder (expr_at p r)
    ≡ record {
      is_pi = eqb (expr_word p.words r 0) 4;
      used = occurs 0 (expr_at p (expr_word p.words r 4));
      name = name_at p (expr_word p.words r 1);
      style = expr_word p.words r 2;
      type = expr_at p (expr_word p.words r 3);
      place = r;
    }
first_at_lem p sound r h b = (binder_at p sound r h b).first

-- ---- in a printer's pool

module _ (p : Printer) (r : ℕ) (h : r < E (pool_of p).words) where
  abbrev w : ℕ → ℕ
  w k = expr_word (pool_of p).words r k

  abbrev tree : ℕ → Expr
  tree = expr_at (pool_of p)

  module _ (b : binder_kind (w 0) ≡ true) where
    abbrev row : BinderRow (pool_of p) p.pool.sound r h
    row = binder_at (pool_of p) p.pool.sound r h b

    pub name_row : w 1 < N (pool_of p).names
    name_row = row.name

    pub type_row : w 3 < r
    type_row = row.type

    pub body_row : w 4 < r
    body_row = row.body

    pub pi_is : (first_binder (tree r)).is_pi ≡ eqb (w 0) 4
    pi_is = ap (λ (x : Binder). x.is_pi) row.first

    pub used_is : (first_binder (tree r)).used ≡ occurs 0 (tree (w 4))
    used_is = ap (λ (x : Binder). x.used) row.first

    pub name_is : (first_binder (tree r)).name ≡ name_at (pool_of p) (w 1)
    name_is = ap (λ (x : Binder). x.name) row.first

    pub style_is : (first_binder (tree r)).style ≡ w 2
    style_is = ap (λ (x : Binder). x.style) row.first

    pub type_is : (first_binder (tree r)).type ≡ tree (w 3)
    type_is = ap (λ (x : Binder). x.type) row.first

    pub length_is : chain_length (tree r) ≡ suc (chain_length (tree (w 4)))
    length_is = ap chain_length row.made ∙ length_made _ _ _ _ _ _

  pub is_binder_row : is_binder (tree r) ≡ binder_kind (w 0)
  is_binder_row = sym (binder_row (pool_of p) p.pool.sound r h)

  pub length_end : binder_kind (w 0) ≡ false → chain_length (tree r) ≡ 0
  length_end b = length_none (tree r) (is_binder_row ∙ b)

pub ruleset binder_rows = (name_row, type_row, body_row, pi_is, used_is, name_is, style_is, type_is, length_is, is_binder_row, length_end)

-- ---- its name's text

pub underscore : (st : State) → put_text (95 ∷ []) st ≡ emit (quoted "_") st
unfolding emit quoted bytes encode
underscore st = refl

pub ruleset name_texts = (binder_rows, underscore, emit_stopped)

-- ---- a test that was turned round

pub turned_true : (b : Bool) → not b ≡ true → b ≡ false
turned_true true e = sym e
turned_true false e = refl
