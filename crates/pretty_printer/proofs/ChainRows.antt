-- The rows of a chain whose names are on the stack: its parts, each an arrow binder or a run of others.
use Prim.Native.Nat.{ℕ, suc, ◌+◌, ◌<◌, ◌≤◌}
use native.Mathlib.Omega.{arith}
use mathlib.Core.Bool.{Bool, true, false}
use lib.ListN.{length}
use lib.Dec.{ltb, eqb}
use mathlib.Core.Path.{◌≡◌, refl, sym, ap, ◌∙◌}
use Rattle.document.specs.Sink.{State, put_join, emit}
use Rattle.pool.specs.Tables.{Pool, expr_word}
use Rattle.pool.specs.Tree.{Expr}
use Rattle.pool.specs.Unfold.{name_at, expr_at}
use Rattle.pieces.specs.Docs.{under}
use Rattle.pieces.specs.Parens.{open_if, close_if}
use Rattle.binders.specs.declared.printer.Printer.{Printer}
use Rattle.binders.specs.declared.stack.Stack.{Stack}
use Rattle.binders.specs.Asked.{InChain, PartEnd}
use Rattle.binders.specs.Binders.{is_arrow}
use Rattle.binders.specs.Options.{PpOptions, options_of, pool_of}
use Rattle.binders.specs.Scopes.{scoped, Chained}
use Rattle.binders.specs.Steps.{first_binder, binder_kind, part_length, chain_length, drop_chain, level_of}
use Rattle.binders.proofs.DropLaws.{Later, later_some, length-scoped, run-within}
use Rattle.binders.proofs.ScopeLaws.{chain_length_lem}
use Rattle.binders.proofs.ViewLaws.{BinderRow, binder_at, binder_row, length_made, run_starts}
use Rattle.pretty_printer.specs.Parts.{chain_part, run_part}
use Rattle.pretty_printer.proofs.PartLaws.{parts_at}

module _ (q : Printer) {k : Stack} {h m r : ℕ} (c : InChain (pool_of q) k h m r) where
  abbrev p : Pool
  p = pool_of q

  abbrev opts : PpOptions
  opts = options_of q

  abbrev w : ℕ → ℕ
  w i = expr_word p.words r i

  abbrev e : Expr
  e = expr_at p r

  -- after n binders, at a row below
  pub chain_later : (n x : ℕ) → 0 < n → n ≤ chain_length e → expr_at p x ≡ drop_chain n e → x < r → InChain p k (m + n) (m + n) x
  chain_later n x some few tree low =
      let l : Later p k h m n e = later_some p k h m n e some few in
      let ch : Chained p k (m + n) (m + n) (drop_chain n e) = l.chained c.chained in
      let len : length (scoped k (m + n) (m + n) (drop_chain n e)) + (m + n) ≡ k.count = chain_length_lem p k (m + n) (m + n) (drop_chain n e) ch in
      record {
        asked = record { held = c.asked.held; scope = omega arith; row = omega (arith, c.asked.row) };
        chained = rw tree ch;
      }

  -- the chain's first names are on the stack
  pub chain_room : (n : ℕ) → n ≤ chain_length e → m + n ≤ k.count
  chain_room n few =
      let len : length (scoped k h m e) + m ≡ k.count = chain_length_lem p k h m e c.chained in
      omega (arith, len, length-scoped k h m e)

  module _ (b : binder_kind (w 0) ≡ true) {v : Bool} (arrow : v ≡ is_arrow (first_binder e)) {x n : ℕ} (end : PartEnd p v r x n) where
    made : BinderRow p q.pool.sound r c.asked.row
    made = binder_at p q.pool.sound r c.asked.row b

    -- a part has a binder at least, and not more than the chain
    pub part_some : 0 < n
    unfolding part_length
    part_some = by v arrow end.length
      where
        by : (v : Bool) → v ≡ is_arrow (first_binder e) → n ≡ part_length v e → 0 < n
        by true f z = omega arith
        by false f z = rw z (run_starts e (sym (binder_row p q.pool.sound r c.asked.row) ∙ b) (sym f))

    pub part_few : n ≤ chain_length e
    unfolding part_length
    part_few = by v end.length
      where
        some : chain_length e ≡ suc (chain_length (expr_at p (w 4)))
        some = ap chain_length made.made ∙ length_made _ _ _ _ _ _

        by : (v : Bool) → n ≡ part_length v e → n ≤ chain_length e
        by true z = omega (arith, some)
        by false z = rw z (run-within (first_binder e).is_pi e)

    pub part_room : m + n ≤ k.count
    part_room = chain_room n part_few

    -- what follows the part
    pub part_later : InChain p k (m + n) (m + n) x
    part_later = chain_later n x part_some part_few end.tree end.low

    pub part_row : (outer level : ℕ) (st : State) → level ≡ level_of v →
        close_if (ltb level outer)
        (put_join (emit (under level (chain_part opts p k (m + n) (m + n) (expr_at p x))) (run_part opts p k v (first_binder e).is_pi h m n e (open_if (ltb level outer) st))))
        ≡ emit (under outer (chain_part opts p k h m e)) st
    part_row outer level st l =
        parts_at opts p k (eqb (w 0) 4) r (name_at p (w 1)) (w 2) (expr_at p (w 3)) (expr_at p (w 4))
        h m n (m + n) outer level v e (expr_at p x) st made.made arrow end.length end.tree refl l
