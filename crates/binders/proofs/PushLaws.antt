-- What the loop that puts a chain's names on the stack keeps.
use Prim.Native.Nat.{ℕ, suc, ◌+◌, ◌<◌, ◌≤◌}
use native.Mathlib.Omega.{arith}
use native.Mathlib.Numerals.{add-one}
use mathlib.Core.Bool.{true, false}
use mathlib.Core.Path.{◌≡◌, refl, sym, ap, ◌∙◌, subst}
use lib.Dec.{eqb}
use Rattle.pool.specs.Tables.{Pool, N, E, expr_word}
use Rattle.pool.specs.Tree.{Expr}
use Rattle.pool.specs.Unfold.{name_at, expr_at}
use Rattle.binders.specs.declared.printer.Printer.{Printer}
use Rattle.binders.specs.declared.stack.Entry.{Entry}
use Rattle.binders.specs.declared.stack.Stack.{Stack}
use Rattle.binders.specs.Options.{pool_of}
use Rattle.binders.specs.Scopes.{entry, Linked, Held, Grown, push, Chained}
use Rattle.binders.specs.Asked.{ChainPushed}
use Rattle.binders.specs.Steps.{binder_kind, chain_length}
use Rattle.binders.proofs.ScopeLaws.{push_last, push_grown, push_named, grown_grown, grown_self}
use Rattle.binders.proofs.ViewLaws.{binder_row, binder_at, length_made, chained_made, chained_none}

-- the names of the chain at row r up to row `at` were put on the stack k, which is l now
pub record Pushing (p : Pool) (k : Stack) (h r : ℕ) (l : Stack) (at scope : ℕ) : Type 0 where
  pub row : at < E p.words
  pub held : Held p l
  pub grown : Grown k l
  pub within : scope ≤ l.count
  pub room : l.count + chain_length (expr_at p at) ≤ 1024
  pub back : (m : Stack) → Grown l m → Chained p m scope l.count (expr_at p at) → Chained p m h k.count (expr_at p r)

module _ (p : Printer) {k : Stack} {h r : ℕ} {l : Stack} {at scope : ℕ} (i : Pushing (pool_of p) k h r l at scope) where
  abbrev w : ℕ → ℕ
  w j = expr_word (pool_of p).words at j

  abbrev tree : ℕ → Expr
  tree = expr_at (pool_of p)

  pub pushing_next : binder_kind (w 0) ≡ true → {name next : ℕ} {l' : Stack} → name ≡ w 1 → l' ≡ push l name scope → next ≡ w 4 →
      Pushing (pool_of p) k h r l' next l'.count
  pushing_next b {name} {next} {l'} ne le e =
      let v = binder_at (pool_of p) p.pool.sound at i.row b in
      let one_more : chain_length (tree at) ≡ suc (chain_length (tree (w 4))) = ap chain_length v.made ∙ length_made _ _ _ _ _ _ in
      let room : l.count < 1024 = omega (arith, i.room) in
      let linked : Linked l = i.held.linked in
      let bound : name < N (pool_of p).names = omega (arith, v.name) in
      let held : Held (pool_of p) (push l name scope) = push_named l name scope linked room (pool_of p) i.held bound i.within in
      let grown : Grown l l' = subst (λ (x : Stack). Grown l x) (sym le) (push_grown l name scope linked room) in
      let up : l'.count ≡ suc l.count = ap (λ (x : Stack). x.count) le ∙ add-one l.count in
      record {
        row = omega (arith, v.body, i.row);
        held = subst (λ (x : Stack). Held (pool_of p) x) (sym le) held;
        grown = grown_grown i.grown grown;
        within = omega arith;
        room = omega (arith, i.room, ap (λ (x : ℕ). chain_length (tree x)) e);
        back = λ m g c.
            let last : entry m l.count ≡ record { name = name; link = scope } =
            g.kept l.count (omega arith) ∙ ap (λ (x : Stack). entry x l.count) le ∙ push_last l name scope linked room in
            let rest : Chained (pool_of p) m (suc l.count) (suc l.count) (tree (w 4)) =
            subst (λ (x : ℕ). Chained (pool_of p) m x x (tree (w 4))) up (subst (λ (x : ℕ). Chained (pool_of p) m l'.count l'.count (tree x)) e c) in
            i.back m (grown_grown grown g)
            (subst (λ (x : Expr). Chained (pool_of p) m scope l.count x) (sym v.made)
            (chained_made (pool_of p) m scope l.count (eqb (w 0) 4) at (name_at (pool_of p) (w 1)) (w 2) (tree (w 3)) (tree (w 4))
            (ap (λ (x : Entry). x.link) last) (ap (λ (x : Entry). name_at (pool_of p) x.name) last ∙ ap (name_at (pool_of p)) ne) rest));
      }

  pub pushing_done : binder_kind (w 0) ≡ false → ChainPushed (pool_of p) k h (tree r) l
  pushing_done b = record {
    grown = i.grown;
    held = i.held;
    chained =
        i.back l (grown_self l) (chained_none (pool_of p) l scope l.count (tree at) (sym (binder_row (pool_of p) p.pool.sound at i.row) ∙ b) refl);
  }
