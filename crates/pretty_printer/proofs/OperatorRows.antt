-- The rows of an application on which the operator of a notation row acts.
use Prim.Native.Nat.{ℕ, zero, suc, ◌-◌, ◌<◌, ◌≤◌}
use native.Mathlib.Omega.{arith}
use mathlib.Core.Bool.{true}
use mathlib.Core.Path.{◌≡◌, refl, sym, ap, ◌∙◌}
use lib.Dec.{ltb, leb}
use borrow.Author.Tests.{ltb-true, leb-true}
use Rattle.std.specs.Prelude.{Some}
use Rattle.basics.proofs.Booleans.{and_left, and_right}
use Rattle.document.specs.Walk.{textᵐ}
use Rattle.document.specs.Sink.{State, put_join, put_break, put_nest, put_group, emit}
use Rattle.pool.specs.Kinds.{notation_kind}
use Rattle.pool.specs.Notation.{operator_at, notation_fields_ok, notation_ok}
use Rattle.pool.specs.Sound.{Sound}
use Rattle.pool.specs.Tables.{Pool, S, N, E, T, expr_word, notation_word}
use Rattle.pool.specs.Tree.{Expr, app}
use Rattle.pool.specs.Unfold.{expr_at}
use Rattle.pool.proofs.ExprUnfolds.{app_at, app_ok, label_word}
use Rattle.pieces.specs.Docs.{Parenable, under}
use Rattle.pieces.proofs.Emitting.{under_emits}
use Rattle.pieces.specs.Parens.{open_if, close_if}
use Rattle.binders.specs.declared.printer.Printer.{Printer}
use Rattle.binders.specs.declared.stack.Stack.{Stack}
use Rattle.binders.specs.Acting.{acting}
use Rattle.binders.specs.Operators.{prefix_par, postfix_par, infix_par}
use Rattle.binders.specs.Asked.{Asked}
use Rattle.binders.specs.Options.{PpOptions, options_of, pool_of}
use Rattle.pretty_printer.specs.Parts.{Operated, in_scope}
use Rattle.pretty_printer.proofs.OperatorLaws.{infix_function, prefix_prints, infix_prints, postfix_prints, prefix_puts, infix_puts, postfix_puts, levels_are}

-- the fields of a notation row
module _ (p : Pool) (sound : Sound p) (row : ℕ) (there : row < T p.words) where
  abbrev n : ℕ → ℕ
  n i = notation_word p.words row i

  fields : notation_fields_ok p row ≡ true
  unfolding notation_ok
  fields = and_left (notation_fields_ok p row) _ (sound.notation row there)

  pub notation_fields : (n 0 < N p.names) × (n 1 < 3) × (1 ≤ n 2) × (n 2 ≤ 1023) × (n 3 < S p.names)
  unfolding notation_fields_ok
  notation_fields =
      let f1 = and_right (ltb (n 0) (N p.names)) _ fields in
      let f2 = and_right (ltb (n 1) 3) _ f1 in
      let f3 = and_right (leb 1 (n 2)) _ f2 in (
        ltb-true (n 0) (N p.names) (and_left (ltb (n 0) (N p.names)) _ fields),
        ltb-true (n 1) 3 (and_left (ltb (n 1) 3) _ f1),
        leb-true 1 (n 2) (and_left (leb 1 (n 2)) _ f2),
        leb-true (n 2) 1023 (and_left (leb (n 2) 1023) _ f3),
        ltb-true (n 3) (S p.names) (and_right (leb (n 2) 1023) _ f3),
      )

module _ (q : Printer) {k : Stack} {h r row : ℕ} (a : Asked (pool_of q) k h r) (o : Operated (options_of q) (pool_of q) r row) where
  abbrev p : Pool
  p = pool_of q

  abbrev opts : PpOptions
  opts = options_of q

  abbrev w : ℕ → ℕ
  w i = expr_word p.words r i

  abbrev word : ℕ → ℕ
  word i = notation_word p.words row i

  sound : Sound p
  sound = q.pool.sound

  pub operator_priority : (1 ≤ word 2) × (word 2 ≤ 1024)
  operator_priority = let f = notation_fields p sound row o.there in (f.2, omega (arith, f.3))

  pub operator_kind : word 1 < 3
  operator_kind = let f = notation_fields p sound row o.there in f.1

  pub operator_rows : (w 1 < r) × (w 2 < r)
  operator_rows = app_ok p sound r a.row o.is_app

  tree : expr_at p r ≡ app (expr_at p (w 1)) (expr_at p (w 2))
  tree = app_at p sound r a.row o.is_app

  acts : acting opts (app (expr_at p (w 1)) (expr_at p (w 2))) ≡ Some (operator_at p row)
  acts = sym (ap (acting opts) tree) ∙ o.acts

  -- an infix operator's function is an application too
  pub infix_rows : word 1 ≡ 1 → (expr_word p.words (w 1) 0 ≡ 3) × (expr_word p.words (w 1) 1 < w 1) × (expr_word p.words (w 1) 2 < w 1)
  unfolding operator_at notation_kind
  infix_rows e =
      let low : w 1 < E p.words = let l = operator_rows in omega (arith, l.0, a.row) in
      let three : expr_word p.words (w 1) 0 ≡ 3 =
      sym (label_word p sound (w 1) low) ∙ infix_function opts (expr_at p (w 1)) (expr_at p (w 2)) (operator_at p row) acts (ap notation_kind e) in
      let below = app_ok p sound (w 1) low three in
      (three, below.0, below.1)

  -- an infix operator's operands
  infix_tree : word 1 ≡ 1 → expr_at p r ≡ app (app (expr_at p (expr_word p.words (w 1) 1)) (expr_at p (expr_word p.words (w 1) 2))) (expr_at p (w 2))
  infix_tree e =
      let low : w 1 < E p.words = let l = operator_rows in omega (arith, l.0, a.row) in
      let rows = infix_rows e in
      tree ∙ ap (λ (i : Expr). app i (expr_at p (w 2))) (app_at p sound (w 1) low rows.0)

  -- what each kind of operator makes of the row
  prefix_is : word 1 ≡ 0 → in_scope opts p k h (expr_at p r) ≡ prefix_par opts (operator_at p row) (in_scope opts p k h (expr_at p (w 2)))
  unfolding operator_at notation_kind
  prefix_is e = rw tree (prefix_prints opts p k h (expr_at p (w 1)) (expr_at p (w 2)) (operator_at p row) acts (ap notation_kind e))

  infix_is : word 1 ≡ 1
      → in_scope opts p k h (expr_at p r) ≡ infix_par opts (operator_at p row) (in_scope opts p k h (expr_at p (expr_word p.words (w 1) 2))) (in_scope opts p k h (expr_at p (w 2)))
  unfolding operator_at notation_kind
  infix_is e =
      rw (infix_tree e)
      (infix_prints opts p k h (expr_at p (expr_word p.words (w 1) 1)) (expr_at p (expr_word p.words (w 1) 2)) (expr_at p (w 2)) (operator_at p row)
      (sym (ap (acting opts) (infix_tree e)) ∙ o.acts) (ap notation_kind e))

  postfix_is : word 1 ≡ 2 → in_scope opts p k h (expr_at p r) ≡ postfix_par opts (operator_at p row) (in_scope opts p k h (expr_at p (w 2)))
  unfolding operator_at notation_kind
  postfix_is e = rw tree (postfix_prints opts p k h (expr_at p (w 1)) (expr_at p (w 2)) (operator_at p row) acts (ap notation_kind e))

  operator_level : (in_scope opts p k h (expr_at p r)).inner ≡ word 2 - 1
  unfolding operator_at
  operator_level = by (word 1) refl operator_kind
    where
      by : (n : ℕ) → word 1 ≡ n → n < 3 → (in_scope opts p k h (expr_at p r)).inner ≡ word 2 - 1
      by zero e l =
          let levels = levels_are opts (operator_at p row) (in_scope opts p k h (expr_at p (w 2))) (in_scope opts p k h (expr_at p r)) in
          ap (λ (q : Parenable). q.inner) (prefix_is e) ∙ levels.0
      by (suc zero) e l =
          let levels = levels_are opts (operator_at p row) (in_scope opts p k h (expr_at p (expr_word p.words (w 1) 2))) (in_scope opts p k h (expr_at p (w 2))) in
          ap (λ (q : Parenable). q.inner) (infix_is e) ∙ levels.1
      by (suc (suc zero)) e l =
          let levels = levels_are opts (operator_at p row) (in_scope opts p k h (expr_at p (w 2))) (in_scope opts p k h (expr_at p r)) in
          ap (λ (q : Parenable). q.inner) (postfix_is e) ∙ levels.2
      by (suc (suc (suc n))) e l = absurd (omega (arith, l))

  -- its parentheses
  pub operator_row : (level outer : ℕ) (st : State) → level ≡ word 2 →
      close_if (ltb (level - 1) outer) (emit (in_scope opts p k h (expr_at p r)).doc (open_if (ltb (level - 1) outer) st))
      ≡ emit (under outer (in_scope opts p k h (expr_at p r))) st
  operator_row level outer st z =
      rw (z, ← operator_level) (sym (under_emits outer (in_scope opts p k h (expr_at p r)) st))

  pub prefix_row : (x level : ℕ) (st : State) → word 1 ≡ 0 → x ≡ w 2 → level ≡ word 2 →
      put_join (emit (under level (in_scope opts p k h (expr_at p x))) (put_group (put_join (put_break 0 (emit (textᵐ (operator_at p row).string) st)))))
      ≡ emit (in_scope opts p k h (expr_at p r)).doc st
  unfolding operator_at
  prefix_row x level st e v z = rw (v, z, prefix_is e) (sym (prefix_puts opts (operator_at p row) (in_scope opts p k h (expr_at p (w 2))) st))

  pub postfix_row : (x level : ℕ) (st : State) → word 1 ≡ 2 → x ≡ w 2 → level ≡ word 2 →
      put_group (put_join (emit (textᵐ (operator_at p row).string) (put_join (put_break 0 (emit (under level (in_scope opts p k h (expr_at p x))) st)))))
      ≡ emit (in_scope opts p k h (expr_at p r)).doc st
  unfolding operator_at
  postfix_row x level st e v z = rw (v, z, postfix_is e) (sym (postfix_puts opts (operator_at p row) (in_scope opts p k h (expr_at p (w 2))) st))

  pub infix_row : (f x y level : ℕ) (st : State) → word 1 ≡ 1 → f ≡ w 1 → x ≡ expr_word p.words f 2 → y ≡ w 2 → level ≡ word 2 →
      put_nest opts.indent (put_group (put_join (emit (under level (in_scope opts p k h (expr_at p y)))
      (put_join (put_break 0 (put_join (emit (textᵐ (operator_at p row).string) (emit (under level (in_scope opts p k h (expr_at p x))) st))))))))
      ≡ emit (in_scope opts p k h (expr_at p r)).doc st
  unfolding operator_at
  infix_row f x y level st e g v t z =
      rw (v, g, t, z, infix_is e)
      (sym (infix_puts opts (operator_at p row) (in_scope opts p k h (expr_at p (expr_word p.words (w 1) 2))) (in_scope opts p k h (expr_at p (w 2))) st))
