-- The printers' rows, kind by kind: what is asked of a row holds of its parts, and what the code puts is what the definition puts.
use Prim.Native.Nat.{ℕ, ◌+◌, ◌<◌, ◌≤◌}
use native.Mathlib.Omega.{arith}
use mathlib.Core.Bool.{Bool, true, false}
use mathlib.Core.Path.{◌≡◌, sym, ap, ◌∙◌}
use lib.Dec.{ltb, eqb}
use Rattle.pool.specs.Tables.{Pool, expr_word}
use Rattle.pool.specs.Sound.{Sound}
use Rattle.pool.specs.Tree.{Expr, var, sort, const, app, pi, lam, letᵉ, proj, nat, str, depth}
use Rattle.pool.specs.Unfold.{name_at, expr_at}
use Rattle.pool.proofs.ExprUnfolds.{var_at, app_at, let_at, proj_at, label_word, depth-word, depth_small}
use Rattle.std.specs.Prelude.{None, is_none}
use Rattle.binders.specs.Acting.{acting}
use Rattle.document.specs.Sink.{State, written_of, put_join, put_nest, put_group, put_names, emit}
use Rattle.pieces.specs.Docs.{under}
use Rattle.names.specs.Names.{name_doc}
use Rattle.pieces.specs.Parens.{open_if, close_if}
use Rattle.pieces.proofs.Emitting.{emit_stopped}
use Rattle.binders.specs.declared.stack.Stack.{Stack}
use Rattle.binders.specs.Asked.{Asked, ChainPushed}
use Rattle.binders.specs.Binders.{Binder, is_arrow}
use Rattle.binders.specs.Variables.{var_doc}
use Rattle.binders.specs.Scopes.{names_of, place_in, push}
use Rattle.binders.specs.Steps.{first_binder, binder_kind, chain_length}
use Rattle.pieces.specs.Puts.{put_colon, put_arrow, start_run, end_run}
use Rattle.pretty_printer.specs.Parts.{in_scope, app_part, chain_part, groups_part, run_part, let_head, let_body}
use Rattle.binders.specs.Leaves.{leaf_kind, leaf_doc}
use Rattle.pieces.specs.Puts.{end_proj, start_let, put_assign, end_let}
use Rattle.binders.specs.Steps.{level_of}
use Rattle.binders.proofs.ScopeLaws.{push_named}
use Rattle.binders.proofs.ViewLaws.{binder_at, binder_row}
use Rattle.binders.proofs.BinderLaws.{first_at_lem}
use Rattle.pretty_printer.proofs.PartLaws.{part_none}
use Rattle.pretty_printer.proofs.CallLaws.{var_prints, leaf_prints, proj_prints, app_prints, head_prints, let_prints, let_body_lem, chain_stops}
use Rattle.pretty_printer.proofs.CallLaws.{chain_goes_on}
use Rattle.pretty_printer.proofs.RowWords.{let_name, let_inside}
use Rattle.binders.specs.Options.{PpOptions, options_of, pool_of}
use Rattle.binders.specs.declared.printer.Printer.{Printer}

-- a chain is not longer than its tree is deep
chain_deep : (e : Expr) → chain_length e ≤ depth e
unfolding chain_length depth
chain_deep (var i) = omega arith
chain_deep (sort l) = omega arith
chain_deep (const n ls) = omega arith
chain_deep (app f a) = omega arith
chain_deep (pi q n s t b) = omega (arith, chain_deep b)
chain_deep (lam q n s t b) = omega (arith, chain_deep b)
chain_deep (letᵉ q n t v b d) = omega arith
chain_deep (proj n i e) = omega arith
chain_deep (nat s) = omega arith
chain_deep (str s) = omega arith

module _ (q : Printer) {k : Stack} {h r : ℕ} (a : Asked (pool_of q) k h r) where
  abbrev p : Pool
  p = pool_of q

  abbrev w : ℕ → ℕ
  w i = expr_word p.words r i

  sound : Sound p
  sound = q.pool.sound

  -- a row below, in the same scope
  pub asked_below : (x : ℕ) → x < r → Asked p k h x
  asked_below x l = record { held = a.held; scope = a.scope; row = omega (arith, a.row) }

  -- a let's body, its name on the stack
  pub asked_inside : (x name : ℕ) (l : Stack) → w 0 ≡ 6 → x ≡ w 4 → name ≡ w 1 → k.count + 1 ≤ 1024 → l ≡ push k name h → Asked p l (k.count + 1) x
  asked_inside x name l e z n room is =
      let below : w 4 < r = let_inside q r a.row e in
      record {
        held = rw is (push_named k name h a.held.linked (omega arith) p a.held (rw n (let_name q r a.row e)) a.scope);
        scope = rw is (omega arith);
        row = omega (arith, a.row);
      }

  abbrev opts : PpOptions
  opts = options_of q

  pub var_row : (i outer : ℕ) (st : State) → w 0 ≡ 0 → i ≡ w 1 → outer ≤ 1024 →
      emit (var_doc (names_of p k) (place_in k h i) (place_in k h i)) st ≡ emit (under outer (in_scope opts p k h (expr_at p r))) st
  var_row i outer st e z l = rw (var_at p sound r a.row e, z) (var_prints opts p k h outer (w 1) st l)

  pub leaf_row : (outer : ℕ) (st : State) → leaf_kind (w 0) ≡ true → outer ≤ 1024 → emit (leaf_doc (expr_at p r)) st ≡ emit (under outer (in_scope opts p k h (expr_at p r))) st
  leaf_row outer st e l = leaf_prints opts p k h outer (expr_at p r) st l (ap leaf_kind (label_word p sound r a.row) ∙ e)

  pub proj_row : (x i : ℕ) (st : State) → w 0 ≡ 7 → x ≡ w 3 → i ≡ w 2 →
      end_proj i (emit (under 1024 (in_scope opts p k h (expr_at p x))) st) ≡ emit (under 1024 (in_scope opts p k h (expr_at p r))) st
  proj_row x i st e z y = rw (proj_at p sound r a.row e, z, y) (sym (proj_prints opts p k h 1024 (name_at p (w 1)) (w 2) (expr_at p (w 3)) st (omega arith)))

  -- a projection's level is the highest
  pub proj_level : (outer : ℕ) (st : State) → w 0 ≡ 7 → outer ≤ 1024 → emit (under 1024 (in_scope opts p k h (expr_at p r))) st ≡ emit (under outer (in_scope opts p k h (expr_at p r))) st
  proj_level outer st e l =
      rw (proj_at p sound r a.row e)
      (proj_prints opts p k h 1024 (name_at p (w 1)) (w 2) (expr_at p (w 3)) st (omega arith)
      ∙ sym (proj_prints opts p k h outer (name_at p (w 1)) (w 2) (expr_at p (w 3)) st l))

  pub app_row : (outer : ℕ) (st : State) → w 0 ≡ 3 → acting opts (expr_at p r) ≡ None →
      close_if (ltb 1023 outer) (put_nest opts.indent (put_group (emit (app_part opts p k h (expr_at p r)) (open_if (ltb 1023 outer) st))))
      ≡ emit (under outer (in_scope opts p k h (expr_at p r))) st
  app_row outer st e n =
      rw (app_at p sound r a.row e)
      (sym (app_prints opts p k h outer (expr_at p (w 1)) (expr_at p (w 2)) st (sym (ap (acting opts) (app_at p sound r a.row e)) ∙ n)))

  pub head_row : (st : State) → (w 0 ≡ 3 → ⊥) → put_group (emit (under 1023 (in_scope opts p k h (expr_at p r))) st) ≡ emit (app_part opts p k h (expr_at p r)) st
  head_row st n = sym (head_prints opts p k h (expr_at p r) st (λ e. n (sym (label_word p sound r a.row) ∙ e)))

  pub let_row : (outer : ℕ) (st : State) → w 0 ≡ 6 →
      close_if (ltb 0 outer)
      (put_group (put_join (let_body opts p k h r (name_at p (w 1)) (expr_at p (w 4)) (let_head opts p k h (name_at p (w 1)) (expr_at p (w 2)) (expr_at p (w 3)) (open_if (ltb 0 outer) st)))))
      ≡ emit (under outer (in_scope opts p k h (expr_at p r))) st
  let_row outer st e =
      rw (let_at p sound r a.row e) (sym (let_prints opts p k h outer r (name_at p (w 1)) (expr_at p (w 2)) (expr_at p (w 3)) (expr_at p (w 4)) (w 5) st))

  -- a let's head, by the rows of its parts
  pub let_head_row : (n x y : ℕ) (st : State) → n ≡ w 1 → x ≡ w 2 → y ≡ w 3 →
      end_let q.indent (emit (under 0 (in_scope opts p k h (expr_at p y)))
      (put_assign (emit (under 1 (in_scope opts p k h (expr_at p x)))
      (put_colon (emit (name_doc (name_at p n)) (start_let st))))))
      ≡ let_head opts p k h (name_at p (w 1)) (expr_at p (w 2)) (expr_at p (w 3)) st
  unfolding let_head
  let_head_row n x y st e f g = rw (e, f, g)

  pub let_stops : (n : ℕ) (st : State) (name : ℕ) (x : Expr) → n ≡ k.count + 1 → is_none (written_of (put_names r n st)).stop ≡ false →
      put_names r n st ≡ let_body opts p k h r (name_at p name) x st
  unfolding let_body
  let_stops n st name x c s = rw (← c) (sym (emit_stopped _ (put_names r n st) s))

  pub let_goes_on : (n name x : ℕ) (l : Stack) (st : State) → n ≡ k.count + 1 → name ≡ w 1 → x ≡ w 4 → k.count < 1024 → l ≡ push k name h →
      emit (under 0 (in_scope opts p l n (expr_at p x))) (put_names r n st) ≡ let_body opts p k h r (name_at p (w 1)) (expr_at p (w 4)) st
  let_goes_on n name x l st c y z room is =
      rw (← y, ← z, c) (let_body_lem opts p k h name r (expr_at p x) l st a.held.linked room a.scope is)

  pub chain_row_stops : (outer level count : ℕ) (v : Bool) (st : State) → binder_kind (w 0) ≡ true → v ≡ is_arrow (first_binder (expr_at p r)) → level ≡ level_of v →
      count ≡ k.count + chain_length (expr_at p r) → is_none (written_of (put_names r count (open_if (ltb level outer) st))).stop ≡ false →
      put_names r count (open_if (ltb level outer) st) ≡ emit (under outer (in_scope opts p k h (expr_at p r))) st
  chain_row_stops outer level count v st b f l c s =
      chain_stops opts p k h (eqb (w 0) 4) r (name_at p (w 1)) (w 2) (expr_at p (w 3)) (expr_at p (w 4)) (expr_at p r) outer level count v st (binder_at p sound r a.row b).made f l c s

  pub chain_row_goes_on : (outer level count : ℕ) (v : Bool) (l : Stack) (st : State) → binder_kind (w 0) ≡ true → v ≡ is_arrow (first_binder (expr_at p r)) → level ≡ level_of v →
      count ≡ k.count + chain_length (expr_at p r) → ChainPushed p k h (expr_at p r) l →
      close_if (ltb level outer) (emit (under 0 (chain_part opts p l h k.count (expr_at p r))) (put_names r count (open_if (ltb level outer) st)))
      ≡ emit (under outer (in_scope opts p k h (expr_at p r))) st
  chain_row_goes_on outer level count v l st b f e c ch =
      chain_goes_on opts p k h (eqb (w 0) 4) r (name_at p (w 1)) (w 2) (expr_at p (w 3)) (expr_at p (w 4)) (expr_at p r) outer level count v l st
      (binder_at p sound r a.row b).made f e c a.held a.scope ch

  pub tail_row : (m outer : ℕ) (st : State) → binder_kind (w 0) ≡ false →
      emit (under outer (in_scope opts p k h (expr_at p r))) st ≡ emit (under outer (chain_part opts p k h m (expr_at p r))) st
  tail_row m outer st n = rw (part_none opts p k h m (expr_at p r) (sym (binder_row p sound r a.row) ∙ n))

  pub arrow_row : (v : Bool) (x m n : ℕ) (st : State) → binder_kind (w 0) ≡ true → v ≡ true → x ≡ w 3 →
      put_arrow opts.indent (emit (under 25 (in_scope opts p k h (expr_at p x))) st) ≡ run_part opts p k v (first_binder (expr_at p r)).is_pi h m n (expr_at p r) st
  unfolding run_part
  arrow_row v x m n st b e z = rw (e, first_at_lem p sound r a.row b, z)

  pub run_row : (v : Bool) (kind m n : ℕ) (st : State) → binder_kind (w 0) ≡ true → v ≡ false → kind ≡ w 0 →
      end_run opts.indent (eqb kind 4) (groups_part opts p k true h m n (expr_at p r) (start_run (eqb kind 4) st))
      ≡ run_part opts p k v (first_binder (expr_at p r)).is_pi h m n (expr_at p r) st
  unfolding run_part
  run_row v kind m n st b e z = rw (e, z, sym (ap (λ (x : Binder). x.is_pi) (first_at_lem p sound r a.row b)))

  pub chain_short : chain_length (expr_at p r) ≤ 256
  chain_short =
      let d : w 6 ≡ depth (expr_at p r) = depth-word p sound r a.row in
      let s : w 6 ≤ 256 = depth_small p sound r a.row in
      omega (arith, chain_deep (expr_at p r))
