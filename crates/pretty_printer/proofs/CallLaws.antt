-- Expressions in a scope, kind by kind: what the printers put for each.
use Prim.Native.Nat.{ℕ, zero, suc, ◌+◌, ◌<◌, ◌≤◌}
use native.Mathlib.Omega.{arith}
use mathlib.Core.Bool.{Bool, true, false, cond}
use mathlib.Core.List.{List, ◌∷◌}
use mathlib.Core.Path.{◌≡◌, refl, sym, ap, ap₂, ◌∙◌}
use lib.Dec.{ltb, leb}
use lib.ListN.{length}
use borrow.Author.Tests.{le-ltb, leb-true}
use Rattle.document.specs.Walk.{Marked, textᵐ}
use Rattle.document.specs.Sink.State.{state}
use Rattle.std.specs.Prelude.{is_none}
use Rattle.document.specs.declared.written.Stop.TheVariants.{Names}
use Rattle.document.specs.Sink.{State, written_of, stopped_at, refuse, put_text, put_join, put_break, put_nest, put_group, put_names, emit}
use Rattle.pool.specs.Tables.{Pool}
use Rattle.pool.specs.Tree.{Name, Expr, var, sort, const, app, pi, lam, letᵉ, proj, nat, str, shape, occurs, lift}
use Rattle.pool.proofs.TreeLaws.{label}
use Rattle.pool.specs.Unfold.{name_at}
use Rattle.pieces.specs.Docs.{◌⊹◌, quoted, G, NG, Parenable, with_inner, under, number_doc}
use Rattle.names.specs.Names.{name_doc}
use Rattle.levels.specs.Levels.{sort_doc}
use Rattle.pieces.specs.Parens.{open_if, close_if}
use Rattle.pieces.specs.Tiles.{end_tile}
use Rattle.pieces.proofs.Emitting.{under_emits, emit_stopped}
use Rattle.utf8.specs.Quoted.{bytes}
use Rattle.document.proofs.Steps.{stays_join}
use Rattle.binders.specs.declared.stack.Entry.{Entry}
use Rattle.binders.specs.declared.stack.Stack.{Stack}
use Rattle.binders.specs.Binders.{Binder, binders, chain_body, pushed, in_force, is_arrow, binders_par}
use Rattle.pretty_printer.specs.Exprs.{chain_par, let_par, expr_par}
use Rattle.binders.specs.Variables.{var_doc}
use Rattle.binders.specs.Rename.{up, rename}
use Rattle.binders.specs.Scopes.{entry, names_below, names_of, place_in, push, scoped, last_scope, Linked, Held, Grown}
use Rattle.binders.specs.Asked.{ChainPushed}
use Rattle.binders.specs.Steps.{spine_doc, first_binder, mk_binder, chain_length}
use Rattle.pieces.specs.Puts.{join_piece, join_line, put_colon}
use Rattle.pretty_printer.specs.Parts.{in_scope, app_part, chain_part, let_head, let_body}
use Rattle.binders.specs.Leaves.{leaf_kind, leaf_doc}
use Rattle.pieces.specs.Puts.{end_proj, start_let, put_assign, end_let}
use Rattle.binders.specs.Steps.{level_of}
use Rattle.binders.proofs.RenameLaws.{rename_agrees, own_variable}
use Rattle.binders.proofs.ScopeLaws.{chain_is_scoped, body_is_scoped, names_are_pushed, chain_under, grown_names, let_scope, push_last, push_grown}
use Rattle.pretty_printer.proofs.ExprLaws.{prints_var, prints_sort, prints_const, prints_nat, prints_str, prints_proj, prints_pi, prints_lam}
use Rattle.pretty_printer.proofs.ExprLaws.{prints_let}
use Rattle.pretty_printer.proofs.OperatorLaws.{idle_prints}
use Rattle.binders.specs.Acting.{acting}
use Rattle.std.specs.Prelude.{None}
use Rattle.pretty_printer.proofs.EmitLaws.{app_is_spine}
use Rattle.binders.proofs.ViewLaws.{first_made}
use Rattle.pretty_printer.proofs.PartLaws.{binders_level, arrow_type}
use Rattle.binders.specs.Options.{PpOptions}
use Rattle.binders.specs.Shown.{NamesInForce}

-- ---- levels

-- a part of the highest level is never in parentheses
pub under_top : (outer : ℕ) (q : Parenable) → outer ≤ 1024 → q.inner ≡ 1024 → under outer q ≡ q.doc
unfolding under
under_top outer q h e = rw (e, le-ltb 1024 outer h)

pub under-zero : (q : Parenable) → under 0 q ≡ q.doc
unfolding under
under-zero q = rw (le-ltb q.inner 0 (omega arith))

-- the nest and the group of an application, inside its parentheses
wrapped : (opts : PpOptions) (d : Marked) (v : Bool) (st : State) → close_if v (emit (NG opts.indent d) (open_if v st)) ≡ close_if v (put_nest opts.indent (put_group (emit d (open_if v st))))
unfolding emit
wrapped opts d v st = refl

names_length : (p : Pool) (k : Stack) (n : ℕ) → length (names_below p k n) ≡ n
unfolding names_below
names_length p k zero = refl
names_length p k (suc n) = ap suc (names_length p k n)

pub names_counted : (p : Pool) (k : Stack) → length (names_of p k) ≡ k.count
unfolding names_of
names_counted p k = names_length p k k.count

module _ (opts : PpOptions) (p : Pool) (k : Stack) (h : ℕ) where
  -- what a let puts, inside its parentheses
  let_puts : (q : ℕ) (n : Name) (t v b : Expr) (w : Bool) (st : State) →
      close_if w (emit (let_par opts q (suc (length (names_of p k))) n (expr_par opts (names_of p k) (rename (place_in k h) t)) (expr_par opts (names_of p k)
      (rename (place_in k h) v)) (expr_par opts (n ∷ names_of p k) (rename (up (place_in k h)) b))).doc (open_if w st))
      ≡ close_if w (put_group (put_join (let_body opts p k h q n b (let_head opts p k h n t v (open_if w st)))))
  unfolding let_par emit let_body let_head in_scope end_let put_assign put_colon start_let join_line join_piece quoted
  let_puts q n t v b w st =
      let c : suc (length (names_of p k)) ≡ k.count + 1 = omega (arith, names_counted p k) in rw c

  -- ---- without parts

  pub var_prints : (outer i : ℕ) (st : State) → outer ≤ 1024 →
      emit (var_doc (names_of p k) (place_in k h i) (place_in k h i)) st ≡ emit (under outer (in_scope opts p k h (var i))) st
  unfolding in_scope rename
  var_prints outer i st l = rw (prints_var opts (names_of p k) (place_in k h i), under_top outer (with_inner 1024 (var_doc (names_of p k) (place_in k h i) (place_in k h i))) l refl)

  pub leaf_prints : (outer : ℕ) (e : Expr) (st : State) → outer ≤ 1024 → leaf_kind (label (shape e)) ≡ true →
      emit (leaf_doc e) st ≡ emit (under outer (in_scope opts p k h e)) st
  unfolding in_scope rename leaf_doc leaf_kind label shape
  leaf_prints outer (var i) st l e = cc
  leaf_prints outer (sort x) st l e = rw (prints_sort opts (names_of p k) x, under_top outer (with_inner 1024 (sort_doc x)) l refl)
  leaf_prints outer (const n ls) st l e = rw (prints_const opts (names_of p k) n ls, under_top outer (with_inner 1024 (quoted "@" ⊹ name_doc n)) l refl)
  leaf_prints outer (app f a) st l e = cc
  leaf_prints outer (pi q n s t b) st l e = cc
  leaf_prints outer (lam q n s t b) st l e = cc
  leaf_prints outer (letᵉ q n t v b d) st l e = cc
  leaf_prints outer (proj n i x) st l e = cc
  leaf_prints outer (nat s) st l e = rw (prints_nat opts (names_of p k) s, under_top outer (with_inner 1024 (textᵐ s)) l refl)
  leaf_prints outer (str s) st l e = rw (prints_str opts (names_of p k) s, under_top outer (with_inner 1024 (quoted "\"" ⊹ textᵐ s ⊹ quoted "\"")) l refl)

  -- ---- projections

  pub proj_prints : (outer : ℕ) (n : Name) (i : ℕ) (e : Expr) (st : State) → outer ≤ 1024 →
      emit (under outer (in_scope opts p k h (proj n i e))) st ≡ end_proj i (emit (under 1024 (in_scope opts p k h e)) st)
  unfolding in_scope rename end_proj join_piece emit quoted
  proj_prints outer n i e st l = rw (
    prints_proj opts (names_of p k) n i (rename (place_in k h) e),
    under_top outer
        (with_inner 1024 (G (under 1024 (expr_par opts (names_of p k) (rename (place_in k h) e))) ⊹ quoted "." ⊹ number_doc (i + 1))) l refl,
  )

  -- ---- applications

  pub app_prints : (outer : ℕ) (f a : Expr) (st : State) → acting opts (app f a) ≡ None →
      emit (under outer (in_scope opts p k h (app f a))) st
      ≡ close_if (ltb 1023 outer) (put_nest opts.indent (put_group (emit (app_part opts p k h (app f a)) (open_if (ltb 1023 outer) st))))
  unfolding in_scope rename app_part
  app_prints outer f a st e =
      let ns : NamesInForce = names_of p k in
      let f' : Expr = rename (place_in k h) f in
      let a' : Expr = rename (place_in k h) a in
      ap (λ (q : Parenable). emit (under outer q) st) (idle_prints opts p k h f a e ∙ app_is_spine (expr_par opts ns) opts f' a')
      ∙ under_emits outer (with_inner 1023 (NG opts.indent (spine_doc (expr_par opts ns) (app f' a')))) st
      ∙ wrapped opts (spine_doc (expr_par opts ns) (app f' a')) (ltb 1023 outer) st

  pub spine_prints : (f a : Expr) (st : State) →
      emit (app_part opts p k h (app f a)) st
      ≡ end_tile (put_group (emit (under 1024 (in_scope opts p k h a)) (put_break 1 (emit (app_part opts p k h f) st))))
  unfolding in_scope rename app_part spine_doc emit end_tile
  spine_prints f a st = refl

  pub head_prints : (e : Expr) (st : State) → (label (shape e) ≡ 3 → ⊥) →
      emit (app_part opts p k h e) st ≡ put_group (emit (under 1023 (in_scope opts p k h e)) st)
  unfolding in_scope rename app_part spine_doc emit label shape
  head_prints (var i) st n = refl
  head_prints (sort l) st n = refl
  head_prints (const a ls) st n = refl
  head_prints (app f a) st n = absurd (n refl)
  head_prints (pi q a s t b) st n = refl
  head_prints (lam q a s t b) st n = refl
  head_prints (letᵉ q a t v b d) st n = refl
  head_prints (proj a i e) st n = refl
  head_prints (nat s) st n = refl
  head_prints (str s) st n = refl

  -- ---- lets

  pub let_prints : (outer q : ℕ) (n : Name) (t v b : Expr) (d : ℕ) (st : State) →
      emit (under outer (in_scope opts p k h (letᵉ q n t v b d))) st
      ≡ close_if (ltb 0 outer) (put_group (put_join (let_body opts p k h q n b (let_head opts p k h n t v (open_if (ltb 0 outer) st)))))
  unfolding in_scope rename let_par close_if
  let_prints outer q n t v b d st =
      let ns : NamesInForce = names_of p k in
      let ρ : ℕ → ℕ = place_in k h in
      ap (λ (y : Parenable). emit (under outer y) st) (prints_let opts ns q n (rename ρ t) (rename ρ v) (rename (up ρ) b) d)
      ∙ under_emits outer (let_par opts q (suc (length ns)) n (expr_par opts ns (rename ρ t)) (expr_par opts ns (rename ρ v)) (expr_par opts (n ∷ ns) (rename (up ρ) b))) st
      ∙ let_puts q n t v b (ltb 0 outer) st

pushed_names : (p : Pool) (k : Stack) (name h : ℕ) → Linked k → k.count < 1024 → names_of p (push k name h) ≡ name_at p name ∷ names_of p k
unfolding names_of names_below
pushed_names p k name h w room =
    let c : k.count + 1 ≡ suc k.count = omega arith in
    let last : entry (push k name h) k.count ≡ record { name = name; link = h } = push_last k name h w room in
    ap (names_below p (push k name h)) c
    ∙ ap₂ (λ (x : Name) (y : NamesInForce). x ∷ y) (ap (λ (x : Entry). name_at p x.name) last) (grown_names p k (push k name h) k.count (push_grown k name h w room) (omega arith))

-- a let's body, its name on the stack
pub let_body_lem : (opts : PpOptions) (p : Pool) (k : Stack) (h name place : ℕ) (e : Expr) (l : Stack) (st : State) → Linked k → k.count < 1024 → h ≤ k.count →
    l ≡ push k name h → emit (under 0 (in_scope opts p l (k.count + 1) e)) (put_names place (k.count + 1) st) ≡ let_body opts p k h place (name_at p name) e st
unfolding let_body in_scope
let_body_lem opts p k h name place e l st w room b z =
    let c : k.count + 1 ≡ suc k.count = omega arith in
    let g : Grown k (push k name h) = push_grown k name h w room in
    let last : entry (push k name h) k.count ≡ record { name = name; link = h } = push_last k name h w room in
    let ns : names_of p (push k name h) ≡ name_at p name ∷ names_of p k = pushed_names p k name h w room in
    let ρ : rename (place_in (push k name h) (k.count + 1)) e ≡ rename (up (place_in k h)) e =
    ap (λ (n : ℕ). rename (place_in (push k name h) n) e) c
    ∙ rename_agrees (place_in (push k name h) (suc k.count)) (up (place_in k h))
    (λ i. let_scope k (push k name h) w g h b (omega arith) (ap (λ (x : Entry). x.link) last) i) e in
    rw (z, ρ, ns)

-- a stopped sink stays as it is
pub close_stopped : (v : Bool) (st : State) → is_none (written_of st).stop ≡ false → close_if v st ≡ st
unfolding close_if put_text emit
close_stopped true st e =
    ap (λ (x : State). put_join (put_text (bytes ")") x)) (stays_join st e)
    ∙ ap put_join (emit_stopped (textᵐ (bytes ")")) st e)
    ∙ stays_join st e
close_stopped false st e = refl

-- ---- chains

refuse_stops : (place : ℕ) (st : State) → is_none (written_of (refuse place st)).stop ≡ true → ⊥
unfolding refuse
refuse_stops place (state rows text x) = by (is_none x.stop) refl
  where
    by : (v : Bool) → is_none x.stop ≡ v → is_none (written_of (cond v (state rows text (stopped_at (Names place) x)) (state rows text x))).stop ≡ true → ⊥
    by true z e = cc
    by false z e = cc

-- names that come into force on a sink that has not stopped after it: they fit
pub names_fit : (place count : ℕ) (st : State) → is_none (written_of (put_names place count st)).stop ≡ true → count ≤ 1024
unfolding put_names
names_fit place count st e = leb-true count 1024 (by (leb count 1024) refl)
  where
    by : (v : Bool) → leb count 1024 ≡ v → leb count 1024 ≡ true
    by true z = z
    by false z = absurd (refuse_stops place st (rw z at e))

renamed_made : (ρ : ℕ → ℕ) (i : Bool) (q : ℕ) (a : Name) (s : ℕ) (t b : Expr) → rename ρ (mk_binder i q a s t b) ≡ mk_binder i q a s (rename ρ t) (rename (up ρ) b)
unfolding mk_binder rename
renamed_made ρ true q a s t b = refl
renamed_made ρ false q a s t b = refl

pub binders_made : (i : Bool) (q : ℕ) (a : Name) (s : ℕ) (t b : Expr) →
    binders (mk_binder i q a s t b) ≡ record { is_pi = i; used = occurs 0 b; name = a; style = s; type = lift (suc (length (binders b))) 0 t; place = q } ∷ binders b
unfolding mk_binder binders
binders_made true q a s t b = refl
binders_made false q a s t b = refl

prints_made : (opts : PpOptions) (ns : NamesInForce) (i : Bool) (q : ℕ) (a : Name) (s : ℕ) (t b : Expr) →
    expr_par opts ns (mk_binder i q a s t b)
    ≡ chain_par opts (expr_par opts (pushed (binders (mk_binder i q a s t b)) ns)) (binders (mk_binder i q a s t b)) (length ns) (chain_body (mk_binder i q a s t b))
unfolding mk_binder
prints_made opts ns true q a s t b = prints_pi opts ns q a s t b
prints_made opts ns false q a s t b = prints_lam opts ns q a s t b

pub length_renamed : (ρ : ℕ → ℕ) (e : Expr) → length (binders (rename ρ e)) ≡ chain_length e
unfolding rename binders chain_length
length_renamed ρ (var i) = refl
length_renamed ρ (sort l) = refl
length_renamed ρ (const n ls) = refl
length_renamed ρ (app f a) = refl
length_renamed ρ (pi q n s t b) = ap suc (length_renamed (up ρ) b)
length_renamed ρ (lam q n s t b) = ap suc (length_renamed (up ρ) b)
length_renamed ρ (letᵉ q n t v b d) = refl
length_renamed ρ (proj n i e) = refl
length_renamed ρ (nat s) = refl
length_renamed ρ (str s) = refl

pub in_force_lem : (x : Binder) (xs : List Binder) (outside : ℕ) (d : Marked) (st : State) → emit (in_force (x ∷ xs) outside d) st ≡ emit d (put_names x.place (outside + length (x ∷ xs)) st)
unfolding in_force emit
in_force_lem x xs outside d st = refl

module _ (opts : PpOptions) (p : Pool) (k : Stack) (h : ℕ) (i : Bool) (q : ℕ) (a : Name) (s : ℕ) (t b : Expr) where
  abbrev ρ : ℕ → ℕ
  ρ = place_in k h

  abbrev e : Expr
  e = mk_binder i q a s t b

  abbrev bs : List Binder
  bs = binders (rename ρ e)

  abbrev pp : Expr → Parenable
  pp = expr_par opts (pushed bs (names_of p k))

  -- the chain's binders and body, as they print under its names
  abbrev whole : Parenable
  whole = binders_par opts pp bs (pp (chain_body (rename ρ e)))

  abbrev x : Binder
  x = record { is_pi = i; used = occurs 0 (rename (up ρ) b); name = a; style = s; type = lift (suc (length (binders (rename (up ρ) b)))) 0 (rename ρ t); place = q }

  bs_made : bs ≡ x ∷ binders (rename (up ρ) b)
  bs_made = ap binders (renamed_made ρ i q a s t b) ∙ binders_made i q a s (rename ρ t) (rename (up ρ) b)

  level_is : (v : Bool) → v ≡ is_arrow (first_binder e) → whole.inner ≡ level_of v
  level_is v z =
      let first : is_arrow (first_binder e) ≡ is_arrow x =
      ap is_arrow (first_made i q a s t b)
      ∙ ap (λ (u : Bool). is_arrow (record { is_pi = i; used = u; name = a; style = s; type = t; place = q })) (sym (own_variable ρ b))
      ∙ arrow_type i (occurs 0 (rename (up ρ) b)) a s t (lift (suc (length (binders (rename (up ρ) b)))) 0 (rename ρ t)) q in
      ap (λ (l : List Binder). (binders_par opts pp l (pp (chain_body (rename ρ e)))).inner) bs_made
      ∙ binders_level opts pp x (binders (rename (up ρ) b)) (pp (chain_body (rename ρ e)))
      ∙ ap level_of (sym (z ∙ first))

  forced : (d : Marked) (st : State) → emit (in_force bs (length (names_of p k)) d) st ≡ emit d (put_names q (k.count + chain_length e) st)
  forced d st =
      ap (λ (l : List Binder). emit (in_force l (length (names_of p k)) d) st) bs_made
      ∙ in_force_lem x (binders (rename (up ρ) b)) (length (names_of p k)) d st
      ∙ ap₂ (λ (n c : ℕ). emit d (put_names q (n + c) st)) (names_counted p k) (ap length (sym bs_made) ∙ length_renamed ρ e)

  -- a chain: its opening parenthesis, its names, its parts
  chain_starts : (outer : ℕ) (v : Bool) (st : State) → v ≡ is_arrow (first_binder e) →
      emit (under outer (in_scope opts p k h e)) st
      ≡ close_if (ltb (level_of v) outer) (emit whole.doc (put_names q (k.count + chain_length e) (open_if (ltb (level_of v) outer) st)))
  unfolding in_scope chain_par
  chain_starts outer v st z =
      let made : expr_par opts (names_of p k) (rename ρ e) ≡ with_inner whole.inner (in_force bs (length (names_of p k)) whole.doc) =
      ap (expr_par opts (names_of p k)) (renamed_made ρ i q a s t b)
      ∙ prints_made opts (names_of p k) i q a s (rename ρ t) (rename (up ρ) b)
      ∙ ap (λ (y : Expr). chain_par opts (expr_par opts (pushed (binders y) (names_of p k))) (binders y) (length (names_of p k)) (chain_body y)) (sym (renamed_made ρ i q a s t b)) in
      ap (λ (y : Parenable). emit (under outer y) st) made
      ∙ under_emits outer (with_inner whole.inner (in_force bs (length (names_of p k)) whole.doc)) st
      ∙ ap (λ (l : ℕ). close_if (ltb l outer) (emit (in_force bs (length (names_of p k)) whole.doc) (open_if (ltb l outer) st))) (level_is v z)
      ∙ ap (close_if (ltb (level_of v) outer)) (forced whole.doc (open_if (ltb (level_of v) outer) st))

  -- where the chain's names are on the stack, its parts are those that the stack's scopes give
  on_stack : (l : Stack) → Held p k → h ≤ k.count → ChainPushed p k h e l → whole ≡ chain_part opts p l h k.count e
  unfolding chain_part in_scope names_of
  on_stack l held within c =
      let u = chain_under k l held.linked c.grown h within in
      let one : bs ≡ scoped l h k.count e = chain_is_scoped p l h k.count ρ e c.chained u in
      let two : chain_body (rename ρ e) ≡ rename (place_in l (last_scope h k.count e)) (chain_body e) = body_is_scoped p l h k.count ρ e c.chained u in
      let three : pushed (scoped l h k.count e) (names_below p k k.count) ≡ names_below p l l.count =
      ap (pushed (scoped l h k.count e)) (sym (grown_names p k l k.count c.grown (omega arith))) ∙ names_are_pushed p l h k.count e c.chained in
      rw (one, two, three)

-- a chain whose names do not fit, or that starts on a sink that has stopped
pub chain_stops : (opts : PpOptions) (p : Pool) (k : Stack) (h : ℕ) (i : Bool) (q : ℕ) (a : Name) (s : ℕ) (t b e₀ : Expr) (outer level count : ℕ) (v : Bool) (st : State) →
    e₀ ≡ mk_binder i q a s t b → v ≡ is_arrow (first_binder e₀) → level ≡ level_of v → count ≡ k.count + chain_length e₀ →
    is_none (written_of (put_names q count (open_if (ltb level outer) st))).stop ≡ false →
    put_names q count (open_if (ltb level outer) st) ≡ emit (under outer (in_scope opts p k h e₀)) st
chain_stops opts p k h i q a s t b e₀ outer level count v st made arrow levels counts stopped =
    let z : v ≡ is_arrow (first_binder (mk_binder i q a s t b)) = rw made at arrow in
    let c : count ≡ k.count + chain_length (mk_binder i q a s t b) = rw made at counts in
    let st' : State = put_names q count (open_if (ltb level outer) st) in
    let starts : emit (under outer (in_scope opts p k h e₀)) st ≡ close_if (ltb level outer) (emit (whole opts p k h i q a s t b).doc st') =
    rw (made, levels, c) (chain_starts opts p k h i q a s t b outer v st z) in
    sym
    (starts
    ∙ ap (close_if (ltb level outer)) (emit_stopped (whole opts p k h i q a s t b).doc st' stopped)
    ∙ close_stopped (ltb level outer) st' stopped)

-- a chain whose names were put on the stack
pub chain_goes_on : (opts : PpOptions) (p : Pool) (k : Stack) (h : ℕ) (i : Bool) (q : ℕ) (a : Name) (s : ℕ) (t b e₀ : Expr) (outer level count : ℕ) (v : Bool) (l : Stack) (st : State) →
    e₀ ≡ mk_binder i q a s t b → v ≡ is_arrow (first_binder e₀) → level ≡ level_of v → count ≡ k.count + chain_length e₀ →
    Held p k → h ≤ k.count → ChainPushed p k h e₀ l →
    close_if (ltb level outer) (emit (under 0 (chain_part opts p l h k.count e₀)) (put_names q count (open_if (ltb level outer) st)))
    ≡ emit (under outer (in_scope opts p k h e₀)) st
chain_goes_on opts p k h i q a s t b e₀ outer level count v l st made arrow levels counts held within c =
    let z : v ≡ is_arrow (first_binder (mk_binder i q a s t b)) = rw made at arrow in
    let pushes : ChainPushed p k h (mk_binder i q a s t b) l = rw made at c in
    rw (levels, counts, under-zero (chain_part opts p l h k.count e₀), made)
    (ap (λ (y : Parenable). close_if (ltb (level_of v) outer) (emit y.doc (put_names q (k.count + chain_length (mk_binder i q a s t b)) (open_if (ltb (level_of v) outer) st))))
    (sym (on_stack opts p k h i q a s t b l held within pushes))
    ∙ sym (chain_starts opts p k h i q a s t b outer v st z))
