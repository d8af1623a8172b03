-- Declarations: their rows, and what their printers put.
use Prim.Native.Nat.{ℕ, zero, suc, ◌+◌, ◌-◌, ◌<◌, ◌≤◌}
use native.Mathlib.Omega.{arith}
use native.Mathlib.Nat.{add-zero, zero-add}
use mathlib.Core.Bool.{Bool, true, false, cond}
use mathlib.Core.List.{List, [], ◌∷◌}
use mathlib.Core.Path.{◌≡◌, refl, sym, ap, ap₂, ◌∙◌}
use lib.Dec.{ltb, eqb}
use lib.ListN.{length, take, drop}
use borrow.Author.Tests.{ltb-true}
use Rattle.document.specs.Walk.{Marked, textᵐ}
use Rattle.document.specs.Sink.{State, written_of, put_text, put_join, put_break, put_nest, put_group, put_names, emit}
use Rattle.document.proofs.Steps.{stays_join}
use Rattle.pool.specs.Tables.{Pool, N, K, E, D, expr_word, declar_word}
use Rattle.pool.specs.Tree.{Name, Level, Expr, var, sort, const, app, pi, lam, letᵉ, proj, nat, str, Declar, typed, valued, lift}
use Rattle.pool.specs.Unfold.{name_at, list_at, expr_at, declar_at, has_value}
use Rattle.pool.specs.Rules.{declar_ok}
use Rattle.pool.specs.Sound.{Sound}
use Rattle.std.specs.Prelude.{is_none}
use Rattle.basics.proofs.Booleans.{and_left, and_right}
use Rattle.pieces.specs.Docs.{◌⊹◌, quoted, G, Parenable, under}
use Rattle.utf8.specs.Quoted.{bytes}
use Rattle.pieces.proofs.Emitting.{emit_stopped}
use Rattle.binders.specs.declared.stack.Stack.{Stack}
use Rattle.binders.specs.Runs.{leading, following}
use Rattle.binders.specs.Binders.{Binder, binders, chain_body, pushed, in_force, is_named_pi, telescope, binders_par}
use Rattle.pretty_printer.specs.Exprs.{expr_par, expr_doc}
use Rattle.binders.specs.Rename.{up, rename}
use Rattle.binders.specs.Scopes.{names_below, names_of, place_in, Linked, Held, scoped, last_scope, Chained}
use Rattle.binders.specs.Asked.{Asked, InChain, ChainPushed, RunEnd}
use Rattle.declarations.specs.Declars.{keyword, info, Taken, taken, def_rest, axiom_rest, main_def, main_axiom, declar_doc}
use Rattle.binders.specs.Steps.{is_binder, in_run, run_length, chain_length, drop_chain}
use Rattle.pieces.specs.Puts.{join_piece}
use Rattle.pretty_printer.specs.Parts.{printed, in_scope, chain_part, groups_part}
use Rattle.declarations.specs.Heads.{Declared, TakenEnd, head_part, type_part, value_part, def_part, def_start, def_parts, axiom_part, axiom_start}
use Rattle.binders.proofs.RenameLaws.{rename_agrees, rename-same, lift_adds}
use Rattle.binders.proofs.ScopeLaws.{chain_length_lem, scope_up, Under, chain_is_scoped, body_is_scoped, names_are_pushed, place_past}
use Rattle.pretty_printer.proofs.ChainLaws.{leading_takes, following_drops, run_length_lem}
use Rattle.binders.proofs.ViewLaws.{binder_row, binder_at, length_none}
use Rattle.binders.proofs.DropLaws.{Later, later, length-scoped, run-within}
use Rattle.pretty_printer.proofs.CallLaws.{binders_made, length_renamed, in_force_lem}
use Rattle.declarations.proofs.TakenLaws.{taken_few}
use Rattle.binders.specs.Options.{PpOptions, indented}
use Rattle.binders.specs.Shown.{NamesInForce}

-- ---- rows

pub record DeclarRow (p : Pool) (r : ℕ) : Type 0 where
  pub kind : declar_word p.words r 0 < 8
  pub name : declar_word p.words r 1 < N p.names
  pub list : declar_word p.words r 2 < K p.words
  pub type : declar_word p.words r 3 < E p.words
  pub value : has_value (declar_word p.words r 0) ≡ true → declar_word p.words r 4 < E p.words

pub declar_row : (p : Pool) → Sound p → (r : ℕ) → r < D p.words → DeclarRow p r
unfolding declar_ok
declar_row p sound r h =
    let w : ℕ → ℕ = declar_word p.words r in
    let ok : declar_ok p r ≡ true = sound.declars r h in
    let ok1 = and_right (ltb (w 0) 8) _ ok in
    let ok2 = and_right (ltb (w 1) (N p.names)) _ ok1 in
    let ok3 = and_right (ltb (w 2) (K p.words)) _ ok2 in
    let ok4 = and_right (ltb (w 3) (E p.words)) _ ok3 in
    record {
      kind = ltb-true (w 0) 8 (and_left (ltb (w 0) 8) _ ok);
      name = ltb-true (w 1) (N p.names) (and_left (ltb (w 1) (N p.names)) _ ok1);
      list = ltb-true (w 2) (K p.words) (and_left (ltb (w 2) (K p.words)) _ ok2);
      type = ltb-true (w 3) (E p.words) (and_left (ltb (w 3) (E p.words)) _ ok3);
      value = λ e. ltb-true (w 4) (E p.words) (sym (ap (λ (x : Bool). cond x (ltb (w 4) (E p.words)) (eqb (w 4) 0)) e) ∙ ok4);
    }

-- ---- words

pub head_puts : (word : List ℕ) (k : ℕ) (n : Name) (ls : List Level) (st : State) → textᵐ word ≡ keyword k →
    put_join (put_text (bytes " ") (put_join (emit (info n ls) (put_join (put_text (bytes " ") (put_text word st)))))) ≡ emit (head_part k n ls) st
unfolding head_part quoted emit
head_puts word k n ls st e =
    ap (λ (m : Marked). put_join (put_text (bytes " ") (put_join (emit (info n ls) (put_join (put_text (bytes " ") (emit m st))))))) e

-- ---- the pieces

module _ (opts : PpOptions) (p : Pool) (k : Stack) where
  pub type_puts : (m : ℕ) (e : Expr) (st : State) →
      put_nest opts.indent (put_join (put_group (emit (under 0 (chain_part opts p k m m e)) (put_break 1 st)))) ≡ emit (type_part opts p k m e) st
  unfolding type_part emit
  type_puts m e st = refl

  pub value_puts : (m : ℕ) (e : Expr) (st : State) →
      put_nest opts.indent (put_join (put_group (emit (under 0 (in_scope opts p k m e)) (put_break 1 st)))) ≡ emit (value_part opts p k m e) st
  unfolding value_part emit
  value_puts m e st = refl

  pub def_colon : (n : ℕ) (e : Expr) (st : State) → n ≡ 0 → put_text (bytes ":") st ≡ def_start opts p k n e st
  unfolding def_start
  def_colon n e st z = rw z

  pub def_binders : (n : ℕ) (e : Expr) (st : State) → (n ≡ 0 → ⊥) →
      put_join (put_text (bytes ":") (put_join (put_text (bytes " ") (put_nest opts.indent (put_group (groups_part opts p k true 0 0 n e st)))))) ≡ def_start opts p k n e st
  unfolding def_start join_piece
  def_binders zero e st z = absurd (z refl)
  def_binders (suc n) e st z = refl

  pub axiom_colon : (n : ℕ) (e : Expr) (st : State) → n ≡ 0 → put_text (bytes ":") st ≡ axiom_start opts p k n e st
  unfolding axiom_start
  axiom_colon n e st z = rw z

  pub axiom_binders : (n : ℕ) (e : Expr) (st : State) → (n ≡ 0 → ⊥) →
      put_join (put_text (bytes ":") (put_join (put_text (bytes " ") (groups_part opts p k true 0 0 n e st)))) ≡ axiom_start opts p k n e st
  unfolding axiom_start join_piece
  axiom_binders zero e st z = absurd (z refl)
  axiom_binders (suc n) e st z = refl

-- ---- the rests

-- some of a list that has them
filled : {A : Type 0} (n : ℕ) (l : List A) → (n ≡ 0 → ⊥) → n ≤ length l → length (take n l) ≡ 0 → ⊥
filled zero l f h e = f refl
filled (suc n) [] f h e = omega arith
filled (suc n) (x ∷ xs) f h e = omega arith

module _ (opts : PpOptions) (pp : Expr → Parenable) where
  no_taken : (l : List Binder) (T : Marked) (st : State) → l ≡ [] →
      put_join (put_text (bytes ":=") (put_join (put_text (bytes " ") (put_join (emit T (put_text (bytes ":") st)))))) ≡ emit (def_rest opts pp l T) st
  unfolding def_rest emit quoted
  no_taken l T st e = rw e

  some_taken : (l : List Binder) (T : Marked) (st : State) → (length l ≡ 0 → ⊥) →
      put_group
      (put_join (put_text (bytes ":=") (put_join (put_text (bytes " ")
      (put_join (emit T (put_join (put_text (bytes ":") (put_join (put_text (bytes " ") (put_nest opts.indent (put_group (emit (telescope opts pp l) st)))))))))))))
      ≡ emit (def_rest opts pp l T) st
  unfolding def_rest emit quoted
  some_taken [] T st f = absurd (f refl)
  some_taken (x ∷ xs) T st f = refl

  no_leading : (l : List Binder) (T : Marked) (st : State) → l ≡ [] →
      put_nest opts.indent (put_group (put_join (put_group (emit T (put_join (put_break 1 (put_text (bytes ":") st))))))) ≡ emit (axiom_rest opts pp l T) st
  unfolding axiom_rest emit quoted
  no_leading l T st e = rw e

  some_leading : (l : List Binder) (T : Marked) (st : State) → (length l ≡ 0 → ⊥) →
      put_nest opts.indent (put_group (put_join (put_group (emit T (put_join (put_break 1 (put_join (put_text (bytes ":") (put_join (put_text (bytes " ") (emit (telescope opts pp l) st)))))))))))
      ≡ emit (axiom_rest opts pp l T) st
  unfolding axiom_rest emit quoted
  some_leading [] T st f = absurd (f refl)
  some_leading (x ∷ xs) T st f = refl

module _ (opts : PpOptions) (p : Pool) (k : Stack) where
  pub rest_none : (count : ℕ) (e e₁ : Expr) (st : State) → count ≡ 0 → e₁ ≡ drop_chain count e →
      put_join (put_text (bytes ":=") (put_join (put_text (bytes " ") (put_join (emit (type_part opts p k count e₁) (def_start opts p k count e st))))))
      ≡ emit (def_part opts p k count e) st
  unfolding def_part def_start
  rest_none count e e₁ st z d = rw (d, z) (no_taken opts (printed opts p k) [] (type_part opts p k 0 (drop_chain 0 e)) st refl)

  pub rest_some : (count : ℕ) (e e₁ : Expr) (st : State) → (count ≡ 0 → ⊥) → count ≤ chain_length e → e₁ ≡ drop_chain count e →
      put_group (put_join (put_text (bytes ":=") (put_join (put_text (bytes " ") (put_join (emit (type_part opts p k count e₁) (def_start opts p k count e st)))))))
      ≡ emit (def_part opts p k count e) st
  unfolding def_part def_start join_piece groups_part
  rest_some zero e e₁ st f l d = absurd (f refl)
  rest_some (suc n) e e₁ st f l d =
      rw d
      (some_taken opts (printed opts p k) (take (suc n) (scoped k 0 0 e)) (type_part opts p k (suc n) (drop_chain (suc n) e)) st
      (filled (suc n) (scoped k 0 0 e) f (rw (length-scoped k 0 0 e) l)))

  pub axiom_rest_lem : (count : ℕ) (e e₁ : Expr) (st : State) → count ≤ chain_length e → e₁ ≡ drop_chain count e →
      put_nest opts.indent (put_group (put_join (put_group (emit (under 0 (chain_part opts p k count count e₁)) (put_join (put_break 1 (axiom_start opts p k count e st)))))))
      ≡ emit (axiom_part opts p k count e) st
  unfolding axiom_part axiom_start join_piece groups_part
  axiom_rest_lem zero e e₁ st l d = rw d (no_leading opts (printed opts p k) [] (under 0 (chain_part opts p k 0 0 (drop_chain 0 e))) st refl)
  axiom_rest_lem (suc n) e e₁ st l d =
      rw d
      (some_leading opts (printed opts p k) (take (suc n) (scoped k 0 0 e)) (under 0 (chain_part opts p k (suc n) (suc n) (drop_chain (suc n) e))) st
      (filled (suc n) (scoped k 0 0 e) (λ z. omega arith) (rw (length-scoped k 0 0 e) l)))

  -- the binders that left, with the code's own numbers
  pub parts_row : (r v row value count : ℕ) (st : State) → TakenEnd p r v row value count →
      put_join (emit (value_part opts p k count (expr_at p value)) (put_join (emit (def_part opts p k count (expr_at p r)) st)))
      ≡ def_parts opts p k (expr_at p r) (expr_at p v) st
  unfolding def_parts
  parts_row r v row value count st end =
      ap₂ (λ (n : ℕ) (x : Expr). put_join (emit (value_part opts p k n x) (put_join (emit (def_part opts p k n (expr_at p r)) st)))) end.is_count end.is_value

pub positive : (n : ℕ) → (n ≡ 0 → ⊥) → 0 < n
positive zero f = absurd (f refl)
positive (suc n) f = omega arith

pub run_fits : (p : Pool) (r row count : ℕ) → RunEnd p true r row count → (count ≤ chain_length (expr_at p r)) × (row ≤ r)
run_fits p r row count end = (omega (arith, end.length, run-within true (expr_at p r)), omega (arith, end.low))

-- ---- names in force

no_length : {A : Type 0} (l : List A) → length l ≡ 0 → l ≡ []
no_length [] e = refl
no_length (x ∷ xs) e = absurd (omega arith)

binders-length : (e : Expr) → length (binders e) ≡ chain_length e
binders-length e = ap (λ (x : Expr). length (binders x)) (sym (rename-same (λ i. i) (λ i. refl) e)) ∙ length_renamed (λ i. i) e

no_names : (place : ℕ) (st : State) → put_names place 0 st ≡ st
unfolding put_names
no_names place st = refl

none_force : (l : List Binder) (d : Marked) (st : State) → l ≡ [] → emit (in_force l 0 d) st ≡ emit d st
unfolding in_force
none_force l d st e = rw e

pub forced : (p : Pool) → Sound p → (y n : ℕ) (d : Marked) (st : State) → y < E p.words → n ≡ chain_length (expr_at p y) → emit
    (in_force (binders (expr_at p y)) 0 d) st ≡ emit d (put_names y n st)
forced p sound y n d st h z = by (is_binder (expr_at p y)) refl
  where
    by : (b : Bool) → is_binder (expr_at p y) ≡ b → emit (in_force (binders (expr_at p y)) 0 d) st ≡ emit d (put_names y n st)
    by false f =
        let none : chain_length (expr_at p y) ≡ 0 = length_none (expr_at p y) f in
        none_force (binders (expr_at p y)) d st (no_length (binders (expr_at p y)) (binders-length (expr_at p y) ∙ none))
        ∙ ap (emit d) (sym (ap (λ (x : ℕ). put_names y x st) (z ∙ none) ∙ no_names y st))
    by true f =
        let row = binder_at p sound y h (binder_row p sound y h ∙ f) in
        let made = ap binders row.made
        ∙ binders_made (eqb (expr_word p.words y 0) 4) y (name_at p (expr_word p.words y 1)) (expr_word p.words y 2) (expr_at p
        (expr_word p.words y 3)) (expr_at p (expr_word p.words y 4)) in
        ap (λ (l : List Binder). emit (in_force l 0 d) st) made
        ∙ in_force_lem _ (binders (expr_at p (expr_word p.words y 4))) 0 d st
        ∙ ap (λ (x : ℕ). emit d (put_names y x st)) (zero-add _ ∙ ap length (sym made) ∙ binders-length (expr_at p y) ∙ sym z)

-- ---- a chain that starts on the empty stack

module _ (opts : PpOptions) (p : Pool) (k : Stack) (e : Expr) (c : Chained p k 0 0 e) where
  self : rename (λ i. i) e ≡ e
  self = rename-same (λ i. i) (λ i. refl) e

  under_self : Under k 0 0 (λ i. i)
  unfolding Under
  under_self i = place_past k i ∙ omega arith

  binders_are : binders e ≡ scoped k 0 0 e
  binders_are = ap binders (sym self) ∙ chain_is_scoped p k 0 0 (λ i. i) e c under_self

  body_is : chain_body e ≡ rename (place_in k (last_scope 0 0 e)) (chain_body e)
  body_is = ap chain_body (sym self) ∙ body_is_scoped p k 0 0 (λ i. i) e c under_self

  names_are : pushed (binders e) [] ≡ names_of p k
  unfolding names_below
  names_are = ap (λ (l : List Binder). pushed l []) binders_are ∙ names_are_pushed p k 0 0 e c

  after : (n : ℕ) → n ≤ chain_length e → Later p k 0 0 n e
  after n l = later p k 0 n e l

  -- what is left of the type
  left_is : (n : ℕ) → n ≤ chain_length e → binders_par opts (printed opts p k) (drop n (binders e)) (printed opts p k (chain_body e)) ≡ chain_part opts p k n n (drop_chain n e)
  unfolding chain_part in_scope
  left_is n l =
      let r : scoped k n n (drop_chain n e) ≡ drop n (scoped k 0 0 e) = rw (zero-add n) at (after n l).rest in
      let s : last_scope n n (drop_chain n e) ≡ last_scope 0 0 e = rw (zero-add n) at (after n l).scope in
      ap₂ (λ (x : List Binder) (y : Expr). binders_par opts (printed opts p k) x (printed opts p k y)) (ap (drop n) binders_are ∙ sym r)
      (body_is ∙ ap₂ (λ (x : ℕ) (y : Expr). rename (place_in k x) y) (sym s) (sym (after n l).body))

  -- the scope after n binders
  pub after_chained : (n : ℕ) → n ≤ chain_length e → Chained p k n n (drop_chain n e)
  after_chained n l = rw (zero-add n) at ((after n l).chained c)

  pub after_scope : (n : ℕ) → n ≤ chain_length e → length (scoped k n n (drop_chain n e)) + n ≡ k.count
  after_scope n l = chain_length_lem p k n n (drop_chain n e) (after_chained n l)

  drop-length : (n : ℕ) → n ≤ chain_length e → length (drop n (binders e)) + n ≡ k.count
  drop-length n l =
      let r : scoped k n n (drop_chain n e) ≡ drop n (scoped k 0 0 e) = rw (zero-add n) at (after n l).rest in
      ap (λ (x : List Binder). length x + n) (ap (drop n) binders_are ∙ sym r) ∙ after_scope n l

up_self : (i : ℕ) → up (λ j. j) i ≡ i
unfolding up
up_self zero = refl
up_self (suc i) = refl

-- inside the binders of a chain that started on the empty stack, a variable is as far out as it says
place_self : (p : Pool) (k : Stack) (n m : ℕ) (e : Expr) → Chained p k m m e → n ≤ chain_length e → ((i : ℕ) → place_in k m i ≡ i + (k.count - m)) →
    (i : ℕ) → place_in k (m + n) i ≡ i + (k.count - (m + n))
unfolding Chained chain_length
place_self p k zero m e c l f i = rw (add-zero m) (f i)
place_self p k (suc n) m (var j) c l f i = absurd (omega arith)
place_self p k (suc n) m (sort j) c l f i = absurd (omega arith)
place_self p k (suc n) m (const a ls) c l f i = absurd (omega arith)
place_self p k (suc n) m (app g a) c l f i = absurd (omega arith)
place_self p k (suc n) m (pi q a s t b) c l f i =
    let z : m + suc n ≡ suc m + n = omega arith in
    let len : length (scoped k (suc m) (suc m) b) + suc m ≡ k.count = chain_length_lem p k (suc m) (suc m) b c.2 in
    rw z (place_self p k n (suc m) b c.2 (omega arith) (λ j. scope_up k m m (λ x. x) c.0 (omega arith) f j ∙ ap (λ (x : ℕ). x + (k.count - suc m)) (up_self j)) i)
place_self p k (suc n) m (lam q a s t b) c l f i =
    let z : m + suc n ≡ suc m + n = omega arith in
    let len : length (scoped k (suc m) (suc m) b) + suc m ≡ k.count = chain_length_lem p k (suc m) (suc m) b c.2 in
    rw z (place_self p k n (suc m) b c.2 (omega arith) (λ j. scope_up k m m (λ x. x) c.0 (omega arith) f j ∙ ap (λ (x : ℕ). x + (k.count - suc m)) (up_self j)) i)
place_self p k (suc n) m (letᵉ q a t v b d) c l f i = absurd (omega arith)
place_self p k (suc n) m (proj a j e) c l f i = absurd (omega arith)
place_self p k (suc n) m (nat s) c l f i = absurd (omega arith)
place_self p k (suc n) m (str s) c l f i = absurd (omega arith)

module _ (opts : PpOptions) (p : Pool) (k : Stack) (e : Expr) (c : Chained p k 0 0 e) where
  -- the value, in the scope of the binders taken
  value_is : (n : ℕ) (v : Expr) → n ≤ chain_length e → lift (length (drop n (binders e))) 0 v ≡ rename (place_in k n) v
  value_is n v l =
      let len : length (drop n (binders e)) + n ≡ k.count = drop-length opts p k e c n l in
      ap (lift (length (drop n (binders e))) 0) (sym (rename-same (λ i. i) (λ i. refl) v))
      ∙ lift_adds (length (drop n (binders e))) (λ i. i) v
      ∙ rename_agrees (λ i. i + length (drop n (binders e))) (place_in k n)
      (λ i. ap (λ (x : ℕ). i + x) (omega arith) ∙ sym (rw (zero-add n) at (place_self p k n 0 e c l (λ j. place_past k j ∙ omega arith) i))) v

  def_is : (kind : ℕ) (name : Name) (levels : List Level) (v : Expr) →
      main_def opts kind name levels e v
      ≡ head_part kind name levels
      ⊹ in_force (binders e) 0 (def_part opts p k (taken (binders e) v 0).count e)
      ⊹ value_part opts p k (taken (binders e) v 0).count (taken (binders e) v 0).value
  unfolding main_def head_part def_part type_part value_part in_scope
  def_is kind name levels v =
      let few : (taken (binders e) v 0).count ≤ chain_length e = omega (arith, taken_few (binders e) v 0, binders-length e) in
      let n : ℕ = (taken (binders e) v 0).count in
      rw (names_are opts p k e c, value_is n (taken (binders e) v 0).value few, left_is opts p k e c n few, ap (take n) (binders_are opts p k e c))

  axiom_is : (kind : ℕ) (name : Name) (levels : List Level) (n : ℕ) → n ≡ run_length true e →
      main_axiom opts kind name levels e ≡ head_part kind name levels ⊹ in_force (binders e) 0 (axiom_part opts p k n e)
  unfolding main_axiom head_part axiom_part in_run
  axiom_is kind name levels n z =
      let bs = binders_are opts p k e c in
      let count : length (leading is_named_pi (scoped k 0 0 e)) ≡ n = run_length_lem k 0 0 true e ∙ sym z in
      let first : leading is_named_pi (binders e) ≡ take n (scoped k 0 0 e) =
      ap (leading is_named_pi) bs ∙ leading_takes is_named_pi (scoped k 0 0 e) ∙ ap (λ (x : ℕ). take x (scoped k 0 0 e)) count in
      let rest : following is_named_pi (binders e) ≡ drop n (binders e) =
      ap (following is_named_pi) bs ∙ following_drops is_named_pi (scoped k 0 0 e) ∙ ap₂ drop count (sym bs) in
      let few : n ≤ chain_length e = rw z (run-within true e) in
      rw (names_are opts p k e c, first, rest, left_is opts p k e c n few)

-- ---- whole declarations

-- a stopped sink stays as it is
joined_stopped : (d : Marked) (st : State) → is_none (written_of st).stop ≡ false → put_join (emit d st) ≡ st
joined_stopped d st s = ap put_join (emit_stopped d st s) ∙ stays_join st s

join_emits : (a b : Marked) (st : State) → emit (a ⊹ b) st ≡ put_join (emit b (emit a st))
unfolding emit
join_emits a b st = refl

module _ {p : Pool} {r : ℕ} (sound : Sound p) (a : Declared p r) where
  abbrev w : ℕ → ℕ
  w i = declar_word p.words r i

  pub declared_row : DeclarRow p r
  declared_row = declar_row p sound r a.row

  module _ (opts : PpOptions) (y n : ℕ) (is : y ≡ w 3) (count : n ≡ chain_length (expr_at p y)) (st : State) where
    abbrev head : State
    head = emit (head_part (w 0) (name_at p (w 1)) (list_at p (w 2))) st

    low : y < E p.words
    low = let row = declared_row in omega (arith, row.type)

    names_put : (d : Marked) → emit (head_part (w 0) (name_at p (w 1)) (list_at p (w 2)) ⊹ in_force (binders (expr_at p y)) 0 d) st ≡ put_join (emit d (put_names y n head))
    names_put d = join_emits _ (in_force (binders (expr_at p y)) 0 d) st ∙ ap put_join (forced p sound y n d head low count)

    pub def_goes_on : (k : Stack) (v : ℕ) → v ≡ w 4 → InChain p k 0 0 y →
        def_parts opts p k (expr_at p y) (expr_at p v) (put_names y n head) ≡ emit (main_def opts (w 0) (name_at p (w 1)) (list_at p (w 2)) (expr_at p (w 3)) (expr_at p (w 4))) st
    unfolding def_parts
    def_goes_on k v z c =
        let whole = def_is opts p k (expr_at p y) c.chained (w 0) (name_at p (w 1)) (list_at p (w 2)) (expr_at p v) in
        let m : Taken = taken (binders (expr_at p y)) (expr_at p v) 0 in
        sym
        (ap₂ (λ (x z : ℕ). emit (main_def opts (w 0) (name_at p (w 1)) (list_at p (w 2)) (expr_at p x) (expr_at p z)) st) (sym is) (sym z)
        ∙ ap (λ (x : Marked). emit x st) whole
        ∙ join_emits _ (value_part opts p k m.count m.value) st
        ∙ ap (λ (x : State). put_join (emit (value_part opts p k m.count m.value) x)) (names_put (def_part opts p k m.count (expr_at p y))))

    pub axiom_goes_on : (k : Stack) (row m : ℕ) → RunEnd p true y row m → InChain p k 0 0 y →
        put_join (emit (axiom_part opts p k m (expr_at p y)) (put_names y n head)) ≡ emit (main_axiom opts (w 0) (name_at p (w 1)) (list_at p (w 2)) (expr_at p (w 3))) st
    axiom_goes_on k row m end c =
        sym
        (ap (λ (x : ℕ). emit (main_axiom opts (w 0) (name_at p (w 1)) (list_at p (w 2)) (expr_at p x)) st) (sym is)
        ∙ ap (λ (x : Marked). emit x st) (axiom_is opts p k (expr_at p y) c.chained (w 0) (name_at p (w 1)) (list_at p (w 2)) m end.length)
        ∙ names_put (axiom_part opts p k m (expr_at p y)))

    module _ (stopped : is_none (written_of (put_names y n head)).stop ≡ false) where
      names_stop : (d : Marked) → emit (head_part (w 0) (name_at p (w 1)) (list_at p (w 2)) ⊹ in_force (binders (expr_at p y)) 0 d) st ≡ put_names y n head
      names_stop d = names_put d ∙ joined_stopped d (put_names y n head) stopped

      then_stops : (d u : Marked) → emit (head_part (w 0) (name_at p (w 1)) (list_at p (w 2)) ⊹ in_force (binders (expr_at p y)) 0 d ⊹ u) st ≡ put_names y n head
      then_stops d u = join_emits _ u st ∙ ap (λ (x : State). put_join (emit u x)) (names_stop d) ∙ joined_stopped u (put_names y n head) stopped

      pub def_stops : put_names y n head ≡ emit (main_def opts (w 0) (name_at p (w 1)) (list_at p (w 2)) (expr_at p (w 3)) (expr_at p (w 4))) st
      unfolding main_def head_part
      def_stops = sym (ap (λ (x : ℕ). emit (main_def opts (w 0) (name_at p (w 1)) (list_at p (w 2)) (expr_at p x) (expr_at p (w 4))) st) (sym is) ∙ then_stops _ _)

      pub axiom_stops : put_names y n head ≡ emit (main_axiom opts (w 0) (name_at p (w 1)) (list_at p (w 2)) (expr_at p (w 3))) st
      unfolding main_axiom head_part
      axiom_stops = sym (ap (λ (x : ℕ). emit (main_axiom opts (w 0) (name_at p (w 1)) (list_at p (w 2)) (expr_at p x)) st) (sym is) ∙ names_stop _)

-- ---- rows of a chain that starts on the empty stack

module _ {q : Pool} {k : Stack} {r : ℕ} (c : InChain q k 0 0 r) where
  -- the first binders' names are on the stack
  pub scope_after : (n : ℕ) → n ≤ chain_length (expr_at q r) → n ≤ k.count
  scope_after n few =
      let len : length (scoped k n n (drop_chain n (expr_at q r))) + n ≡ k.count = after_scope (indented 0) q k (expr_at q r) c.chained n few in
      omega arith

  pub asked-within : (n x : ℕ) → n ≤ k.count → x < E q.words → Asked q k n x
  asked-within n x within low = record { held = c.asked.held; scope = within; row = low }

  pub chain_after : (n x : ℕ) → n ≤ chain_length (expr_at q r) → x < E q.words → expr_at q x ≡ drop_chain n (expr_at q r) → InChain q k n n x
  chain_after n x few low tree = record { asked = asked-within n x (scope_after n few) low; chained = rw tree (after_chained (indented 0) q k (expr_at q r) c.chained n few) }

pub held_none : (p : Pool) (k : Stack) → Linked k → k.count ≡ 0 → Held p k
held_none p k l e = record { linked = l; named = λ i h. absurd (omega arith) }

pub chain_alone : {q : Pool} (k l : Stack) (r : ℕ) → r < E q.words → k.count ≡ 0 → ChainPushed q k 0 (expr_at q r) l → InChain q l 0 0 r
chain_alone k l r row e c =
    record {
      asked = record { held = c.held; scope = omega arith; row = row };
      chained = rw e at c.chained;
    }

-- ---- listings

names_none : (p : Pool) (k : Stack) → k.count ≡ 0 → names_of p k ≡ []
unfolding names_of names_below
names_none p k e = ap (names_below p k) e

pub expr_lists : (opts : PpOptions) (p : Pool) (k : Stack) (e : Expr) (st : State) → k.count ≡ 0 → put_group (emit (under 0 (in_scope opts p k 0 e)) st) ≡ emit (expr_doc opts e) st
unfolding expr_doc in_scope emit
expr_lists opts p k e st z =
    ap₂ (λ (x : NamesInForce) (y : Expr). put_group (emit (under 0 (expr_par opts x y)) st)) (names_none p k z)
    (rename-same (place_in k 0) (λ i. place_past k i ∙ omega arith) e)

module _ (opts : PpOptions) (p : Pool) (r : ℕ) (st : State) where
  abbrev wᵈ : ℕ → ℕ
  wᵈ i = declar_word p.words r i

  group_emits : (d : Marked) → put_group (emit d st) ≡ emit (G d) st
  unfolding emit
  group_emits d = refl

  abbrev shown : Bool → Declar
  shown b = cond b (valued (wᵈ 0) (name_at p (wᵈ 1)) (list_at p (wᵈ 2)) (expr_at p (wᵈ 3)) (expr_at p (wᵈ 4))) (typed (wᵈ 0) (name_at p (wᵈ 1)) (list_at p (wᵈ 2)) (expr_at p (wᵈ 3)))

  pub valued_lists : (kind : ℕ) (v : Bool) → kind ≡ wᵈ 0 → v ≡ has_value kind → v ≡ true →
      put_group (emit (main_def opts (wᵈ 0) (name_at p (wᵈ 1)) (list_at p (wᵈ 2)) (expr_at p (wᵈ 3)) (expr_at p (wᵈ 4))) st) ≡ emit (declar_doc opts (declar_at p r)) st
  unfolding declar_at declar_doc
  valued_lists kind v ek ev et =
      group_emits _ ∙ sym (ap (λ (b : Bool). emit (declar_doc opts (shown b)) st) (ap has_value (sym ek) ∙ sym ev ∙ et))

  pub typed_lists : (kind : ℕ) (v : Bool) → kind ≡ wᵈ 0 → v ≡ has_value kind → v ≡ false →
      put_group (emit (main_axiom opts (wᵈ 0) (name_at p (wᵈ 1)) (list_at p (wᵈ 2)) (expr_at p (wᵈ 3))) st) ≡ emit (declar_doc opts (declar_at p r)) st
  unfolding declar_at declar_doc
  typed_lists kind v ek ev ef =
      group_emits _ ∙ sym (ap (λ (b : Bool). emit (declar_doc opts (shown b)) st) (ap has_value (sym ek) ∙ sym ev ∙ ef))

-- a kind that has a value
pub has_value_lem : (kind k : ℕ) (v : Bool) → kind ≡ k → v ≡ has_value kind → v ≡ true → has_value k ≡ true
has_value_lem kind k v e f t = ap has_value (sym e) ∙ sym f ∙ t
