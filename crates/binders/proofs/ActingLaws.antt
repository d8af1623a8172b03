-- Which operator acts on an application: what the code reads of the table and of the application's rows.
use Prim.Native.Nat.{ℕ, zero, suc, ◌-◌, ◌<◌, ◌≤◌}
use native.Mathlib.Omega.{arith}
use mathlib.Core.Path.{◌≡◌, refl, sym, ap, ◌∙◌}
use lib.ListN.{length, get_or}
use borrow.Author.Tests.{eq-eqb, ne_eqb}
use Rattle.std.specs.Prelude.{Option, None, Some}
use Rattle.pool.specs.Kinds.{NotationKind, notation_kind, prefixᵏ, infixᵏ, postfixᵏ, noNotationᵏ}
use Rattle.pool.specs.Notation.{Operator, operator_at, operator_from, operator_of}
use Rattle.pool.specs.Sound.{Sound}
use Rattle.pool.specs.Tables.{Pool, N, E, T, expr_word, notation_word}
use Rattle.pool.specs.Tree.{Name, Expr, var, sort, const, app, pi, lam, letᵉ, proj, nat, str, shape}
use Rattle.pool.specs.Unfold.{name_at, expr_at}
use Rattle.pool.proofs.ExprUnfolds.{const_at, app_at, label_word}
use Rattle.pool.proofs.TreeLaws.{label}
use Rattle.notation.proofs.Entries.{entry_says}
use Rattle.binders.specs.Acting.{operands, argument_count, acting_on, acting, constant_operator}
use Rattle.binders.specs.Operators.{head_operator}
use Rattle.binders.specs.Options.{PpOptions, options_of, pool_of}
use Rattle.binders.specs.declared.printer.Printer.{Printer}

-- ---- trees

few_operands : (k : NotationKind) → operands k ≤ 2
unfolding operands
few_operands prefixᵏ = omega arith
few_operands infixᵏ = omega arith
few_operands postfixᵏ = omega arith
few_operands noNotationᵏ = omega arith

-- none acts on three arguments or more
too_many : (o : Option Operator) (n : ℕ) → 2 < n → acting_on o n ≡ None
unfolding acting_on
too_many None n h = refl
too_many (Some o) n h = rw (ne_eqb n (operands o.kind) (λ e. omega (arith, few_operands o.kind, e)))

module _ (opts : PpOptions) where
  -- an application of one argument
  pub acting_one : (f a : Expr) → (label (shape f) ≡ 3 → ⊥) → acting opts (app f a) ≡ acting_on (constant_operator opts f) 1
  unfolding head_operator argument_count constant_operator label shape
  acting_one (var i) a n = refl
  acting_one (sort l) a n = refl
  acting_one (const m ls) a n = refl
  acting_one (app g b) a n = absurd (n refl)
  acting_one (pi p m s t b) a n = refl
  acting_one (lam p m s t b) a n = refl
  acting_one (letᵉ p m t v b d) a n = refl
  acting_one (proj m i e) a n = refl
  acting_one (nat s) a n = refl
  acting_one (str s) a n = refl

  pub none_acts : (count : ℕ) → acting_on None count ≡ None
  unfolding acting_on
  none_acts count = refl

  -- of two, or more
  pub acting_two : (g b a : Expr) → acting opts (app (app g b) a) ≡ acting_on (constant_operator opts g) 2
  unfolding head_operator argument_count constant_operator
  acting_two (var i) b a = refl
  acting_two (sort l) b a = refl
  acting_two (const m ls) b a = refl
  acting_two (app h c) b a = too_many (head_operator opts h) _ (omega arith) ∙ sym (none_acts 2)
  acting_two (pi p m s t c) b a = refl
  acting_two (lam p m s t c) b a = refl
  acting_two (letᵉ p m t v c d) b a = refl
  acting_two (proj m i e) b a = refl
  acting_two (nat s) b a = refl
  acting_two (str s) b a = refl

  constant_none : (e : Expr) → (label (shape e) ≡ 2 → ⊥) → constant_operator opts e ≡ None
  unfolding constant_operator label shape
  constant_none (var i) n = refl
  constant_none (sort l) n = refl
  constant_none (const m ls) n = absurd (n refl)
  constant_none (app f a) n = refl
  constant_none (pi p m s t b) n = refl
  constant_none (lam p m s t b) n = refl
  constant_none (letᵉ p m t v b d) n = refl
  constant_none (proj m i e) n = refl
  constant_none (nat s) n = refl
  constant_none (str s) n = refl

  -- where no name has an operator
  head_none : ((n : Name) → opts.operators n ≡ None) → (e : Expr) → head_operator opts e ≡ None
  unfolding head_operator
  head_none h (var i) = refl
  head_none h (sort l) = refl
  head_none h (const m ls) = h m
  head_none h (app f a) = head_none h f
  head_none h (pi p m s t b) = refl
  head_none h (lam p m s t b) = refl
  head_none h (letᵉ p m t v b d) = refl
  head_none h (proj m i e) = refl
  head_none h (nat s) = refl
  head_none h (str s) = refl

pub acting_some : (p : Pool) (o : Option Operator) (t count n : ℕ) → o ≡ Some (operator_at p t) → n ≡ operands (notation_kind (notation_word p.words t 1)) → n ≡ count
    → acting_on o count ≡ Some (operator_at p t)
unfolding acting_on operator_at
acting_some p o t count n e k c = rw (e, eq-eqb count (operands (notation_kind (notation_word p.words t 1))) (omega (arith, k, c)))

pub acting_other : (p : Pool) (o : Option Operator) (t count n : ℕ) → o ≡ Some (operator_at p t) → n ≡ operands (notation_kind (notation_word p.words t 1))
    → (n ≡ count → ⊥) → acting_on o count ≡ None
unfolding acting_on operator_at
acting_other p o t count n e k c =
    rw (e, ne_eqb count (operands (notation_kind (notation_word p.words t 1))) (λ q. let d : n ≡ count = omega (arith, k, q) in c d))

-- ---- rows

no_rows : (p : Pool) → T p.words ≡ 0 → (n : Name) → operator_of p n ≡ None
unfolding operator_of operator_from
no_rows p e n = rw e

module _ (q : Printer) where
  abbrev p : Pool
  p = pool_of q

  abbrev opts : PpOptions
  opts = options_of q

  sound : Sound p
  sound = q.pool.sound

  -- the entry of a name row
  module _ (name : ℕ) (h : name < N p.names) where
    pub entry_none : get_or q.operators.now name 0 ≡ 0 → operator_of p (name_at p name) ≡ None
    entry_none e = let says = entry_says p (name_at p name) in says.none (sym (q.told name h) ∙ e)

    pub entry_row : (entry : ℕ) → entry ≡ get_or q.operators.now name 0 → (entry ≡ 0 → ⊥)
        → (entry - 1 < T p.words) × (operator_of p (name_at p name) ≡ Some (operator_at p (entry - 1)))
    entry_row zero e n = absurd (n refl)
    entry_row (suc t) e n =
        let says = entry_says p (name_at p name) in
        let m : suc t - 1 ≡ t = omega arith in
        rw m (says.gives t (sym (q.told name h) ∙ sym e))

  -- a head at a row
  module _ (r : ℕ) (h : r < E p.words) (count : ℕ) where
    abbrev w : ℕ → ℕ
    w i = expr_word p.words r i

    pub head_is_none : (w 0 ≡ 2 → ⊥) → acting_on (constant_operator opts (expr_at p r)) count ≡ None
    unfolding acting_on
    head_is_none n = rw (constant_none opts (expr_at p r) (λ e. n (sym (label_word p sound r h) ∙ e)))

    pub constant_is : w 0 ≡ 2 → constant_operator opts (expr_at p r) ≡ operator_of p (name_at p (w 1))
    unfolding constant_operator
    constant_is e = rw (const_at p sound r h e)

    pub name_acts : (n : ℕ) → w 0 ≡ 2 → n ≡ w 1
        → acting_on (operator_of p (name_at p n)) count ≡ acting_on (constant_operator opts (expr_at p r)) count
    name_acts n e m = ap (λ (o : Option Operator). acting_on o count) (ap (λ (i : ℕ). operator_of p (name_at p i)) m ∙ sym (constant_is e))

  -- an application's row
  module _ (r : ℕ) (h : r < E p.words) (is_app : expr_word p.words r 0 ≡ 3) where
    pub nothing_acts : length q.operators.now ≡ 0 → acting opts (expr_at p r) ≡ None
    unfolding acting_on
    nothing_acts e = rw (head_none opts (no_rows p (q.none e)) (expr_at p r))

    pub acts_on_one : (f : ℕ) → f < E p.words → f ≡ expr_word p.words r 1 → (expr_word p.words f 0 ≡ 3 → ⊥)
        → acting_on (constant_operator opts (expr_at p f)) 1 ≡ acting opts (expr_at p r)
    acts_on_one f l e n =
        sym (ap (acting opts) (app_at p sound r h is_app ∙ ap (λ (i : ℕ). app (expr_at p i) (expr_at p (expr_word p.words r 2))) (sym e))
        ∙ acting_one opts (expr_at p f) _ (λ x. n (sym (label_word p sound f l) ∙ x)))

    pub acts_on_two : (f g : ℕ) → f < E p.words → f ≡ expr_word p.words r 1 → expr_word p.words f 0 ≡ 3 → g ≡ expr_word p.words f 1
        → acting_on (constant_operator opts (expr_at p g)) 2 ≡ acting opts (expr_at p r)
    acts_on_two f g l e k m =
        sym (ap (acting opts) (app_at p sound r h is_app ∙ ap (λ (i : ℕ). app (expr_at p i) (expr_at p (expr_word p.words r 2))) (sym e)
        ∙ ap (λ (x : Expr). app x (expr_at p (expr_word p.words r 2))) (app_at p sound f l k ∙ ap (λ (i : ℕ). app (expr_at p i) (expr_at p (expr_word p.words f 2))) (sym m)))
        ∙ acting_two opts (expr_at p g) _ _)
