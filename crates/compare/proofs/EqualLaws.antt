-- Laws of the equality of trees, in the words of the code.
use Prim.Native.Nat.{ℕ, suc, ◌+◌, ◌-◌, ◌<◌, ◌≤◌}
use native.Mathlib.Omega.{arith}
use native.Mathlib.Numerals.{add-one}
use mathlib.Core.Bool.{Bool, true, false, ◌&&◌, not, cond}
use Rattle.std.specs.Prelude.{Option, Some, None}
use Rattle.std.specs.Option.{option_eq}
use denote.Enum.Bare.{sameb}
use mathlib.Core.Path.{◌≡◌, refl, sym, ap, ap₂, ◌∙◌, subst}
use lib.ListN.{length}
use lib.Dec.{ltb, eqb}
use borrow.Author.Tests.{eq-eqb, ne_eqb, lt-ltb, le-ltb}
use Rattle.basics.proofs.Booleans.{and-true}
use Rattle.utf8.specs.Letterlike.{same_bytes}
use Rattle.pool.specs.Tables.{Pool, S, N, L, K, E, string_word, expr_word, string_at}
use Rattle.pool.specs.Tree.{Expr, var, sort, const, app, pi, lam, letᵉ, proj, nat, str, loose, lift, shape, level_shapes, same_shape, same_shapes, same}
use Rattle.pool.specs.Unfold.{list_at, expr_at}
use Rattle.pool.specs.Sound.{Sound}
use Rattle.pool.proofs.TreeLaws.{label, labels_differ, differs_depth, differs_loose, lift-depth, lift-loose, raised, raised_low, raised_high, lift_closed, lift_none}
use Rattle.pool.proofs.TreeLaws.{same_self}
use Rattle.pool.specs.Codes.{Stands, expr_code}
use Rattle.pool.specs.contracts.kinds.ExprKind.{the_type as ExprType}
use Rattle.pool.proofs.Standing.{exprs_one, exprs_two}
use Rattle.pool.proofs.RowUnfolds.{string_fits}
use Rattle.pool.proofs.ExprUnfolds.{kind_small, depth-word, loose-word, label_word, var_at, sort_at, const_at, app_at, pi_at, lam_at, let_at, proj_at, nat_at, str_at}
use Rattle.pool.proofs.ExprUnfolds.{sort_ok, const_ok, pi_ok, lam_ok, let_ok, proj_ok, nat_ok, str_ok}
use Rattle.pool.specs.Sound.{Sound}
use Rattle.occurrence.specs.Parts.{first_part, second_part, body_part}
use Rattle.compare.specs.Equal.{Quick, trees_same, names_same, levels_same, besides, string_of, fields_same, parts_same, ByParts, OneKind}
use Rattle.compare.specs.Equal.{same_at}
use Rattle.occurrence.proofs.PartLaws.{ten}
use Rattle.compare.proofs.LevelLaws.{answered, they_may}

-- ---- a first look

lift_label : (n c : ℕ) (e : Expr) → label (shape (lift n c e)) ≡ label (shape e)
unfolding label shape lift
lift_label n c (var i) = refl
lift_label n c (sort l) = refl
lift_label n c (const a ls) = refl
lift_label n c (app f a) = refl
lift_label n c (pi p a s t b) = refl
lift_label n c (lam p a s t b) = refl
lift_label n c (letᵉ p a t v b d) = refl
lift_label n c (proj a i e) = refl
lift_label n c (nat s) = refl
lift_label n c (str s) = refl

module _ (p : Pool) (sound : Sound p) (a b : ℕ) (ha : a < E p.words) (hb : b < E p.words) (d c : ℕ) where
  abbrev Answer : Option Bool → Type 0
  Answer v = Quick (trees_same p d c a b) (expr_word p.words a 0 ≡ expr_word p.words b 0) v

  pub other_depths : (x y : ℕ) → x ≡ expr_word p.words a 6 → y ≡ expr_word p.words b 6 → (x ≡ y → ⊥) → Answer (Some false)
  other_depths x y ex ey n =
      answered _ _ false
      (differs_depth _ _ (λ q. n (ex ∙ depth-word p sound a ha ∙ sym (lift-depth d c (expr_at p a)) ∙ q ∙ sym (depth-word p sound b hb) ∙ sym ey)))

  pub other_labels : (expr_word p.words a 0 ≡ expr_word p.words b 0 → ⊥) → Answer (Some false)
  other_labels n =
      answered _ _ false
      (labels_differ _ _ (λ q. n (sym (label_word p sound a ha) ∙ sym (lift_label d c (expr_at p a)) ∙ q ∙ label_word p sound b hb)))

  -- the rows' kinds are read as o and q, and tested
  module _ (o q : Option ExprType.D) (s : Stands expr_code 9 (expr_word p.words a 0) o) (t : Stands expr_code 9 (expr_word p.words b 0) q)
      (v : Bool) (tested : v ≡ not (option_eq (sameb ExprType) o q)) where
    pub kinds_apart : v ≡ true → Answer (Some false)
    kinds_apart e = other_labels (exprs_two p sound a b ha o q s t v tested e)

    module _ (one : v ≡ false) (x y : ℕ) (ex : x ≡ expr_word p.words a 7) (ey : y ≡ expr_word p.words b 7) where
      loose_a : x ≡ loose (expr_at p a)
      loose_a = ex ∙ loose-word p sound a ha

      loose_b : y ≡ loose (expr_at p b)
      loose_b = ey ∙ loose-word p sound b hb

      lifted_is : loose (lift d c (expr_at p a)) ≡ raised d c x
      lifted_is = lift-loose d c (expr_at p a) ∙ ap (raised d c) (sym loose_a)

      pub may_be : Answer None
      may_be = they_may _ _ (exprs_one p sound a b ha o q s t v tested one)

      module _ (h : x ≤ c) where
        pub low_differs : (x ≡ y → ⊥) → Answer (Some false)
        low_differs n = answered _ _ false (differs_loose _ _ (λ q. n (sym (raised_low d c x h) ∙ sym lifted_is ∙ q ∙ sym loose_b)))

        pub low_agrees : a ≡ b → Answer (Some true)
        low_agrees e =
            answered _ _ true
            (ap (λ (f : Expr). same f (expr_at p b)) (lift_closed d c (expr_at p a) (subst (λ (z : ℕ). z ≤ c) loose_a h) ∙ ap (expr_at p) e)
            ∙ same_self (expr_at p b))

      module _ (h : c < x) where
        pub high_differs : (x + d ≡ y → ⊥) → Answer (Some false)
        high_differs n = answered _ _ false (differs_loose _ _ (λ q. n (sym (raised_high d c x h) ∙ sym lifted_is ∙ q ∙ sym loose_b)))

        pub below_differs : y < x → Answer (Some false)
        below_differs l = high_differs (λ q. omega arith)

        pub apart_differs : x ≤ y → (y - x ≡ d → ⊥) → Answer (Some false)
        apart_differs g n = high_differs (λ q. n (omega arith))

        pub not_lifted : d ≡ 0 → a ≡ b → Answer (Some true)
        not_lifted z e =
            answered _ _ true
            (ap (λ (f : Expr). same f (expr_at p b)) (ap (λ (n : ℕ). lift n c (expr_at p a)) z ∙ lift_none c (expr_at p a) ∙ ap (expr_at p) e)
            ∙ same_self (expr_at p b))

-- ---- by fields and parts

-- what a node's shape compares, in the code's order
order_pi : (s n x y : Bool) → (s && true) && (n && (x && (y && true))) ≡ (n && s) && (x && (true && y))
order_pi s true x true = rw (and-true s)
order_pi s true x false = rw (and-true s)
order_pi true false x y = refl
order_pi false false x y = refl

order_let : (s n x y z : Bool) → (s && true) && (n && (x && (y && (z && true)))) ≡ (n && s) && (x && (y && z))
order_let s true x y z = rw (and-true s, and-true z)
order_let true false x y z = refl
order_let false false x y z = refl

order_proj : (s n x : Bool) → (s && true) && (n && (x && true)) ≡ (n && s) && (x && (true && true))
order_proj s true x = rw (and-true s)
order_proj true false x = refl
order_proj false false x = refl

module _ (p : Pool) (sound : Sound p) (a b : ℕ) (ha : a < E p.words) (hb : b < E p.words) (d c : ℕ) where
  abbrev wa : ℕ → ℕ
  wa k = expr_word p.words a k

  abbrev wb : ℕ → ℕ
  wb k = expr_word p.words b k

  abbrev By : ℕ → Type 0
  By k = wa 0 ≡ k → wb 0 ≡ k → trees_same p d c a b ≡ fields_same p d c a b k && parts_same p d c a b k

  by_var : By 0
  unfolding fields_same parts_same first_part second_part body_part same_at shape lift same_shape same_bytes
  by_var ea eb =
      rw (var_at p sound a ha ea, var_at p sound b hb eb, and-true (eqb (cond (ltb (wa 1) c) (wa 1) (wa 1 + d)) (wb 1)))
      (and-true (eqb (cond (ltb (wa 1) c) (wa 1) (wa 1 + d)) (wb 1)))

  by_sort : By 1
  unfolding fields_same parts_same first_part second_part body_part same_at shape lift same_shape same_bytes
  by_sort ea eb = rw (sort_at p sound a ha ea, sort_at p sound b hb eb)

  by_const : By 2
  unfolding fields_same parts_same first_part second_part body_part same_at shape lift same_shape same_bytes
  by_const ea eb =
      rw (const_at p sound a ha ea, const_at p sound b hb eb)
      (sym (and-true (names_same p (wa 1) (wb 1) && same_shapes (level_shapes (list_at p (wa 2))) (level_shapes (list_at p (wb 2))))))

  by_app : By 3
  unfolding fields_same parts_same first_part second_part body_part same_at shape lift same_shape same_bytes
  by_app ea eb = rw (app_at p sound a ha ea, app_at p sound b hb eb, add-one (wa 1), add-one (wb 1), add-one (wa 2), add-one (wb 2))

  by_pi : By 4
  unfolding fields_same parts_same first_part second_part body_part same_at shape lift same_shape same_bytes
  by_pi ea eb =
      rw (pi_at p sound a ha ea, pi_at p sound b hb eb, add-one (wa 3), add-one (wb 3), add-one (wa 4), add-one (wb 4))
      (order_pi (eqb (wa 2) (wb 2)) (names_same p (wa 1) (wb 1)) (trees_same p d c (wa 3) (wb 3)) (trees_same p d (suc c) (wa 4) (wb 4)))

  by_lam : By 5
  unfolding fields_same parts_same first_part second_part body_part same_at shape lift same_shape same_bytes
  by_lam ea eb =
      rw (lam_at p sound a ha ea, lam_at p sound b hb eb, add-one (wa 3), add-one (wb 3), add-one (wa 4), add-one (wb 4))
      (order_pi (eqb (wa 2) (wb 2)) (names_same p (wa 1) (wb 1)) (trees_same p d c (wa 3) (wb 3)) (trees_same p d (suc c) (wa 4) (wb 4)))

  by_let : By 6
  unfolding fields_same parts_same first_part second_part body_part same_at shape lift same_shape same_bytes
  by_let ea eb =
      rw (let_at p sound a ha ea, let_at p sound b hb eb, add-one (wa 2), add-one (wb 2), add-one (wa 3), add-one (wb 3), add-one (wa 4), add-one (wb 4))
      (order_let (eqb (wa 5) (wb 5)) (names_same p (wa 1) (wb 1)) (trees_same p d c (wa 2) (wb 2)) (trees_same p d c (wa 3) (wb 3)) (trees_same p d (suc c) (wa 4) (wb 4)))

  by_proj : By 7
  unfolding fields_same parts_same first_part second_part body_part same_at shape lift same_shape same_bytes
  by_proj ea eb =
      rw (proj_at p sound a ha ea, proj_at p sound b hb eb, add-one (wa 3), add-one (wb 3))
      (order_proj (eqb (wa 2) (wb 2)) (names_same p (wa 1) (wb 1)) (trees_same p d c (wa 3) (wb 3)))

  by_nat : By 8
  unfolding fields_same parts_same first_part second_part body_part same_at shape lift same_shape same_bytes string_at
  by_nat ea eb = rw (nat_at p sound a ha ea, nat_at p sound b hb eb)

  by_str : By 9
  unfolding fields_same parts_same first_part second_part body_part same_at shape lift same_shape same_bytes string_at
  by_str ea eb = rw (str_at p sound a ha ea, str_at p sound b hb eb)

  pub by_kind : (k : ℕ) → wa 0 ≡ k → wb 0 ≡ k → trees_same p d c a b ≡ fields_same p d c a b k && parts_same p d c a b k
  by_kind k ea eb =
      ten By by_var by_sort by_const by_app by_pi by_lam by_let by_proj by_nat by_str k
      (subst (λ (z : ℕ). z < 10) ea (kind_small p sound a ha)) ea eb

-- ---- the fields

eqb_agrees : (m n x y : ℕ) → (m ≡ n → x ≡ y) → (x ≡ y → m ≡ n) → eqb m n ≡ eqb x y
eqb_agrees m n x y f g = by (eqb x y) refl
  where
    by : (v : Bool) → eqb x y ≡ v → eqb m n ≡ v
    by true e = eq-eqb m n (g (borrow.Author.Tests.eqb-true x y e))
    by false e = ne_eqb m n (λ q. borrow.Author.Tests.eqb-false x y e (f q))

module _ (d c i j i' j' : ℕ) (ei : i ≡ i') (ej : j ≡ j') where
  abbrev Var : Bool → Type 0
  Var v = v ≡ eqb (cond (ltb i' c) i' (i' + d)) j'

  pub var_low : i < c → Var (eqb i j)
  var_low h = ap₂ eqb ei ej ∙ rw (lt-ltb i' c (omega arith))

  pub var_under : c ≤ i → j < i → Var false
  var_under h l = rw (le-ltb i' c (omega arith)) (sym (ne_eqb (i' + d) j' (λ q. omega arith)))

  pub var_over : c ≤ i → i ≤ j → Var (eqb (j - i) d)
  var_over h l = rw (le-ltb i' c (omega arith)) (eqb_agrees (j - i) d (i' + d) j' (λ q. omega arith) (λ q. omega arith))

four_to_seven : (P : ℕ → Type 0) → P 4 → P 5 → P 6 → P 7 → (k : ℕ) → 3 < k → k < 8 → P k
four_to_seven P a b c d k g h =
    ten (λ (i : ℕ). 3 < i → i < 8 → P i) (λ g h. absurd (omega arith)) (λ g h. absurd (omega arith)) (λ g h. absurd (omega arith)) (λ g h. absurd (omega arith))
    (λ g h. a) (λ g h. b) (λ g h. c) (λ g h. d) (λ g h. absurd (omega arith)) (λ g h. absurd (omega arith)) k (omega arith) g h

module _ (p : Pool) (sound : Sound p) (a b kind : ℕ) (s : OneKind p a b kind) where
  at_a : (k : ℕ) → kind ≡ k → expr_word p.words a 0 ≡ k
  at_a k e = sym s.a_kind ∙ e

  at_b : (k : ℕ) → kind ≡ k → expr_word p.words b 0 ≡ k
  at_b k e = sym s.b_kind ∙ e

  pub same_kind : (k : ℕ) → kind ≡ k → OneKind p a b k
  same_kind k e = record { a_row = s.a_row; b_row = s.b_row; a_kind = sym e ∙ s.a_kind; b_kind = sym e ∙ s.b_kind }

  module _ (m n : ℕ) (em : m ≡ expr_word p.words a 1) (en : n ≡ expr_word p.words b 1) where
    pub const_names : kind ≡ 2 → (m < N p.names) × (n < N p.names)
    const_names e =
        (rw em (const_ok p sound a s.a_row (at_a 2 e)).0, rw en (const_ok p sound b s.b_row (at_b 2 e)).0)

    pub sort_levels : kind ≡ 1 → (m < L p.words) × (n < L p.words)
    sort_levels e =
        (rw em (sort_ok p sound a s.a_row (at_a 1 e)), rw en (sort_ok p sound b s.b_row (at_b 1 e)))

    name_there : (r : ℕ) → r < E p.words → expr_word p.words r 0 ≡ kind → 3 < kind → kind < 8 → expr_word p.words r 1 < N p.names
    name_there r h e g l =
        four_to_seven (λ (k : ℕ). expr_word p.words r 0 ≡ k → expr_word p.words r 1 < N p.names)
        (λ q. (pi_ok p sound r h q).0) (λ q. (lam_ok p sound r h q).0)
        (λ q. (let_ok p sound r h q).0) (λ q. (proj_ok p sound r h q).0) kind g l e

    pub named_names : 3 < kind → kind < 8 → (m < N p.names) × (n < N p.names)
    named_names g h =
        (rw em (name_there a s.a_row (sym s.a_kind) g h), rw en (name_there b s.b_row (sym s.b_kind) g h))

    small : kind < 10
    small = rw s.a_kind (kind_small p sound a s.a_row)

    literal : (r : ℕ) → r < E p.words → expr_word p.words r 0 ≡ kind → 8 ≤ kind → expr_word p.words r 1 < S p.names
    literal r h e g =
        ten (λ (k : ℕ). 8 ≤ k → expr_word p.words r 0 ≡ k → expr_word p.words r 1 < S p.names) (λ l q. absurd (omega arith)) (λ l q. absurd (omega arith))
        (λ l q. absurd (omega arith)) (λ l q. absurd (omega arith)) (λ l q. absurd (omega arith)) (λ l q. absurd (omega arith))
        (λ l q. absurd (omega arith)) (λ l q. absurd (omega arith)) (λ l q. nat_ok p sound r h q) (λ l q. str_ok p sound r h q)
        kind small g e

    pub literal_strings : 8 ≤ kind → (string_word p.names m 0 + string_word p.names m 1 ≤ length p.bytes) × (string_word p.names n 0 + string_word p.names n 1 ≤ length p.bytes)
    literal_strings g = (
      rw em (string_fits p sound (expr_word p.words a 1) (literal a s.a_row (sym s.a_kind) g)),
      rw en (string_fits p sound (expr_word p.words b 1) (literal b s.b_row (sym s.b_kind) g)),
    )

  pub const_lists : (x y : ℕ) → x ≡ expr_word p.words a 2 → y ≡ expr_word p.words b 2 → kind ≡ 2 → (x < K p.words) × (y < K p.words)
  const_lists x y ex ey e =
      (rw ex (const_ok p sound a s.a_row (at_a 2 e)).1, rw ey (const_ok p sound b s.b_row (at_b 2 e)).1)

-- ---- all but the parts

module _ (p : Pool) (sound : Sound p) (d a b c : ℕ) (ha : a < E p.words) (hb : b < E p.words) (q : Option Bool)
    (quick : Quick (trees_same p d c a b) (expr_word p.words a 0 ≡ expr_word p.words b 0) q) where
  pub agree_quick : (q ≡ None → ⊥) → Quick (trees_same p d c a b) (ByParts p d c a b) q
  agree_quick n = record { told = quick.told; left = λ e. absurd (n e) }

  module _ (none : q ≡ None) (kind : ℕ) (ek : kind ≡ expr_word p.words a 0) where
    one : expr_word p.words a 0 ≡ expr_word p.words b 0
    one = quick.left none

    pub agree_kind : OneKind p a b kind
    agree_kind = record { a_row = ha; b_row = hb; a_kind = ek; b_kind = ek ∙ one }

    by_fields : trees_same p d c a b ≡ fields_same p d c a b kind && parts_same p d c a b kind
    by_fields = by_kind p sound a b ha hb d c kind (sym ek) (sym (ek ∙ one))

    module _ (v : Bool) (ev : v ≡ fields_same p d c a b kind) where
      pub agree_not : v ≡ false → Quick (trees_same p d c a b) (ByParts p d c a b) (Some false)
      agree_not e = answered _ _ false (by_fields ∙ rw (← ev, e))

      pub agree_open : v ≡ true → Quick (trees_same p d c a b) (ByParts p d c a b) None
      agree_open e = they_may _ _ (record { one = one; both = by_fields ∙ rw (← ev, e) (ap (parts_same p d c a b) ek) })

-- ---- the fields of each kind

module _ (p : Pool) (d c a b kind : ℕ) (v : Bool) where
  abbrev ua : ℕ → ℕ
  ua k = expr_word p.words a k

  abbrev ub : ℕ → ℕ
  ub k = expr_word p.words b k

  pub say_var : kind ≡ 0 → v ≡ eqb (cond (ltb (ua 1) c) (ua 1) (ua 1 + d)) (ub 1) → v ≡ fields_same p d c a b kind
  unfolding fields_same
  say_var e q = q ∙ sym (ap (fields_same p d c a b) e)

  pub say_const : kind ≡ 2 → v ≡ names_same p (ua 1) (ub 1) && same_shapes (level_shapes (list_at p (ua 2))) (level_shapes (list_at p (ub 2)))
      → v ≡ fields_same p d c a b kind
  unfolding fields_same
  say_const e q = q ∙ sym (ap (fields_same p d c a b) e)

  pub say_app : kind ≡ 3 → v ≡ true → v ≡ fields_same p d c a b kind
  unfolding fields_same
  say_app e q = q ∙ sym (ap (fields_same p d c a b) e)

  pub say_sort : (m n : ℕ) → m ≡ ua 1 → n ≡ ub 1 → kind ≡ 1 → v ≡ levels_same p m n → v ≡ fields_same p d c a b kind
  unfolding fields_same
  say_sort m n em en e q = q ∙ ap₂ (levels_same p) em en ∙ sym (ap (fields_same p d c a b) e)

  module _ (n₀ : kind ≡ 0 → ⊥) (n₁ : kind ≡ 1 → ⊥) (n₂ : kind ≡ 2 → ⊥) (n₃ : kind ≡ 3 → ⊥) where
    pub say_named : kind < 8 → v ≡ names_same p (ua 1) (ub 1) && eqb (ua (besides kind)) (ub (besides kind)) → v ≡ fields_same p d c a b kind
    unfolding fields_same
    say_named h q = q ∙ sym (rw (ne_eqb kind 0 n₀, ne_eqb kind 1 n₁, ne_eqb kind 2 n₂, ne_eqb kind 3 n₃, lt-ltb kind 8 h))

    pub say_literal : (m n : ℕ) → m ≡ ua 1 → n ≡ ub 1 → 8 ≤ kind
        → v ≡ same_bytes (string_of p.bytes p.names m) (string_of p.bytes p.names n) → v ≡ fields_same p d c a b kind
    unfolding fields_same
    say_literal m n em en h q =
        q ∙ ap₂ (λ (i j : ℕ). same_bytes (string_of p.bytes p.names i) (string_of p.bytes p.names j)) em en
        ∙ sym (rw (ne_eqb kind 0 n₀, ne_eqb kind 1 n₁, ne_eqb kind 2 n₂, ne_eqb kind 3 n₃, le-ltb kind 8 h))
