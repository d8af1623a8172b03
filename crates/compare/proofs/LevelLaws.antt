-- Laws of the equality of levels and lists, in the words of the code.
use Prim.Native.Nat.{ℕ, zero, suc, ◌+◌, ◌-◌, ◌<◌, ◌≤◌}
use native.Mathlib.Omega.{arith}
use mathlib.Core.Bool.{Bool, true, false, ◌&&◌, not}
use Rattle.std.specs.Prelude.{Option, Some, None}
use Rattle.std.specs.Option.{is_some, option_eq}
use denote.Enum.Bare.{sameb}
use mathlib.Core.List.{List}
use mathlib.Core.Path.{◌≡◌, refl, sym, ap, ap₂, ◌∙◌, subst}
use lib.ListN.{length}
use Rattle.basics.proofs.Booleans.{and-true, and_both, true-false, not_so}
use Rattle.utf8.specs.Letterlike.{same_bytes}
use Rattle.pool.specs.Tables.{Pool, N, L, K, Q, level_word, list_word, list_entry}
use Rattle.pool.specs.Tree.{Shape, Level, zeroˡ, name_shape, level_shape, level_shapes, same_shape, same_shapes}
use Rattle.pool.specs.Unfold.{name_at, level_at, levels_from, list_at}
use Rattle.pool.proofs.TreeLaws.{shape_same, shape_equal, shapes_same, labels_differ, levels_equal_lem}
use Rattle.pool.proofs.RowUnfolds.{zero_at, succ_at, max_at, imax_at, param_at, succ_ok, succ_rest, max_ok, imax_ok, param_ok, level_label_word}
use Rattle.pool.proofs.RowUnfolds.{list_fits, entry-fits}
use Rattle.compare.specs.Seen.{packed, with_key, Holds}
use Rattle.pool.specs.Sound.{Sound}
use Rattle.pool.specs.Codes.{Stands, level_code}
use Rattle.pool.specs.contracts.kinds.LevelKind.{the_type as LevelType}
use Rattle.pool.proofs.Standing.{levels_one, levels_two}
use Rattle.links.specs.Links.{Clear, Linked, Settled}
use Rattle.links.proofs.LinkLaws.{clear_owes}
use Rattle.occurrence.specs.Asked.{Told}
use Rattle.occurrence.proofs.SearchLaws.{told}
use Rattle.compare.specs.Equal.{Quick, Compared, levels_same, level_shape_at, EqualLevels, Branches, TwoLevels, lists_same, TwoLists}
use Rattle.compare.proofs.SeenLaws.{holds_put}

-- ---- a first look

module _ (asked : Bool) (Open : Type 0) where
  pub answered : (b : Bool) → asked ≡ b → Quick asked Open (Some b)
  answered b e = record { told = told asked b (sym e); left = λ n. cc }

  pub they_may : Open → Quick asked Open None
  they_may o = record { told = λ b e. cc; left = λ n. o }

-- where a first look answers nothing
pub left_open : (asked : Bool) (Open : Type 0) (v : Option Bool) → Quick asked Open v → ((b : Bool) → v ≡ Some b → ⊥) → Open
left_open asked Open None q n = q.left refl
left_open asked Open (Some b) q n = absurd (n b refl)

pub no_answer : (v : Option Bool) (s : Bool) → s ≡ is_some v → s ≡ false → v ≡ None
no_answer None s e n = refl
no_answer (Some b) s e n = let d : true ≡ false = sym e ∙ n in cc

one_to_three : (P : ℕ → Type 0) → P 1 → P 2 → P 3 → (k : ℕ) → (k ≡ 0 → ⊥) → k < 4 → P k
one_to_three P p q r zero n h = absurd (n refl)
one_to_three P p q r (suc zero) n h = p
one_to_three P p q r (suc (suc zero)) n h = q
one_to_three P p q r (suc (suc (suc zero))) n h = r
one_to_three P p q r (suc (suc (suc (suc k)))) n h = absurd (omega arith)

module _ (p : Pool) (sound : Sound p) (a b : ℕ) (ha : a < L p.words) (hb : b < L p.words) where
  abbrev wa : ℕ → ℕ
  wa k = level_word p.words a k

  abbrev wb : ℕ → ℕ
  wb k = level_word p.words b k

  pub one_row : a ≡ b → Quick (levels_same p a b) (Branches p a b) (Some true)
  one_row e = answered _ _ true (ap (λ (r : ℕ). levels_same p r b) e ∙ shape_same _)

  -- the rows' kinds are read as o and q, and tested
  module _ (o q : Option LevelType.D) (s : Stands level_code 4 (wa 0) o) (t : Stands level_code 4 (wb 0) q) (u : Bool)
      (tested : u ≡ not (option_eq (sameb LevelType) o q)) where
    pub other_kinds : u ≡ true → Quick (levels_same p a b) (Branches p a b) (Some false)
    other_kinds e =
        answered _ _ false
        (labels_differ _ _
        (λ l. levels_two p sound a b ha o q s t u tested e (sym (level_label_word p sound a ha) ∙ l ∙ level_label_word p sound b hb)))

    module _ (one : u ≡ false) where
      kind_b : (k : ℕ) → wa 0 ≡ k → wb 0 ≡ k
      kind_b k e = sym (levels_one p sound a b ha o q s t u tested one) ∙ e

      pub both_zero : wa 0 ≡ 0 → Quick (levels_same p a b) (Branches p a b) (Some true)
      both_zero q =
          answered _ _ true
          (ap₂ (λ (l m : Level). same_shape (level_shape l) (level_shape m)) (zero_at p sound a ha q) (zero_at p sound b hb (kind_b 0 q))
          ∙ shape_same (level_shape zeroˡ))

      both_succ : wa 0 ≡ 1 → Branches p a b
      unfolding level_shape same_shape same_bytes
      both_succ q =
          let la = succ_ok p sound a ha q in
          let lb = succ_ok p sound b hb (kind_b 1 q) in
          let za = succ_rest p sound a ha q in
          let zb = succ_rest p sound b hb (kind_b 1 q) in
          record {
            lower₁ = la;
            lower₂ = omega (arith, la, za);
            lower₃ = lb;
            lower₄ = omega (arith, lb, zb);
            both =
                rw (
                  succ_at p sound a ha q,
                  succ_at p sound b hb (kind_b 1 q),
                  za,
                  zb,
                  shape_same (level_shape (level_at p 0)),
                );
          }

      both_max : wa 0 ≡ 2 → Branches p a b
      unfolding level_shape same_shape same_bytes
      both_max q =
          let la = max_ok p sound a ha q in
          let lb = max_ok p sound b hb (kind_b 2 q) in
          record {
            lower₁ = la.0;
            lower₂ = la.1;
            lower₃ = lb.0;
            lower₄ = lb.1;
            both = rw (max_at p sound a ha q, max_at p sound b hb (kind_b 2 q), and-true (levels_same p (wa 2) (wb 2)));
          }

      both_imax : wa 0 ≡ 3 → Branches p a b
      unfolding level_shape same_shape same_bytes
      both_imax q =
          let la = imax_ok p sound a ha q in
          let lb = imax_ok p sound b hb (kind_b 3 q) in
          record {
            lower₁ = la.0;
            lower₂ = la.1;
            lower₃ = lb.0;
            lower₄ = lb.1;
            both = rw (imax_at p sound a ha q, imax_at p sound b hb (kind_b 3 q), and-true (levels_same p (wa 2) (wb 2)));
          }

      pub branches : (wa 0 ≡ 0 → ⊥) → wa 0 < 4 → Quick (levels_same p a b) (Branches p a b) None
      branches n h = they_may _ _ (one_to_three (λ (k : ℕ). wa 0 ≡ k → Branches p a b) both_succ both_max both_imax (wa 0) n h refl)

      module _ (is_param : wa 0 ≡ 4) (x y : ℕ) (ex : x ≡ wa 1) (ey : y ≡ wb 1) where
        pub names_there : (x < N p.names) × (y < N p.names)
        names_there = (rw ex (param_ok p sound a ha is_param), rw ey (param_ok p sound b hb (kind_b 4 is_param)))

        by_names : levels_same p a b ≡ same_shape (name_shape (name_at p x)) (name_shape (name_at p y))
        unfolding level_shape same_shape same_bytes
        by_names =
            rw (param_at p sound a ha is_param, param_at p sound b hb (kind_b 4 is_param), ex, ey)
            (and-true (same_shape (name_shape (name_at p (wa 1))) (name_shape (name_at p (wb 1)))))

        pub params_are : (r : Bool) → r ≡ same_shape (name_shape (name_at p x)) (name_shape (name_at p y)) → Quick (levels_same p a b) (Branches p a b) (Some r)
        params_are r er = answered _ _ r (by_names ∙ sym er)

-- ---- the comparison

module _ (p : Pool) (known : List ℕ) (a b : ℕ) (s : TwoLevels p known a b) where
  module _ (open_now : Branches p a b) where
    module _ (x y : ℕ) (ex : x ≡ level_word p.words a 1) (ey : y ≡ level_word p.words b 1) where
      pub ask_one : (x < a) × TwoLevels p known x y
      ask_one =
          let g : x < a = rw ex open_now.lower₁ in
          let h : y < b = rw ey open_now.lower₃ in
          (g, record { a_row = omega (arith, s.a_row); b_row = omega (arith, s.b_row); holds = s.holds })

      module _ (known₁ : List ℕ) (v₁ : Bool) (c₁ : Compared (EqualLevels p) (levels_same p x y) known₁ v₁) where
        is₁ : levels_same p (level_word p.words a 1) (level_word p.words b 1) ≡ v₁
        is₁ = sym (c₁.answer ∙ ap₂ (levels_same p) ex ey)

        pub not-one : v₁ ≡ false → Compared (EqualLevels p) (levels_same p a b) known₁ false
        not-one e = record { answer = sym (open_now.both ∙ rw (is₁, e)); holds = c₁.holds }

        module _ (y₁ : v₁ ≡ true) (u w : ℕ) (eu : u ≡ level_word p.words a 2) (ew : w ≡ level_word p.words b 2) where
          pub ask_two : (u < a) × TwoLevels p known₁ u w
          ask_two =
              let g : u < a = rw eu open_now.lower₂ in
              let h : w < b = rw ew open_now.lower₄ in
              (g, record { a_row = omega (arith, s.a_row); b_row = omega (arith, s.b_row); holds = c₁.holds })

          module _ (known₂ : List ℕ) (v₂ : Bool) (c₂ : Compared (EqualLevels p) (levels_same p u w) known₂ v₂) where
            is₂ : levels_same p (level_word p.words a 2) (level_word p.words b 2) ≡ v₂
            is₂ = sym (c₂.answer ∙ ap₂ (levels_same p) eu ew)

            pub not_two : v₂ ≡ false → Compared (EqualLevels p) (levels_same p a b) known₂ false
            not_two e = record { answer = sym (open_now.both ∙ rw (is₁, y₁, is₂, e)); holds = c₂.holds }

            pub both_agree : v₂ ≡ true → (slot : ℕ) (key : Option ℕ) (known₃ : List ℕ) → key ≡ packed a b 0 → known₃ ≡ with_key known₂ slot key
                → Compared (EqualLevels p) (levels_same p a b) known₃ true
            both_agree e slot key known₃ ek e₃ =
                let r : levels_same p a b ≡ true = open_now.both ∙ rw (is₁, y₁, is₂, e) in
                record {
                  answer = sym r;
                  holds = subst (Holds (EqualLevels p)) (sym e₃) (holds_put (EqualLevels p) known₂ slot key a b 0 c₂.holds ek r);
                }

-- ---- in few steps, and in a pass

module _ (p : Pool) where
  abbrev S : ℕ → Shape
  S = level_shape_at p

  pub equal_is : (a b : ℕ) → levels_same p a b ≡ true → S a ≡ S b
  equal_is a b e = shape_equal (S a) (S b) e

  pub is_equal_lem : (x y : ℕ) → S x ≡ S y → levels_same p x y ≡ true
  is_equal_lem x y e = subst (λ (z : Shape). same_shape (S x) z ≡ true) e (shape_same (S x))

  module _ (a b : ℕ) (q : Option Bool) (quick : Quick (levels_same p a b) (Branches p a b) q) where
    pub no_glance : q ≡ Some false → S a ≡ S b → ⊥
    no_glance e h = true-false (sym (is_equal_lem a b h) ∙ quick.told false e)

    pub a_glance : q ≡ Some true → S a ≡ S b
    a_glance e = equal_is a b (quick.told true e)

  module _ (a b : ℕ) (open_then : Branches p a b) where
    pub firsts_lower : (x y : ℕ) → x ≡ level_word p.words a 1 → y ≡ level_word p.words b 1 → (x < a) × (y < b)
    firsts_lower x y ex ey = (rw ex open_then.lower₁, rw ey open_then.lower₃)

    pub seconds_lower : (x y : ℕ) → x ≡ level_word p.words a 2 → y ≡ level_word p.words b 2 → (x < a) × (y < b)
    seconds_lower x y ex ey = (rw ex open_then.lower₂, rw ey open_then.lower₄)

    module _ (x y u w : ℕ) (ex : x ≡ level_word p.words a 1) (ey : y ≡ level_word p.words b 1) (eu : u ≡ level_word p.words a 2) (ew : w ≡ level_word p.words b 2) where
      by_both : levels_same p a b ≡ levels_same p x y && levels_same p u w
      by_both = open_then.both ∙ ap₂ ◌&&◌ (ap₂ (levels_same p) (sym ex) (sym ey)) (ap₂ (levels_same p) (sym eu) (sym ew))

      pub from_both : S x ≡ S y → S u ≡ S w → S a ≡ S b
      from_both f g = equal_is a b (by_both ∙ rw (is_equal_lem x y f, is_equal_lem u w g))

      pub to_both : S a ≡ S b → (S x ≡ S y) × (S u ≡ S w)
      to_both e =
          let h = and_both (levels_same p x y) (levels_same p u w) (sym by_both ∙ is_equal_lem a b e) in
          (shape_equal (S x) (S y) h.0, shape_equal (S u) (S w) h.1)

    module _ (x y : ℕ) (ex : x ≡ level_word p.words a 1) (ey : y ≡ level_word p.words b 1) where
      pub told_one : levels_same p x y ≡ false → Told (levels_same p a b) (Some false)
      told_one f = told _ _ (sym (by_both x y _ _ ex ey refl refl ∙ rw f))

      pub told_two : levels_same p x y ≡ true → (u w : ℕ) → u ≡ level_word p.words a 2 → w ≡ level_word p.words b 2 → (v : Option Bool)
          → Told (levels_same p u w) v → Told (levels_same p a b) v
      told_two f u w eu ew v t = λ c e. by_both x y u w ex ey eu ew ∙ rw (f, t c e)

pub told_none : (asked : Bool) → Told asked None
told_none asked = λ b e. cc

-- a pass over what a clear array and one pair of rows owe
pub told_pass : (p : Pool) (a b : ℕ) (before after : List ℕ) (v : Option Bool) → Clear before → Linked before after a b → Settled (level_shape_at p) after v
    → Told (levels_same p a b) v
told_pass p a b before after v c l s = by
  where
    by : (x : Bool) → v ≡ Some x → levels_same p a b ≡ x
    by false e = not_so _ (λ q. s.refuted e (l.up (level_shape_at p) (clear_owes _ _ before c) (shape_equal _ _ q)))
    by true e = is_equal_lem p a b (l.tied (level_shape_at p) (s.holds e))

-- ---- lists

module _ (p : Pool) (x y n i : ℕ) (v : Bool) where
  module _ (h : i < n) where
    list_next : lists_same p (x + i) (y + i) (n - i)
        ≡ levels_same p (list_entry p.words (x + i)) (list_entry p.words (y + i)) && lists_same p (x + (i + 1)) (y + (i + 1)) (n - (i + 1))
    unfolding levels_from level_shapes same_shape
    list_next =
        let e : n - i ≡ suc (n - (i + 1)) = omega arith in
        let ex : x + (i + 1) ≡ suc (x + i) = omega arith in
        let ey : y + (i + 1) ≡ suc (y + i) = omega arith in
        rw (e, ex, ey)

    module _ (l m : ℕ) (el : l ≡ list_entry p.words (x + i)) (em : m ≡ list_entry p.words (y + i)) (r : Bool) (er : r ≡ levels_same p l m)
        (s : lists_same p (x + i) (y + i) (n - i) ≡ v) where
      entry_is : levels_same p (list_entry p.words (x + i)) (list_entry p.words (y + i)) ≡ r
      entry_is = sym (er ∙ ap₂ (levels_same p) el em)

      pub entry_differs : r ≡ false → false ≡ v
      entry_differs q = sym (list_next ∙ rw (entry_is, q)) ∙ s

      pub entry_agrees : r ≡ true → lists_same p (x + (i + 1)) (y + (i + 1)) (n - (i + 1)) ≡ v
      entry_agrees q = sym (list_next ∙ rw (entry_is, q)) ∙ s

  pub list_start : lists_same p (x + 0) (y + 0) (n - 0) ≡ lists_same p x y n
  list_start =
      let ex : x + 0 ≡ x = omega arith in
      let ey : y + 0 ≡ y = omega arith in
      let en : n - 0 ≡ n = omega arith in
      rw (ex, ey, en)

  pub list_end : n ≤ i → lists_same p (x + i) (y + i) (n - i) ≡ v → true ≡ v
  unfolding levels_from level_shapes same_shape
  list_end h s = let e : n - i ≡ 0 = omega arith in sym (ap (lists_same p (x + i) (y + i)) e) ∙ s

pub entries_there : (p : Pool) → Sound p → (x y n i l m : ℕ) → TwoLists p x y n → i < n → l ≡ list_entry p.words (x + i) → m ≡ list_entry p.words (y + i)
    → (l < L p.words) × (m < L p.words)
entries_there p sound x y n i l m s h el em =
    (rw el (entry-fits p sound (x + i) (omega (arith, s.x_fits))), rw em (entry-fits p sound (y + i) (omega (arith, s.y_fits))))

module _ (p : Pool) (sound : Sound p) (a b : ℕ) (ha : a < K p.words) (hb : b < K p.words) where
  abbrev lists : Bool
  lists = same_shapes (level_shapes (list_at p a)) (level_shapes (list_at p b))

  pub one_list : a ≡ b → true ≡ lists
  one_list e = sym (ap (λ (r : ℕ). same_shapes (level_shapes (list_at p r)) (level_shapes (list_at p b))) e ∙ shapes_same _)

  from_length : (i n : ℕ) → length (levels_from p i n) ≡ n
  unfolding levels_from
  from_length i zero = refl
  from_length i (suc n) = ap suc (from_length (suc i) n)

  module _ (m n : ℕ) (em : m ≡ list_word p.words a 1) (en : n ≡ list_word p.words b 1) where
    pub other_lengths : (m ≡ n → ⊥) → false ≡ lists
    unfolding list_at
    other_lengths ne =
        sym (not_so _ (λ q. ne (em ∙ sym (from_length _ _) ∙ ap length (levels_equal_lem (list_at p a) (list_at p b) q) ∙ from_length _ _ ∙ sym en)))

    module _ (e : m ≡ n) (x y : ℕ) (ex : x ≡ list_word p.words a 0) (ey : y ≡ list_word p.words b 0) where
      pub lists_there : TwoLists p x y m
      lists_there =
          let ga : list_word p.words a 0 + list_word p.words a 1 ≤ Q p.words = list_fits p sound a ha in
          let gb : list_word p.words b 0 + list_word p.words b 1 ≤ Q p.words = list_fits p sound b hb in
          record { x_fits = omega arith; y_fits = omega arith }

      pub lists_are : (v : Bool) → v ≡ lists_same p x y m → v ≡ lists
      unfolding list_at
      lists_are v q =
          q ∙ ap₂ (λ (i j : ℕ). same_shapes (level_shapes (levels_from p i m)) (level_shapes (levels_from p j m))) ex ey
          ∙ ap₂ (λ (i j : ℕ). same_shapes (level_shapes (levels_from p (list_word p.words a 0) i)) (level_shapes (levels_from p (list_word p.words b 0) j))) em (e ∙ en)
