-- Laws of what arrays owe.
use Prim.Native.Nat.{ℕ, zero, suc, ◌+◌, ◌<◌, ◌≤◌, min, max}
use native.Mathlib.Omega.{arith}
use native.Mathlib.Numerals.{add-one}
use mathlib.Core.Bool.{Bool, true, false}
use Rattle.std.specs.Prelude.{Option, Some, None}
use mathlib.Core.List.{List}
use mathlib.Core.Path.{◌≡◌, refl, sym, ap, ◌∙◌, subst}
use borrow.Author.Tests.{eqb-true, eqb-false, ltb-true, ltb-false}
use lib.Dec.{eqb, ltb}
use Rattle.std.proofs.lemmas.List.{get_or_past}
use lib.ListN.{length, get_or, set, replicate}
use lib.Seq.{set_out, get_or-set_same, get_or-set_other}
use Rattle.pool.specs.Tree.{Shape}
use Rattle.links.specs.Links.{Owes, Clear, Linked, Put, Stepped, Settled}

-- one entry more, or another one
module _ (F S : ℕ → Shape) (l : List ℕ) (x v : ℕ) (h : x < length l) where
  pub set-up : Owes F S l → ((m : ℕ) → v ≡ suc m → F x ≡ S m) → Owes F S (set l x v)
  set-up o f z m e = by (eqb z x) refl
    where
      by : (b : Bool) → eqb z x ≡ b → F z ≡ S m
      by true q =
          let s : z ≡ x = eqb-true z x q in
          ap F s ∙ f m (sym (get_or-set_same l x v 0 h) ∙ ap (λ (i : ℕ). get_or (set l x v) i 0) (sym s) ∙ e)
      by false q = o z m (sym (get_or-set_other l x z v 0 (eqb-false z x q)) ∙ e)

  pub set_down : Owes F S (set l x v) → ((m : ℕ) → get_or l x 0 ≡ suc m → F x ≡ S m) → Owes F S l
  set_down o f z m e = by (eqb z x) refl
    where
      by : (b : Bool) → eqb z x ≡ b → F z ≡ S m
      by true q =
          let s : z ≡ x = eqb-true z x q in
          ap F s ∙ f m (ap (λ (i : ℕ). get_or l i 0) (sym s) ∙ e)
      by false q = o z m (get_or-set_other l x z v 0 (eqb-false z x q) ∙ e)

  pub set_says : Owes F S (set l x v) → (m : ℕ) → v ≡ suc m → F x ≡ S m
  set_says o m e = o x m (get_or-set_same l x v 0 h ∙ e)

-- the lower of two rows that are equal
lower_is : (S : ℕ → Shape) (x y : ℕ) → S x ≡ S y → (S (min x y) ≡ S x) × (S (min x y) ≡ S y)
lower_is S x y e = by (ltb x y) refl
  where
    by : (b : Bool) → ltb x y ≡ b → (S (min x y) ≡ S x) × (S (min x y) ≡ S y)
    by true q =
        let l : x < y = ltb-true x y q in
        let s : min x y ≡ x = omega arith in
        (ap S s, ap S s ∙ e)
    by false q =
        let l : y ≤ x = ltb-false x y q in
        let s : min x y ≡ y = omega arith in
        (ap S s ∙ sym e, ap S s)

-- the higher and the lower of two
sorted : (S : ℕ → Shape) (x y : ℕ) → S (max x y) ≡ S (min x y) → S x ≡ S y
sorted S x y e = by (ltb x y) refl
  where
    by : (b : Bool) → ltb x y ≡ b → S x ≡ S y
    by true q =
        let l : x < y = ltb-true x y q in
        let s : min x y ≡ x = omega arith in
        let u : max x y ≡ y = omega arith in
        sym (sym (ap S u) ∙ e ∙ ap S s)
    by false q =
        let l : y ≤ x = ltb-false x y q in
        let s : min x y ≡ y = omega arith in
        let u : max x y ≡ x = omega arith in
        sym (ap S u) ∙ e ∙ ap S s

pub unsorted : (S : ℕ → Shape) (x y : ℕ) → S x ≡ S y → S (max x y) ≡ S (min x y)
unsorted S x y e = by (ltb x y) refl
  where
    by : (b : Bool) → ltb x y ≡ b → S (max x y) ≡ S (min x y)
    by true q =
        let l : x < y = ltb-true x y q in
        let s : min x y ≡ x = omega arith in
        let u : max x y ≡ y = omega arith in
        ap S u ∙ sym e ∙ sym (ap S s)
    by false q =
        let l : y ≤ x = ltb-false x y q in
        let s : min x y ≡ y = omega arith in
        let u : max x y ≡ x = omega arith in
        ap S u ∙ e ∙ sym (ap S s)

pub link_none : (l : List ℕ) (x y : ℕ) → x ≡ y → Linked l l x y
link_none l x y e = record { down = λ S o. o; tied = λ S o. ap S e; up = λ S o q. o }

module _ (l after : List ℕ) (x y high low : ℕ) (eh : high ≡ max x y) (el : low ≡ min x y) (h : high < length l) where
  tie : (S : ℕ → Shape) → S high ≡ S low → S x ≡ S y
  tie S e = sorted S x y (ap S (sym eh) ∙ e ∙ ap S el)

  untie : (S : ℕ → Shape) → S x ≡ S y → S high ≡ S low
  untie S e = ap S eh ∙ unsorted S x y e ∙ ap S (sym el)

  -- the higher one owes nothing yet
  pub link_first : get_or l high 0 ≡ 0 → after ≡ set l high (low + 1) → Linked l after x y
  link_first z e =
      subst (λ (k : List ℕ). Linked l k x y) (sym e)
      (record {
        down = λ S o. set_down S S l high (low + 1) h o (λ m q. absurd (let n : 0 ≡ suc m = sym z ∙ q in omega arith));
        tied = λ S o. tie S (set_says S S l high (low + 1) h o low (add-one low));
        up = λ S o q. set-up S S l high (low + 1) h o (λ m r. untie S q ∙ ap S (let n : low ≡ m = omega arith in n));
      })

  -- or it owes to be m
  pub link_again : (m v : ℕ) (mid : List ℕ) → suc m ≡ get_or l high 0 → v ≡ min low m → mid ≡ set l high (v + 1) → Linked mid after low m → Linked l after x y
  link_again m v mid em ev e g =
      let d : (S : ℕ → Shape) → Owes S S after → Owes S S (set l high (v + 1)) = λ S o. subst (Owes S S) e (g.down S o) in
      let lowest : (S : ℕ → Shape) → S low ≡ S m → (S v ≡ S low) × (S v ≡ S m) =
      λ S q. subst (λ (i : ℕ). (S i ≡ S low) × (S i ≡ S m)) (sym ev) (lower_is S low m q) in
      record {
        down = λ S o. set_down S S l high (v + 1) h (d S o)
            (λ i q. set_says S S l high (v + 1) h (d S o) v (add-one v) ∙ (lowest S (g.tied S o)).1 ∙ ap S (let n : m ≡ i = (let f : suc m ≡ suc i = em ∙ q in omega arith) in n));
        tied = λ S o. tie S (set_says S S l high (v + 1) h (d S o) v (add-one v) ∙ (lowest S (g.tied S o)).0);
        up = λ S o q.
            let hm : S high ≡ S m = o high m (sym em) in
            let lm : S low ≡ S m = sym (untie S q) ∙ hm in
            g.up S (subst (Owes S S) (sym e) (set-up S S l high (v + 1) h o (λ i r. hm ∙ sym (lowest S lm).1 ∙ ap S (let n : v ≡ i = omega arith in n)))) lm;
      }

-- ---- an array of its own

module _ (array owed : List ℕ) (x y : ℕ) (h : x < length array) where
  pub put_first : (after : List ℕ) → get_or array x 0 ≡ 0 → after ≡ set array x (y + 1) → Put array owed after owed x y
  put_first after z e =
      subst (λ (k : List ℕ). Put array owed k owed x y) (sym e)
      (record {
        down = λ F S o q. (set_down F S array x (y + 1) h o (λ i r. absurd (let n : 0 ≡ suc i = sym z ∙ r in omega arith)), q);
        tied = λ F S o q. set_says F S array x (y + 1) h o y (add-one y);
        up = λ F S o q r. (set-up F S array x (y + 1) h o (λ i s. r ∙ ap S (let n : y ≡ i = omega arith in n)), q);
      })

  pub put_again : (m : ℕ) (owed' : List ℕ) → suc m ≡ get_or array x 0 → Linked owed owed' m y → Put array owed array owed' x y
  put_again m owed' em g =
      record {
        down = λ F S o q. (o, g.down S q);
        tied = λ F S o q. o x m (sym em) ∙ g.tied S q;
        up = λ F S o q r. (o, g.up S q (sym (o x m (sym em)) ∙ r));
      }

-- ---- taking out

pub take_down : (F S : ℕ → Shape) (l : List ℕ) (x : ℕ) → Owes F S (set l x 0) → ((m : ℕ) → get_or l x 0 ≡ suc m → F x ≡ S m) → Owes F S l
take_down F S l x o f = by (ltb x (length l)) refl
  where
    by : (b : Bool) → ltb x (length l) ≡ b → Owes F S l
    by true q = set_down F S l x 0 (ltb-true x (length l) q) o f
    by false q = subst (Owes F S) (set_out l x 0 (ltb-false x (length l) q)) o

pub take-up : (F S : ℕ → Shape) (l : List ℕ) (x : ℕ) → Owes F S l → Owes F S (set l x 0)
take-up F S l x o = by (ltb x (length l)) refl
  where
    by : (b : Bool) → ltb x (length l) ≡ b → Owes F S (set l x 0)
    by true q = set-up F S l x 0 (ltb-true x (length l) q) o (λ m e. absurd (omega arith))
    by false q = subst (Owes F S) (sym (set_out l x 0 (ltb-false x (length l) q))) o

-- ---- nothing owed

pub clear_owes : (F S : ℕ → Shape) (l : List ℕ) → Clear l → Owes F S l
clear_owes F S l c x m e = absurd (let n : 0 ≡ suc m = sym (c x) ∙ e in omega arith)

pub zeros_clear : (n : ℕ) → Clear (replicate n 0)
zeros_clear zero x = refl
zeros_clear (suc n) zero = refl
zeros_clear (suc n) (suc x) = zeros_clear n x

-- no entry is more than 0
pub all_clear : (l : List ℕ) (most i : ℕ) → ((x : ℕ) → x < i → get_or l x 0 ≤ most) → length l ≤ i → most ≡ 0 → Clear l
all_clear l most i f h z x = by (ltb x i) refl
  where
    by : (b : Bool) → ltb x i ≡ b → get_or l x 0 ≡ 0
    by true q = let g : get_or l x 0 ≤ most = f x (ltb-true x i q) in omega arith
    by false q = get_or_past l x 0 (let g : i ≤ x = ltb-false x i q in omega arith)

-- ---- the pass

module _ (S : ℕ → Shape) (before : List ℕ) where
  pub gives_up : Settled S before None
  gives_up = record { refuted = λ e. cc; holds = λ e. cc }

  pub no_step : (after : List ℕ) → Stepped S before after None
  no_step after = record { refuted = λ e. cc; down = λ e. cc; up = λ e. cc }

  module _ (now : List ℕ) (down : Owes S S now → Owes S S before) (up : Owes S S before → Owes S S now) where
    pub pass_stops : (after : List ℕ) (v : Option Bool) → Stepped S now after v → (v ≡ Some true → ⊥) → Settled S before v
    pass_stops after v s n = record { refuted = λ e o. s.refuted e (up o); holds = λ e. absurd (n e) }

    pub pass_down : (after : List ℕ) (v : Option Bool) → Stepped S now after v → v ≡ Some true → Owes S S after → Owes S S before
    pass_down after v s e o = down (s.down e o)

    pub pass_up : (after : List ℕ) (v : Option Bool) → Stepped S now after v → v ≡ Some true → Owes S S before → Owes S S after
    pass_up after v s e o = s.up e (up o)

    pub pass_ends : Clear now → Settled S before (Some true)
    pass_ends c = record { refuted = λ e. cc; holds = λ e. down (clear_owes S S now c) }

-- a row that owes nothing
pub step_none : (S : ℕ → Shape) (before after : List ℕ) (x : ℕ) → get_or before x 0 ≡ 0 → after ≡ set before x 0 → Stepped S before after (Some true)
step_none S before after x z e =
    subst (λ (l : List ℕ). Stepped S before l (Some true)) (sym e)
    (record {
      refuted = λ q. cc;
      down = λ q o. take_down S S before x o (λ i r. absurd (let n : 0 ≡ suc i = sym z ∙ r in omega arith));
      up = λ q o. take-up S S before x o;
    })

-- a row that owes to be m, and where that is equal or not at a glance; or is so where two other pairs of rows are
module _ (S : ℕ → Shape) (before mid : List ℕ) (x m : ℕ) (em : suc m ≡ get_or before x 0) (e : mid ≡ set before x 0) where
  its : Owes S S before → S x ≡ S m
  its o = o x m (sym em)

  back : Owes S S mid → S x ≡ S m → Owes S S before
  back o q = take_down S S before x (subst (Owes S S) e o) (λ i r. q ∙ ap S (let n : m ≡ i = (let f : suc m ≡ suc i = em ∙ r in omega arith) in n))

  forth : Owes S S before → Owes S S mid
  forth o = subst (Owes S S) (sym e) (take-up S S before x o)

  pub step_quick : (v : Option Bool) → (v ≡ Some false → S x ≡ S m → ⊥) → (v ≡ Some true → S x ≡ S m) → Stepped S before mid v
  step_quick v f g = record { refuted = λ q o. f q (its o); down = λ q o. back o (g q); up = λ q o. forth o }

  pub step_links : (after₁ after₂ : List ℕ) (x₁ y₁ x₂ y₂ : ℕ) → Linked mid after₁ x₁ y₁ → Linked after₁ after₂ x₂ y₂
      → (S x₁ ≡ S y₁ → S x₂ ≡ S y₂ → S x ≡ S m) → (S x ≡ S m → (S x₁ ≡ S y₁) × (S x₂ ≡ S y₂)) → Stepped S before after₂ (Some true)
  step_links after₁ after₂ x₁ y₁ x₂ y₂ l₁ l₂ f g =
      record {
        refuted = λ q. cc;
        down = λ q o. back (l₁.down S (l₂.down S o)) (f (l₁.tied S (l₂.down S o)) (l₂.tied S o));
        up = λ q o. l₂.up S (l₁.up S (forth o) (g (its o)).0) (g (its o)).1;
      }

  -- or is so where T is
  pub step_where : (T : Type 0) → (T → S x ≡ S m) → (S x ≡ S m → T) → (after : List ℕ) (v : Option Bool) → (v ≡ Some false → Owes S S mid → T → ⊥)
      → (v ≡ Some true → Owes S S after → Owes S S mid × T) → (v ≡ Some true → Owes S S mid → T → Owes S S after) → Stepped S before after v
  step_where T f g after v r d u =
      record {
        refuted = λ q o. r q (forth o) (g (its o));
        down = λ q o. back (d q o).0 (f (d q o).1);
        up = λ q o. u q (forth o) (g (its o));
      }
