-- Laws of parts put aside.
use Prim.Native.Nat.{ℕ, zero, suc, ◌+◌, ◌-◌}
use native.Mathlib.Omega.{arith}
use mathlib.Core.Bool.{Bool, true, false, ◌||◌, cond}
use mathlib.Core.List.{List}
use mathlib.Core.Logic.{◌↔◌, inl, inr}
use mathlib.Core.Path.{◌≡◌, refl, sym, subst}
use lib.Dec.{eqb}
use Rattle.pool.specs.Tables.{expr_word}
use Rattle.pool.specs.Tree.{Shape}
use Rattle.links.specs.Links.{Owes, Linked, Put}
use Rattle.occurrence.specs.Parts.{first_part, second_part, body_part}
use Rattle.equality.specs.Sweep.{Tied, PartBy, PartsBy, PutParts, LinkParts}

-- ---- two parts

pub tied_none : (F S : ℕ → Shape) (x y : ℕ) → x ≡ 0 → y ≡ 0 → Tied F S x y
unfolding Tied
tied_none F S zero zero e q = refl
tied_none F S zero (suc y) e q = absurd (omega arith)
tied_none F S (suc x) y e q = absurd (omega arith)

tied_both : (F S : ℕ → Shape) (x y : ℕ) → (x ≡ 0 → ⊥) → (y ≡ 0 → ⊥) → Tied F S x y ↔ (F (x - 1) ≡ S (y - 1))
unfolding Tied
tied_both F S zero y n m = absurd (n refl)
tied_both F S (suc x) zero n m = absurd (m refl)
tied_both F S (suc x) (suc y) n m =
    let e : suc x - 1 ≡ x = omega arith in
    let g : suc y - 1 ≡ y = omega arith in
    (λ h. cc, λ h. cc)

-- two parts put aside, where a step does what `link` does, or leaves all as it is where neither part is there
module _ {F : Type 0} (R : Bool → ℕ → ℕ → F → F → Type 0) (b : Bool) (x y : ℕ) (s : x ≡ 0 ↔ y ≡ 0) where
  ties : (x ≡ 0 → ⊥) → (G S : ℕ → Shape) → Tied G S x y ↔ (G (x - 1) ≡ S (y - 1))
  ties n G S = tied_both G S x y n (λ e. n (s.1 e))

  moves : (f g : F) (now : F → Type 0) (G S : ℕ → Shape) → (x ≡ 0) × (g ≡ f) → (now f × Tied G S x y) ↔ now g
  moves f g now G S p = (λ o. subst now (sym p.1) o.0, λ o. (subst now p.1 o, tied_none G S x y p.0 (s.0 p.0)))

  link_one : (now : F → List ℕ) → ((u w : ℕ) (f g : F) → R b u w f g → Linked (now f) (now g) u w) → (f g : F) → PartBy R b x y f g → (S : ℕ → Shape)
      → (Owes S S (now f) × Tied S S x y) ↔ Owes S S (now g)
  link_one now h f g (inl p) S = moves f g (λ (k : F). Owes S S (now k)) S S p
  link_one now h f g (inr p) S =
      let l = h (x - 1) (y - 1) f g p.1 in
      (λ o. l.up S o.0 ((ties p.0 S S).0 o.1), λ o. (l.down S o, (ties p.0 S S).1 (l.tied S o)))

  put_one : (array other owed : F → List ℕ)
      → ((u w : ℕ) (f g : F) → R b u w f g → Put (array f) (owed f) (array g) (owed g) u w × (other g ≡ other f)) → (f g : F) → PartBy R b x y f g
      → (G H S : ℕ → Shape) → ((Owes G S (array f) × Owes H S (other f) × Owes S S (owed f)) × Tied G S x y) ↔ (Owes G S (array g) × Owes H S (other g) × Owes S S (owed g))
  put_one array other owed h f g (inl p) G H S = moves f g (λ (k : F). Owes G S (array k) × Owes H S (other k) × Owes S S (owed k)) G S p
  put_one array other owed h f g (inr p) G H S =
      let l = h (x - 1) (y - 1) f g p.1 in (
        λ o.
            let n = l.0.up G S o.0.0 o.0.2 ((ties p.0 G S).0 o.1) in
            (n.0, subst (Owes H S) (sym l.1) o.0.1, n.1),
        λ o.
            let n = l.0.down G S o.0 o.2 in
            ((n.0, subst (Owes H S) l.1 o.1, n.1), (ties p.0 G S).1 (l.0.tied G S o.0 o.2)),
      )

-- ---- all parts of two rows

-- rows of one kind have the same parts
some_or : (v : Bool) (x x' y y' : ℕ) → (y ≡ 0 ↔ y' ≡ 0) → (cond v (x + 1) y ≡ 0) ↔ (cond v (x' + 1) y' ≡ 0)
some_or true x x' y y' g = (λ e. absurd (omega arith), λ e. absurd (omega arith))
some_or false x x' y y' g = g

module _ (ws : List ℕ) (a b k : ℕ) where
  abbrev wa : ℕ → ℕ
  wa = expr_word ws a

  abbrev wb : ℕ → ℕ
  wb = expr_word ws b

  last : (v : Bool) (i : ℕ) → (cond v (wa i + 1) 0 ≡ 0) ↔ (cond v (wb i + 1) 0 ≡ 0)
  last v i = some_or v (wa i) (wb i) 0 0 (λ e. e, λ e. e)

  pub first_alike : (x y : ℕ) → x ≡ first_part ws a k → y ≡ first_part ws b k → x ≡ 0 ↔ y ≡ 0
  unfolding first_part
  first_alike x y e g =
      rw (e, g)
      (some_or (eqb k 3) (wa 1) (wb 1) _ _ (some_or (eqb k 4 || eqb k 5) (wa 3) (wb 3) _ _ (some_or (eqb k 6) (wa 2) (wb 2) _ _ (last (eqb k 7) 3))))

  pub second_alike : (x y : ℕ) → x ≡ second_part ws a k → y ≡ second_part ws b k → x ≡ 0 ↔ y ≡ 0
  unfolding second_part
  second_alike x y e g = rw (e, g) (some_or (eqb k 3) (wa 2) (wb 2) _ _ (last (eqb k 6) 3))

  pub body_alike : (x y : ℕ) → x ≡ body_part ws a k → y ≡ body_part ws b k → x ≡ 0 ↔ y ≡ 0
  unfolding body_part
  body_alike x y e g = rw (e, g) (some_or (eqb k 4 || eqb k 5) (wa 4) (wb 4) _ _ (last (eqb k 6) 4))

-- three steps, each of which asks for one thing more
three_steps : (A B C D T U V : Type 0) → (A × T ↔ B) → (B × U ↔ C) → (C × V ↔ D) → (A × (T × U × V)) ↔ D
three_steps A B C D T U V f g h = (
  λ o. h.0 (g.0 (f.0 (o.0, o.1.0), o.1.1), o.1.2),
  λ o.
      let c = h.1 o in
      let b = g.1 c.0 in
      let a = f.1 b.0 in
      (a.0, (a.1, b.1, c.1)),
)

module _ {F : Type 0} (R : Bool → ℕ → ℕ → F → F → Type 0) (ws : List ℕ) (a b : ℕ) (f₀ f₃ : F) (p : PartsBy R ws a b f₀ f₃) where
  abbrev k : ℕ
  k = expr_word ws a 0

  all_linked : (now : F → List ℕ) → ((c : Bool) (u w : ℕ) (f g : F) → R c u w f g → Linked (now f) (now g) u w) → LinkParts ws a b (now f₀) (now f₃)
  all_linked now h =
      record {
        moved = λ S.
            let s = three_steps (Owes S S (now f₀)) (Owes S S (now p.f₁)) (Owes S S (now p.f₂)) (Owes S S (now f₃))
            (Tied S S (first_part ws a k) (first_part ws b k)) (Tied S S (second_part ws a k) (second_part ws b k)) (Tied S S (body_part ws a k) (body_part ws b k))
            (link_one R false _ _ (first_alike ws a b k _ _ refl refl) now (h false) _ _ p.first S)
            (link_one R false _ _ (second_alike ws a b k _ _ refl refl) now (h false) _ _ p.second S)
            (link_one R true _ _ (body_alike ws a b k _ _ refl refl) now (h true) _ _ p.body S) in
            (λ o. s.0 (o.0, (o.1.first, o.1.second, o.1.body)), λ o. let n = s.1 o in (n.0, record { first = n.1.0; second = n.1.1; body = n.1.2 }));
      }

  pub link_all : (now : F → List ℕ) → ((c : Bool) (u w : ℕ) (f g : F) → R c u w f g → Linked (now f) (now g) u w) → (owed : List ℕ) → now f₃ ≡ owed → LinkParts ws a b (now f₀) owed
  link_all now h owed e =
      subst (LinkParts ws a b (now f₀)) e (all_linked now h)

  all_put : (cur next owed : F → List ℕ)
      → ((u w : ℕ) (f g : F) → R false u w f g → Put (cur f) (owed f) (cur g) (owed g) u w × (next g ≡ next f))
      → ((u w : ℕ) (f g : F) → R true u w f g → Put (next f) (owed f) (next g) (owed g) u w × (cur g ≡ cur f))
      → PutParts ws a b (cur f₀) (next f₀) (owed f₀) (cur f₃) (next f₃) (owed f₃)
  all_put cur next owed h l =
      record {
        moved = λ G H S.
            let now : F → Type 0 = λ f. Owes G S (cur f) × Owes H S (next f) × Owes S S (owed f) in
            let body = put_one R true _ _ (body_alike ws a b k _ _ refl refl) next cur owed l _ _ p.body H G S in
            let s = three_steps (now f₀) (now p.f₁) (now p.f₂) (now f₃)
            (Tied G S (first_part ws a k) (first_part ws b k)) (Tied G S (second_part ws a k) (second_part ws b k)) (Tied H S (body_part ws a k) (body_part ws b k))
            (put_one R false _ _ (first_alike ws a b k _ _ refl refl) cur next owed h _ _ p.first G H S)
            (put_one R false _ _ (second_alike ws a b k _ _ refl refl) cur next owed h _ _ p.second G H S)
            (λ o. let n = body.0 ((o.0.1, o.0.0, o.0.2), o.1) in (n.1, n.0, n.2), λ o. let n = body.1 (o.1, o.0, o.2) in ((n.0.1, n.0.0, n.0.2), n.1)) in
            (λ o. s.0 (o.0, (o.1.first, o.1.second, o.1.body)), λ o. let n = s.1 o in (n.0, record { first = n.1.0; second = n.1.1; body = n.1.2 }));
      }

  pub put_all : (cur next owed : F → List ℕ)
      → ((u w : ℕ) (f g : F) → R false u w f g → Put (cur f) (owed f) (cur g) (owed g) u w × (next g ≡ next f))
      → ((u w : ℕ) (f g : F) → R true u w f g → Put (next f) (owed f) (next g) (owed g) u w × (cur g ≡ cur f))
      → (cur' next' owed' : List ℕ) → cur f₃ ≡ cur' → next f₃ ≡ next' → owed f₃ ≡ owed' → PutParts ws a b (cur f₀) (next f₀) (owed f₀) cur' next' owed'
  put_all cur next owed h l cur' next' owed' ec en eo = rw (← ec, ← en, ← eo) (all_put cur next owed h l)
