-- Laws of the equality of strings and names.
use Prim.Native.Nat.{ℕ, zero, suc, ◌+◌, ◌-◌, ◌<◌, ◌≤◌}
use native.Mathlib.Omega.{arith}
use mathlib.Core.Bool.{Bool, true, false, ◌&&◌, not}
use Rattle.std.specs.Prelude.{Option, Some}
use Rattle.std.specs.Option.{option_eq}
use denote.Enum.Bare.{sameb}
use mathlib.Core.List.{List}
use mathlib.Core.Path.{◌≡◌, refl, sym, ap, ap₂, ◌∙◌}
use lib.ListN.{length, take, drop}
use lib.Dec.{eqb}
use Rattle.basics.proofs.Booleans.{and-true}
use Rattle.utf8.specs.Letterlike.{same_bytes}
use Rattle.pool.specs.Tables.{Pool, N, name_word, string_word, string_at}
use Rattle.pool.specs.Tree.{Name, anonymous, Shape, name_shape, same_shape}
use Rattle.pool.specs.Unfold.{name_at}
use Rattle.pool.proofs.TreeLaws.{bytes_same, shape_same, labels_differ}
use Rattle.pool.proofs.RowUnfolds.{anonymous_at, string_at_lem, number_at, string_ok_lem, number_ok, name_kind_small, name_label_word, string_fits}
use Rattle.pool.specs.Sound.{Sound}
use Rattle.pool.specs.Codes.{Stands, name_code}
use Rattle.pool.specs.declared.kinds.NameKind.TheVariants.{Anonymous}
use Rattle.pool.specs.contracts.kinds.NameKind.{the_type as NameType}
use Rattle.pool.proofs.Standing.{name_is, name_not, names_one, names_two}
use Rattle.compare.specs.Equal.{string_of, number_of, TwoNames, ends_same}

-- ---- strings

pub strings_same : (bs ns : List ℕ) (a b : ℕ) → a ≡ b → true ≡ same_bytes (string_of bs ns a) (string_of bs ns b)
strings_same bs ns a b e =
    sym (ap (λ (k : ℕ). same_bytes (string_of bs ns k) (string_of bs ns b)) e ∙ bytes_same (string_of bs ns b))

part_is : (l : List ℕ) (x n e x' n' : ℕ) → x ≡ x' → e ≡ x + n → n ≡ n' → take (e - x) (drop x l) ≡ take n' (drop x' l)
part_is l x n e x' n' p q r = let d : e - x ≡ n' = omega arith in ap₂ (λ (m k : ℕ). take m (drop k l)) d p

pub parts_same_lem : (bs ns : List ℕ) (a b x m y n : ℕ) (v : Bool) → x ≡ string_word ns a 0 → m ≡ string_word ns a 1 → y ≡ string_word ns b 0
    → n ≡ string_word ns b 1 → v ≡ same_bytes (take (x + m - x) (drop x bs)) (take (y + n - y) (drop y bs))
    → v ≡ same_bytes (string_of bs ns a) (string_of bs ns b)
parts_same_lem bs ns a b x m y n v ex em ey en e =
    e ∙ ap₂ same_bytes (part_is bs x m (x + m) _ _ ex refl em) (part_is bs y n (y + n) _ _ ey refl en)

-- ---- names

-- a number is 1 or 2
one_or_two : (P : ℕ → Type 0) → P 1 → P 2 → (k : ℕ) → (k ≡ 0 → ⊥) → k < 3 → P k
one_or_two P p q zero n h = absurd (n refl)
one_or_two P p q (suc zero) n h = p
one_or_two P p q (suc (suc zero)) n h = q
one_or_two P p q (suc (suc (suc k))) n h = absurd (omega arith)

module _ (p : Pool) (sound : Sound p) (kind a b : ℕ) (s : TwoNames p kind a b) where
  abbrev name_of : ℕ → Shape
  name_of r = name_shape (name_at p r)

  abbrev wa : ℕ → ℕ
  wa k = name_word p.names a k

  abbrev wb : ℕ → ℕ
  wb k = name_word p.names b k

  kind_below : kind < 3
  kind_below = rw s.a_kind (name_kind_small p sound a s.a_row)

  -- the strings' rows
  pub string_rows : kind ≡ 1 → (string_word p.names (wa 2) 0 + string_word p.names (wa 2) 1 ≤ length p.bytes) × (string_word p.names (wb 2) 0 + string_word p.names (wb 2) 1 ≤ length p.bytes)
  string_rows e = (
    string_fits p sound (wa 2) (string_ok_lem p sound a s.a_row (sym s.a_kind ∙ e)).1,
    string_fits p sound (wb 2) (string_ok_lem p sound b s.b_row (sym s.b_kind ∙ e)).1,
  )

  -- the prefixes are lower
  pub prefixes : (wa 1 < a) × (wb 1 < b)
  prefixes =
      one_or_two (λ (k : ℕ). kind ≡ k → (wa 1 < a) × (wb 1 < b))
      (λ e. (
        (string_ok_lem p sound a s.a_row (sym s.a_kind ∙ e)).0,
        (string_ok_lem p sound b s.b_row (sym s.b_kind ∙ e)).0,
      ))
      (λ e. (
        number_ok p sound a s.a_row (sym s.a_kind ∙ e),
        number_ok p sound b s.b_row (sym s.b_kind ∙ e),
      ))
      kind s.no_root kind_below refl

  by_string : kind ≡ 1 → same_shape (name_of a) (name_of b) ≡ ends_same p.bytes p.names 1 a b && same_shape (name_of (wa 1)) (name_of (wb 1))
  unfolding ends_same name_shape same_shape string_at
  by_string e =
      rw (
        string_at_lem p sound a s.a_row (sym s.a_kind ∙ e),
        string_at_lem p sound b s.b_row (sym s.b_kind ∙ e),
        and-true (same_shape (name_of (wa 1)) (name_of (wb 1))),
      )

  by_number : kind ≡ 2 → same_shape (name_of a) (name_of b) ≡ ends_same p.bytes p.names 2 a b && same_shape (name_of (wa 1)) (name_of (wb 1))
  unfolding ends_same name_shape same_shape same_bytes
  by_number e =
      rw (
        number_at p sound a s.a_row (sym s.a_kind ∙ e),
        number_at p sound b s.b_row (sym s.b_kind ∙ e),
        and-true (same_shape (name_of (wa 1)) (name_of (wb 1))),
        and-true (eqb (number_of p.names a) (number_of p.names b)),
      )

  by_ends : same_shape (name_of a) (name_of b) ≡ ends_same p.bytes p.names kind a b && same_shape (name_of (wa 1)) (name_of (wb 1))
  by_ends =
      one_or_two (λ (k : ℕ). kind ≡ k → same_shape (name_of a) (name_of b) ≡ ends_same p.bytes p.names k a b && same_shape (name_of (wa 1)) (name_of (wb 1)))
      by_string by_number kind s.no_root kind_below refl

  pub ends_differ : (e : Bool) → e ≡ ends_same p.bytes p.names kind a b → e ≡ false → (v : Bool) → same_shape (name_of a) (name_of b) ≡ v → false ≡ v
  ends_differ e q n v h = sym (by_ends ∙ ap (λ (x : Bool). x && same_shape (name_of (wa 1)) (name_of (wb 1))) (sym q ∙ n)) ∙ h

  pub ends_same_lem : (e : Bool) → e ≡ ends_same p.bytes p.names kind a b → e ≡ true → (v : Bool) → same_shape (name_of a) (name_of b) ≡ v
      → (x y : ℕ) → x ≡ wa 1 → y ≡ wb 1 → same_shape (name_of x) (name_of y) ≡ v
  ends_same_lem e q n v h x y ex ey =
      ap₂ (λ (i j : ℕ). same_shape (name_of i) (name_of j)) ex ey
      ∙ sym (by_ends ∙ ap (λ (z : Bool). z && same_shape (name_of (wa 1)) (name_of (wb 1))) (sym q ∙ n)) ∙ h

module _ (p : Pool) (sound : Sound p) (a b : ℕ) (ha : a < N p.names) (hb : b < N p.names) where
  abbrev Names : Bool → Type 0
  Names v = same_shape (name_shape (name_at p a)) (name_shape (name_at p b)) ≡ v

  pub same_row : a ≡ b → (v : Bool) → Names v → true ≡ v
  same_row e v h = sym (ap (λ (r : ℕ). same_shape (name_shape (name_at p r)) (name_shape (name_at p b))) e ∙ shape_same _) ∙ h

  -- the rows' kinds are read as o and q, and tested
  module _ (o q : Option NameType.D) (s : Stands name_code 2 (name_word p.names a 0) o) (t : Stands name_code 2 (name_word p.names b 0) q)
      (u : Bool) (tested : u ≡ not (option_eq (sameb NameType) o q)) where
    pub kinds_differ : u ≡ true → (v : Bool) → Names v → false ≡ v
    kinds_differ e v h =
        sym (labels_differ _ _ (λ l. names_two p sound a b ha o q s t u tested e (sym (name_label_word p sound a ha) ∙ l ∙ name_label_word p sound b hb)))
        ∙ h

    module _ (one : u ≡ false) (r : Bool) (root : r ≡ option_eq (sameb NameType) o (Some Anonymous)) where
      kinds_agree : name_word p.names a 0 ≡ name_word p.names b 0
      kinds_agree = names_one p sound a b ha o q s t u tested one

      pub both_roots : r ≡ true → (v : Bool) → Names v → true ≡ v
      both_roots e v h =
          let z = name_is _ o s Anonymous r root e in
          sym (ap₂ (λ (m n : Name). same_shape (name_shape m) (name_shape n)) (anonymous_at p sound a ha z)
          (anonymous_at p sound b hb (sym kinds_agree ∙ z)) ∙ shape_same (name_shape anonymous)) ∙ h

      pub two_names : r ≡ false → TwoNames p (name_word p.names a 0) a b
      two_names e = record { a_row = ha; b_row = hb; a_kind = refl; b_kind = kinds_agree; no_root = name_not _ o s Anonymous r root e }
