-- Laws of the words of rows that keep the row rules.
use Prim.Native.Nat.{ℕ, zero, suc, ◌+◌, ◌-◌, ◌≤◌, ◌<◌}
use native.Mathlib.Omega.{arith}
use mathlib.Core.Bool.{true}
use mathlib.Core.List.{List}
use mathlib.Core.Path.{◌≡◌, refl, sym, ap, ap₂, ◌∙◌, subst}
use lib.ListN.{length, take, drop, length-drop}
use lib.Seq.{length-take-le}
use lib.Dec.{ltb, eqb}
use borrow.Author.Tests.{ltb-true, leb-true, eqb-true, eq-eqb}
use Rattle.document.specs.declared.measures.Measures.{Measures}
use Rattle.document.specs.Doc.{Doc, flat_size, has_break, first_break, through, either}
use Rattle.document.specs.Rows.{word, left_of, node, doc_at, measures_at, derived, fields_ok, same, rule_ok, own_text, text_before, row_ok, Valid}
use Rattle.basics.proofs.Booleans.{and_left, and_right, and_intro}

-- ---- numbers

-- a kind that is none of the first four
pub kind_rest : (k : ℕ) → 4 ≤ k → (j : ℕ) × (k ≡ suc (suc (suc (suc j))))
kind_rest k h = (k - 4, omega arith)

-- ---- what a row that keeps the rules has

pub record Same (a b : Measures) : Type 0 where
  pub count : a.count ≡ b.count
  pub flat : a.flat ≡ b.flat
  pub first : a.first ≡ b.first
  pub has : a.has ≡ b.has

same_of : (a b : Measures) → same a b ≡ true → Same a b
same_of a b h =
    let h2 = and_right (eqb a.count b.count) _ h in
    let h3 = and_right (eqb a.flat b.flat) _ h2 in
    record {
      count = eqb-true _ _ (and_left (eqb a.count b.count) _ h);
      flat = eqb-true _ _ (and_left (eqb a.flat b.flat) _ h2);
      first = eqb-true _ _ (and_left (eqb a.first b.first) _ h3);
      has = eqb-true _ _ (and_right (eqb a.first b.first) _ h3);
    }

pub of_same : (a b : Measures) → Same a b → same a b ≡ true
of_same a b s =
    and_intro (eq-eqb _ _ s.count) (and_intro (eq-eqb _ _ s.flat) (and_intro (eq-eqb _ _ s.first) (eq-eqb _ _ s.has)))

pub record Kept (rows : List ℕ) (total before r kind : ℕ) : Type 0 where
  pub fields : fields_ok rows total before r kind ≡ true
  pub measures : Same (measures_at rows r) (derived rows r kind)

module _ (rows : List ℕ) (total count : ℕ) (valid : Valid rows total count) (r : ℕ) (below : r < count) where
  pub kept : (kind : ℕ) → word rows r 0 ≡ kind → Kept rows total (text_before rows r) r kind
  unfolding Valid row_ok
  kept kind e =
      let h : rule_ok rows total (text_before rows r) r kind ≡ true =
      subst (λ (x : ℕ). rule_ok rows total (text_before rows r) r x ≡ true) e (valid r below) in
      record {
        fields = and_left (fields_ok rows total (text_before rows r) r kind) _ h;
        measures = same_of _ _ (and_right (fields_ok rows total (text_before rows r) r kind) _ h);
      }

  -- a text's bytes are within the texts
  pub text_within : word rows r 0 ≡ 0 → word rows r 1 + word rows r 2 ≤ total
  text_within e =
      let f = (kept 0 e).fields in
      let p : word rows r 1 ≡ text_before rows r = eqb-true _ _ (and_left (eqb (word rows r 1) (text_before rows r)) _ f) in
      let q : text_before rows r + word rows r 2 ≤ total = leb-true _ _ (and_right (eqb (word rows r 1) (text_before rows r)) _ f) in
      omega arith

  pub join_right : word rows r 0 ≡ 1 → word rows (r - 1) 3 < r
  join_right e = ltb-true _ _ (and_left (ltb (word rows (r - 1) 3) r) _ (kept 1 e).fields)

  pub blank_small : word rows r 0 ≡ 2 → word rows r 1 < 2
  blank_small e = ltb-true _ _ (and_left (ltb (word rows r 1) 2) _ (kept 2 e).fields)

  pub nest_amount : word rows r 0 ≡ 3 → word rows r 1 < 65
  nest_amount e = ltb-true _ _ (and_left (ltb (word rows r 1) 65) _ (and_right (ltb 0 r) _ (kept 3 e).fields))

  -- a nest and a group have a child
  pub has_child : (k : ℕ) → word rows r 0 ≡ suc (suc (suc k)) → 0 < r
  has_child zero e = ltb-true _ _ (and_left (ltb 0 r) _ (kept 3 e).fields)
  has_child (suc k) e = ltb-true _ _ (and_left (ltb 0 r) _ (kept (suc (suc (suc (suc k)))) e).fields)

  -- the row counts
  pub join_count : word rows r 0 ≡ 1 → word rows r 3 ≡ 1 + word rows (left_of rows r) 3 + word rows (r - 1) 3
  join_count e = (kept 1 e).measures.count

  pub wrapped_count : (k : ℕ) → word rows r 0 ≡ suc (suc (suc k)) → word rows r 3 ≡ 1 + word rows (r - 1) 3
  wrapped_count k e = (kept (suc (suc (suc k))) e).measures.count

  pub some_row : (k : ℕ) → word rows r 0 ≡ k → 1 ≤ word rows r 3
  some_row zero e = let m = (kept 0 e).measures.count in omega arith
  some_row (suc zero) e = let m = join_count e in omega arith
  some_row (suc (suc zero)) e = let m = (kept 2 e).measures.count in omega arith
  some_row (suc (suc (suc k))) e = let m = wrapped_count k e in omega arith

-- the texts so far end within the text
pub text_before_within : (rows : List ℕ) (total count : ℕ) → Valid rows total count → (r : ℕ) → r ≤ count → text_before rows r ≤ total
unfolding text_before
text_before_within rows total count valid zero p = omega arith
text_before_within rows total count valid (suc r) p =
    go (text_before_within rows total count valid r (omega arith)) (word rows r 0) refl
  where
    go : text_before rows r ≤ total → (k : ℕ) → word rows r 0 ≡ k → text_before rows r + own_text rows r k ≤ total
    go h zero e =
        leb-true _ _ (and_right (eqb (word rows r 1) (text_before rows r)) _ (kept rows total count valid r (omega arith) 0 e).fields)
    go h (suc k) e = omega arith

-- ---- the measures are those of the document

pub record Sized (rows : List ℕ) (r : ℕ) (d : Doc) : Type 0 where
  pub flat : flat_size d ≡ word rows r 4
  pub first : first_break d ≡ word rows r 5
  pub has : has_break d ≡ word rows r 6

module _ (rows texts : List ℕ) (total count : ℕ) (valid : Valid rows total count) (size : total ≤ length texts) where
  pub text_long : (r : ℕ) → r < count → word rows r 0 ≡ 0 → length (take (word rows r 2) (drop (word rows r 1) texts)) ≡ word rows r 2
  text_long r below e = let t = text_within rows total count valid r below e in length-take-le _ _ (rw length-drop (omega arith))

  wrapped_sized : (r k : ℕ) (d : Doc) → r < count → word rows r 0 ≡ suc (suc (suc k)) → Sized rows (r - 1) d → Sized rows r d
  wrapped_sized r k d below e s =
      let m = (kept rows total count valid r below (suc (suc (suc k))) e).measures in
      record { flat = s.flat ∙ sym m.flat; first = s.first ∙ sym m.first; has = s.has ∙ sym m.has }

  sized_node : (before : ℕ → Doc) (r k : ℕ) → r < count → word rows r 0 ≡ k
      → ((q : ℕ) → q < r → Sized rows q (before q)) → Sized rows r (node rows texts before r k)
  unfolding node flat_size first_break has_break
  sized_node before r zero below e ih =
      let m = (kept rows total count valid r below 0 e).measures in
      let long = text_long r below e in
      record { flat = long ∙ sym m.flat; first = long ∙ sym m.first; has = sym m.has }
  sized_node before r (suc zero) below e ih =
      let m = (kept rows total count valid r below 1 e).measures in
      let j = join_right rows total count valid r below e in
      let a = ih (left_of rows r) (omega arith) in
      let b = ih (r - 1) (omega arith) in
      record {
        flat = ap₂ ◌+◌ a.flat b.flat ∙ sym m.flat;
        first =
            ap (λ (h : ℕ). through h (first_break (before (left_of rows r))) (first_break (before (r - 1)))) a.has
            ∙ ap₂ (through (word rows (left_of rows r) 6)) a.first b.first
            ∙ sym m.first;
        has = ap₂ either a.has b.has ∙ sym m.has;
      }
  sized_node before r (suc (suc zero)) below e ih =
      let m = (kept rows total count valid r below 2 e).measures in
      record { flat = sym m.flat; first = sym m.first; has = sym m.has }
  sized_node before r (suc (suc (suc zero))) below e ih =
      let s = ih (r - 1) (let p = has_child rows total count valid r below 0 e in omega arith) in
      let w = wrapped_sized r 0 (before (r - 1)) below e s in
      record { flat = w.flat; first = w.first; has = w.has }
  sized_node before r (suc (suc (suc (suc k)))) below e ih =
      let s = ih (r - 1) (let p = has_child rows total count valid r below (suc k) e in omega arith) in
      let w = wrapped_sized r (suc k) (before (r - 1)) below e s in
      record { flat = w.flat; first = w.first; has = w.has }

  -- the last three words of an accepted row are those of its document
  pub sized : (bound r : ℕ) → r < bound → r < count → Sized rows r (doc_at rows texts bound r)
  unfolding doc_at
  sized zero r p below = absurd (omega arith)
  sized (suc f) r p below =
      sized_node (doc_at rows texts f) r (word rows r 0) below refl (λ q h. sized f q (omega arith) (omega arith))
