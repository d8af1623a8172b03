-- The documents of accepted rows do not depend on the bound, and the distance to a row's first break is within its texts.
use Prim.Native.Nat.{ℕ, zero, suc, ◌+◌, ◌-◌, ◌*◌, ◌≤◌, ◌<◌}
use native.Mathlib.Omega.{arith}
use mathlib.Core.List.{List}
use mathlib.Core.Path.{◌≡◌, refl, ap, ap₂, ◌∙◌}
use Rattle.document.specs.Doc.{Doc, join, nest, group, through}
use Rattle.document.specs.Rows.{word, left_of, node, doc_at, Valid}
use Rattle.document.proofs.Words.{kept, text_within, join_right, join_count, has_child, wrapped_count}

pub through-within : (has first after : ℕ) → through has first after ≤ first + after
through-within zero first after = omega arith
through-within (suc h) first after = omega arith

module _ (rows texts : List ℕ) (total count : ℕ) (valid : Valid rows total count) where
  node-same : (f g : ℕ → Doc) (r k : ℕ) → r < count → word rows r 0 ≡ k → ((q : ℕ) → q < r → f q ≡ g q) → node rows texts f r k ≡ node rows texts g r k
  unfolding node
  node-same f g r zero below e h = refl
  node-same f g r (suc zero) below e h =
      let j = join_right rows total count valid r below e in
      ap₂ join (h (left_of rows r) (omega arith)) (h (r - 1) (omega arith))
  node-same f g r (suc (suc zero)) below e h = refl
  node-same f g r (suc (suc (suc zero))) below e h =
      let p = has_child rows total count valid r below 0 e in ap (nest (word rows r 1)) (h (r - 1) (omega arith))
  node-same f g r (suc (suc (suc (suc k)))) below e h =
      let p = has_child rows total count valid r below (suc k) e in ap group (h (r - 1) (omega arith))

  doc_same : (f g r : ℕ) → r < f → r < g → r < count → doc_at rows texts f r ≡ doc_at rows texts g r
  unfolding doc_at
  doc_same zero g r p q below = absurd (omega arith)
  doc_same (suc f) zero r p q below = absurd (omega arith)
  doc_same (suc f) (suc g) r p q below =
      node-same (doc_at rows texts f) (doc_at rows texts g) r (word rows r 0) below refl
      (λ s h. doc_same f g s (omega arith) (omega arith) (omega arith))

  -- the document of a row of a kind, from those of the rows before it
  pub row_doc : (r k : ℕ) → r < count → word rows r 0 ≡ k → doc_at rows texts count r ≡ node rows texts (doc_at rows texts count) r k
  unfolding doc_at
  row_doc r k below e = by count below
    where
      by : (n : ℕ) → r < n → doc_at rows texts n r ≡ node rows texts (doc_at rows texts count) r k
      by zero h = absurd (omega arith)
      by (suc n) h =
          ap (node rows texts (doc_at rows texts n) r) e
          ∙ node-same (doc_at rows texts n) (doc_at rows texts count) r k below e (λ s q. doc_same n count s (omega arith) (omega arith) (omega arith))

  -- each text has at most 65,536 bytes
  first_step : total ≤ 65536 → (r k : ℕ) → r < count → word rows r 0 ≡ k → ((q : ℕ) → q < r → word rows q 5 ≤ word rows q 3 * 65536)
      → word rows r 5 ≤ word rows r 3 * 65536
  first_step small r zero below e ih =
      let m = (kept rows total count valid r below 0 e).measures in
      let c = m.count in
      let d = m.first in
      let t = text_within rows total count valid r below e in
      omega arith
  first_step small r (suc zero) below e ih =
      let j = join_right rows total count valid r below e in
      let c = join_count rows total count valid r below e in
      let d = (kept rows total count valid r below 1 e).measures.first in
      let a = ih (left_of rows r) (omega arith) in
      let b = ih (r - 1) (omega arith) in
      let t = through-within (word rows (left_of rows r) 6) (word rows (left_of rows r) 5) (word rows (r - 1) 5) in
      omega arith
  first_step small r (suc (suc zero)) below e ih = let d = (kept rows total count valid r below 2 e).measures.first in omega arith
  first_step small r (suc (suc (suc k))) below e ih =
      let p = has_child rows total count valid r below k e in
      let c = wrapped_count rows total count valid r below k e in
      let d = (kept rows total count valid r below (suc (suc (suc k))) e).measures.first in
      let a = ih (r - 1) (omega arith) in
      omega arith

  pub first_within : total ≤ 65536 → (bound r : ℕ) → r < bound → r < count → word rows r 5 ≤ word rows r 3 * 65536
  first_within small zero r p below = absurd (omega arith)
  first_within small (suc f) r p below =
      first_step small r (word rows r 0) below refl (λ q h. first_within small f q (omega arith) (omega arith))
