-- Rows that keep the row rules are those that their document is stored in.
use Prim.Native.Nat.{ℕ, zero, suc, ◌+◌, ◌-◌, ◌*◌, ◌≤◌, ◌<◌}
use native.Mathlib.Omega.{arith}
use native.Mathlib.Nat.{add-zero, zero-add}
use mathlib.Core.Bool.{true, ◌&&◌}
use mathlib.Core.List.{List, [], ◌∷◌, ◌++◌}
use mathlib.Core.Path.{◌≡◌, refl, sym, ap, ap₂, ◌∙◌, subst}
use lib.ListN.{length, take, drop, get_or, length-append, length-drop}
use lib.Seq.{get_or-take, get_or-drop, ext_get_or, length-take-le}
use lib.Dec.{ltb, eqb}
use borrow.Author.Tests.{eqb-true}
use Rattle.document.specs.Doc.{Doc, join, row_count, text_bytes}
use Rattle.document.specs.Rows.{word, left_of, node, doc_at, own_text, text_before, Valid, Accepted}
use Rattle.document.specs.Stored.{row_of, own_row, stored, Fine}
use Rattle.basics.proofs.Booleans.{and_left, and_right}
use Rattle.document.proofs.Faults.{accepted_counts, accepted_sound}
use Rattle.document.proofs.Holds.{Holds, holds_to, holds_append, holds_take, holds_part}
use Rattle.document.proofs.Words.{kept, text_within, text_before_within, text_long, join_right, blank_small, nest_amount, has_child, wrapped_count, Sized, sized}
use Rattle.document.proofs.ReadBack.{stored-length}

seven : (f : ℕ → ℕ) (k : ℕ) → k < 7 → get_or (f 0 ∷ f 1 ∷ f 2 ∷ f 3 ∷ f 4 ∷ f 5 ∷ f 6 ∷ []) k 0 ≡ f k
seven f zero h = refl
seven f (suc zero) h = refl
seven f (suc (suc zero)) h = refl
seven f (suc (suc (suc zero))) h = refl
seven f (suc (suc (suc (suc zero)))) h = refl
seven f (suc (suc (suc (suc (suc zero))))) h = refl
seven f (suc (suc (suc (suc (suc (suc zero)))))) h = refl
seven f (suc (suc (suc (suc (suc (suc (suc k))))))) h = absurd (omega arith)

-- the seven words of a row
row_words : (rows : List ℕ) (r : ℕ) → r * 7 + 7 ≤ length rows
    → Holds rows (r * 7) (word rows r 0 ∷ word rows r 1 ∷ word rows r 2 ∷ word rows r 3 ∷ word rows r 4 ∷ word rows r 5 ∷ word rows r 6 ∷ [])
row_words rows r h =
    let n : length (take 7 (drop (r * 7) rows)) ≡ 7 = length-take-le 7 (drop (r * 7) rows) (rw length-drop (omega arith)) in
    subst (λ (z : List ℕ). Holds rows (r * 7) z)
    (ext_get_or 0 (take 7 (drop (r * 7) rows)) _ n
    (λ k p. let q : k < 7 = omega arith in get_or-take 7 (drop (r * 7) rows) k 0 q ∙ get_or-drop (r * 7) rows k 0 ∙ sym (seven (word rows r) k q)))
    (holds_take 7 (omega arith))

row_is : (rows : List ℕ) (r kind a b : ℕ) (d : Doc) → r * 7 + 7 ≤ length rows → word rows r 0 ≡ kind → word rows r 1 ≡ a → word rows r 2 ≡ b → word
    rows r 3 ≡ row_count d → Sized rows r d
    → Holds rows (r * 7) (row_of kind a b d)
row_is rows r kind a b d h e0 e1 e2 e3 s =
    let e4 = s.flat in
    let e5 = s.first in
    let e6 = s.has in
    let e : (word rows r 0 ∷ word rows r 1 ∷ word rows r 2 ∷ word rows r 3 ∷ word rows r 4 ∷ word rows r 5 ∷ word rows r 6 ∷ []) ≡ row_of kind a b d = cc in
    subst (λ (z : List ℕ). Holds rows (r * 7) z) e (row_words rows r h)

-- the document d of row r is stored in the rows from `from` on to r, and in its part of the text
pub record StoredAt (rows texts : List ℕ) (r : ℕ) (d : Doc) : Type 0 where
  pub from : ℕ
  pub count : row_count d ≡ word rows r 3
  pub to : suc r ≡ from + word rows r 3
  pub rows_are : Holds rows (from * 7) (stored (text_before rows from) d)
  pub texts_are : Holds texts (text_before rows from) (text_bytes d)
  pub text_end : text_before rows (suc r) ≡ text_before rows from + length (text_bytes d)
  pub fine : Fine d

module _ (rows texts : List ℕ) (total count : ℕ) (valid : Valid rows total count) (size : total ≤ length texts) (long : count * 7 ≤ length rows) where
  -- a nest or a group, over its child
  wrapped-stored : (r k a : ℕ) (d e : Doc) → r < count → word rows r 0 ≡ suc (suc (suc k)) → word rows r 1 ≡ a → word rows r 2 ≡ 0 → row_count
      e ≡ 1 + row_count d → text_bytes e ≡ text_bytes d
      → ((t : ℕ) → stored t e ≡ stored t d ++ row_of (suc (suc (suc k))) a 0 e) → Fine e → Sized rows r e → StoredAt rows texts (r - 1) d → StoredAt rows texts r e
  unfolding text_before
  wrapped-stored r k a d e below e0 e1 e2 n b s fine z at =
      let o = has_child rows total count valid r below k e0 in
      let c = wrapped_count rows total count valid r below k e0 in
      let dt = at.to in
      let dc = at.count in
      let sr : suc (r - 1) ≡ r = omega arith in
      let la = stored-length (text_before rows at.from) d in
      record {
        from = at.from;
        count = omega arith;
        to = omega arith;
        rows_are =
            subst (λ (l : List ℕ). Holds rows (at.from * 7) l) (sym (s (text_before rows at.from)))
            (holds_append _ _ at.rows_are
            (holds_to (r * 7) _ (omega arith) (row_is rows r (suc (suc (suc k))) a 0 e (omega arith) e0 e1 e2 (omega arith) z)));
        texts_are = subst (λ (l : List ℕ). Holds texts (text_before rows at.from) l) (sym b) at.texts_are;
        text_end =
            ap (λ (x : ℕ). text_before rows r + own_text rows r x) e0
            ∙ add-zero (text_before rows r)
            ∙ ap (text_before rows) (sym sr)
            ∙ at.text_end
            ∙ ap (λ (l : List ℕ). text_before rows at.from + length l) (sym b);
        fine = fine;
      }

  stored-node : (before : ℕ → Doc) (r k : ℕ) → r < count → word rows r 0 ≡ k → Sized rows r (node rows texts before r k)
      → ((q : ℕ) → q < r → StoredAt rows texts q (before q)) → StoredAt rows texts r (node rows texts before r k)
  unfolding node row_count stored own_row text_bytes Fine text_before
  stored-node before r zero below e z ih =
      let m = kept rows total count valid r below 0 e in
      let t = text_within rows total count valid r below e in
      let w1 : word rows r 1 ≡ text_before rows r = eqb-true _ _ (and_left (eqb (word rows r 1) (text_before rows r)) _ m.fields) in
      let n = text_long rows texts total count valid size r below e in
      let c = m.measures.count in
      record {
        from = r;
        count = sym c;
        to = omega arith;
        rows_are = row_is rows r 0 (text_before rows r) _ _ (omega arith) e w1 (sym n) c z;
        texts_are = holds_to (word rows r 1) _ w1 (holds_take (word rows r 2) (omega arith));
        text_end = ap (λ (x : ℕ). text_before rows r + own_text rows r x) e ∙ ap (λ (x : ℕ). text_before rows r + x) (sym n);
        fine = tt;
      }
  stored-node before r (suc zero) below e z ih =
      let m = kept rows total count valid r below 1 e in
      let j = join_right rows total count valid r below e in
      let a = ih (left_of rows r) (omega arith) in
      let b = ih (r - 1) (omega arith) in
      let A = before (left_of rows r) in
      let B = before (r - 1) in
      let c = m.measures.count in
      let at : suc (left_of rows r) ≡ a.from + word rows (left_of rows r) 3 = a.to in
      let bt : suc (r - 1) ≡ b.from + word rows (r - 1) 3 = b.to in
      let ac : row_count A ≡ word rows (left_of rows r) 3 = a.count in
      let bc : row_count B ≡ word rows (r - 1) 3 = b.count in
      let f1 : eqb (word rows r 1) 0 && eqb (word rows r 2) 0 ≡ true = and_right (ltb (word rows (r - 1) 3) r) _ m.fields in
      let seam : b.from ≡ suc (left_of rows r) = omega arith in
      let bt2 : text_before rows b.from ≡ text_before rows a.from + length (text_bytes A) = ap (text_before rows) seam ∙ a.text_end in
      let sr : suc (r - 1) ≡ r = omega arith in
      let la = stored-length (text_before rows a.from) A in
      let lb = stored-length (text_before rows a.from + length (text_bytes A)) B in
      let tb : text_before rows r ≡ text_before rows b.from + length (text_bytes B) = ap (text_before rows) (sym sr) ∙ b.text_end in
      let lab = length-append (text_bytes A) (text_bytes B) in
      record {
        from = a.from;
        count = ap₂ (λ (x y : ℕ). 1 + x + y) ac bc ∙ sym c;
        to = omega arith;
        rows_are =
            holds_append _ _ a.rows_are
            (holds_append _ _
            (holds_to (b.from * 7) _ (omega arith) (subst (λ (x : ℕ). Holds rows (b.from * 7) (stored x B)) bt2 b.rows_are))
            (holds_to (r * 7) _ (omega arith)
            (row_is rows r 1 0 0 (join A B) (omega arith) e
            (eqb-true _ _ (and_left (eqb (word rows r 1) 0) _ f1)) (eqb-true _ _ (and_right (eqb (word rows r 1) 0) (eqb (word rows r 2) 0) f1))
            (c ∙ sym (ap₂ (λ (x y : ℕ). 1 + x + y) ac bc)) z)));
        texts_are = holds_append _ _ a.texts_are (holds_to (text_before rows b.from) _ bt2 b.texts_are);
        text_end = ap (λ (x : ℕ). text_before rows r + own_text rows r x) e ∙ (omega arith);
        fine = (a.fine, b.fine);
      }
  stored-node before r (suc (suc zero)) below e z ih =
      let m = kept rows total count valid r below 2 e in
      let c = m.measures.count in
      let k2 = blank_small rows total count valid r below e in
      record {
        from = r;
        count = sym c;
        to = omega arith;
        rows_are =
            row_is rows r 2 (word rows r 1) 0 _ (omega arith) e refl (eqb-true _ _ (and_right (ltb (word rows r 1) 2) (eqb (word rows r 2) 0) m.fields)) c z;
        texts_are = holds_take 0 (let h = text_before_within rows total count valid r (omega arith) in omega arith);
        text_end = ap (λ (x : ℕ). text_before rows r + own_text rows r x) e;
        fine = omega arith;
      }
  stored-node before r (suc (suc (suc zero))) below e z ih =
      let o = has_child rows total count valid r below 0 e in
      let am = nest_amount rows total count valid r below e in
      let d = ih (r - 1) (omega arith) in
      let f2 = and_right (ltb (word rows r 1) 65) (eqb (word rows r 2) 0) (and_right (ltb 0 r) _ (kept rows total count valid r below 3 e).fields) in
      wrapped-stored r 0 (word rows r 1) (before (r - 1)) _ below e refl (eqb-true _ _ f2) refl refl (λ t. refl) (omega arith, d.fine) z d
  stored-node before r (suc (suc (suc (suc k)))) below e z ih =
      let o = has_child rows total count valid r below (suc k) e in
      let d = ih (r - 1) (omega arith) in
      let f0 = and_right (ltb 0 r) _ (kept rows total count valid r below (suc (suc (suc (suc k)))) e).fields in
      let k4 : suc (suc (suc (suc k))) ≡ 4 = eqb-true _ _ (and_left (eqb (suc (suc (suc (suc k)))) 4) _ f0) in
      let f1 = and_right (eqb (suc (suc (suc (suc k)))) 4) (eqb (word rows r 1) 0 && eqb (word rows r 2) 0) f0 in
      wrapped-stored r 1 0 (before (r - 1)) _ below (e ∙ k4) (eqb-true _ _ (and_left (eqb (word rows r 1) 0) _ f1))
      (eqb-true _ _ (and_right (eqb (word rows r 1) 0) (eqb (word rows r 2) 0) f1)) refl refl (λ t. refl) d.fine z d

  pub stored_at : (bound r : ℕ) → r < bound → r < count → StoredAt rows texts r (doc_at rows texts bound r)
  unfolding doc_at
  stored_at zero r p below = absurd (omega arith)
  stored_at (suc f) r p below =
      stored-node (doc_at rows texts f) r (word rows r 0) below refl (sized rows texts total count valid size (suc f) r p below)
      (λ q h. stored_at f q (omega arith) (omega arith))

-- ---- an accepted document

pub record StoredWhole (rows : List ℕ) (count : ℕ) (texts : List ℕ) (total : ℕ) (d : Doc) : Type 0 where
  pub rows_count : row_count d ≡ count
  pub text_count : length (text_bytes d) ≡ total
  pub rows_are : take (count * 7) rows ≡ stored 0 d
  pub texts_are : take total texts ≡ text_bytes d
  pub fine : Fine d

-- of accepted rows, storing their document gives the rows and the texts again
pub accepted_stored : (rows : List ℕ) (count : ℕ) (texts : List ℕ) (total : ℕ) → Accepted rows count texts total
    → StoredWhole rows count texts total (doc_at rows texts count (count - 1))
unfolding text_before
accepted_stored rows count texts total a =
    let k = accepted_counts a in
    let p = k.pos in
    let s = accepted_sound a in
    let d : Doc = doc_at rows texts count (count - 1) in
    let w = stored_at rows texts total count s.valid k.within k.long count (count - 1) (omega arith) (omega arith) in
    let l = s.last in
    let t = w.to in
    let z : w.from ≡ 0 = omega arith in
    let n = w.count in
    let sc : suc (count - 1) ≡ count = omega arith in
    let b : length (text_bytes d) ≡ total =
    sym (zero-add (length (text_bytes d)))
    ∙ ap (λ (x : ℕ). text_before rows x + length (text_bytes d)) (sym z)
    ∙ sym w.text_end
    ∙ ap (text_before rows) sc
    ∙ s.texts in
    let sl = stored-length 0 d in
    record {
      rows_count = omega arith;
      text_count = b;
      rows_are =
          ap (λ (x : ℕ). take x rows) (let e : count * 7 ≡ length (stored 0 d) = omega arith in e)
          ∙ holds_part (stored 0 d) (subst (λ (x : ℕ). Holds rows (x * 7) (stored (text_before rows x) d)) z w.rows_are);
      texts_are =
          ap (λ (x : ℕ). take x texts) (sym b)
          ∙ holds_part (text_bytes d) (subst (λ (x : ℕ). Holds texts (text_before rows x) (text_bytes d)) z w.texts_are);
      fine = w.fine;
    }
