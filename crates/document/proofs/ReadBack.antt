-- A document that is stored is read back from its rows, and its rows keep the row rules.
use Prim.Native.Nat.{ℕ, zero, suc, ◌+◌, ◌-◌, ◌*◌, ◌≤◌, ◌<◌}
use native.Mathlib.Omega.{arith}
use native.Mathlib.Nat.{add-zero, zero-add}
use native.Mathlib.Numerals.{add-one}
use mathlib.Core.Bool.{Bool, true, false, cond}
use mathlib.Core.List.{List, ◌++◌}
use mathlib.Core.Logic.{◌⊎◌, inl, inr, ⊎_elim}
use mathlib.Core.Path.{◌≡◌, refl, sym, ap, ap₂, ◌∙◌}
use lib.ListN.{length, take, drop, length-append}
use lib.Dec.{ltb}
use borrow.Author.Tests.{lt-ltb, le-ltb, le-leb, eq-eqb, ltb-true, ltb-false}
use Rattle.document.specs.Doc.{Doc, text, join, break, nest, group, row_count, flat_size, first_break, has_break, text_bytes, through, either}
use Rattle.document.specs.Rows.{word, left_of, node, doc_at, measures_at, derived, own_text, text_before, rule_ok, row_ok, scan, whole, fault, Accepted}
use Rattle.document.specs.Stored.{row_of, own_row, stored, Fine}
use Rattle.basics.proofs.Booleans.{and_intro}
use Rattle.document.proofs.Holds.{Holds, holds_front, holds_to, holds_left, holds_right, holds_at, holds_part}
use Rattle.document.proofs.Words.{Kept, Same, of_same}

pub split : (i k : ℕ) → (i < k) ⊎ (k ≤ i)
split i k = go (ltb i k) refl
  where
    go : (b : Bool) → ltb i k ≡ b → (i < k) ⊎ (k ≤ i)
    go true e = inl (ltb-true i k e)
    go false e = inr (ltb-false i k e)

-- ---- the rows of a document

pub stored-length : (t : ℕ) (d : Doc) → length (stored t d) ≡ row_count d * 7
unfolding stored own_row row_count
stored-length t (text s) = refl
stored-length t (join a b) =
    let x = stored-length t a in
    let y = stored-length (t + length (text_bytes a)) b in
    let p = length-append (stored t a) (stored (t + length (text_bytes a)) b ++ own_row t (join a b)) in
    let q = length-append (stored (t + length (text_bytes a)) b) (own_row t (join a b)) in
    omega arith
stored-length t (break k) = refl
stored-length t (nest m d) = let x = stored-length t d in let p = length-append (stored t d) (own_row t (nest m d)) in omega arith
stored-length t (group d) = let x = stored-length t d in let p = length-append (stored t d) (own_row t (group d)) in omega arith

pub some_row : (d : Doc) → 1 ≤ row_count d
unfolding row_count
some_row (text s) = omega arith
some_row (join a b) = omega arith
some_row (break k) = omega arith
some_row (nest m d) = omega arith
some_row (group d) = omega arith

module _ (rows : List ℕ) where
  -- the last row of what is stored from row p on is the document's own
  pub own : (d : Doc) (t p r : ℕ) → suc r ≡ p + row_count d → Holds rows (p * 7) (stored t d) → Holds rows (r * 7) (own_row t d)
  unfolding stored row_count
  own (text s) t p r e h = holds_to (p * 7) (r * 7) (omega arith) h
  own (join a b) t p r e h =
      let x = stored-length t a in
      let y = stored-length (t + length (text_bytes a)) b in
      holds_to _ (r * 7) (omega arith)
      (holds_right (stored (t + length (text_bytes a)) b) (own_row t (join a b))
      (holds_right (stored t a) (stored (t + length (text_bytes a)) b ++ own_row t (join a b)) h))
  own (break k) t p r e h = holds_to (p * 7) (r * 7) (omega arith) h
  own (nest m d) t p r e h = let x = stored-length t d in holds_to _ (r * 7) (omega arith) (holds_right (stored t d) (own_row t (nest m d)) h)
  own (group d) t p r e h = let x = stored-length t d in holds_to _ (r * 7) (omega arith) (holds_right (stored t d) (own_row t (group d)) h)

  -- the last four words of the last row
  pub record Words (d : Doc) (r : ℕ) : Type 0 where
    pub count : word rows r 3 ≡ row_count d
    pub flat : word rows r 4 ≡ flat_size d
    pub first : word rows r 5 ≡ first_break d
    pub has : word rows r 6 ≡ has_break d

  words : (kind a b : ℕ) (d : Doc) (r : ℕ) → Holds rows (r * 7) (row_of kind a b d) → Words d r
  words kind a b d r h = record { count = holds_at _ 3 (omega arith) h; flat = holds_at _ 4 (omega arith) h; first = holds_at _ 5 (omega arith) h; has = holds_at _ 6 (omega arith) h }

  pub own_words : (d : Doc) (t r : ℕ) → Holds rows (r * 7) (own_row t d) → Words d r
  unfolding own_row
  own_words (text s) t r h = words 0 t (length s) (text s) r h
  own_words (join a b) t r h = words 1 0 0 (join a b) r h
  own_words (break k) t r h = words 2 k 0 (break k) r h
  own_words (nest m d) t r h = words 3 m 0 (nest m d) r h
  own_words (group d) t r h = words 4 0 0 (group d) r h

  -- the rows of a join's right child
  pub right_rows : (a b : Doc) (t p : ℕ) → Holds rows (p * 7) (stored t (join a b)) → Holds rows ((p + row_count a) * 7) (stored (t + length (text_bytes a)) b)
  unfolding stored
  right_rows a b t p h =
      let x = stored-length t a in
      holds_to (p * 7 + length (stored t a)) _ (omega arith)
      (holds_left (stored (t + length (text_bytes a)) b) (own_row t (join a b))
      (holds_right (stored t a) (stored (t + length (text_bytes a)) b ++ own_row t (join a b)) h))

  module _ (texts : List ℕ) where
    pub read_back : (d : Doc) (t p r f : ℕ) → suc r ≡ p + row_count d → Holds rows (p * 7) (stored t d) → Holds texts t (text_bytes d) → r < f → doc_at rows texts f r ≡ d
    unfolding doc_at node row_count stored text_bytes own_row
    read_back d t p r zero e h g q = absurd (omega arith)
    read_back (text s) t p r (suc f) e h g q =
        let o : Holds rows (r * 7) (row_of 0 t (length s) (text s)) = own (text s) t p r e h in
        ap (node rows texts (doc_at rows texts f) r) (holds_at _ 0 (omega arith) o)
        ∙ ap₂ (λ (x y : ℕ). text (take x (drop y texts))) (holds_at _ 2 (omega arith) o) (holds_at _ 1 (omega arith) o)
        ∙ ap text (holds_part s g)
    read_back (join a b) t p r (suc f) e h g q =
        let t' = t + length (text_bytes a) in
        let o : Holds rows (r * 7) (row_of 1 0 0 (join a b)) = own (join a b) t p r e h in
        let hb = right_rows a b t p h in
        let x = some_row a in
        let y = some_row b in
        let c : word rows (r - 1) 3 ≡ row_count b = (own_words b t' (r - 1) (own b t' (p + row_count a) (r - 1) (omega arith) hb)).count in
        ap (node rows texts (doc_at rows texts f) r) (holds_at _ 0 (omega arith) o)
        ∙ ap₂ join
        (read_back a t p (left_of rows r) f (omega arith) (holds_left _ _ h) (holds_left _ _ g) (omega arith))
        (read_back b t' (p + row_count a) (r - 1) f (omega arith) hb (holds_right (text_bytes a) (text_bytes b) g) (omega arith))
    read_back (break k) t p r (suc f) e h g q =
        let o : Holds rows (r * 7) (row_of 2 k 0 (break k)) = own (break k) t p r e h in
        ap (node rows texts (doc_at rows texts f) r) (holds_at _ 0 (omega arith) o) ∙ ap break (holds_at _ 1 (omega arith) o)
    read_back (nest m d) t p r (suc f) e h g q =
        let o : Holds rows (r * 7) (row_of 3 m 0 (nest m d)) = own (nest m d) t p r e h in
        let x = some_row d in
        ap (node rows texts (doc_at rows texts f) r) (holds_at _ 0 (omega arith) o)
        ∙ ap₂ nest (holds_at _ 1 (omega arith) o) (read_back d t p (r - 1) f (omega arith) (holds_left _ _ h) g (omega arith))
    read_back (group d) t p r (suc f) e h g q =
        let o : Holds rows (r * 7) (row_of 4 0 0 (group d)) = own (group d) t p r e h in
        let x = some_row d in
        ap (node rows texts (doc_at rows texts f) r) (holds_at _ 0 (omega arith) o)
        ∙ ap group (read_back d t p (r - 1) f (omega arith) (holds_left _ _ h) g (omega arith))

  -- ---- the row rules

  ok_at : (total r k t : ℕ) → word rows r 0 ≡ k → text_before rows r ≡ t → Kept rows total t r k → row_ok rows total r ≡ true
  unfolding row_ok
  ok_at total r k t e g m =
      ap₂ (λ (x y : ℕ). rule_ok rows total x r y) g e ∙ and_intro m.fields (of_same (measures_at rows r) (derived rows r k) m.measures)

  -- n rows from p on keep the rules, and have so many text bytes of their own, with t before them
  record RowsOk (total p n t size : ℕ) : Type 0 where
    ok : (i : ℕ) → p ≤ i → i < p + n → row_ok rows total i ≡ true
    texts : text_before rows (p + n) ≡ t + size

  rows_ok_to : {total p q n m t x y : ℕ} → p ≡ q → n ≡ m → x ≡ y → RowsOk total p n t x → RowsOk total q m t y
  rows_ok_to {total} {p} {q} {n} {m} {t} {x} {y} d e f k =
      let g : q + m ≡ p + n = omega arith in
      record { ok = λ i a b. k.ok i (omega arith) (omega arith); texts = ap (text_before rows) g ∙ k.texts ∙ ap (λ (z : ℕ). t + z) f }

  rows_ok_append : {total p n m t x y : ℕ} → RowsOk total p n t x → RowsOk total (p + n) m (t + x) y → RowsOk total p (n + m) t (x + y)
  rows_ok_append {total} {p} {n} {m} {t} {x} {y} j k =
      let e : p + (n + m) ≡ p + n + m = omega arith in
      let f : t + x + y ≡ t + (x + y) = omega arith in
      record {
        ok = λ i a b. ⊎_elim (λ c. j.ok i a c) (λ c. k.ok i c (omega arith)) (split i (p + n));
        texts = ap (text_before rows) e ∙ k.texts ∙ f;
      }

  -- one row
  row_is_ok : {total t : ℕ} (r kind own : ℕ) → word rows r 0 ≡ kind → text_before rows r ≡ t → own_text rows r kind ≡ own → Kept rows total t r kind → RowsOk total r 1 t own
  unfolding text_before
  row_is_ok {total} {t} r kind own e g z m =
      record {
        ok = λ i a b. let q : i ≡ r = omega arith in ap (row_ok rows total) q ∙ ok_at total r kind t e g m;
        texts = ap (text_before rows) (add-one r) ∙ ap₂ (λ (x y : ℕ). x + own_text rows r y) g e ∙ ap (λ (x : ℕ). t + x) z;
      }

  -- the measures of a nest or a group, over its child's
  wrapped_same : (d e : Doc) (t p r k : ℕ) → row_count e ≡ 1 + row_count d → flat_size e ≡ flat_size d → first_break e ≡ first_break d → has_break e ≡ has_break d
      → suc r ≡ 1 + p + row_count d → Holds rows (p * 7) (stored t d) → Words e r → Same (measures_at rows r) (derived rows r (suc (suc (suc k))))
  wrapped_same d e t p r k n l f b s h w =
      let x = some_row d in
      let wd = own_words d t (r - 1) (own d t p (r - 1) (omega arith) h) in
      record {
        count = w.count ∙ n ∙ ap (λ (x : ℕ). 1 + x) (sym wd.count);
        flat = w.flat ∙ l ∙ sym wd.flat;
        first = w.first ∙ f ∙ sym wd.first;
        has = w.has ∙ b ∙ sym wd.has;
      }

  -- the rows of a stored document keep the row rules
  stored_ok : (total : ℕ) (d : Doc) (t p : ℕ) → Fine d → Holds rows (p * 7) (stored t d) → text_before rows p ≡ t → t + length (text_bytes d) ≤ total
      → RowsOk total p (row_count d) t (length (text_bytes d))
  unfolding row_count flat_size first_break has_break stored own_row text_bytes Fine
  stored_ok total (text s) t p y h g z =
      let w = words 0 t (length s) (text s) p h in
      let w2 : word rows p 2 ≡ length s = holds_at _ 2 (omega arith) h in
      let w1 : word rows p 1 ≡ t = holds_at _ 1 (omega arith) h in
      row_is_ok p 0 (length s) (holds_at _ 0 (omega arith) h) g w2
      (record {
        fields = and_intro (eq-eqb (word rows p 1) t w1) (le-leb (t + word rows p 2) total (omega arith));
        measures = record { count = w.count; flat = w.flat ∙ sym w2; first = w.first ∙ sym w2; has = w.has };
      })
  stored_ok total (join a b) t p y h g z =
      let t' = t + length (text_bytes a) in
      let l = length-append (text_bytes a) (text_bytes b) in
      let r : ℕ = p + row_count a + row_count b in
      let xa = some_row a in
      let xb = some_row b in
      let ka = stored_ok total a t p y.0 (holds_left _ _ h) g (omega arith) in
      let hb = right_rows a b t p h in
      let kb = stored_ok total b t' (p + row_count a) y.1 hb ka.texts (omega arith) in
      let o : Holds rows (r * 7) (row_of 1 0 0 (join a b)) = own (join a b) t p r (omega arith) h in
      let w = words 1 0 0 (join a b) r o in
      let wb = own_words b t' (r - 1) (own b t' (p + row_count a) (r - 1) (omega arith) hb) in
      let q : left_of rows r ≡ p + row_count a - 1 = let c = wb.count in omega arith in
      let wa : Words a (left_of rows r) = own_words a t _ (own a t p (left_of rows r) (omega arith) (holds_left _ _ h)) in
      let cb : word rows (r - 1) 3 ≡ row_count b = wb.count in
      let kab = rows_ok_append ka kb in
      let i : r ≡ p + (row_count a + row_count b) = omega arith in
      rows_ok_to {n = row_count a + row_count b + 1} {x = length (text_bytes a) + length (text_bytes b) + 0} refl (omega arith) (omega arith)
      (rows_ok_append kab
      (rows_ok_to i refl refl
      (row_is_ok r 1 0 (holds_at _ 0 (omega arith) o) (ap (text_before rows) i ∙ kab.texts) refl
      (record {
        fields = and_intro (lt-ltb (word rows (r - 1) 3) r (omega arith))
            (and_intro (eq-eqb (word rows r 1) 0 (holds_at _ 1 (omega arith) o)) (eq-eqb (word rows r 2) 0 (holds_at _ 2 (omega arith) o)));
        measures =
            record {
              count = w.count ∙ ap₂ (λ (x y : ℕ). 1 + x + y) (sym wa.count) (sym cb);
              flat = w.flat ∙ ap₂ ◌+◌ (sym wa.flat) (sym wb.flat);
              first = w.first ∙ ap₂ (λ (x y : ℕ). through x y (first_break b)) (sym wa.has) (sym wa.first)
                  ∙ ap (through (word rows (left_of rows r) 6) (word rows (left_of rows r) 5)) (sym wb.first);
              has = w.has ∙ ap₂ either (sym wa.has) (sym wb.has);
            };
      }))))
  stored_ok total (break k) t p y h g z =
      let w = words 2 k 0 (break k) p h in
      let w1 : word rows p 1 ≡ k = holds_at _ 1 (omega arith) h in
      row_is_ok p 2 0 (holds_at _ 0 (omega arith) h) g refl
      (record {
        fields = and_intro (lt-ltb (word rows p 1) 2 (omega arith)) (eq-eqb (word rows p 2) 0 (holds_at _ 2 (omega arith) h));
        measures = record { count = w.count; flat = w.flat ∙ sym w1; first = w.first; has = w.has };
      })
  stored_ok total (nest m d) t p y h g z =
      let r : ℕ = p + row_count d in
      let x = some_row d in
      let ym : m ≤ 64 = y.0 in
      let k = stored_ok total d t p y.1 (holds_left _ _ h) g z in
      let o : Holds rows (r * 7) (row_of 3 m 0 (nest m d)) = own (nest m d) t p r (omega arith) h in
      let w1 : word rows r 1 ≡ m = holds_at _ 1 (omega arith) o in
      rows_ok_to {n = row_count d + 1} {x = length (text_bytes d) + 0} refl (omega arith) (omega arith)
      (rows_ok_append k
      (row_is_ok r 3 0 (holds_at _ 0 (omega arith) o) k.texts refl
      (record {
        fields = and_intro (lt-ltb 0 r (omega arith)) (and_intro (lt-ltb (word rows r 1) 65 (omega arith)) (eq-eqb (word rows r 2) 0 (holds_at _ 2 (omega arith) o)));
        measures = wrapped_same d (nest m d) t p r 0 refl refl refl refl (omega arith) (holds_left _ _ h) (words 3 m 0 (nest m d) r o);
      })))
  stored_ok total (group d) t p y h g z =
      let r : ℕ = p + row_count d in
      let x = some_row d in
      let k = stored_ok total d t p y (holds_left _ _ h) g z in
      let o : Holds rows (r * 7) (row_of 4 0 0 (group d)) = own (group d) t p r (omega arith) h in
      rows_ok_to {n = row_count d + 1} {x = length (text_bytes d) + 0} refl (omega arith) (omega arith)
      (rows_ok_append k
      (row_is_ok r 4 0 (holds_at _ 0 (omega arith) o) k.texts refl
      (record {
        fields = and_intro (lt-ltb 0 r (omega arith)) (and_intro refl (and_intro (eq-eqb (word rows r 1) 0 (holds_at _ 1 (omega arith) o)) (eq-eqb (word rows r 2) 0 (holds_at _ 2 (omega arith) o))));
        measures = wrapped_same d (group d) t p r 1 refl refl refl refl (omega arith) (holds_left _ _ h) (words 4 0 0 (group d) r o);
      })))

-- ---- a whole document

scan_good : (rows : List ℕ) (total n i : ℕ) → ((j : ℕ) → i ≤ j → j < i + n → row_ok rows total j ≡ true) → scan rows total n i ≡ i + n
unfolding scan
scan_good rows total zero i h = sym (add-zero i)
scan_good rows total (suc n) i h =
    let e : suc i + n ≡ i + suc n = omega arith in
    ap (λ (b : Bool). cond b (scan rows total n (suc i)) i) (h i (omega arith) (omega arith))
    ∙ scan_good rows total n (suc i) (λ j p q. h j (omega arith) (omega arith))
    ∙ e

module _ (d : Doc) (more_rows more_texts : List ℕ) where
  -- the document of stored rows is the document
  pub stored_reads_back : doc_at (stored 0 d ++ more_rows) (text_bytes d ++ more_texts) (row_count d) (row_count d - 1) ≡ d
  stored_reads_back =
      let x = some_row d in
      read_back (stored 0 d ++ more_rows) (text_bytes d ++ more_texts) d 0 0 (row_count d - 1) (row_count d) (omega arith)
      (holds_front (stored 0 d) more_rows) (holds_front (text_bytes d) more_texts) (omega arith)

  module _ (fine : Fine d) where
    rows_ok : RowsOk (stored 0 d ++ more_rows) (length (text_bytes d)) 0 (row_count d) 0 (length (text_bytes d))
    unfolding text_before
    rows_ok = stored_ok (stored 0 d ++ more_rows) (length (text_bytes d)) d 0 0 fine (holds_front (stored 0 d) more_rows) refl (omega arith)

    -- no row of a stored document is faulty
    pub stored_faultless : fault (stored 0 d ++ more_rows) (length (text_bytes d)) (row_count d) ≡ row_count d
    unfolding fault whole
    stored_faultless =
        let rows : List ℕ = stored 0 d ++ more_rows in
        let total : ℕ = length (text_bytes d) in
        let x = some_row d in
        let z : 0 + row_count d ≡ row_count d = omega arith in
        let s : scan rows total (row_count d) 0 ≡ row_count d = scan_good rows total (row_count d) 0 rows_ok.ok ∙ z in
        let c : word rows (row_count d - 1) 3 ≡ row_count d =
        (own_words rows d 0 (row_count d - 1) (own rows d 0 0 (row_count d - 1) (omega arith) (holds_front (stored 0 d) more_rows))).count in
        let t : text_before rows (row_count d) ≡ total = ap (text_before rows) (sym z) ∙ rows_ok.texts ∙ zero-add total in
        let m : row_count d ≤ row_count d = omega arith in
        rw (s, le-ltb (row_count d) (row_count d) m, eq-eqb _ _ c, eq-eqb _ _ t)

    -- stored rows are accepted
    pub stored_accepted : row_count d ≤ 16384 → length (text_bytes d) ≤ 65536
        → Accepted (stored 0 d ++ more_rows) (row_count d) (text_bytes d ++ more_texts) (length (text_bytes d))
    stored_accepted few small =
        let s = stored-length 0 d in
        let n = length-append (stored 0 d) more_rows in
        let m = length-append (text_bytes d) more_texts in
        let o = some_row d in
        record {
          counts =
              and_intro (lt-ltb 0 (row_count d) (omega arith))
              (and_intro (le-leb (row_count d) 16384 few)
              (and_intro (le-leb (row_count d * 7) (length (stored 0 d ++ more_rows)) (omega arith))
              (and_intro (le-leb (length (text_bytes d)) (length (text_bytes d ++ more_texts)) (omega arith)) (le-leb (length (text_bytes d)) 65536 small))));
          faultless = stored_faultless;
        }
