-- What the third property says of every layout, proved of the definitions.
use Prim.Native.Nat.{ℕ, zero, suc, ◌+◌, ◌≤◌, max}
use native.Mathlib.Omega.{arith}
use mathlib.Core.Bool.{Bool, true, false}
use mathlib.Core.List.{List, [], ◌∷◌, ◌++◌, append-nil, append_assoc}
use mathlib.Core.Path.{◌≡◌, refl, sym, ap, ap₂, ◌∙◌, subst}
use lib.ListN.{length, replicate, take, drop, length-append, length-replicate}
use borrow.Author.Tests.{leb-true}
use Rattle.document.specs.Doc.{Doc, text, join, break, nest, group, flat_size, has_break, first_break, through, either, row_count, text_bytes}
use Rattle.document.specs.Stored.{stored, Fine}
use Rattle.document.proofs.ReadBack.{stored_reads_back, stored_accepted}
use Rattle.layout.specs.declared.cursor.Cursor.{Cursor}
use Rattle.layout.specs.Layout.{Piece, textᵖ, blankᵖ, newlineᵖ, testᵖ, after, run, fits, layout, start, pieces}
use Rattle.layout.specs.Listing.{bytes_of, broken_places, lines, longest_row}
use Rattle.layout.specs.Paint.{paint}
use Rattle.layout.specs.Call.{listed, outcome}
use Rattle.third_property.specs.Claims.{put_back, restored, in_order, Row, rows_from, rows_in, joined, Within}
use Rattle.layout.proofs.Pieces.{run-append}
use Rattle.layout.proofs.Answers.{answer_listed}

-- ---- blanks put back

restored-append : (ps qs : List Piece) → restored (ps ++ qs) ≡ restored ps ++ restored qs
unfolding restored
restored-append [] qs = refl
restored-append (p ∷ ps) qs = ap (λ (l : List ℕ). put_back p ++ l) (restored-append ps qs) ∙ sym (append_assoc (put_back p) (restored ps) (restored qs))

restores : (w : ℕ) (d : Doc) (n : ℕ) (flat : Bool) (next : ℕ) (c : Cursor) → restored (layout w d n flat next c) ≡ in_order d
unfolding layout restored in_order
restores w (text s) n flat next c = append-nil s
restores w (join a b) n flat next c =
    let ps = layout w a n flat (through (has_break b) (first_break b) next) c in
    restored-append ps _ ∙ ap₂ ◌++◌ (restores w a n flat (through (has_break b) (first_break b) next) c) (restores w b n flat next (run w c ps))
restores w (break k) n true next c = append-nil (replicate k 32)
restores w (break k) n false next c = append-nil (replicate k 32)
restores w (nest m d) n flat next c = restores w d (n + m) flat next c
restores w (group d) n true next c = restores w d n true next c
restores w (group d) n false next c =
    let f = fits c d next in
    restores w d n f next (after w c (testᵖ f))

never_true : (A : Type 0) → false ≡ true → A
never_true A p = absurd (let z : ◌≡◌ {A = ℕ} 0 1 = cc in omega arith)

-- ---- rows that hold an unbroken place

through_at_most_flat : (d : Doc) (next : ℕ) → through (has_break d) (first_break d) next ≤ flat_size d + next
unfolding has_break first_break flat_size
through_at_most_flat (text s) next = omega arith
through_at_most_flat (join a b) next = go (has_break a) (has_break b) (through_at_most_flat a (flat_size b + next)) (through_at_most_flat a 0) (through_at_most_flat b next)
  where
    go : (x y : ℕ) → through x (first_break a) (flat_size b + next) ≤ flat_size a + (flat_size b + next) → through x (first_break a) 0 ≤ flat_size
        a + 0 → through y (first_break b) next ≤ flat_size b + next
        → through (either x y) (through x (first_break a) (first_break b)) next ≤ flat_size a + flat_size b + next
    go zero zero h i k = omega arith
    go zero (suc y) h i k = omega arith
    go (suc x) y h i k = omega arith
through_at_most_flat (break k) next = omega arith
through_at_most_flat (nest m d) next = through_at_most_flat d next
through_at_most_flat (group d) next = through_at_most_flat d next

through_join : (x y na nb next : ℕ) → through x na (through y nb next) ≡ through (either x y) (through x na nb) next
through_join zero zero na nb next = omega arith
through_join zero (suc y) na nb next = refl
through_join (suc x) y na nb next = refl

-- what is left of a row that holds an unbroken place, to the next break, is within the width; and a flat document is, with what follows it
within : (w : ℕ) (d : Doc) (n : ℕ) (flat : Bool) (next : ℕ) (c : Cursor) (row : List ℕ) (held : Bool) (rest : List Piece)
    → length row + c.end ≡ c.position + w
    → (held ≡ true → length row + through (has_break d) (first_break d) next ≤ w)
    → (flat ≡ true → length row + flat_size d + next ≤ w)
    → ((row' : List ℕ) (held' : Bool) → length row' + (run w c (layout w d n flat next c)).end ≡ (run w c (layout w d n flat next c)).position + w
    → (held' ≡ true → length row' + next ≤ w) → (flat ≡ true → length row' ≡ length row + flat_size d) → Within w (rows_from row' held' rest))
    → Within w (rows_from row held (layout w d n flat next c ++ rest))
unfolding layout run has_break first_break flat_size rows_from Within
within w (text s) n flat next c row held rest e h f k =
    let l = length-append row s in
    k (row ++ s) held (omega arith) (λ p. let q = h p in omega arith) (λ p. l)
within w (join a b) n flat next c row held rest e h f k =
    let mid = through (has_break b) (first_break b) next in
    let ps = layout w a n flat mid c in
    let m = run w c ps in
    let qs = layout w b n flat next m in
    subst (λ (z : List Piece). Within w (rows_from row held z)) (sym (append_assoc ps qs rest))
    (within w a n flat mid c row held (qs ++ rest) e
    (λ p. subst (λ (z : ℕ). length row + z ≤ w) (sym (through_join (has_break a) (has_break b) (first_break a) (first_break b) next)) (h p))
    (λ p. let q = f p in let g = through_at_most_flat b next in omega arith)
    (λ row' held' e' h' f'.
    within w b n flat next m row' held' rest e' h'
    (λ p. let q = f p in let g = f' p in omega arith)
    (λ row'' held'' e'' h'' f''.
    k row'' held''
    (subst (λ (z : Cursor). length row'' + z.end ≡ z.position + w) (sym (run-append w c ps qs)) e'')
    h''
    (λ p. let g = f' p in let i = f'' p in omega arith))))
within w (break k') n true next c row held rest e h f k =
    let l = length-append row (replicate k' 32) in
    let r = length-replicate {A = ℕ} k' 32 in
    k (row ++ replicate k' 32) true (omega arith) (λ p. let q = f refl in omega arith) (λ p. let z : length (row ++ replicate k' 32) ≡ length row + k' = omega arith in z)
within w (break k') n false next c row held rest e h f k =
    let r = length-replicate {A = ℕ} n 32 in
    ((λ p. let q = h p in omega arith), k (replicate n 32) false (omega arith) (never_true _) (never_true _))
within w (nest m d) n flat next c row held rest e h f k = within w d (n + m) flat next c row held rest e h f k
within w (group d) n true next c row held rest e h f k = within w d n true next c row held rest e h f k
within w (group d) n false next c row held rest e h f k =
    let b = fits c d next in
    within w d n b next (after w c (testᵖ b)) row held rest e h (λ p. let q = leb-true (c.position + flat_size d + next) c.end p in omega arith)
    (λ row' held' e' h' f'. k row' held' e' h' (never_true _))

-- ---- rows joined by newlines

-- there is a row after a newline
joined_next : (r : Row) (row : List ℕ) (held : Bool) (ps : List Piece) → joined (r ∷ rows_from row held ps) ≡ r.bytes ++ (10 ∷ joined (rows_from row held ps))
unfolding joined rows_from
joined_next r row held [] = refl
joined_next r row held (textᵖ s ∷ ps) = joined_next r (row ++ s) held ps
joined_next r row held (blankᵖ k ∷ ps) = joined_next r (row ++ replicate k 32) true ps
joined_next r row held (newlineᵖ k n ∷ ps) = refl
joined_next r row held (testᵖ f ∷ ps) = joined_next r row held ps

joined_from : (row : List ℕ) (held : Bool) (ps : List Piece) → joined (rows_from row held ps) ≡ row ++ bytes_of ps
unfolding joined rows_from bytes_of
joined_from row held [] = sym (append-nil row)
joined_from row held (textᵖ s ∷ ps) = joined_from (row ++ s) held ps ∙ append_assoc row s (bytes_of ps)
joined_from row held (blankᵖ k ∷ ps) = joined_from (row ++ replicate k 32) true ps ∙ append_assoc row (replicate k 32) (bytes_of ps)
joined_from row held (newlineᵖ k n ∷ ps) =
    joined_next (record { bytes = row; held = held }) (replicate n 32) false ps ∙ ap (λ (l : List ℕ). row ++ (10 ∷ l)) (joined_from (replicate n 32) false ps)
joined_from row held (testᵖ f ∷ ps) = joined_from row held ps

-- the rows, joined by newlines, are the listing
pub rows_joined : (ps : List Piece) → joined (rows_in ps) ≡ bytes_of ps
rows_joined ps = joined_from [] false ps

-- ---- the clauses, of a whole document

-- with each broken place's newline and indentation put back to its blank, the listing is the document's texts and blanks in order
pub blanks_put_back : (width : ℕ) (d : Doc) → restored (pieces width d) ≡ in_order d
unfolding pieces
blanks_put_back width d = restores width d 0 false 0 (start width)

-- so the width changes nothing else
pub width_changes_breaks_only : (width width' : ℕ) (d : Doc) → restored (pieces width d) ≡ restored (pieces width' d)
width_changes_breaks_only width width' d = blanks_put_back width d ∙ sym (blanks_put_back width' d)

-- each row that holds an unbroken place is at most the width
pub held_rows_within_width : (width : ℕ) (d : Doc) → Within width (rows_in (pieces width d))
unfolding pieces rows_from Within
held_rows_within_width width d =
    subst (λ (z : List Piece). Within width (rows_from [] false z)) (append-nil (pieces width d))
    (within width d 0 false 0 (start width) [] false [] (omega arith) (never_true _) (never_true _)
    (λ row' held' e' h' f'. ((λ p. let q = h' p in omega arith), tt)))

-- ---- what the reported counts and the listing area are

unfoldable pub largest : List Row → ℕ
largest [] = 0
largest (r ∷ rs) = max (length r.bytes) (largest rs)

longest_from : (row : List ℕ) (held : Bool) (ps : List Piece) → longest_row (length row) ps ≡ largest (rows_from row held ps)
unfolding longest_row rows_from largest
longest_from row held [] = omega arith
longest_from row held (textᵖ s ∷ ps) = ap (λ (n : ℕ). longest_row n ps) (sym (length-append row s)) ∙ longest_from (row ++ s) held ps
longest_from row held (blankᵖ k ∷ ps) =
    ap (λ (n : ℕ). longest_row n ps) (ap (λ (n : ℕ). length row + n) (sym (length-replicate k 32)) ∙ sym (length-append row (replicate k 32)))
    ∙ longest_from (row ++ replicate k 32) true ps
longest_from row held (newlineᵖ b k ∷ ps) =
    ap (max (length row)) (ap (λ (n : ℕ). longest_row n ps) (sym (length-replicate k 32)) ∙ longest_from (replicate k 32) false ps)
longest_from row held (testᵖ b ∷ ps) = longest_from row held ps

-- the longest row is the largest of the rows
pub longest_is_largest : (ps : List Piece) → longest_row 0 ps ≡ largest (rows_in ps)
longest_is_largest ps = longest_from [] false ps

lines_from : (row : List ℕ) (held : Bool) (ps : List Piece) → lines ps ≡ length (rows_from row held ps)
unfolding broken_places rows_from
lines_from row held [] = refl
lines_from row held (textᵖ s ∷ ps) = lines_from (row ++ s) held ps
lines_from row held (blankᵖ k ∷ ps) = lines_from (row ++ replicate k 32) true ps
lines_from row held (newlineᵖ b k ∷ ps) = let h = lines_from (replicate k 32) false ps in omega arith
lines_from row held (testᵖ b ∷ ps) = lines_from row held ps

-- the lines are as many as the rows, whatever newlines the texts have
pub lines_are_rows : (ps : List Piece) → lines ps ≡ length (rows_in ps)
lines_are_rows ps = lines_from [] false ps

-- the first bytes of a listing, as many as fit, and past them the area as it was
pub painted_area : (l s : List ℕ) → paint l 0 s ≡ take (length l) s ++ drop (length s) l
unfolding paint
painted_area [] [] = refl
painted_area [] (y ∷ s) = refl
painted_area (x ∷ l) [] = refl
painted_area (x ∷ l) (y ∷ s) = ap (λ (t : List ℕ). y ∷ t) (painted_area l s)

-- a stored document is laid out
pub stored_is_listed : (d : Doc) → Fine d → (more_rows more_texts : List ℕ) (width : ℕ) (l : List ℕ) → row_count d ≤ 16384 → length (text_bytes d) ≤ 65536 → width ≤ 65535
    → outcome (stored 0 d ++ more_rows) (row_count d) (text_bytes d ++ more_texts) (length (text_bytes d)) width l ≡ listed (row_count d) (length (text_bytes d)) width d l
stored_is_listed d fine more_rows more_texts width l few small narrow =
    let a = stored_accepted d more_rows more_texts fine few small in
    sym (answer_listed (stored 0 d ++ more_rows) (row_count d) (text_bytes d ++ more_texts) (length (text_bytes d)) width a.counts a.faultless l narrow)
    ∙ ap (λ (z : Doc). listed (row_count d) (length (text_bytes d)) width z l) (stored_reads_back d more_rows more_texts)
