-- What is handed out lies inside its area, and a string that is handed out is the string of its row.
-- Assumes nothing.
use Prim.Native.Nat.{ℕ, ◌+◌, ◌-◌, ◌<◌, ◌≤◌, min}
use native.Mathlib.Omega.{arith}
use mathlib.Core.Bool.{Bool, true, false, ◌&&◌, cond}
use mathlib.Core.List.{List}
use mathlib.Core.Path.{◌≡◌, refl, sym, ap, ◌∙◌}
use lib.Dec.{leb, ltb, eqb}
use lib.ListN.{length, take, drop}
use borrow.Author.Tests.{ltb-true, ltb-false, leb-true, eqb-true, eq-eqb, ne_eqb, lt-ltb, le-ltb}
use Rattle.basics.proofs.Booleans.{and_left, and_right}
use Rattle.std.specs.Prelude.{is_some, not, Ok, Err}
use Rattle.document.specs.Rows.{word, measures_at, derived, text_before, fields_ok, same, rule_ok, row_ok, Valid, fault, found, counts_ok}
use Rattle.document.proofs.Faults.{counts, accepted_sound, fault_bound}
use Rattle.pool.specs.Tables.{S, string_word, string_at}
use Rattle.pool.specs.Rules.{rising, string_ok}
use Rattle.pool.proofs.Clips.{part_clip}
use Rattle.pool_check.specs.declared.PoolError.{PoolError}
use Rattle.pool_check.specs.declared.PoolError.TheVariants.{Words, Limit, Strings, Rows, Notation}
use Rattle.pool_check.specs.Check.{number, is_accepted}
use Rattle.pool_check.proofs.Acceptance.{accepted, accepted_is}
use Rattle.utf8.specs.Utf8.{utf8}
use Rattle.lister.specs.declared.Handed.{Handed}
use Rattle.lister.specs.declared.Handed.TheVariants.{Text, String}
use Rattle.lister.specs.Source.{Source, pool_of, judged}
use Rattle.lister.specs.Handing.{span, empty, has_text, text_span, has_string, string_span, span_of, area_of, hand_out}

-- a part that is cut off at the end of the list: first its start, then its length
pub part_from : (l : List ℕ) (a b from size : ℕ) → from ≡ min a (length l) → size ≡ min b (length l - from) → take (from + size - from) (drop from l) ≡ take b (drop a l)
part_from l a b from size p q = let e : from + size ≡ min (a + b) (length l) = omega arith in part_clip l a b from (from + size) p e

-- ---- inside the area

text_fields : (rows : List ℕ) (total before r kind : ℕ) → kind ≡ 0 → rule_ok rows total before r kind ≡ true → fields_ok rows total before r 0 ≡ true
text_fields rows total before r kind e h =
    and_left (fields_ok rows total before r 0) (same (measures_at rows r) (derived rows r 0)) (ap (rule_ok rows total before r) (sym e) ∙ h)

text_in : (rows : List ℕ) (count : ℕ) (text : List ℕ) (total r : ℕ) → has_text rows count text total r ≡ true → word rows r 1 + word rows r 2 ≤ length text
unfolding has_text row_ok Valid
text_in rows count text total r h =
    let ok = and_left (counts_ok (length rows) count (length text) total) _ h in
    let h1 = and_right (counts_ok (length rows) count (length text) total) _ h in
    let faultless = eqb-true _ _ (and_left (eqb (fault rows total count) count) _ h1) in
    let h2 = and_right (eqb (fault rows total count) count) _ h1 in
    let here = ltb-true _ _ (and_left (ltb r count) (eqb (word rows r 0) 0) h2) in
    let kind = eqb-true (word rows r 0) 0 (and_right (ltb r count) (eqb (word rows r 0) 0) h2) in
    let rule = (accepted_sound {rows = rows} {count = count} {texts = text} {total = total} (record { counts = ok; faultless = faultless })).valid r here in
    let fields = text_fields rows total (text_before rows r) r (word rows r 0) kind rule in
    let starts : word rows r 1 ≡ text_before rows r = eqb-true _ _ (and_left (eqb (word rows r 1) (text_before rows r)) _ fields) in
    let ends : text_before rows r + word rows r 2 ≤ total = leb-true _ _ (and_right (eqb (word rows r 1) (text_before rows r)) _ fields) in
    let within : total ≤ length text = (counts (length rows) count (length text) total ok).within in
    omega arith

string_in_lem : (source : Source) (r : ℕ) → has_string source r ≡ true → string_word source.words r 0 + string_word source.words r 1 ≤ length source.bytes
unfolding has_string string_ok
string_in_lem source r h =
    let sound = (accepted source.bytes source.words (accepted_is (judged source) (and_left (is_accepted (judged source)) _ h))).1 in
    let here = ltb-true _ _ (and_right (is_accepted (judged source)) (ltb r (S source.words)) h) in
    leb-true _ _
    (and_left
    (leb (string_word source.words r 0 + string_word source.words r 1) (length source.bytes))
    (rising (λ i. string_word source.words i 0) r && utf8 (string_at (pool_of source) r))
    (sound.strings r here))

-- a part that lies inside, or nothing
chosen_in : (b : Bool) (offset size most : ℕ) → (b ≡ true → offset + size ≤ most) → (cond b (span offset size) empty).offset + (cond b (span offset size) empty).size ≤ most
chosen_in true offset size most f = f refl
chosen_in false offset size most f = omega arith

pub span_inside : (source : Source) (rows : List ℕ) (count : ℕ) (text : List ℕ) (total : ℕ) (handed : Handed)
    → (span_of source rows count text total handed).offset + (span_of source rows count text total handed).size ≤ length (area_of source text handed)
unfolding span_of area_of text_span string_span
span_inside source rows count text total (Text r) = chosen_in (has_text rows count text total r) _ _ _ (text_in rows count text total r)
span_inside source rows count text total (String r) = chosen_in (has_string source r) _ _ _ (string_in_lem source r)

-- ---- the string of a row

pub string_handed : (source : Source) (rows : List ℕ) (count : ℕ) (text : List ℕ) (total r : ℕ) → has_string source r ≡ true
    → hand_out source rows count text total (String r) ≡ string_at (pool_of source) r
unfolding hand_out span_of area_of string_span string_at
string_handed source rows count text total r h = rw h

-- ---- as the code tests it

found_is : (f n : ℕ) → f ≤ n → is_some (found f n) ≡ not (eqb f n)
found_is f n h = by (ltb f n) refl
  where
    by : (b : Bool) → ltb f n ≡ b → is_some (found f n) ≡ not (eqb f n)
    by true e = let below = ltb-true f n e in rw (e, ne_eqb f n (λ z. omega arith))
    by false e = let above = ltb-false f n e in rw (e, eq-eqb f n (omega arith))

is_not : (b : Bool) → not b ≡ true → b ≡ false
is_not true e = sym e
is_not false e = refl

is_so : (b : Bool) → not b ≡ false → b ≡ true
is_so true e = refl
is_so false e = sym e

module _ (rows : List ℕ) (count : ℕ) (text : List ℕ) (total r : ℕ) where
  abbrev counted : Bool
  counted = counts_ok (length rows) count (length text) total

  faulty_is : (b : Bool) → b ≡ is_some (found (fault rows total count) count) → not (eqb (fault rows total count) count) ≡ b
  faulty_is b e = sym (found_is (fault rows total count) count (fault_bound rows total count)) ∙ sym e

  pub no_counts : counted ≡ false → false ≡ has_text rows count text total r
  unfolding has_text
  no_counts e = rw e

  module _ (ok : counted ≡ true) (b : Bool) (told : b ≡ is_some (found (fault rows total count) count)) where
    pub faulty : b ≡ true → false ≡ has_text rows count text total r
    unfolding has_text
    faulty e = rw (ok, is_not _ (faulty_is b told ∙ e))

    pub faultless : b ≡ false → (v : Bool) → v ≡ ltb r count && eqb (word rows r 0) 0 → v ≡ has_text rows count text total r
    unfolding has_text
    faultless e v z = rw (ok, is_so _ (faulty_is b told ∙ e)) z

refused_is : (e : PoolError) → is_accepted (Err e) ≡ false
unfolding is_accepted number
refused_is Words = refl
refused_is Limit = refl
refused_is (Strings row) = refl
refused_is (Rows row) = refl
refused_is Notation = refl

module _ (source : Source) (r : ℕ) where
  pub string_refused : (e : PoolError) → judged source ≡ Err e → empty ≡ string_span source r
  unfolding string_span has_string
  string_refused e j = rw (j, refused_is e)

  module _ (j : judged source ≡ Ok tt) where
    pub string_missing : S source.words ≤ r → empty ≡ string_span source r
    unfolding string_span has_string is_accepted number
    string_missing h = rw (j, le-ltb r (S source.words) h)

    pub string_there : r < S source.words → (offset size : ℕ) → offset ≡ string_word source.words r 0 → size ≡ string_word source.words r 1 → span offset size ≡ string_span source r
    unfolding string_span has_string is_accepted number
    string_there h offset size o z = rw (j, lt-ltb r (S source.words) h, o, z)
