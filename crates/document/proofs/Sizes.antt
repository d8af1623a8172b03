-- The measures of a document within the limits fit their words.
use Prim.Native.Nat.{ℕ, zero, suc, ◌+◌, ◌%◌, ◌^◌, ◌≤◌, ◌<◌}
use native.Mathlib.Omega.{arith}
use native.Mathlib.Nat.{mod-eq_of_lt}
use mathlib.Core.Path.{◌≡◌}
use lib.ListN.{length, length-append}
use Rattle.document.specs.Doc.{Doc, text, join, break, nest, group, row_count, flat_size, first_break, has_break, text_bytes, through, either}
use Rattle.document.specs.Stored.{measures, row_of, Fine}
use Rattle.document.specs.Sink.{row_words}

-- each blank takes a row
pub flat_bound : (d : Doc) → Fine d → flat_size d ≤ length (text_bytes d) + row_count d
unfolding flat_size text_bytes row_count Fine
flat_bound (text s) f = omega arith
flat_bound (join a b) f =
    let x = flat_bound a f.0 in
    let y = flat_bound b f.1 in
    let l = length-append (text_bytes a) (text_bytes b) in
    omega arith
flat_bound (break k) f = omega arith
flat_bound (nest m d) f = let x = flat_bound d f.1 in omega arith
flat_bound (group d) f = let x = flat_bound d f in omega arith

through_bound : (has first after m n : ℕ) → first ≤ m → after ≤ n → through has first after ≤ m + n
through_bound zero first after m n p q = omega arith
through_bound (suc has) first after m n p q = omega arith

pub first_bound : (d : Doc) → first_break d ≤ flat_size d
unfolding first_break flat_size
first_bound (text s) = omega arith
first_bound (join a b) = through_bound (has_break a) (first_break a) (first_break b) (flat_size a) (flat_size b) (first_bound a) (first_bound b)
first_bound (break k) = omega arith
first_bound (nest m d) = first_bound d
first_bound (group d) = first_bound d

either_bound : (a b : ℕ) → b ≤ 1 → either a b ≤ 1
either_bound zero b h = h
either_bound (suc a) b h = omega arith

pub has_bound : (d : Doc) → has_break d ≤ 1
unfolding has_break
has_bound (text s) = omega arith
has_bound (join a b) = either_bound (has_break a) (has_break b) (has_bound b)
has_bound (break k) = omega arith
has_bound (nest m d) = has_bound d
has_bound (group d) = has_bound d

fits : (n : ℕ) → n < 4294967296 → n % 2 ^ 32 ≡ n
fits n h = mod-eq_of_lt h

-- the row that the sink writes is the document's own
pub words_fit : (kind a b : ℕ) (d : Doc) → Fine d → row_count d ≤ 16384 → length (text_bytes d) ≤ 65536 → row_words kind a b (measures d) ≡ row_of kind a b d
words_fit kind a b d f few small =
    let x = flat_bound d f in
    let y = first_bound d in
    let z = has_bound d in
    let p : row_count d % 2 ^ 32 ≡ row_count d = fits (row_count d) (omega arith) in
    let q : flat_size d % 2 ^ 32 ≡ flat_size d = fits (flat_size d) (omega arith) in
    let r : first_break d % 2 ^ 32 ≡ first_break d = fits (first_break d) (omega arith) in
    let s : has_break d % 2 ^ 32 ≡ has_break d = fits (has_break d) (omega arith) in
    rw (p, q, r, s)
