-- A specimen of document 01, `@Nat → @Nat`, computed: 17 rows, 12 text bytes, 13 listed; at width 12 two rows, the longest 8. And a text
-- that holds a newline, which begins no line; and groups of which one fails the fit test, one is flat, and one is inside that.
use Prim.Native.Nat.{ℕ}
use mathlib.Core.Bool.{true, false}
use mathlib.Core.List.{List, [], ◌∷◌}
use Rattle.std.proofs.Common.{Ok}
use mathlib.Core.Path.{◌≡◌, refl}
use Rattle.document.specs.Doc.{Doc, text, join, break, nest, group, row_count, flat_size, first_break, has_break, text_bytes}
use Rattle.document.specs.Rows.{doc_at, node, fault, scan, whole, row_ok, text_before}
use Rattle.document.specs.Stored.{stored, own_row}
use Rattle.layout.specs.Layout.{pieces, layout, run}
use Rattle.layout.specs.Listing.{bytes_of, broken_places, longest_row}
use Rattle.layout.specs.Groups.{groups_from, groups_of, outside, fit_tests}
use Rattle.layout.specs.Paint.{paint}
use Rattle.layout.specs.Call.{counts_of, outcome, listed, untouched}

nat : Doc
nat = join (text (64 ∷ [])) (text (78 ∷ 97 ∷ 116 ∷ []))

arrow : Doc
unfolding nat
arrow = group (join (group (join (join (join (nest 2 (group nat)) (text (32 ∷ []))) (text (226 ∷ 134 ∷ 146 ∷ []))) (break 1))) nat)

one_row : bytes_of (pieces 13 arrow) ≡ 64 ∷ 78 ∷ 97 ∷ 116 ∷ 32 ∷ 226 ∷ 134 ∷ 146 ∷ 32 ∷ 64 ∷ 78 ∷ 97 ∷ 116 ∷ []
unfolding arrow nat bytes_of pieces layout run flat_size first_break has_break
one_row = refl

abbrev area : List ℕ
area = 0 ∷ 0 ∷ 0 ∷ 0 ∷ 0 ∷ 0 ∷ 0 ∷ 0 ∷ 0 ∷ 0 ∷ 0 ∷ 0 ∷ 0 ∷ 9 ∷ []

two_rows : outcome (stored 0 arrow) 17 (text_bytes arrow) 12 12 area
    ≡ record {
      answer = Ok (record { rows = 17; text = 12; length = 13; lines = 2; longest = 8; tests = 3 });
      listing = 64 ∷ 78 ∷ 97 ∷ 116 ∷ 32 ∷ 226 ∷ 134 ∷ 146 ∷ 10 ∷ 64 ∷ 78 ∷ 97 ∷ 116 ∷ 9 ∷ [];
    }
unfolding arrow nat bytes_of pieces layout run flat_size first_break has_break row_count stored own_row text_bytes outcome listed untouched doc_at node fault scan whole row_ok
    text_before broken_places longest_row groups_from outside paint
two_rows = refl

-- `a`, newline, `b` as one text, a break, and `c`
abbrev two_texts : Doc
two_texts = group (join (text (97 ∷ 10 ∷ 98 ∷ [])) (join (break 1) (text (99 ∷ []))))

unbroken_has_one_line : counts_of 6 4 5 two_texts ≡ record { rows = 6; text = 4; length = 5; lines = 1; longest = 5; tests = 1 }
unfolding pieces layout run flat_size first_break has_break bytes_of broken_places longest_row groups_from outside
unbroken_has_one_line = refl

broken_has_two_lines : counts_of 6 4 4 two_texts ≡ record { rows = 6; text = 4; length = 5; lines = 2; longest = 3; tests = 1 }
unfolding pieces layout run flat_size first_break has_break bytes_of broken_places longest_row groups_from outside
broken_has_two_lines = refl

-- `a` in a group, in a group with `b`, in a group with a break and `c`: at width 2 the first group met fails the fit test, the second is flat, and
-- the third is inside it
abbrev three_groups : Doc
three_groups = group (join (group (join (group (text (97 ∷ []))) (text (98 ∷ [])))) (join (break 1) (text (99 ∷ []))))

each_of_a_kind : groups_of 2 three_groups
    ≡ record { inside = false; flat = false } ∷ record { inside = false; flat = true } ∷ record { inside = true; flat = true } ∷ []
unfolding groups_from flat_size first_break has_break
each_of_a_kind = refl

-- at widths 1, 2 and 4 all are tested, two, and the first
tests_at_each_width : fit_tests 1 three_groups ∷ fit_tests 2 three_groups ∷ fit_tests 4 three_groups ∷ [] ≡ 3 ∷ 2 ∷ 1 ∷ []
unfolding groups_from outside flat_size first_break has_break
tests_at_each_width = refl
