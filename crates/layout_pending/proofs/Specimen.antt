-- A document of six rows, `ab` and `cd` with a break between in a group, computed at width 4: with 18 words it is listed and they are
-- cleared, with 17 it is refused 30. 9 and 6 come before 30, and 30 before 22.
use Prim.Native.Nat.{ℕ}
use mathlib.Core.List.{[], ◌∷◌}
use mathlib.Core.Path.{◌≡◌, refl}
use lib.ListN.{replicate}
use Rattle.std.proofs.Common.{Ok, Err}
use Rattle.document.specs.Doc.{Doc, text, join, break, group, row_count, flat_size, first_break, has_break, text_bytes}
use Rattle.document.specs.Rows.{doc_at, node, fault, scan, whole, row_ok, text_before}
use Rattle.document.specs.Stored.{stored, own_row}
use Rattle.layout.specs.declared.LayoutError.TheVariants as errors
use Rattle.layout.specs.Layout.{pieces, layout, run}
use Rattle.layout.specs.Listing.{bytes_of, broken_places, longest_row}
use Rattle.layout.specs.Groups.{groups_from, outside}
use Rattle.layout.specs.Paint.{paint}
use Rattle.layout.specs.Call.{outcome, listed, untouched}
use Rattle.layout_pending.specs.declared.PendingError.TheVariants.{Layout, PendingArea}
use Rattle.layout_pending.specs.Call.{Outcome, with30, outcome_pending}

abbrev two : Doc
two = group (join (text (97 ∷ 98 ∷ [])) (join (break 1) (text (99 ∷ 100 ∷ []))))

-- the rows of `two`, so many of them, at a width, with so many words and bytes that hold 7
abbrev laid : ℕ → ℕ → ℕ → ℕ → Outcome
laid count width words bytes = outcome_pending (stored 0 two) count (text_bytes two) 4 width (replicate words 7) (replicate bytes 7)

listed_and_cleared : laid 6 4 18 7
    ≡ record {
      answer = Ok (record { rows = 6; text = 4; length = 5; lines = 2; longest = 2; tests = 1 });
      listing = 97 ∷ 98 ∷ 10 ∷ 99 ∷ 100 ∷ 7 ∷ 7 ∷ [];
      pending = replicate 18 0;
    }
unfolding outcome_pending with30 outcome listed untouched stored own_row text_bytes row_count flat_size first_break has_break doc_at node fault scan whole row_ok
    text_before pieces layout run bytes_of broken_places longest_row groups_from outside paint
listed_and_cleared = refl

cleared_past_the_entries : laid 6 4 20 5
    ≡ record {
      answer = Ok (record { rows = 6; text = 4; length = 5; lines = 2; longest = 2; tests = 1 });
      listing = 97 ∷ 98 ∷ 10 ∷ 99 ∷ 100 ∷ [];
      pending = replicate 20 0;
    }
unfolding outcome_pending with30 outcome listed untouched stored own_row text_bytes row_count flat_size first_break has_break doc_at node fault scan whole row_ok
    text_before pieces layout run bytes_of broken_places longest_row groups_from outside paint
cleared_past_the_entries = refl

cleared_after_22 : laid 6 4 18 4
    ≡ record {
      answer = Err (Layout errors.Listing);
      listing = 97 ∷ 98 ∷ 10 ∷ 99 ∷ [];
      pending = replicate 18 0;
    }
unfolding outcome_pending with30 outcome listed untouched stored own_row text_bytes row_count flat_size first_break has_break doc_at node fault scan whole row_ok
    text_before pieces layout run bytes_of broken_places longest_row groups_from outside paint
cleared_after_22 = refl

one_word_short : laid 6 4 17 4
    ≡ record {
      answer = Err PendingArea;
      listing = replicate 4 7;
      pending = replicate 17 7;
    }
unfolding outcome_pending with30 outcome listed untouched stored own_row text_bytes row_count flat_size first_break has_break doc_at node fault scan whole row_ok
    text_before pieces layout run bytes_of broken_places longest_row groups_from outside paint
one_word_short = refl

width_before_pending : laid 6 65536 17 4
    ≡ record {
      answer = Err (Layout errors.Width);
      listing = replicate 4 7;
      pending = replicate 17 7;
    }
unfolding outcome_pending with30 outcome listed untouched stored own_row text_bytes row_count flat_size first_break has_break doc_at node fault scan whole row_ok
    text_before pieces layout run bytes_of broken_places longest_row groups_from outside paint
width_before_pending = refl

document_before_pending : laid 4 4 11 4
    ≡ record {
      answer = Err (Layout (errors.Document 3));
      listing = replicate 4 7;
      pending = replicate 11 7;
    }
unfolding outcome_pending with30 outcome listed untouched stored own_row text_bytes row_count flat_size first_break has_break doc_at node fault scan whole row_ok
    text_before pieces layout run bytes_of broken_places longest_row groups_from outside paint
document_before_pending = refl
