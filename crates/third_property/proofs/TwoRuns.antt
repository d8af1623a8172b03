-- The third property speaks of something. Two pools have roots that unfold to the same tree, `6 → 5`: one has the variable in one row, one in two;
-- every clause is applied to their runs, one of which breaks its row. And two declarations of one tree are refused 7 at different places.
use Prim.Native.Nat.{ℕ}
use native.Mathlib.Omega.{arith}
use mathlib.Core.Bool.{false}
use mathlib.Core.List.{List, [], ◌∷◌}
use mathlib.Core.Path.{◌≡◌, refl}
use lib.ListN.{replicate}
use Rattle.layout.specs.Layout.{blankᵖ, newlineᵖ}
use Rattle.lister.specs.Answers.{number, place}
use Rattle.lister.specs.Prints.{Areas}
use Rattle.third_property.specs.Claims.{rows_from, rows_in}
use Rattle.third_property.specs.Places.{met_from, pieces_of, places_in, failed, rows_on, all_failed, group_rows, groups_outside}
use Rattle.third_property.specs.ThirdProperty.{expression, declaration, call, SameTree, Run, run_of, Succeeded, Premises, met_in, TwoRuns}
use Rattle.third_property.specs.ThirdProperty.{EndAlike, AsDefined, SameDocument, PutBack, StartsRows, HoldsWidth, CountsTests, document}
use Rattle.third_property.proofs.ThirdProperty.{third_property}
use Rattle.specimens.specs.Computing.{computing}
use Rattle.specimens.specs.Refusals.{chains, pis, over_pis, report, walked, names_declar, names_declar_later}

-- an anonymous name; the variable 5, and the pi over it and to it
abbrev pub words : List ℕ
words = 0 ∷ 1 ∷ 0 ∷ 0 ∷ 0 ∷ 2 ∷ 0 ∷ 0 ∷ 0 ∷ 0 ∷ 0 ∷ 0 ∷ 0 ∷ 5 ∷ 0 ∷ 0 ∷ 0 ∷ 0 ∷ 1 ∷ 6 ∷ 4 ∷ 0 ∷ 0 ∷ 0 ∷ 0 ∷ 0 ∷ 2 ∷ 6 ∷ []

-- the same, with the variable in two rows
abbrev pub others : List ℕ
others =
    0 ∷ 1 ∷ 0 ∷ 0 ∷ 0 ∷ 3 ∷ 0 ∷ 0 ∷ 0 ∷ 0 ∷ 0 ∷ 0 ∷ 0 ∷ 5 ∷ 0 ∷ 0 ∷ 0 ∷ 0 ∷ 1 ∷ 6 ∷ 0 ∷ 5 ∷ 0 ∷ 0 ∷ 0 ∷ 0 ∷ 1 ∷ 6 ∷ 4 ∷ 0 ∷ 0 ∷ 0 ∷ 1 ∷ 0
    ∷ 2 ∷ 6 ∷ []

abbrev pub lent : Areas
lent = record { rows = replicate 91 7; text = replicate 6 7; listing = replicate 7 7 }

-- ---- two runs that succeed

abbrev pub first : Run expression
first = run_of expression (record { bytes = []; words = words }) 1 2 80 lent

abbrev pub second : Run expression
second = run_of expression (record { bytes = []; words = others }) 2 2 6 lent

-- the second at the first one's width
abbrev pub wide : Run expression
wide = run_of expression (record { bytes = []; words = others }) 2 2 80 lent

pub first_succeeds : Succeeded first
unfolding computing call
first_succeeds = record { counts = record { rows = 13; text = 6; length = 7; lines = 1; longest = 7; tests = 1 }; answered = refl }

pub second_succeeds : Succeeded second
unfolding computing call
second_succeeds = record { counts = record { rows = 13; text = 6; length = 7; lines = 2; longest = 5; tests = 3 }; answered = refl }

taken : Premises first second
unfolding computing SameTree
taken =
    record {
      first = record { accepted = refl; root_there = omega arith };
      second = record { accepted = refl; root_there = omega arith };
      tree = refl;
      operators = λ n. refl;
      indent = refl;
      rows = refl;
      text = refl;
      listing = refl;
    }

taken_wide : Premises first wide
unfolding computing SameTree
taken_wide =
    record {
      first = record { accepted = refl; root_there = omega arith };
      second = record { accepted = refl; root_there = omega arith };
      tree = refl;
      operators = λ n. refl;
      indent = refl;
      rows = refl;
      text = refl;
      listing = refl;
    }

runs : TwoRuns first second
runs = (third_property expression).two first second refl refl

-- ---- every clause, applied to them

pub end_alike : EndAlike first wide
end_alike = ((third_property expression).two first wide refl refl).end_alike taken_wide refl

pub as_defined : AsDefined first × AsDefined second
as_defined = (runs.first.as_defined taken.first, runs.second.as_defined taken.second)

pub succeeds : Succeeded first × Succeeded second
unfolding computing call
succeeds = (runs.first.succeeds refl, runs.second.succeeds refl)

pub same_document : SameDocument first second first_succeeds second_succeeds
same_document = runs.same_document taken first_succeeds second_succeeds

pub put_back : PutBack first first_succeeds (document first first_succeeds) × PutBack second second_succeeds (document first first_succeeds)
put_back = runs.put_back taken first_succeeds second_succeeds

pub starts_rows : StartsRows first first_succeeds × StartsRows second second_succeeds
starts_rows = (runs.first.starts_rows first_succeeds, runs.second.starts_rows second_succeeds)

pub holds_width : HoldsWidth first first_succeeds × HoldsWidth second second_succeeds
holds_width = (runs.first.holds_width first_succeeds, runs.second.holds_width second_succeeds)

pub counts_tests : CountsTests first first_succeeds × CountsTests second second_succeeds
counts_tests = (runs.first.counts_tests first_succeeds, runs.second.counts_tests second_succeeds)

-- the break place, the groups and the rows that they speak of
pub first_places : places_in (met_in first first_succeeds) ≡ record { row = 7; piece = blankᵖ 1 } ∷ []
unfolding computing call met_from places_in first_succeeds
first_places = refl

pub second_places : places_in (met_in second second_succeeds) ≡ record { row = 7; piece = newlineᵖ 1 0 } ∷ []
unfolding computing call met_from places_in second_succeeds
second_places = refl

pub first_groups : groups_outside (failed (met_in first first_succeeds)) first.left.rows 13 ≡ 1
unfolding computing call met_from failed all_failed rows_on group_rows first_succeeds
first_groups = refl

pub second_groups : groups_outside (failed (met_in second second_succeeds)) second.left.rows 13 ≡ 3
unfolding computing call met_from failed all_failed rows_on group_rows second_succeeds
second_groups = refl

pub second_rows : rows_in (pieces_of (met_in second second_succeeds)) ≡ record { bytes = 54 ∷ 32 ∷ 226 ∷ 134 ∷ 146 ∷ []; held = false } ∷ record { bytes = 53 ∷ []; held = false } ∷ []
unfolding computing call met_from pieces_of rows_from second_succeeds
second_rows = refl

-- ---- two runs of a declaration that are refused 7

abbrev pub room : Areas
room = record { rows = replicate 1400 0; text = replicate 200 0; listing = [] }

abbrev pub deep : ℕ → Run declaration
deep before = run_of declaration (record { bytes = []; words = chains before }) 0 2 80 room

taken_deep : Premises (deep 0) (deep 1)
unfolding computing SameTree chains pis over_pis
taken_deep =
    record {
      first = record { accepted = refl; root_there = omega arith };
      second = record { accepted = refl; root_there = omega arith };
      tree = refl;
      operators = λ n. refl;
      indent = refl;
      rows = refl;
      text = refl;
      listing = refl;
    }

pub deep_alike : EndAlike (deep 0) (deep 1)
deep_alike = ((third_property declaration).two (deep 0) (deep 1) refl refl).end_alike taken_deep refl

-- one number, two places
abbrev pub reported : Run declaration → List ℕ
reported r = number r.answer ∷ place r.answer ∷ []

pub first_deep : reported (deep 0) ≡ 7 ∷ 33 ∷ []
unfolding call report walked
first_deep = names_declar

pub second_deep : reported (deep 1) ≡ 7 ∷ 34 ∷ []
unfolding call report walked
second_deep = names_declar_later
