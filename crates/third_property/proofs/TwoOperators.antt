-- The same of two pools with notation, which differ in the order of their notation rows, and in the rows of a name and of a string that these name: the
-- operators of a name tree are the same, and every clause is applied to runs of `-5+5`, one of which breaks its row at an empty break.
use Prim.Native.Nat.{ℕ}
use native.Mathlib.Omega.{arith}
use mathlib.Core.Bool.{Bool, true, false, cond}
use mathlib.Core.List.{List, [], ◌∷◌, ◌++◌}
use mathlib.Core.Path.{◌≡◌, refl, sym, ap, ◌∙◌}
use lib.ListN.{replicate}
use Rattle.std.specs.Prelude.{Option, None, Some}
use Rattle.utf8.specs.Quoted.{bytes}
use Rattle.layout.specs.Layout.{blankᵖ, newlineᵖ}
use Rattle.pool.proofs.TreeLaws.{name_equal}
use Rattle.pool.specs.Kinds.{prefixᵏ, infixᵏ}
use Rattle.pool.specs.Notation.{Operator, operator_of, same_name}
use Rattle.pool.specs.Tree.{Name, anonymous, string}
use Rattle.lister.specs.Prints.{Areas}
use Rattle.lister.specs.Source.{Source, pool_of}
use Rattle.third_property.specs.Places.{met_from, places_in}
use Rattle.third_property.specs.ThirdProperty.{expression, call, SameTree, Run, run_of, Succeeded, Premises, met_in, TwoRuns}
use Rattle.third_property.specs.ThirdProperty.{EndAlike, SameDocument, PutBack, StartsRows, HoldsWidth, CountsTests, document}
use Rattle.third_property.proofs.ThirdProperty.{third_property}
use Rattle.specimens.specs.Computing.{computing}

-- the variable 5; the constants a and b; b of 5; a of that; and that of 5
abbrev exprs : List ℕ
exprs =
    (0 ∷ 5 ∷ 0 ∷ 0 ∷ 0 ∷ 0 ∷ 1 ∷ 6 ∷ [])
    ++ (2 ∷ 1 ∷ 0 ∷ 0 ∷ 0 ∷ 0 ∷ 1 ∷ 0 ∷ [])
    ++ (2 ∷ 2 ∷ 0 ∷ 0 ∷ 0 ∷ 0 ∷ 1 ∷ 0 ∷ [])
    ++ (3 ∷ 2 ∷ 0 ∷ 0 ∷ 0 ∷ 0 ∷ 2 ∷ 6 ∷ [])
    ++ (3 ∷ 1 ∷ 3 ∷ 0 ∷ 0 ∷ 0 ∷ 3 ∷ 6 ∷ [])
    ++ (3 ∷ 4 ∷ 0 ∷ 0 ∷ 0 ∷ 0 ∷ 4 ∷ 6 ∷ [])

-- the names anonymous, a, b
abbrev names : List ℕ
names = 0 ∷ 0 ∷ 0 ∷ 0 ∷ 1 ∷ 0 ∷ 0 ∷ 0 ∷ 1 ∷ 0 ∷ 1 ∷ 0 ∷ []

-- a is infix "+", then b is prefix "-"
abbrev pub one : Source
one =
    record {
      bytes = bytes "ab+-";
      words =
          (4 ∷ 3 ∷ 0 ∷ 1 ∷ 0 ∷ 6 ∷ 0 ∷ 2 ∷ 0 ∷ 1 ∷ 1 ∷ 1 ∷ 2 ∷ 1 ∷ 3 ∷ 1 ∷ [])
          ++ names ++ (0 ∷ 0 ∷ []) ++ exprs ++ (1 ∷ 1 ∷ 65 ∷ 2 ∷ 2 ∷ 0 ∷ 75 ∷ 3 ∷ []);
    }

-- b, by another row, is prefix "-", then a is infix "+", by another row
abbrev pub other : Source
other =
    record {
      bytes = bytes "ab+-+";
      words =
          (5 ∷ 4 ∷ 0 ∷ 1 ∷ 0 ∷ 6 ∷ 0 ∷ 2 ∷ 0 ∷ 1 ∷ 1 ∷ 1 ∷ 2 ∷ 1 ∷ 3 ∷ 1 ∷ 4 ∷ 1 ∷ [])
          ++ names ++ (1 ∷ 0 ∷ 1 ∷ 0 ∷ []) ++ (0 ∷ 0 ∷ []) ++ exprs ++ (3 ∷ 0 ∷ 75 ∷ 3 ∷ 1 ∷ 1 ∷ 65 ∷ 4 ∷ []);
    }

-- ---- the operators

abbrev a : Name
a = string anonymous (bytes "a")

abbrev b : Name
b = string anonymous (bytes "b")

abbrev sum : Operator
sum = record { kind = infixᵏ; priority = 65; string = bytes "+" }

abbrev minus : Operator
minus = record { kind = prefixᵏ; priority = 75; string = bytes "-" }

one_has : (n : Name) → operator_of (pool_of one) n ≡ cond (same_name a n) (Some sum) (cond (same_name b n) (Some minus) None)
unfolding computing
one_has n = refl

other_has : (n : Name) → operator_of (pool_of other) n ≡ cond (same_name b n) (Some minus) (cond (same_name a n) (Some sum) None)
unfolding computing
other_has n = refl

-- a name is not both
not_both : (n : Name) → same_name a n ≡ true → same_name b n ≡ true → ⊥
unfolding computing
not_both n e f =
    let one : a ≡ b = name_equal a n e ∙ sym (name_equal b n f) in
    let differ : true ≡ false = sym (ap (λ (m : Name). same_name m b) one) in
    absurd (cc)

pub same_operators : (n : Name) → operator_of (pool_of one) n ≡ operator_of (pool_of other) n
same_operators n = one_has n ∙ by (same_name a n) (same_name b n) refl refl ∙ sym (other_has n)
  where
    by : (x y : Bool) → same_name a n ≡ x → same_name b n ≡ y
        → cond x (Some sum) (cond y (Some minus) None) ≡ cond y (Some minus) (cond x (Some sum) None)
    by true true e f = absurd (not_both n e f)
    by true false e f = refl
    by false true e f = refl
    by false false e f = refl

-- ---- two runs

abbrev pub lent : Areas
lent = record { rows = replicate 105 7; text = replicate 4 7; listing = replicate 7 7 }

abbrev pub first : Run expression
first = run_of expression one 5 2 80 lent

abbrev pub second : Run expression
second = run_of expression other 5 2 3 lent

-- the second at the first one's width
abbrev pub wide : Run expression
wide = run_of expression other 5 2 80 lent

pub first_succeeds : Succeeded first
unfolding computing call
first_succeeds = record { counts = record { rows = 15; text = 4; length = 4; lines = 1; longest = 4; tests = 1 }; answered = refl }

pub second_succeeds : Succeeded second
unfolding computing call
second_succeeds = record { counts = record { rows = 15; text = 4; length = 7; lines = 2; longest = 3; tests = 3 }; answered = refl }

taken : Premises first second
unfolding computing SameTree
taken =
    record {
      first = record { accepted = refl; root_there = omega arith };
      second = record { accepted = refl; root_there = omega arith };
      tree = refl;
      operators = same_operators;
      indent = refl;
      rows = refl;
      text = refl;
      listing = refl;
    }

taken_wide : Premises first wide
unfolding computing SameTree
taken_wide =
    record {
      first = record { accepted = refl; root_there = omega arith };
      second = record { accepted = refl; root_there = omega arith };
      tree = refl;
      operators = same_operators;
      indent = refl;
      rows = refl;
      text = refl;
      listing = refl;
    }

runs : TwoRuns first second
runs = (third_property expression).two first second refl refl

-- ---- the clauses

pub end_alike : EndAlike first wide
end_alike = ((third_property expression).two first wide refl refl).end_alike taken_wide refl

pub same_document : SameDocument first second first_succeeds second_succeeds
same_document = runs.same_document taken first_succeeds second_succeeds

pub put_back : PutBack first first_succeeds (document first first_succeeds) × PutBack second second_succeeds (document first first_succeeds)
put_back = runs.put_back taken first_succeeds second_succeeds

pub starts_rows : StartsRows second second_succeeds
starts_rows = runs.second.starts_rows second_succeeds

pub holds_width : HoldsWidth second second_succeeds
holds_width = runs.second.holds_width second_succeeds

pub counts_tests : CountsTests second second_succeeds
counts_tests = runs.second.counts_tests second_succeeds

-- the empty break places that they speak of: at the prefix and at the infix sign, where the second run breaks
pub first_places : places_in (met_in first first_succeeds) ≡ record { row = 1; piece = blankᵖ 0 } ∷ record { row = 8; piece = blankᵖ 0 } ∷ []
unfolding computing call met_from places_in first_succeeds
first_places = refl

pub second_places : places_in (met_in second second_succeeds) ≡ record { row = 1; piece = blankᵖ 0 } ∷ record { row = 8; piece = newlineᵖ 0 2 } ∷ []
unfolding computing call met_from places_in second_succeeds
second_places = refl
