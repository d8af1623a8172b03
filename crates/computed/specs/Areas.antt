-- Numbers as a text has them; areas a little longer than a print needs, and what they hold after it.
use Rattle.std.specs.Prelude.{ℕ, ◌+◌, ◌-◌, ◌*◌, true, false, List, [], ◌∷◌, ◌++◌, eqb, length, replicate}
use Prim.Native.Char.{code}
use Prim.Native.String.{String}
use Rattle.std.specs.Prelude.{Ok}
use Rattle.lister.specs.Answers.{Answer}
use Rattle.lister.specs.Source.{Source}
use Rattle.lister.specs.Prints.{Areas, Outcome}

-- numbers in digits, a blank between two, of which the first has begun
unfoldable pub numbers_from : ℕ → String → List ℕ
numbers_from n String.[] = n ∷ []
numbers_from n (String.◌∷◌ c s) =
    elim (eqb (code c) 32) [ true ↦ n ∷ numbers_from 0 s | false ↦ numbers_from (n * 10 + (code c - 48)) s ]

unfoldable pub numbers : String → List ℕ
unfolding numbers_from
numbers String.[] = []
numbers (String.◌∷◌ c s) = numbers_from (code c - 48) s

-- what is printed from: the bytes and the words
unfoldable pub source : String → String → Source
source bytes words = record { bytes = numbers bytes; words = numbers words }

-- the areas for so many document rows, text bytes and listed bytes, each with three more, and all filled with 7
unfoldable pub lent : ℕ → ℕ → ℕ → Areas
lent rows bytes length =
    record { rows = replicate (rows * 7 + 3) 7; text = replicate (bytes + 3) 7; listing = replicate (length + 3) 7 }

-- document rows, text bytes, listing length, lines, longest row, fit tests
unfoldable pub counts : ℕ → ℕ → ℕ → ℕ → ℕ → ℕ → Answer
counts rows text length lines longest tests =
    Ok (record { rows = rows; text = text; length = length; lines = lines; longest = longest; tests = tests })

-- "Success .. the document, then zeros"; the listing area is not touched past the listing
unfoldable pub done : Answer → List ℕ → List ℕ → List ℕ → Outcome
done answer rows text listing =
    record {
      answer = answer;
      areas = record { rows = rows ++ (0 ∷ 0 ∷ 0 ∷ []); text = text ++ (0 ∷ 0 ∷ 0 ∷ []); listing = listing ++ (7 ∷ 7 ∷ 7 ∷ []) };
    }

-- areas of so many words and bytes, all filled with 7
unfoldable pub filled : ℕ → ℕ → ℕ → Areas
filled rows text listing = record { rows = replicate rows 7; text = replicate text 7; listing = replicate listing 7 }

-- an answer, and what the areas hold
unfoldable pub left : Answer → List ℕ → List ℕ → List ℕ → Outcome
left answer rows text listing = record { answer = answer; areas = record { rows = rows; text = text; listing = listing } }
