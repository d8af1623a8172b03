-- 01, Document and layout: what is handed out of which row, computed by the definitions.
use Rattle.std.specs.Prelude.{ℕ, List, [], ◌∷◌, ◌++◌, ◌≡◌, refl}
use Rattle.utf8.specs.Quoted.{bytes}
use Rattle.lister.specs.Source.{Source}
use Rattle.lister.specs.Handing.{span_of, hand_out}
use Rattle.lister.specs.declared.Part.{Part}
use Rattle.lister.specs.declared.Handed.{Handed}
use Rattle.lister.specs.declared.Handed.TheVariants.{Text, String}
use Rattle.specimens.specs.Computing.{computing}

-- "ab", a blank break, "c", joined in that order: five rows; then a sixth, a text of "d", that no document here counts
rows : List ℕ
rows =
    (0 ∷ 0 ∷ 2 ∷ 1 ∷ 2 ∷ 2 ∷ 0 ∷ [])
    ++ (2 ∷ 1 ∷ 0 ∷ 1 ∷ 1 ∷ 0 ∷ 1 ∷ [])
    ++ (1 ∷ 0 ∷ 0 ∷ 3 ∷ 3 ∷ 2 ∷ 1 ∷ [])
    ++ (0 ∷ 2 ∷ 1 ∷ 1 ∷ 1 ∷ 1 ∷ 0 ∷ [])
    ++ (1 ∷ 0 ∷ 0 ∷ 5 ∷ 4 ∷ 2 ∷ 1 ∷ [])
    ++ (0 ∷ 3 ∷ 1 ∷ 1 ∷ 1 ∷ 1 ∷ 0 ∷ [])

-- the strings "w" and "xyz", and one name of a kind
named : ℕ → Source
named kind = record { bytes = bytes "wxyz"; words = 2 ∷ 1 ∷ 0 ∷ 0 ∷ 0 ∷ 0 ∷ 0 ∷ 0 ∷ 0 ∷ 1 ∷ 1 ∷ 3 ∷ kind ∷ 0 ∷ 0 ∷ 0 ∷ [] }

-- offset, length and bytes of a part, with these counts of rows and text bytes and this kind of name
handed : ℕ → ℕ → ℕ → Handed → List ℕ
handed count total kind what =
    let p : Part = span_of (named kind) rows count (bytes "abcd") total what in
    p.offset ∷ p.size ∷ hand_out (named kind) rows count (bytes "abcd") total what

pub handed_out : List (List ℕ)
handed_out =
    -- the two texts; a break; a join; a row past the count
    handed 5 3 0 (Text 0)
    ∷ handed 5 3 0 (Text 3)
    ∷ handed 5 3 0 (Text 1)
    ∷ handed 5 3 0 (Text 4)
    ∷ handed 5 3 0 (Text 5)
    -- refused documents: six rows, which are two trees; a text byte left over; more rows than the slice has
    ∷ handed 6 4 0 (Text 0)
    ∷ handed 5 4 0 (Text 3)
    ∷ handed 7 3 0 (Text 3)
    -- the two strings; a string row past S
    ∷ handed 5 3 0 (String 0)
    ∷ handed 5 3 0 (String 1)
    ∷ handed 5 3 0 (String 2)
    -- a refused pool, whose name is of no kind: no string, but the document's texts
    ∷ handed 5 3 3 (String 1)
    ∷ handed 5 3 3 (Text 3)
    -- a refused document, and the pool's string
    ∷ handed 6 4 0 (String 1)
    ∷ []

-- offset and length of an empty part
none : List ℕ
none = 0 ∷ 0 ∷ []

pub expected : List (List ℕ)
expected =
    (0 ∷ 2 ∷ bytes "ab") ∷ (2 ∷ 1 ∷ bytes "c") ∷ none ∷ none ∷ none
    ∷ none ∷ none ∷ none
    ∷ (0 ∷ 1 ∷ bytes "w") ∷ (1 ∷ 3 ∷ bytes "xyz") ∷ none
    ∷ none ∷ (2 ∷ 1 ∷ bytes "c")
    ∷ (1 ∷ 3 ∷ bytes "xyz")
    ∷ []

pub handed_out_is : handed_out ≡ expected
unfolding computing rows named handed handed_out none expected
handed_out_is = refl
