-- 01, From the input: the numbers 1 to 9 with their places, and 31 of document 02, P5, computed by the definitions.
use Rattle.std.specs.Prelude.{ℕ, zero, suc, ◌+◌, ◌-◌, List, [], ◌∷◌, ◌++◌, ◌≡◌, refl, replicate}
use Rattle.layout.specs.Call as layout
use Rattle.lister.specs.Answers.{number, place}
use Rattle.lister.specs.Source.{Source}
use Rattle.lister.specs.Prints.{Areas, Outcome, print_expr, print_declar}
use Rattle.specimens.specs.Computing.{computing}

none : Areas
none = record { rows = []; text = []; listing = [] }

-- a print, as a function of what it is given and lent
abbrev pub Print : Type 0
Print = Source → ℕ → ℕ → ℕ → Areas → Outcome

-- number and place of an answer
unfoldable pub report : Outcome → List ℕ
report o = number o.answer ∷ place o.answer ∷ []

-- of print expression, then of print declaration
prints : List ℕ → List ℕ → ℕ → ℕ → ℕ → List (List ℕ)
prints bytes words root indent width =
    let s : Source = record { bytes = bytes; words = words } in
    report (print_expr s root indent width none) ∷ report (print_declar s root indent width none) ∷ []

-- of both prints of root 0, at an indent and a width that are allowed
first : List ℕ → List ℕ → List (List ℕ)
first bytes words = prints bytes words 0 2 80

-- a head of eight counts, the last 0, and rows
abbrev pub pool : ℕ → ℕ → ℕ → ℕ → ℕ → ℕ → ℕ → List ℕ → List ℕ
pool S N L K Q E D rows = S ∷ N ∷ L ∷ K ∷ Q ∷ E ∷ D ∷ 0 ∷ rows

-- an empty string, two names of a kind with no more words, and so many notation rows
noted : ℕ → ℕ → List ℕ → List ℕ
noted kind T rows = 1 ∷ 2 ∷ 0 ∷ 0 ∷ 0 ∷ 0 ∷ 0 ∷ T ∷ 0 ∷ 0 ∷ kind ∷ 0 ∷ 0 ∷ 0 ∷ kind ∷ 0 ∷ 0 ∷ 0 ∷ rows

-- an anonymous name, an empty list, the variable 0, an axiom of that type
small : List ℕ
small = pool 0 1 0 1 0 1 1 (0 ∷ 0 ∷ 0 ∷ 0 ∷ 0 ∷ 0 ∷ 0 ∷ 0 ∷ 0 ∷ 0 ∷ 0 ∷ 0 ∷ 1 ∷ 1 ∷ 0 ∷ 0 ∷ 0 ∷ 0 ∷ 0 ∷ [])

-- n pis, from row i on: from the constant in row b, to the row before
unfoldable pub pis : ℕ → ℕ → ℕ → List ℕ
pis b i zero = []
pis b i (suc n) = 4 ∷ 0 ∷ 0 ∷ b ∷ (i - 1) ∷ 0 ∷ (i - b + 1) ∷ 0 ∷ pis b (suc i) n

-- n pis, from row i on: from the row before, to row `body`
unfoldable pub over_pis : ℕ → ℕ → ℕ → ℕ → List ℕ
over_pis body depth i zero = []
over_pis body depth i (suc n) = 4 ∷ 0 ∷ 0 ∷ (i - 1) ∷ body ∷ 0 ∷ depth ∷ 0 ∷ over_pis body (depth + 1) (suc i) n

-- 32 chains of 33 pis, each in the first binder's type of the one around it, all but the first binders shared; with b rows before it that are
-- not used. An axiom of that type
unfoldable pub chains : ℕ → List ℕ
chains b =
    pool 0 1 0 1 0 (b + 65) 1
    (0 ∷ 0 ∷ 0 ∷ 0 ∷ 0 ∷ 0 ∷ constants (b + 1) ++ (pis b (b + 1) 33 ++ (over_pis (b + 32) 35 (b + 34) 31 ++ (0 ∷ 0 ∷ 0 ∷ (b + 64) ∷ 0 ∷ []))))
  where
    constants : ℕ → List ℕ
    constants zero = []
    constants (suc n) = 2 ∷ 0 ∷ 0 ∷ 0 ∷ 0 ∷ 0 ∷ 1 ∷ 0 ∷ constants n

-- an anonymous name, an empty list, a string literal of so many bytes, an axiom of that type
unfoldable pub literal : ℕ → List ℕ
literal size = pool 1 1 0 1 0 1 1 (0 ∷ size ∷ 0 ∷ 0 ∷ 0 ∷ 0 ∷ 0 ∷ 0 ∷ 9 ∷ 0 ∷ 0 ∷ 0 ∷ 0 ∷ 0 ∷ 1 ∷ 0 ∷ 0 ∷ 0 ∷ 0 ∷ 0 ∷ 0 ∷ [])

-- of a print into areas of so many words and bytes
unfoldable pub walked : Print → List ℕ → List ℕ → ℕ → ℕ → ℕ → List ℕ
walked print bytes words root R T =
    report (print (record { bytes = bytes; words = words }) root 2 80 (record { rows = replicate R 0; text = replicate T 0; listing = [] }))

-- number and place of the layout of so many rows, with no text
laid : List ℕ → ℕ → ℕ → List ℕ
laid rows count width =
    let o : layout.Outcome = layout.outcome rows count [] 0 width [] in
    layout.number o.answer ∷ layout.place o.answer ∷ []

pub refused : List (List (List ℕ))
refused =
    -- 1: words short of the head; one word more than the total
    first [] (replicate 7 0)
    ∷ first [] (replicate 9 0)
    -- 2: 65,537 list words; 65,537 notation rows
    ∷ first [] (pool 0 0 0 0 65537 0 0 (replicate 65537 0))
    ∷ first [] (0 ∷ 0 ∷ 0 ∷ 0 ∷ 0 ∷ 0 ∷ 0 ∷ 65537 ∷ replicate 262148 0)
    -- 3: an empty pair past the end; a second pair that is not UTF-8; a second offset that falls
    ∷ first [] (pool 1 0 0 0 0 0 0 (1 ∷ 0 ∷ []))
    ∷ first (97 ∷ 128 ∷ []) (pool 2 0 0 0 0 0 0 (0 ∷ 1 ∷ 1 ∷ 1 ∷ []))
    ∷ first (97 ∷ []) (pool 2 0 0 0 0 0 0 (1 ∷ 0 ∷ 0 ∷ 1 ∷ []))
    -- 4: a name of no kind; a level that is its own successor; a list past the list words; a list word that is no level; an expression of
    -- no kind; a declaration with no name
    ∷ first [] (pool 0 1 0 0 0 0 0 (3 ∷ 0 ∷ 0 ∷ 0 ∷ []))
    ∷ first [] (pool 0 0 2 0 0 0 0 (0 ∷ 0 ∷ 0 ∷ 1 ∷ 1 ∷ 0 ∷ []))
    ∷ first [] (pool 0 0 0 1 0 0 0 (1 ∷ 0 ∷ []))
    ∷ first [] (pool 0 0 1 0 2 0 0 (0 ∷ 0 ∷ 0 ∷ 0 ∷ 1 ∷ []))
    ∷ first [] (pool 0 0 0 0 0 1 0 (10 ∷ 0 ∷ 0 ∷ 0 ∷ 0 ∷ 0 ∷ 1 ∷ 0 ∷ []))
    ∷ first [] (pool 0 0 0 0 0 0 1 (0 ∷ 0 ∷ 0 ∷ 0 ∷ 0 ∷ []))
    -- 31: a notation row with no name, no kind, the priority 0 or 1,024, no string; a name tree given twice, by two rows; 4 before 31
    ∷ first [] (noted 0 1 (2 ∷ 0 ∷ 1 ∷ 0 ∷ []))
    ∷ first [] (noted 0 1 (0 ∷ 3 ∷ 1 ∷ 0 ∷ []))
    ∷ first [] (noted 0 1 (0 ∷ 0 ∷ 0 ∷ 0 ∷ []))
    ∷ first [] (noted 0 1 (0 ∷ 0 ∷ 1024 ∷ 0 ∷ []))
    ∷ first [] (noted 0 1 (0 ∷ 0 ∷ 1 ∷ 1 ∷ []))
    ∷ first [] (noted 0 2 (0 ∷ 0 ∷ 1 ∷ 0 ∷ 1 ∷ 2 ∷ 1023 ∷ 0 ∷ []))
    ∷ first [] (noted 3 1 (2 ∷ 0 ∷ 1 ∷ 0 ∷ []))
    -- 5: no such root, where a notation row is right; 5 before 6
    ∷ first [] (noted 0 1 (1 ∷ 2 ∷ 1023 ∷ 0 ∷ []))
    ∷ prints [] small 1 2 80
    ∷ prints [] small 1 65 65536
    -- 6: indent over 64; width over 65,535
    ∷ prints [] small 0 65 80
    ∷ prints [] small 0 2 65536
    ∷ []

-- 9: no row; a row of no kind; a second row that is no join of one before it; then 6
pub refused_documents : List (List ℕ)
refused_documents =
    laid [] 0 80
    ∷ laid (5 ∷ 0 ∷ 0 ∷ 1 ∷ 0 ∷ 0 ∷ 0 ∷ []) 1 80
    ∷ laid (2 ∷ 1 ∷ 0 ∷ 1 ∷ 1 ∷ 0 ∷ 1 ∷ 1 ∷ 0 ∷ 0 ∷ 2 ∷ 1 ∷ 0 ∷ 1 ∷ []) 2 80
    ∷ laid (2 ∷ 1 ∷ 0 ∷ 1 ∷ 1 ∷ 0 ∷ 1 ∷ []) 1 65536
    ∷ []

-- the same of both prints
both : ℕ → ℕ → List (List ℕ)
both n at = (n ∷ at ∷ []) ∷ (n ∷ at ∷ []) ∷ []

pub expected : List (List (List ℕ))
expected =
    both 1 0 ∷ both 1 0 ∷ both 2 0 ∷ both 2 0 ∷ both 3 0 ∷ both 3 1 ∷ both 3 1 ∷ both 4 0 ∷ both 4 1 ∷ both 4 0 ∷ both 4 1 ∷ both 4 0 ∷ both 4 0
    ∷ both 31 0 ∷ both 31 0 ∷ both 31 0 ∷ both 31 0 ∷ both 31 0 ∷ both 31 0 ∷ both 4 0
    ∷ both 5 0 ∷ both 5 0 ∷ both 5 0 ∷ both 6 0 ∷ both 6 0 ∷ []

pub refusals_are : refused ≡ expected
unfolding computing none report prints first small noted refused both expected
refusals_are = refl

-- 7: the last of 32 chains brings the stack to 1,056, whatever its row
pub names_expr : walked print_expr [] (chains 0) 64 1400 200 ≡ 7 ∷ 33 ∷ []
unfolding computing report chains pis over_pis walked
names_expr = refl

pub names_declar : walked print_declar [] (chains 0) 0 1400 200 ≡ 7 ∷ 33 ∷ []
unfolding computing report chains pis over_pis walked
names_declar = refl

pub names_declar_later : walked print_declar [] (chains 1) 0 1400 200 ≡ 7 ∷ 34 ∷ []
unfolding computing report chains pis over_pis walked
names_declar_later = refl

-- 8: a text of 65,537 bytes, after the row of the quotation mark; the area is larger
pub bytes_expr : walked print_expr (replicate 65537 97) (literal 65537) 0 700 65538 ≡ 8 ∷ 1 ∷ []
unfolding computing report literal walked
bytes_expr = refl

pub bytes_declar : walked print_declar (replicate 65537 97) (literal 65537) 0 700 65538 ≡ 8 ∷ 13 ∷ []
unfolding computing report literal walked
bytes_declar = refl

pub documents_are : refused_documents ≡ ((9 ∷ 0 ∷ []) ∷ (9 ∷ 0 ∷ []) ∷ (9 ∷ 1 ∷ []) ∷ (6 ∷ 0 ∷ []) ∷ [])
unfolding computing laid refused_documents
documents_are = refl
