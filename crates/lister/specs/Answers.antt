-- 01, From the input, From the lent areas: the number and the place of each answer.
use Rattle.std.specs.Prelude.{ℕ, cond, eqb, Result, Ok, Err}
use Rattle.document.specs.declared.written.Stop.{Stop}
use Rattle.document.specs.declared.written.Stop.TheVariants as stops
use Rattle.layout.specs.declared.Counts.{Counts}
use Rattle.layout.specs.declared.LayoutError.{LayoutError}
use Rattle.pool_check.specs.declared.PoolError.{PoolError}
use Rattle.pool_check.specs.Check as check
use Rattle.lister.specs.declared.error.PrintError.{PrintError}
use Rattle.lister.specs.declared.error.PrintError.TheVariants.{Pool, Root, Size, Names, Document, RowArea, TextArea, Listing}

-- what a print answers: the counts of one that succeeds, or why it is refused
abbrev pub Answer : Type 0
Answer = Result Counts PrintError

-- 0 for none
unfoldable pub number : Answer → ℕ
number (Ok counts) = 0
number (Err (Pool error)) = check.number (Err error)
number (Err Root) = 5
number (Err Size) = 6
number (Err (Names row)) = 7
number (Err (Document rows)) = 8
number (Err (RowArea rows)) = 20
number (Err (TextArea rows)) = 21
number (Err Listing) = 22

-- "for 3, 4 and 9 the first faulty row in its table (0 for counts), for 7 the row of the chain's start or the let, for 8, 20
-- and 21 the document rows written so far, else 0"
unfoldable pub place : Answer → ℕ
place (Ok counts) = 0
place (Err (Pool error)) = check.place (Err error)
place (Err Root) = 0
place (Err Size) = 0
place (Err (Names row)) = row
place (Err (Document rows)) = rows
place (Err (RowArea rows)) = rows
place (Err (TextArea rows)) = rows
place (Err Listing) = 0

-- what check finds, and what stopped a walk
abbrev pub of_pool : PoolError → PrintError
of_pool e = Pool e

abbrev pub of_stop : Stop → PrintError
of_stop (stops.Names row) = Names row
of_stop (stops.Document rows) = Document rows
of_stop (stops.RowArea rows) = RowArea rows
of_stop (stops.TextArea rows) = TextArea rows

-- the answer for a walk that stopped under 7, 8, 20 or 21
unfoldable pub stop_answer : ℕ → ℕ → Answer
stop_answer n at = Err (cond (eqb n 7) (Names at) (cond (eqb n 8) (Document at) (cond (eqb n 20) (RowArea at) (TextArea at))))

-- the case that is refused under each number from 5 on, at a place
abbrev pub refusal : ℕ → ℕ → Answer
refusal n at = cond (eqb n 5) (Err Root) (cond (eqb n 6) (Err Size) (cond (eqb n 22) (Err Listing) (stop_answer n at)))

-- the answer for the layout of the document that was printed: its counts, or 22. It is refused under no other number: the document is
-- accepted, and the width was tested before
unfoldable pub of_laid : Result Counts LayoutError → Answer
of_laid (Ok counts) = Ok counts
of_laid (Err error) = refusal 22 0
