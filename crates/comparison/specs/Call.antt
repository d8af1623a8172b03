-- What the call `compare` answers (document 02, P3).
use Rattle.std.specs.Prelude.{ℕ, Bool, ◌&&◌, cond, List, Option, Some, None, Result, Ok, Err, ltb, eqb}
use Rattle.pool.specs.Tables.{E, pool}
use Rattle.pool_check.specs.declared.PoolError.{PoolError}
use Rattle.pool_check.specs.Check as check
use Rattle.pool_check.specs.Check.{verdict}
use Rattle.difference.specs.Order.{Comparison, equal, differ, first_pair}
use Rattle.comparison.specs.declared.Pair.{Pair}
use Rattle.comparison.specs.declared.error.CompareError.{CompareError}
use Rattle.comparison.specs.declared.error.CompareError.TheVariants.{Pool, Root}

-- an answer: the first pair of rows that differ, none where the trees are equal; or why the call is refused
abbrev pub Answer : Type 0
Answer = Result (Option Pair) CompareError

-- the number of an answer, 0 for none
unfoldable pub number : Answer → ℕ
number (Ok pair) = 0
number (Err (Pool error)) = check.number (Err error)
number (Err Root) = 5

-- and its place, which document 01 has as 0 where it says nothing else
unfoldable pub place : Answer → ℕ
place (Ok pair) = 0
place (Err (Pool error)) = check.place (Err error)
place (Err Root) = 0

-- the case that is refused under each number, at a place
abbrev pub refusal : ℕ → ℕ → Answer
refusal n at = cond (eqb n 5) (Err Root) (Err (Pool (check.refusal n at)))

-- "it says that their trees are equal, or gives the first pair of rows"
unfoldable pub answer_of : Comparison → Answer
answer_of equal = Ok None
answer_of (differ a b) = Ok (Some (record { first = a; second = b }))

-- "5 if either is missing", after 1 to 4 and 31
unfoldable pub decided : Result Unit PoolError → Bool → Comparison → Answer
decided (Ok _) present c = cond present (answer_of c) (refusal 5 0)
decided (Err error) present c = Err (Pool error)

-- "of two expression rows of a pool"; nothing is lifted
unfoldable pub comparison : List ℕ → List ℕ → ℕ → ℕ → Answer
comparison bytes words first second =
    decided (verdict bytes words) (ltb first (E words) && ltb second (E words)) (first_pair (pool bytes words) 0 first second)
