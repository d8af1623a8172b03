-- 01, From the input: "Check order as listed; tables in order, rows rising." Numbers 1 to 4; and 31 of document 02, P5.
use Rattle.std.specs.Prelude.{ℕ, Bool, ◌&&◌, cond, List, ltb, leb, eqb, length, Result, Ok, Err}
use Rattle.pool_check.specs.declared.PoolError.{PoolError}
use Rattle.pool_check.specs.declared.PoolError.TheVariants.{Words, Limit, Strings, Rows, Notation}
use Rattle.pool.specs.Tables.{Pool, pool, S, N, L, K, Q, E, D, T, total}
use Rattle.pool.specs.Notation.{notation_ok}
use Rattle.pool.specs.Rules.{last_projection, string_ok, name_ok, level_ok, list_ok, list_entry_ok, expr_ok_with, declar_ok}
use Rattle.byte_check.specs.Scan.{first_bad}

-- the number of each case, 0 for none
unfoldable pub number : Result Unit PoolError → ℕ
number (Ok _) = 0
number (Err Words) = 1
number (Err Limit) = 2
number (Err (Strings row)) = 3
number (Err (Rows row)) = 4
number (Err Notation) = 31

-- "An accepted pool is one that check refuses under no number"
unfoldable pub is_accepted : Result Unit PoolError → Bool
is_accepted v = eqb (number v) 0

-- "for 3, 4 and 9 the first faulty row in its table (0 for counts) .. else 0"
unfoldable pub place : Result Unit PoolError → ℕ
place (Ok _) = 0
place (Err Words) = 0
place (Err Limit) = 0
place (Err (Strings row)) = row
place (Err (Rows row)) = row
place (Err Notation) = 0

-- the case that is refused under each number, at a place
abbrev pub refusal : ℕ → ℕ → PoolError
refusal n at = cond (eqb n 1) Words (cond (eqb n 2) Limit (cond (eqb n 3) (Strings at) (cond (eqb n 4) (Rows at) Notation)))

-- "1: words short of the head, or total wrong."
abbrev pub words_ok : List ℕ → Bool
words_ok ws = leb 8 (length ws) && eqb (total ws) (length ws)

-- "2: a count or byte area over its limit.": "each at most 65,536", "at most 16,777,216 bytes"; "notation rows .., 0 to 65,536"
abbrev pub count_ok : ℕ → Bool
count_ok n = leb n 65536

abbrev pub limits_ok : List ℕ → List ℕ → Bool
limits_ok bs ws =
    count_ok (S ws)
    && (count_ok (N ws)
    && (count_ok (L ws)
    && (count_ok (K ws)
    && (count_ok (Q ws) && (count_ok (E ws) && (count_ok (D ws) && (count_ok (T ws) && leb (length bs) 16777216)))))))

-- a table of so many rows: what is refused at its first bad row, or what comes after the table
abbrev pub in_table : (ℕ → Bool) → ℕ → (ℕ → PoolError) → Result Unit PoolError → Result Unit PoolError
in_table ok count refused next = let r : ℕ = first_bad ok count 0 in cond (ltb r count) (Err (refused r)) next

-- "3: a string pair. 4: any other row rule.": "tables in order, rows rising"; "31 for a notation row outside these rules or a name tree given
-- twice, checked after 4", at place 0; with a greatest index of a projection
unfoldable pub rows_verdict_with : ℕ → Pool → Result Unit PoolError
rows_verdict_with last p =
    in_table (string_ok p) (S p.names) (refusal 3)
    (in_table (name_ok p) (N p.names) (refusal 4)
    (in_table (level_ok p) (L p.words) (refusal 4)
    (in_table (list_ok p) (K p.words) (refusal 4)
    (in_table (list_entry_ok p) (Q p.words) (refusal 4)
    (in_table (expr_ok_with last p) (E p.words) (refusal 4)
    (in_table (declar_ok p) (D p.words) (refusal 4) (in_table (notation_ok p) (T p.words) (λ row. refusal 31 0) (Ok tt))))))))

abbrev pub rows_verdict : Pool → Result Unit PoolError
rows_verdict = rows_verdict_with last_projection

unfoldable pub verdict_with : ℕ → List ℕ → List ℕ → Result Unit PoolError
verdict_with last bs ws =
    let rows : Result Unit PoolError = rows_verdict_with last (pool bs ws) in
    cond (words_ok ws) (cond (limits_ok bs ws) rows (Err (refusal 2 0))) (Err (refusal 1 0))

-- what check says of a pool
abbrev pub verdict : List ℕ → List ℕ → Result Unit PoolError
verdict = verdict_with last_projection
