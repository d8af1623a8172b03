-- Sets of variables, 64 to a word: what a sweep keeps of each row, and what a step of it does.
use Rattle.std.specs.Prelude.{ℕ, zero, suc, ◌+◌, ◌-◌, ◌*◌, ◌/◌, ◌%◌, ◌^◌, ◌<◌, Bool, cond, List, ◌≡◌, leb, ltb, eqb, get_or, set, length}
use Rattle.std.specs.Int.Bits.{bit_or}
use Rattle.pool.specs.Tables.{E, expr_word}
use Rattle.pool.specs.Areas.{over}
use Rattle.pool.specs.Sound.{Sound}
use Rattle.pool.specs.Tree.{occurs}
use Rattle.pool.specs.Unfold.{expr_at}
use Rattle.occurrence.specs.Parts.{first_part, second_part, body_part}

-- the bit k of a word
unfoldable pub bit : ℕ → ℕ → Bool
bit zero w = eqb (w % 2) 1
bit (suc k) w = bit k (w / 2)

-- the words of the rows, and for each row the lowest bit of the word it had before
pub data Kept : Type 0 where
  kept : List ℕ → List ℕ → Kept

-- what a table has of a part
unfoldable pub entry_at : {A : Type 0} → A → List A → ℕ → A
entry_at none table zero = none
entry_at none table (suc r) = get_or table r none

-- the word of a part, 0 where there is none
abbrev pub part_word : List ℕ → ℕ → ℕ
part_word sets part = entry_at 0 sets part

-- each variable one lower; the carry is the one after the 64
abbrev pub lowered : ℕ → ℕ → ℕ
lowered word carry = word / 2 + carry % 2 * 9223372036854775808

-- the word of a body, outside which its variables are one lower
unfoldable pub body_word : List ℕ → List ℕ → ℕ → ℕ
body_word sets above part = lowered (part_word sets part) (part_word above part)

-- the bit of the greatest variable, where it is one of the 64 from base on
unfoldable pub last_bit : ℕ → ℕ → ℕ
last_bit loose base = cond (ltb (base + 64) loose) 0 (2 ^ (loose - base - 1))

-- the word of row r, of the variables from base on
unfoldable pub row_word : List ℕ → List ℕ → List ℕ → ℕ → ℕ → ℕ
row_word ws sets above base r =
    cond (leb (expr_word ws r 7) base) 0
    (bit_or (last_bit (expr_word ws r 7) base)
    (bit_or (part_word sets (first_part ws r (expr_word ws r 0)))
    (bit_or (part_word sets (second_part ws r (expr_word ws r 0))) (body_word sets above (body_part ws r (expr_word ws r 0))))))

-- a row's step: its lowest bit is put aside, and its new word put in place
unfoldable pub row_step : List ℕ → ℕ → ℕ → Kept → Kept
row_step ws base r (kept sets above) =
    let low : List ℕ = set above r (get_or sets r 0 % 2) in
    kept (set sets r (row_word ws sets low base r)) low

-- the steps of n rows from row r on
unfoldable pub sweep_rows : List ℕ → ℕ → ℕ → ℕ → Kept → Kept
sweep_rows ws base zero r k = k
sweep_rows ws base (suc n) r k = sweep_rows ws base n (suc r) (row_step ws base r k)

-- sweeps over the rows below n, from the highest variables to those from i on
unfoldable pub sweeps : List ℕ → ℕ → ℕ → ℕ → Kept → Kept
sweeps ws i n zero k = k
sweeps ws i n (suc s) k = sweeps ws i n s (sweep_rows ws (i + s * 64) n 0 k)

-- a sweep is asked of row r
pub record Sweep (ws : List ℕ) (r i : ℕ) (sets above : List ℕ) : Type 0 where
  pub row : r < E ws
  pub fits : r < length sets
  pub fits_above : r < length above
  pub low : i < 4294967296
  pub small : (j : ℕ) → get_or sets j 0 < 18446744073709551616

-- and answers it, whatever the pool's bytes and names are
abbrev pub Answers : List ℕ → ℕ → ℕ → Bool → Type 0
Answers ws r i v = (bs ns : List ℕ) → Sound (over bs ns ws) → v ≡ occurs i (expr_at (over bs ns ws) r)
