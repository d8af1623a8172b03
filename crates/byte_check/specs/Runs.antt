-- What check knows of bytes that it has read, so that strings that overlap do not have it read them again.
use Rattle.std.specs.Prelude.{ℕ, zero, suc, ◌-◌, ◌≤◌, ◌<◌, true, false, cond, List, ◌≡◌, length, get_or, take, drop}
use Rattle.utf8.specs.Utf8.{utf8, is_follower}
use Rattle.pool.specs.Tables.{Pool, S, string_at}
use Rattle.pool.specs.Rules.{is_digit, natural}
use Rattle.std.specs.declared.ops.Range.{Range}

-- the bytes from `from` on and before `to`
abbrev pub span : List ℕ → ℕ → ℕ → List ℕ
span bs from to = take (to - from) (drop from bs)

-- from each byte at or after `from` that goes on with no code point, the bytes before `to` are UTF-8
pub record Known (bs : List ℕ) (from to : ℕ) : Type 0 where
  pub inside : to ≤ length bs
  pub valid : (p : ℕ) → from ≤ p → p < to → is_follower (get_or bs p 0) ≡ false → utf8 (span bs p to) ≡ true

-- every byte before `to` is ASCII
abbrev pub Ascii : List ℕ → ℕ → Type 0
Ascii bs to = (i : ℕ) → i < to → get_or bs i 0 < 0x80

-- the offset of the row before row r, 0 where there is none
unfoldable pub before : (ℕ → ℕ) → ℕ → ℕ
before offset zero = 0
before offset (suc r) = offset r

-- every byte from `from` on and before `to` is a digit
abbrev pub Digits : List ℕ → ℕ → ℕ → Type 0
Digits bs from to = (i : ℕ) → from ≤ i → i < to → is_digit (get_or bs i 0) ≡ true

pub record RunOf (bs : List ℕ) (run : Range ℕ) : Type 0 where
  pub inside : run.end ≤ length bs
  pub digits : Digits bs run.start run.end

-- the run that the bytes from `from` on and before `to` begin in: it ends where they do, or later, or before a byte that is no digit
pub record RunAt (bs : List ℕ) (from to : ℕ) (run : Range ℕ) : Type 0 where
  pub begins : run.start ≤ from
  pub reaches : from ≤ run.end
  pub run_of : RunOf bs run
  pub stops : run.end < to → is_digit (get_or bs run.end 0) ≡ false

-- a byte for each string row: 1 for a natural, else 0
abbrev pub mark : Pool → ℕ → ℕ
mark p a = cond (natural (string_at p a)) 1 0

abbrev pub Marked : Pool → List ℕ → Type 0
Marked p marks = (a : ℕ) → a < S p.names → get_or marks a 0 ≡ mark p a
