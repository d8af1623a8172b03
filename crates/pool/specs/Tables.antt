-- 01, Pool: "A byte area and u32 words. Seven head words: the counts S, N, L, K, Q, E, D. Then tables in that order;
-- total words = 7 + 2S + 4N + 3L + 2K + Q + 8E + 5D. Rows number from 0."; with document 02, P5: "Every pool now has an eighth head word, the
-- count of notation rows behind the declarations ..; the word total grows by one for it and by four for each row."
use Rattle.std.specs.Prelude.{ℕ, ◌+◌, ◌*◌, List, get_or, take, drop}

-- `names` are the words that hold the strings and the names, `words` those that hold the rest: the same area.
pub record Pool : Type 0 where
  pub bytes : List ℕ
  pub names : List ℕ
  pub words : List ℕ

abbrev pub pool : List ℕ → List ℕ → Pool
pool bs ws = record { bytes = bs; names = ws; words = ws }

-- the head words
abbrev pub S : List ℕ → ℕ
S ws = get_or ws 0 0

abbrev pub N : List ℕ → ℕ
N ws = get_or ws 1 0

abbrev pub L : List ℕ → ℕ
L ws = get_or ws 2 0

abbrev pub K : List ℕ → ℕ
K ws = get_or ws 3 0

abbrev pub Q : List ℕ → ℕ
Q ws = get_or ws 4 0

abbrev pub E : List ℕ → ℕ
E ws = get_or ws 5 0

abbrev pub D : List ℕ → ℕ
D ws = get_or ws 6 0

-- the count of notation rows
abbrev pub T : List ℕ → ℕ
T ws = get_or ws 7 0

-- where each table starts; the last one's end is the total
abbrev pub strings_at : List ℕ → ℕ
strings_at ws = 8

abbrev pub names_at : List ℕ → ℕ
names_at ws = strings_at ws + 2 * S ws

abbrev pub levels_at : List ℕ → ℕ
levels_at ws = names_at ws + 4 * N ws

abbrev pub lists_at : List ℕ → ℕ
lists_at ws = levels_at ws + 3 * L ws

abbrev pub list_words_at : List ℕ → ℕ
list_words_at ws = lists_at ws + 2 * K ws

abbrev pub exprs_at : List ℕ → ℕ
exprs_at ws = list_words_at ws + Q ws

abbrev pub declars_at : List ℕ → ℕ
declars_at ws = exprs_at ws + 8 * E ws

abbrev pub notation_at : List ℕ → ℕ
notation_at ws = declars_at ws + 5 * D ws

abbrev pub total : List ℕ → ℕ
total ws = notation_at ws + 4 * T ws

-- the word k of row r of each table
unfoldable pub string_word : List ℕ → ℕ → ℕ → ℕ
string_word ws r k = get_or ws (strings_at ws + r * 2 + k) 0

unfoldable pub name_word : List ℕ → ℕ → ℕ → ℕ
name_word ws r k = get_or ws (names_at ws + r * 4 + k) 0

unfoldable pub level_word : List ℕ → ℕ → ℕ → ℕ
level_word ws r k = get_or ws (levels_at ws + r * 3 + k) 0

unfoldable pub list_word : List ℕ → ℕ → ℕ → ℕ
list_word ws r k = get_or ws (lists_at ws + r * 2 + k) 0

unfoldable pub list_entry : List ℕ → ℕ → ℕ
list_entry ws i = get_or ws (list_words_at ws + i) 0

unfoldable pub expr_word : List ℕ → ℕ → ℕ → ℕ
expr_word ws r k = get_or ws (exprs_at ws + r * 8 + k) 0

unfoldable pub declar_word : List ℕ → ℕ → ℕ → ℕ
declar_word ws r k = get_or ws (declars_at ws + r * 5 + k) 0

unfoldable pub notation_word : List ℕ → ℕ → ℕ → ℕ
notation_word ws r k = get_or ws (notation_at ws + r * 4 + k) 0

-- the bytes of string row r
unfoldable pub string_at : Pool → ℕ → List ℕ
string_at p r = take (string_word p.names r 1) (drop (string_word p.names r 0) p.bytes)
