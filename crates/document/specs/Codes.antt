-- Document 01, "Document and layout": the words that stand for the kinds of rows, and what reading such a word gives.
use Rattle.std.specs.Prelude.{ℕ, ◌≡◌, ◌<◌, Option, MatchOption, Result, MatchResult}
use Rattle.document.specs.declared.kinds.RowKind.{RowKind}
use Rattle.document.specs.declared.kinds.RowKind.TheVariants.{Text, Join, Break, Nest, Group}
use Rattle.document.specs.declared.kinds.UnknownRowKind.{UnknownRowKind}

-- "0 text (offset, length; ..); 1 join; 2 break (its blank's length, 0 or 1); 3 nest (amount up to 64); 4 group."
abbrev pub row_code : RowKind → ℕ
row_code Text = 0
row_code Join = 1
row_code Break = 2
row_code Nest = 3
row_code Group = 4

-- a word is read as the kind that it stands for, or is an error that holds it, above all kinds
abbrev pub Reads : ℕ → Result RowKind UnknownRowKind → Type 0
Reads word r = MatchResult r (λ kind. row_code kind ≡ word) (λ e. (e.0 ≡ word) × (4 < word))

-- the kind that a word stands for, if it stands for one
abbrev pub Stands : ℕ → Option RowKind → Type 0
Stands word o = MatchOption o (4 < word) (λ kind. row_code kind ≡ word)
