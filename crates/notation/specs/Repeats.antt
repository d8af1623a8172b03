-- Parts of the byte area that stand in it once more.
use Rattle.std.specs.Prelude.{ℕ, ◌+◌, ◌<◌, ◌≤◌, List, ◌≡◌, get_or, length, take, drop, Bool, Option, Some}
use Rattle.utf8.specs.Letterlike.{same_bytes}
use Rattle.notation.specs.declared.runs.Run.{Run}
use Rattle.notation.specs.declared.runs.Parts.{Parts}
use Rattle.notation.specs.declared.compared.Compared.{Compared}

-- each byte from one place on and before another is the byte so many places after it
abbrev pub RepeatsFrom : List ℕ → ℕ → ℕ → ℕ → Type 0
RepeatsFrom bytes shift from to = (k : ℕ) → from ≤ k → k < to → get_or bytes k 0 ≡ get_or bytes (k + shift) 0

abbrev pub RunRepeats : List ℕ → Run → Type 0
RunRepeats bytes m = RepeatsFrom bytes m.shift m.from m.to

abbrev pub Repeats : List ℕ → Compared → Type 0
Repeats bytes c = RunRepeats bytes c.coarse × (RunRepeats bytes c.middle × RunRepeats bytes c.fine)

-- two parts of one length
abbrev pub equal_parts : List ℕ → ℕ → ℕ → ℕ → Bool
equal_parts bytes at shift n = same_bytes (take n (drop at bytes)) (take n (drop (at + shift) bytes))

-- two other parts are equal just where these are
pub record StandFor (bytes : List ℕ) (at shift n : ℕ) (q : Parts) : Type 0 where
  pub inside : q.at + q.shift + n ≤ length bytes
  pub same : equal_parts bytes q.at q.shift n ≡ equal_parts bytes at shift n

abbrev pub StandsFor : List ℕ → ℕ → ℕ → ℕ → Option Parts → Type 0
StandsFor bytes at shift n o = (q : Parts) → o ≡ Some q → StandFor bytes at shift n q
