-- What a contract says of a slice that a function is lent.
use Rattle.std.specs.Prelude.{List, ℕ}
use denote.Triple.Both.{Both}
use Rattle.std.specs.Borrow.{Bor, MutBor}

-- a `&mut` slice in an `ensures`: as it was at entry, and as it is at exit
abbrev pub Area : Type 0
Area = Both (MutBor (List ℕ)) (MutBor (List ℕ))

-- what it held when the function was called, and what it holds when the function returns
abbrev pub was : Area → List ℕ
was a = a.entry.now

abbrev pub left : Area → List ℕ
left a = a.exit.now

-- a `&` slice in an `ensures`, and what it holds
abbrev pub Shared : Type 0
Shared = Both (Bor (List ℕ)) (Bor (List ℕ))

abbrev pub held : Shared → List ℕ
held a = a.entry.now

-- a slice in a `requires`
abbrev pub Slice : Type 0
Slice = Bor (List ℕ)
