-- Eight words are put over the first eight.
-- Assumes nothing.
use mathlib.Core.Path.{◌≡◌, refl}
use mathlib.Core.List.{List, [], ◌∷◌, ◌++◌}
use Prim.Native.Nat.{ℕ, ◌<◌, ◌≤◌}
use native.Mathlib.Omega.{arith}
use lib.ListN.{length, set, drop}
use borrow.Author.Tests.{lt-ltb, le-ltb}
use Rattle.lister_c.specs.Reports.{put_words}

pub untouched : (out words : List ℕ) → length out < 8 → out ≡ put_words out words
unfolding put_words
untouched out words short = simp (lt-ltb _ _ short)

pub stored : (out words : List ℕ) → 8 ≤ length out → words ++ drop 8 out ≡ put_words out words
unfolding put_words
stored out words enough = rw (le-ltb (length out) 8 enough)
