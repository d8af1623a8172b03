use Rattle.pool.specs.Rules.{string_ok}
use Rattle.pool.specs.Tables.{string_word}
use Rattle.pool.specs.Views.{read}
use Rattle.byte_check.specs.Runs.{Known, before}
use mathlib.Core.Bool.{true}
use mathlib.Core.Path.{◌≡◌}
use Prim.Native.Nat.{ℕ, ◌<◌}
use Rattle.byte_check.proofs.strings.first_bad_string.Given as goal

abbrev pub invariant-loop-r : goal.invariant-loop-r
invariant-loop-r l = ((k : ℕ) → k < l.r → string_ok (read l.pool) k ≡ true)
    × (Known l.pool.bytes.now (before (λ i. string_word l.pool.names.words.now i 0) l.r) l.known)
    × (l.last ≡ before (λ i. string_word l.pool.names.words.now i 0) l.r)
