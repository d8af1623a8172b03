use Rattle.std.proofs.Common.{◌≡◌, ℕ, ◌<◌, true}
use Rattle.pool.specs.Notation.{notation_fields_ok}
use Rattle.pool.specs.Views.{read}
use Rattle.notation.proofs.operators.all_fields_ok.Given as goal

abbrev pub invariant-loop-r : goal.invariant-loop-r
invariant-loop-r l = (k : ℕ) → k < l.r → notation_fields_ok (read l.pool) k ≡ true
