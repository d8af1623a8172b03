use Rattle.byte_check.specs.Runs.{Digits}
use Rattle.byte_check.proofs.naturals.digits_end.Given as goal

abbrev pub invariant-loop-i : goal.invariant-loop-i
invariant-loop-i l = Digits l.bytes l.from l.i
