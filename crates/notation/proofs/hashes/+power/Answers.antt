use Rattle.notation.proofs.HashLaws.{power_even, power_odd}
use mathlib.Core.Path.{refl}
use native.Mathlib.Omega.{arith}
use Rattle.notation.proofs.hashes.+power.Goals as goal

pub returns-then-n-eq0-2 : goal.returns-then-n-eq0-2
returns-then-n-eq0-2 h c = (power_even c.args.n c.power-half.result _ c.power-half.ensures.0 refl c.if-n-eq0-2.true, omega arith)

pub returns : goal.returns
returns h c = (power_odd c.args.n c.power-half.result _ c.power-half.ensures.0 refl c.if-n-eq0-2.false, omega arith)
