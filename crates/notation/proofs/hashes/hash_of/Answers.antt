use Rattle.notation.proofs.HashLaws.{bytes_step, bytes_end}
use mathlib.Core.Path.{sym, ◌∙◌}
use native.Mathlib.Omega.{arith}
use Rattle.notation.proofs.hashes.hash_of.Goals as goal

pub loop-b-preserved : goal.loop-b-preserved
loop-b-preserved c =
    (bytes_step c.args.bytes.now c.loop-b.hash c.loop-b.b-index c.from.result c.loop-b-test.true c.from.ensures ∙ c.loop-b.invariant.0, omega arith)

pub returns : goal.returns
returns c = (sym (bytes_end c.args.bytes.now c.loop-b.hash c.loop-b.b-index c.loop-b-test.false) ∙ c.loop-b.invariant.0, c.loop-b.invariant.1)
