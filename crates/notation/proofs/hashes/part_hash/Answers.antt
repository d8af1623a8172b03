use Rattle.notation.proofs.HashLaws.{hash_between}
use native.Mathlib.Omega.{arith}
use Rattle.notation.proofs.hashes.part_hash.Goals as goal

pub returns : goal.returns
returns c = (
  hash_between c.args.bytes.now c.args.from c.args.to _ _ _ c.requires.order c.requires.inside c.hash_before.ensures.0 c.power.ensures.0
      c.hash_before-2.ensures.0,
  omega arith,
)
