use Rattle.std.proofs.Common.{◌≡◌, ◌<◌}
use Rattle.std.specs.Prelude.{drop}
use Rattle.notation.specs.Hashes.{bytes_hash}
use Rattle.notation.proofs.hashes.hash_of.Given as goal

abbrev pub invariant-loop-b : goal.invariant-loop-b
invariant-loop-b l = (bytes_hash l.hash (drop l.b-index l.bytes) ≡ bytes_hash l.start l.bytes) × (l.hash < 2147483647)
