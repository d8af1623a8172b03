use Rattle.std.proofs.Common.{◌≡◌, ◌*◌, ◌<◌, min, length, take}
use Rattle.notation.specs.Hashes.{bytes_hash, MarkedBelow}
use Rattle.notation.proofs.hashes.mark.Given as goal

abbrev pub invariant-loop-k : goal.invariant-loop-k
invariant-loop-k l = record {
  marked : MarkedBelow l.bytes l.apart l.marks l.k;
  place : l.at ≡ min (l.k * l.apart) (length l.bytes);
  hash : l.hash ≡ bytes_hash 0 (take (l.k * l.apart) l.bytes);
  small : l.hash < 2147483647;
}
