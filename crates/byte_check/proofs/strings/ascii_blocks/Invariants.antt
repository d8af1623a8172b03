use Rattle.std.specs.Slice.Iter.{chunks_rest}
use Rattle.byte_check.specs.Runs.{Ascii}
use lib.ListN.{length, drop}
use mathlib.Core.Path.{◌≡◌}
use Prim.Native.Nat.{◌≤◌}
use Rattle.byte_check.proofs.strings.ascii_blocks.Given as goal

abbrev pub invariant-loop-block : goal.invariant-loop-block
invariant-loop-block l = (l.at ≤ length l.bytes) × (chunks_rest l.block-iterator ≡ drop l.at l.bytes) × (Ascii l.bytes l.at)
