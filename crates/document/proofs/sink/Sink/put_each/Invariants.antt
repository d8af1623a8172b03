use Rattle.std.proofs.Common.{take}
use Rattle.document.specs.Sink.{put_bytes}
use Rattle.document.specs.Leaves.{Leaves}
use Rattle.document.proofs.sink.Sink.put_each.Given as goal

abbrev pub invariant-loop-b : goal.invariant-loop-b
invariant-loop-b l = Leaves l.initial.self l.self (put_bytes (take l.b-index l.bytes))
