use Rattle.utf8.proofs.Laws.{room_start}
use Rattle.utf8.proofs.scan.Scan.start.Goals as goal

pub invariant_of-result : goal.invariant_of-result
invariant_of-result c = record { room = room_start }
