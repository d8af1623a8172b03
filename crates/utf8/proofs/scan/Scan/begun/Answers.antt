use Rattle.utf8.proofs.Laws.{room_begun}
use Rattle.std.proofs.Common.{rules}
use Rattle.utf8.proofs.scan.Scan.begun.Goals as goal

pub invariant_of-result : goal.invariant_of-result
invariant_of-result c = record { room = room_begun c.args.b _ _ c.ranges.b.fits (search rules) (search rules) }
