use Rattle.utf8.proofs.Classes.{fit}
use Rattle.utf8.specs.Letterlike.{letterlike}
use Rattle.utf8.specs.Utf8.{points, points_from}
use Rattle.std.proofs.Common.{◌≡◌, drop}
use Rattle.utf8.proofs.letterlike.is_letterlike.Given as goal

abbrev pub invariant-loop-b : goal.invariant-loop-b
invariant-loop-b l = fit l.first (points_from l.scan.need l.scan.bits (drop l.b-index l.s)) ≡ letterlike (points l.s)
