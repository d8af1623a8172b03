use mathlib.Core.Path.{◌≡◌}
use Prim.Native.Nat.{◌≤◌, ◌*◌, ◌-◌}
use Rattle.document.specs.Rows.{text_before, scan}
use Rattle.document.proofs.check.Document.fault.Given as goal

abbrev pub invariant-loop-i : goal.invariant-loop-i
invariant-loop-i l =
    let rows = l.self.rows.now in
    (l.before ≡ text_before rows l.i) × (l.before ≤ l.i * 4294967296) × (scan rows l.self.total (l.self.count - l.i) l.i ≡ scan rows l.self.total l.self.count 0)
