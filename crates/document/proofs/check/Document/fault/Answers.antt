use Rattle.document.proofs.Faults.{found_last}
use Rattle.document.proofs.check.Document.fault.Goals as goal

pub returns-then-is_whole : goal.returns-then-is_whole
returns-then-is_whole c =
    let l = c.loop-i in
    let last = c.in_ok-last.ensures in
    found_last _ _ _ _ _ _ _ _ c.if-is_whole.true l.auto.i-end c.loop-i-test.false l.invariant.2 l.invariant.0 last.0 last.1 c.is_whole.ensures

pub returns-else-is_whole : goal.returns-else-is_whole
returns-else-is_whole c =
    let l = c.loop-i in
    let last = c.in_ok-last.ensures in
    found_last _ _ _ _ _ _ _ _ c.if-is_whole.false l.auto.i-end c.loop-i-test.false l.invariant.2 l.invariant.0 last.0 last.1 c.is_whole.ensures
