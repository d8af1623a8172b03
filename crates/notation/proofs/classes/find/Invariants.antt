use Rattle.std.specs.Prelude.{length}
use Rattle.pool.specs.Views.{read}
use Rattle.notation.specs.Classes.{slot}
use Rattle.notation.specs.Repeats.{Repeats}
use Rattle.notation.proofs.Classing.{Reached}
use Rattle.notation.proofs.classes.find.Given as goal

abbrev pub invariant-loop-at : goal.invariant-loop-at
invariant-loop-at g l =
    let t = g.C.Classes.table in
    let p = read l.pool in
    record { reached : Reached t p (length l.heads) (slot t p (length l.heads) l.r) l.r l.at; compared : Repeats p.bytes l.compared }

abbrev pub decreases-loop-at : goal.decreases-loop-at
decreases-loop-at g l = l.at
