use Rattle.utf8.proofs.Classes.{plain_same, plain_other}
use Rattle.utf8.proofs.letterlike.ok_str.Goals as goal

pub returns-then-eq : goal.returns-then-eq
returns-then-eq c = plain_same _ _ _ c.eq.result c.eq.ensures c.as_slice.ensures c.if-eq.true

pub returns-else-eq : goal.returns-else-eq
returns-else-eq c = plain_other _ _ _ _ c.eq.ensures c.as_slice.ensures c.if-eq.false c.is_letterlike.ensures
