use Rattle.difference.proofs.ClassLaws.{united}
use Rattle.difference.proofs.classes.unite.Goals as goal

pub returns : goal.returns
returns c =
    united _ _ _ _ _ _ _ c.find-a.ensures c.find-b.ensures _ _ _ c.max.ensures c.min.ensures c.keep.ensures
