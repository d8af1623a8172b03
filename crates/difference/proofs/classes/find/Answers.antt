use Rattle.difference.proofs.ClassLaws.{finds}
use Rattle.difference.proofs.classes.find.Goals as goal

pub returns : goal.returns
returns c =
    finds _ _ _ _ c.root_of-r.ensures c.keep.ensures
