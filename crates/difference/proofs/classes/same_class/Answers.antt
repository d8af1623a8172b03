use mathlib.Core.Path.{refl}
use Rattle.difference.proofs.ClassLaws.{classes_one}
use Rattle.difference.proofs.classes.same_class.Goals as goal

pub returns : goal.returns
returns c =
    classes_one _ _ _ _ _ _ _ c.find-a.ensures c.find-b.ensures _ refl
