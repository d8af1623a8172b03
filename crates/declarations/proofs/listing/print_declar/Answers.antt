use mathlib.Core.Path.{refl}
use Rattle.document.proofs.Leaving.{leaves_as, leaves_after}
use Rattle.declarations.proofs.DeclarLaws.{valued_lists, typed_lists}
use Rattle.declarations.proofs.listing.print_declar.Goals as goal

pub returns-then-has_value : goal.returns-then-has_value
returns-then-has_value c =
    leaves_as (leaves_after c.main_def.ensures c.put_group.ensures)
    (valued_lists _ _ _ _ _ _ refl c.has_value.ensures c.if-has_value.true)

pub returns : goal.returns
returns c =
    leaves_as (leaves_after c.main_axiom.ensures c.put_group-2.ensures)
    (typed_lists _ _ _ _ _ _ refl c.has_value.ensures c.if-has_value.false)
