use Rattle.pool.specs.Views.{lent}
use Rattle.lister.proofs.Operating.{names_right, fields_right, given_once}
use mathlib.Core.Path.{sym, ◌∙◌}
use Rattle.lister.proofs.checked.print_in.Goals as goal

pub operators-requires-clause-right : goal.operators-requires-clause-right
operators-requires-clause-right g c = names_right (lent c.args.pool) c.args.pool.sound _ _ _ c.requires.begins

pub operators-requires-clause-fields : goal.operators-requires-clause-fields
operators-requires-clause-fields g c = fields_right (lent c.args.pool) c.args.pool.sound

pub print_with-requires-clause-told : goal.print_with-requires-clause-told
print_with-requires-clause-told g c =
    c.operators.ensures.table (c.operators.ensures.once ∙ sym (given_once (lent c.args.pool) c.args.pool.sound))
