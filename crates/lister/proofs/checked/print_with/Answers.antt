use Rattle.std.proofs.Common.{rules}
use mathlib.Core.Path.{◌∙◌}
use Rattle.document.specs.Walk.{Marked}
use Rattle.pool.specs.Views.{lent}
use Rattle.binders.specs.Options.{options}
use Rattle.declarations.specs.Roots.{root_doc}
use Rattle.lister.specs.Prints.{Areas}
use Rattle.lister.proofs.Finishing.{root_fine, accepted_after, finished_after}
use Rattle.lister.proofs.checked.print_with.Goals as goal

pub finish-requires : goal.finish-requires
finish-requires c =
    let a = c.args in
    let m : Marked = root_doc a.root (options a.indent (lent a.pool)) (lent a.pool) in
    let areas : Areas = record { rows = a.rows.now; text = a.text.now; listing = a.listing.now } in (
      accepted_after m (root_fine a.root a.indent c.requires.begins.indent_small (lent a.pool)) a.width areas _ _ c.new-sink.ensures.is c.print.ensures (search rules) (search
          rules),
      c.requires.begins.width_small,
    )

pub returns : goal.returns
returns c =
    let a = c.args in
    let m : Marked = root_doc a.root (options a.indent (lent a.pool)) (lent a.pool) in
    let areas : Areas = record { rows = a.rows.now; text = a.text.now; listing = a.listing.now } in
    let fine = root_fine a.root a.indent c.requires.begins.indent_small (lent a.pool) in
    c.finish.ensures
    ∙ finished_after m fine a.width areas _ _ c.new-sink.ensures.is c.print.ensures (search rules) (search rules) (search rules) (search rules)
