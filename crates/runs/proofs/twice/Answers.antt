use Rattle.third_property.proofs.ThirdProperty.{third_property}
use Rattle.lister.specs.Prints.{Areas, print}
use Rattle.lister.specs.Frames.{given}
use Rattle.lister.specs.Source.{Source}
use Rattle.declarations.specs.declared.listing.Root.{Root}
use Rattle.runs.specs.Calls.{print_of}
use Rattle.runs.proofs.Prints.{call_is}
use mathlib.Core.Path.{ap, ◌∙◌}
use Rattle.runs.proofs.twice.Goals as goal

pub returns : goal.returns
returns c =
    let a = c.args in
    let f = a.first in
    let s : Source = given f.source in
    let areas : Areas = record { rows = a.rows.now; text = a.text.now; listing = a.listing.now } in
    let g = a.second in
    let s2 : Source = given g.source in
    let areas2 : Areas = record { rows = a.rows2.now; text = a.text2.now; listing = a.listing2.now } in
    (third_property (print_of a.kind)).two _ _
    (c.print-one.ensures ∙ ap (λ (r : Root). print s r f.indent f.width areas) c.root-root.ensures
    ∙ call_is a.kind s f.root f.indent f.width areas)
    (c.print-two.ensures ∙ ap (λ (r : Root). print s2 r g.indent g.width areas2) c.root-root-2.ensures
    ∙ call_is a.kind s2 g.root g.indent g.width areas2)
