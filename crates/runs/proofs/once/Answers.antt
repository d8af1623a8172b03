use Rattle.third_property.proofs.ThirdProperty.{third_property}
use Rattle.third_property.proofs.Decisions.{decided}
use Rattle.lister.specs.Prints.{Areas, print}
use Rattle.lister.specs.Frames.{given}
use Rattle.lister.specs.Source.{Source}
use Rattle.declarations.specs.declared.listing.Root.{Root}
use Rattle.runs.specs.Calls.{print_of}
use Rattle.runs.proofs.Prints.{call_is}
use mathlib.Core.Path.{ap, ◌∙◌}
use Rattle.runs.proofs.once.Goals as goal

pub returns : goal.returns
returns c =
    let a = c.args in
    let k = a.call in
    let s : Source = given k.source in
    let areas : Areas = record { rows = a.rows.now; text = a.text.now; listing = a.listing.now } in
    let e =
    c.print.ensures ∙ ap (λ (r : Root). print s r k.indent k.width areas) c.root-root.ensures
    ∙ call_is a.kind s k.root k.indent k.width areas in
    record {
      property = (third_property (print_of a.kind)).one _ e;
      decided = λ rooted ok. decided _ e rooted ok;
    }
