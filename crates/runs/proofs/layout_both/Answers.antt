use mathlib.Core.Path.{sym, ap, ◌∙◌}
use Rattle.layout_pending.specs.Call.{outcome_pending}
use Rattle.layout_pending.proofs.Answers.{layouts_agree}
use Rattle.runs.proofs.layout_both.Goals as goal

pub returns : goal.returns
returns c =
    let a = c.args in
    λ alike.
    layouts_agree a.document.now.rows.now a.document.now.count a.document.now.text.now a.document.now.total a.width a.pending.now a.listing.now _ _ _ _ _ c.layout-first.ensures
    (c.layout_pending-second.ensures ∙ ap (outcome_pending a.document.now.rows.now a.document.now.count a.document.now.text.now a.document.now.total a.width a.pending.now) (sym alike))
