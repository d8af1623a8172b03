use mathlib.Core.Path.{sym, ap, ◌∙◌}
use Rattle.lister.specs.Frames.{given}
use Rattle.lister.specs.Handing.{span_of}
use Rattle.lister.proofs.hand_out_span.Goals as goal

pub returns-in-Text : goal.returns-in-Text
unfolding span_of
returns-in-Text c =
    let a = c.args in
    let d = a.document.now in
    c.text_span.ensures ∙ sym (ap (span_of (given a.source) d.rows.now d.count d.text.now d.total) c.in-Text.is)

pub returns-in-String : goal.returns-in-String
unfolding span_of
returns-in-String c =
    let a = c.args in
    let d = a.document.now in
    c.string_span.ensures ∙ sym (ap (span_of (given a.source) d.rows.now d.count d.text.now d.total) c.in-String.is)
