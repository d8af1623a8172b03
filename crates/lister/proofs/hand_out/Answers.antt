use mathlib.Core.Path.{sym, ap, ◌∙◌}
use Rattle.lister.specs.Handing.{part_of, span_of, area_of, hand_out}
use Rattle.lister.proofs.hand_out.Goals as goal

pub returns-in-Text : goal.returns-in-Text
unfolding hand_out span_of area_of
returns-in-Text c =
    let a = c.args in
    c.part.ensures ∙ ap (part_of a.text.now) c.text_span.ensures ∙ sym (ap (hand_out (record { bytes = a.bytes.now; words = a.words.now }) a.rows.now a.count a.text.now a.total) c.in-Text.is)

pub returns-in-String : goal.returns-in-String
unfolding hand_out span_of area_of
returns-in-String c =
    let a = c.args in
    c.part-in-String.ensures ∙ ap (part_of a.bytes.now) c.string_span.ensures ∙ sym (ap (hand_out (record { bytes = a.bytes.now; words = a.words.now }) a.rows.now a.count a.text.now a.total) c.in-String.is)
