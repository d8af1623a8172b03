use mathlib.Core.Path.{sym, ◌∙◌}
use Rattle.lister.specs.Handing.{text_span}
use Rattle.lister.proofs.handing.text_span.Goals as goal

pub returns-then-not-has_text : goal.returns-then-not-has_text
unfolding text_span
returns-then-not-has_text c = rw (sym c.has_text.ensures ∙ c.if-not-has_text.true)

pub returns : goal.returns
unfolding text_span
returns c = rw (c.word_at.ensures.0, c.word_at-2.ensures.0, sym c.has_text.ensures ∙ c.if-not-has_text.false)
