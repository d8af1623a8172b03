use Rattle.document.proofs.Leaving.{leaves_as, leaves_after}
use Rattle.names.proofs.Texts.{doc_anonymous, doc_joined}
use Rattle.utf8.specs.Quoted.{bytes, encode}
use Rattle.document.specs.Sink.{put_text}
use mathlib.Core.Path.{sym, ◌∙◌}
use Rattle.names.proofs.names.pp_name_safe.Goals as goal

pub returns-then-is_anonymous : goal.returns-then-is_anonymous
unfolding bytes encode
returns-then-is_anonymous c = leaves_as c.put_word.ensures (doc_anonymous _ _ (sym c.is_anonymous.ensures ∙ c.if-is_anonymous.true))

pub returns : goal.returns
unfolding put_text
returns c =
    leaves_as (leaves_after c.put_name_bytes.ensures c.end_text.ensures)
    (doc_joined _ _ (sym c.is_anonymous.ensures ∙ c.if-is_anonymous.false))
