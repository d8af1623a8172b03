use Rattle.utf8.proofs.Classes.{same_bytes_is}
use mathlib.Core.Path.{ap, ◌∙◌}
use Rattle.utf8.specs.Letterlike.{same_bytes}
use Rattle.utf8.specs.Quoted.{bytes, encode}
use Rattle.names.proofs.components.is_hyg_text.Goals as goal

pub returns : goal.returns
unfolding bytes encode
returns c = c.eq.ensures ∙ same_bytes_is c.args.s.now _ ∙ ap (same_bytes c.args.s.now) c.as_slice.ensures
