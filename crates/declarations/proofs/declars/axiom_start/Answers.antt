use Rattle.document.proofs.Leaving.{leaves_as, leaves_after}
use Rattle.utf8.specs.Quoted.{bytes, encode}
use Rattle.declarations.proofs.DeclarLaws.{axiom_colon, axiom_binders}
use Rattle.declarations.proofs.declars.axiom_start.Goals as goal

pub returns-then-count-eq0 : goal.returns-then-count-eq0
unfolding bytes encode
returns-then-count-eq0 c = leaves_as c.put_word.ensures (axiom_colon _ _ _ _ _ _ c.if-count-eq0.true)

pub returns : goal.returns
unfolding bytes encode
returns c =
    leaves_as (leaves_after (leaves_after c.telescope.ensures c.join_word.ensures) c.join_word-2.ensures)
    (axiom_binders _ _ _ _ _ _ c.if-count-eq0.false)
