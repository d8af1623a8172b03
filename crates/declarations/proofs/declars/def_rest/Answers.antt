use Rattle.document.proofs.Leaving.{leaves_as, leaves_after}
use Rattle.utf8.specs.Quoted.{bytes, encode}
use Rattle.declarations.proofs.DeclarLaws.{rest_none, rest_some}
use Rattle.declarations.proofs.declars.def_rest.Goals as goal

pub returns-then-count-eq0 : goal.returns-then-count-eq0
unfolding bytes encode
returns-then-count-eq0 c =
    let typed = leaves_after (leaves_after c.def_start.ensures c.pp_type.ensures) c.put_join.ensures in
    leaves_as (leaves_after (leaves_after typed c.join_word.ensures) c.join_word-2.ensures)
    (rest_none _ _ _ _ _ _ _ c.if-count-eq0.true c.requires.row_in_chain.1)

pub returns : goal.returns
unfolding bytes encode
returns c =
    let typed = leaves_after (leaves_after c.def_start.ensures c.pp_type.ensures) c.put_join.ensures in
    leaves_as (leaves_after (leaves_after (leaves_after typed c.join_word.ensures) c.join_word-2.ensures) c.put_group.ensures)
    (rest_some _ _ _ _ _ _ _ c.if-count-eq0.false c.requires.r_in_chain.1 c.requires.row_in_chain.1)
