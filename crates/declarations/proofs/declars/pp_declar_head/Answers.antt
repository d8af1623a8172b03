use Rattle.document.proofs.Leaving.{leaves_as, leaves_after}
use Rattle.utf8.specs.Quoted.{bytes, encode}
use native.Mathlib.Omega.{arith}
use mathlib.Core.Path.{ap, ◌∙◌}
use Rattle.declarations.specs.Declars.{keyword}
use Rattle.declarations.proofs.DeclarLaws.{declared_row, head_puts}
use Rattle.declarations.proofs.declars.pp_declar_head.Goals as goal

pub keyword-requires : goal.keyword-requires
keyword-requires c = let row = declared_row c.args.p.now.pool.sound c.requires in omega (arith, row.kind, c.declar.ensures.0)

pub returns : goal.returns
unfolding bytes encode
returns c =
    let word = leaves_after c.put_word.ensures c.join_word.ensures in
    leaves_as (leaves_after (leaves_after (leaves_after word c.pp_declar_info.ensures) c.put_join.ensures) c.join_word-2.ensures)
    (head_puts _ _ _ _ _ (c.keyword.ensures ∙ ap keyword c.declar.ensures.0))
