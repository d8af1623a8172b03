use Rattle.document.proofs.Leaving.{leaves_as, leaves_after}
use Rattle.utf8.specs.Quoted.{bytes, encode}
use Rattle.pool.specs.Views.{lent}
use Rattle.pool.proofs.RowUnfolds.{list_fits}
use Rattle.levels.proofs.Universes.{no_levels, some_levels}
use native.Mathlib.Omega.{arith}
use mathlib.Core.Path.{sym, ◌∙◌}
use Rattle.levels.proofs.levels.pp_uparams.Goals as goal

pub returns-then-count-eq0 : goal.returns-then-count-eq0
unfolding bytes encode
returns-then-count-eq0 c =
    leaves_as c.put_word.ensures (no_levels (lent c.args.pool.now) c.args.r _ (sym c.list-count.ensures.0 ∙ c.if-count-eq0.true))

pub pp_levels-requires : goal.pp_levels-requires
pp_levels-requires c = (
  omega (arith, c.if-count-eq0.false),
  omega (arith, c.list-from.ensures.0, c.list-count.ensures.0, list_fits (lent c.args.pool.now) c.args.pool.now.sound c.args.r c.requires),
)

pub returns : goal.returns
unfolding bytes encode
returns c =
    leaves_as (leaves_after (leaves_after c.put_word-2.ensures c.pp_levels.ensures) c.put_join.ensures)
    (rw (c.list-from.ensures.0, c.list-count.ensures.0)
    (some_levels (lent c.args.pool.now) c.args.r _ (λ e. c.if-count-eq0.false (c.list-count.ensures.0 ∙ e))))
