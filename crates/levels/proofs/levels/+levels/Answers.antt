use Rattle.document.proofs.Leaving.{leaves_same, leaves_as, leaves_after}
use Rattle.pool.specs.Views.{lent}
use Rattle.pool.specs.declared.kinds.LevelKind.TheVariants.{Zero}
use Rattle.pool.proofs.Standing.{level_is, level_not}
use Rattle.pool.proofs.RowUnfolds.{level_row, level_kind_small}
use Rattle.levels.proofs.Universes.{plus_emits, zero_emits, param_below, param_emits, max_below, max_emits, plus_is}
use Rattle.pieces.proofs.Emitting.{emit_stopped}
use Rattle.utf8.specs.Quoted.{bytes, encode}
use Rattle.levels.specs.Counted.{max_text}
use Rattle.std.specs.Prelude.{not}
use native.Mathlib.Omega.{arith}
use mathlib.Core.Path.{sym, ap, ◌∙◌}
use Rattle.levels.proofs.levels.+levels.Goals as goal

pub pp_base-returns-in-Some-Zero : goal.pp_base-returns-in-Some-Zero
pp_base-returns-in-Some-Zero t c =
    let kind = rw c.in-Some-Zero.field-0-is at c.in-Some-Zero.ensures in
    leaves_as c.put_number.ensures
    (zero_emits (lent c.args.pool.now) c.args.r (level_row _ c.args.pool.now.sound _ c.requires.0) (sym kind) c.args.outer 0 _ c.requires.1)

pub pp_base-pp_name_safe-requires : goal.pp_base-pp_name_safe-requires
pp_base-pp_name_safe-requires t c =
    let kind = rw c.in-Some-Param.field-0-is at c.in-Some-Param.ensures in
    rw c.level.ensures.0 (param_below (lent c.args.pool.now) c.args.r (level_row _ c.args.pool.now.sound _ c.requires.0) (sym kind))

pub pp_base-returns-in-Some-Param : goal.pp_base-returns-in-Some-Param
pp_base-returns-in-Some-Param t c =
    let kind = rw c.in-Some-Param.field-0-is at c.in-Some-Param.ensures in
    leaves_as c.pp_name_safe.ensures
    (rw c.level.ensures.0
    (param_emits (lent c.args.pool.now) c.args.r (level_row _ c.args.pool.now.sound _ c.requires.0) (sym kind) c.args.outer _ c.requires.1))

pub pp_base-pp_max-requires : goal.pp_base-pp_max-requires
unfolding max_text bytes encode
pp_base-pp_max-requires t c =
    let kind = rw c.in-Some-Max.field-0-is at c.in-Some-Max.ensures in
    (omega arith, (c.requires.0, omega arith, omega arith, rw (← kind)))

pub pp_base-pp_max-requires-in-Some-IMax : goal.pp_base-pp_max-requires-in-Some-IMax
unfolding max_text bytes encode
pp_base-pp_max-requires-in-Some-IMax t c =
    let kind = rw c.in-Some-IMax.field-0-is at c.in-Some-IMax.ensures in
    (omega arith, (c.requires.0, omega arith, omega arith, rw (← kind)))

pub pp_base-returns-2 : goal.pp_base-returns-2
pp_base-returns-2 t c =
    let small = level_kind_small (lent c.args.pool.now) c.args.pool.now.sound c.args.r c.requires.0 in
    absurd (grind arith)

pub pp_level-returns-then-is_stopped : goal.pp_level-returns-then-is_stopped
pp_level-returns-then-is_stopped t c =
    leaves_same (sym (emit_stopped _ _ (ap not (sym c.is_stopped.ensures ∙ c.if-is_stopped.true))))

pub pp_level-returns-then-eq : goal.pp_level-returns-then-eq
pp_level-returns-then-eq t c =
    let p = lent c.args.pool.now in
    let base = c.level_succs-l.result.base in
    let row = level_row p c.args.pool.now.sound base (omega (arith, c.level_succs-l.ensures.low, c.requires.0)) in
    let zero = level_is _ _ c.level_kind.ensures Zero _ c.eq.ensures c.if-eq.true in
    leaves_as c.put_number.ensures (rw (← c.level_succs-l.ensures.same) (zero_emits p base row zero c.args.outer c.level_succs-l.result.count _ c.requires.1))

pub pp_level-returns : goal.pp_level-returns
pp_level-returns t c =
    let p = lent c.args.pool.now in
    let base = c.level_succs-l.result.base in
    let row = level_row p c.args.pool.now.sound base (omega (arith, c.level_succs-l.ensures.low, c.requires.0)) in
    let other = level_not _ _ c.level_kind.ensures Zero _ c.eq.ensures c.if-eq.false in
    leaves_as c.put_plus.ensures
    (rw (← c.level_succs-l.ensures.same, plus_is p base row other c.level_succs-l.ensures.last c.level_succs-l.result.count))

pub pp_max-pp_level-requires : goal.pp_max-pp_level-requires
pp_max-pp_level-requires t c =
    let b = max_below (lent c.args.pool.now) c.args.r (level_row _ c.args.pool.now.sound _ c.requires.0) c.requires.1 c.requires.2 in
    (omega (arith, c.level-left.ensures.0, b.0), (omega (arith, c.level-left.ensures.0, b.0, c.requires.0), omega arith))

pub pp_max-pp_level-requires-2 : goal.pp_max-pp_level-requires-2
pp_max-pp_level-requires-2 t c =
    let b = max_below (lent c.args.pool.now) c.args.r (level_row _ c.args.pool.now.sound _ c.requires.0) c.requires.1 c.requires.2 in
    (omega (arith, c.level-right.ensures.0, b.1), (omega (arith, c.level-right.ensures.0, b.1, c.requires.0), omega arith))

pub pp_max-returns : goal.pp_max-returns
unfolding bytes encode
pp_max-returns t c =
    let opened = leaves_after (leaves_after c.open_paren.ensures c.put_word.ensures) c.join_word.ensures in
    let left = leaves_after (leaves_after (leaves_after opened c.pp_level.ensures) c.put_join.ensures) c.join_line.ensures in
    let right = leaves_after (leaves_after left c.pp_level-2.ensures) c.put_join-2.ensures in
    leaves_as (leaves_after right c.close_paren.ensures)
    (rw (c.requires.3, c.level-left.ensures.0, c.level-right.ensures.0)
    (max_emits (lent c.args.pool.now) c.args.r (level_row _ c.args.pool.now.sound _ c.requires.0) c.requires.1 c.requires.2 c.args.outer _))

pub put_plus-returns : goal.put_plus-returns
unfolding bytes encode
put_plus-returns t c =
    let base = leaves_after (leaves_after c.open_paren.ensures c.pp_base.ensures) c.join_word.ensures in
    let sum = leaves_after (leaves_after base c.put_number.ensures) c.put_join.ensures in
    leaves_as (leaves_after sum c.close_paren.ensures) (plus_emits c.args.outer _ c.args.count _ c.requires.2)
