use Rattle.document.proofs.Leaving.{leaves_as}
use Rattle.pool.specs.Views.{lent}
use Rattle.pool.specs.Tables.{string_at}
use Rattle.pool.specs.declared.kinds.NameKind.TheVariants.{String}
use Rattle.pool.proofs.Standing.{name_is, name_not}
use Rattle.pool.proofs.RowUnfolds.{name_row}
use Rattle.names.proofs.Rows.{fits_by, component_string, component-number}
use Rattle.names.proofs.components.put_component.Goals as goal

pub read_string-requires : goal.read_string-requires
read_string-requires c =
    rw c.name-low.ensures.0 (fits_by (lent c.args.pool.now) c.args.r (name_row _ c.args.pool.now.sound _ c.requires.0) (name_is _ _ c.kind.ensures String _ c.eq.ensures c.if-eq.true))

pub returns-then-eq : goal.returns-then-eq
unfolding string_at
returns-then-eq c =
    leaves_as c.put_escaped.ensures
    (rw (
      c.read_string.ensures,
      c.name-low.ensures.0,
      component_string (lent c.args.pool.now) c.args.r (name_row _ c.args.pool.now.sound _ c.requires.0) (name_is _ _ c.kind.ensures String _ c.eq.ensures c.if-eq.true),
    ))

pub returns : goal.returns
returns c =
    leaves_as c.put_digits.ensures
    (rw (
      c.name-low.ensures.0,
      c.name-high.ensures.0,
      component-number (lent c.args.pool.now) c.args.r (name_row _ c.args.pool.now.sound _ c.requires.0) c.requires.1 (name_not _ _ c.kind.ensures String _ c.eq.ensures c.if-eq.false),
    ))
