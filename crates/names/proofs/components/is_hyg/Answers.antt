use Rattle.pool.specs.Views.{lent}
use Rattle.pool.specs.Tables.{string_at}
use Rattle.pool.specs.declared.kinds.NameKind.TheVariants.{String}
use Rattle.pool.proofs.RowUnfolds.{name_row}
use Rattle.pool.proofs.Standing.{name_is, name_not}
use Rattle.names.proofs.Rows.{fits_by, hyg_not, hyg_is}
use Rattle.names.proofs.components.is_hyg.Goals as goal

pub read_string-requires : goal.read_string-requires
read_string-requires c =
    rw c.name-string.ensures.0 (fits_by (lent c.args.pool.now) c.args.r (name_row _ c.args.pool.now.sound _ c.requires) (name_is _ _ c.kind.ensures String _ c.eq.ensures c.if-eq.true))

pub returns-then-eq : goal.returns-then-eq
unfolding string_at
returns-then-eq c =
    rw (c.is_hyg_text.ensures, c.read_string.ensures, c.name-string.ensures.0)
    (hyg_is (lent c.args.pool.now) c.args.r (name_row _ c.args.pool.now.sound _ c.requires) (name_is _ _ c.kind.ensures String _ c.eq.ensures c.if-eq.true))

pub returns : goal.returns
returns c =
    hyg_not (lent c.args.pool.now) c.args.r (name_row _ c.args.pool.now.sound _ c.requires) (name_not _ _ c.kind.ensures String _ c.eq.ensures c.if-eq.false)
