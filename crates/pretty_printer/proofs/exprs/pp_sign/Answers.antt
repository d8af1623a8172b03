use Rattle.binders.specs.Options.{pool_of}
use Rattle.pretty_printer.proofs.OperatorRows.{notation_fields}
use Rattle.pretty_printer.proofs.exprs.pp_sign.Goals as goal

pub pp_raw-requires : goal.pp_raw-requires
pp_raw-requires c =
    let fields = notation_fields (pool_of c.args.p.now) c.args.p.now.pool.sound c.args.row c.requires in
    rw c.notation-string.ensures.0 fields.4
