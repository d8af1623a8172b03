use Rattle.pool.specs.Views.{read}
use Rattle.notation.proofs.StringClasses.{string_inside, string_hash_is}
use mathlib.Core.Path.{refl}
use native.Mathlib.Omega.{arith}
use Rattle.notation.proofs.strings.StringRowsClasses.hash.Goals as goal

pub part_hash-requires-clause-inside : goal.part_hash-requires-clause-inside
part_hash-requires-clause-inside c =
    let inside = string_inside (read c.args.pool.now) c.args.r (c.requires.right.strings c.args.r c.requires.row) in
    omega arith

pub returns : goal.returns
returns c =
    string_hash_is (read c.args.pool.now) c.args.r (c.requires.right.strings c.args.r c.requires.row) c.string-from.result _ c.string-size.result _
    c.string-from.ensures.0 c.string-size.ensures.0 refl c.part_hash.ensures.0
