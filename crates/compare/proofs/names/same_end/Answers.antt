use Rattle.std.proofs.Common.{eq-eqb, ne_eqb}
use Rattle.pool.specs.declared.kinds.NameKind.TheVariants.{String}
use Rattle.compare.specs.Equal.{ends_same}
use Rattle.compare.proofs.NameLaws.{string_rows}
use Rattle.pool.proofs.Standing.{names_placed, kind_is, kind_not}
use Rattle.compare.proofs.names.same_end.Goals as goal

pub same_string-requires : goal.same_string-requires
same_string-requires c =
    let kind = kind_is _ _ _ _ names_placed _ c.requires.kind_is String _ c.eq.ensures c.if-eq.true in
    rw (c.name-string_a.ensures.0, c.name-string_b.ensures.0) (string_rows _ c.args.pool.now.sound _ _ _ c.requires.two kind)

pub returns-then-eq : goal.returns-then-eq
unfolding ends_same
returns-then-eq c =
    let kind = kind_is _ _ _ _ names_placed _ c.requires.kind_is String _ c.eq.ensures c.if-eq.true in
    rw (eq-eqb _ _ kind, ← c.name-string_a.ensures.0, ← c.name-string_b.ensures.0) c.same_string.ensures

pub returns : goal.returns
unfolding ends_same
returns c =
    let other = kind_not _ _ _ _ names_placed _ c.requires.kind_is String _ c.eq.ensures c.if-eq.false in
    rw (ne_eqb _ _ other, c.number_of.ensures, c.number_of-2.ensures)
