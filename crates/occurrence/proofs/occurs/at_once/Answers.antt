use Rattle.std.proofs.Common.{rules}
use Rattle.occurrence.proofs.SearchLaws.{none_told, last_told, var_told, parts_left}
use Rattle.occurrence.proofs.occurs.at_once.Goals as goal

pub returns-then-loose-i : goal.returns-then-loose-i
returns-then-loose-i c = none_told _ _ _ c.args.pool.now.sound c.requires _ c.expr-loose.ensures.0 c.if-loose-i.true

pub returns-then-loose-i-2 : goal.returns-then-loose-i-2
returns-then-loose-i-2 c = last_told _ _ _ c.args.pool.now.sound c.requires _ c.expr-loose.ensures.0 c.if-loose-i-2.true

pub returns-then-eq : goal.returns-then-eq
returns-then-eq c =
    var_told _ _ _ c.args.pool.now.sound c.requires _ c.expr-loose.ensures.0 c.if-loose-i-2.false c.expr_kind.ensures (search rules)

pub returns : goal.returns
returns c =
    parts_left _ _ _ c.args.pool.now.sound c.requires _ c.expr-loose.ensures.0 c.if-loose-i-2.false c.if-loose-i.false c.expr-loose.ensures.1
