use Rattle.pool.specs.Views.{read}
use Rattle.notation.proofs.StringClasses.{string_inside, rises, lengths_differ, parts_tell}
use native.Mathlib.Omega.{arith}
use Rattle.notation.proofs.strings.StringRowsClasses.same.Goals as goal

pub returns-then-string-size-clause-same : goal.returns-then-string-size-clause-same
returns-then-string-size-clause-same c =
    let r = c.requires in
    lengths_differ (read c.args.pool.now) r.lower.right c.args.c c.args.r r.below r.lower.row _ _ c.string.ensures.0 c.string-size.ensures.0 c.if-string-size.true

pub overflow_sub-string : goal.overflow_sub-string
overflow_sub-string c =
    let rise = rises (read c.args.pool.now) c.requires.lower.right c.args.c c.args.r (omega arith) c.requires.lower.row in
    omega arith

pub same-requires-clause-inside : goal.same-requires-clause-inside
same-requires-clause-inside c =
    let p = read c.args.pool.now in
    let rise = rises p c.requires.lower.right c.args.c c.args.r (omega arith) c.requires.lower.row in
    let inside = string_inside p c.args.r (c.requires.lower.right.strings c.args.r c.requires.lower.row) in
    omega arith

pub returns-clause-same : goal.returns-clause-same
returns-clause-same c =
    let r = c.requires in
    parts_tell (read c.args.pool.now) r.lower.right c.args.c c.args.r r.below r.lower.row _ _ _ _ c.string-from.ensures.0 c.string-2.ensures.0 c.string.ensures.0
    c.string-size.ensures.0 c.if-string-size.false _ c.same.ensures.same
