use Rattle.std.proofs.Common.{sym, ◌∙◌}
use Rattle.difference.proofs.WalkLaws.{known_at_once, kinds_at_once, one_kind, fields_at_once, parts_at_once}
use Rattle.difference.proofs.walk.at_once.Goals as goal

pub returns-then-is_plain : goal.returns-then-is_plain
returns-then-is_plain c =
    known_at_once _ c.args.pool.now.sound _ _ _ _ _ c.requires c.if-known.true (sym c.is_plain.ensures ∙ c.if-is_plain.true)

pub returns-then-ne : goal.returns-then-ne
returns-then-ne c = kinds_at_once _ c.args.pool.now.sound _ _ _ _ _ c.requires _ _ c.expr_kind-kind.ensures c.expr_kind.ensures _ c.ne.ensures c.if-ne.true

pub same_fields-requires-clause-same : goal.same_fields-requires-clause-same
same_fields-requires-clause-same c = one_kind _ c.args.pool.now.sound _ c.args.d c.args.c _ _ c.requires _ _ c.expr_kind-kind.ensures c.expr_kind.ensures _ c.ne.ensures c.if-ne.false

pub returns-then-not-same_fields : goal.returns-then-not-same_fields
returns-then-not-same_fields c =
    fields_at_once _ c.args.pool.now.sound _ _ _ _ _ c.requires _ _ c.expr_kind-kind.ensures c.expr_kind.ensures _ c.ne.ensures c.if-ne.false
    _ c.same_fields.ensures c.if-not-same_fields.true

pub returns : goal.returns
returns c =
    parts_at_once _ c.args.pool.now.sound _ _ _ _ _ c.requires _ _ c.expr_kind-kind.ensures c.expr_kind.ensures _ c.ne.ensures c.if-ne.false
    _ c.same_fields.ensures c.if-not-same_fields.false
