use Rattle.byte_check.proofs.RunLaws.{valid_none, valid_inside_point, valid_within, valid_past}
use mathlib.Core.Bool.{not}
use mathlib.Core.Path.{sym, ap, ◌∙◌}
use Rattle.byte_check.proofs.strings.is_valid.Goals as goal

pub returns-then-to-from : goal.returns-then-to-from
returns-then-to-from c = valid_none c.args.bytes.now c.args.from c.args.to c.if-to-from.true

pub returns-then-is_follower : goal.returns-then-is_follower
returns-then-is_follower c =
    valid_inside_point c.args.bytes.now c.args.from c.args.to c.if-to-from.false c.requires.1 (sym c.is_follower.ensures ∙ c.if-is_follower.true)

pub returns-then-to-known : goal.returns-then-to-known
returns-then-to-known c =
    ap not c.is_follower-then-to-known.ensures
    ∙ valid_within c.args.bytes.now c.args.from c.args.to c.args.known c.requires.0
    (sym c.is_follower.ensures ∙ c.if-is_follower.false)
    c.if-to-from.false c.if-to-known.true

pub returns : goal.returns
returns c =
    c.is_utf8.ensures
    ∙ valid_past c.args.bytes.now c.args.from c.args.to c.args.known c.requires.0 (sym c.is_follower.ensures ∙ c.if-is_follower.false)
    c.if-to-from.false c.max-unread.result c.if-to-known.false c.max-unread.ensures
