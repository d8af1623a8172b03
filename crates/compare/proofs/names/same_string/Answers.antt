use Rattle.std.proofs.Common.{◌∙◌}
use Rattle.compare.proofs.NameLaws.{strings_same, parts_same_lem}
use Rattle.utf8.proofs.Classes.{same_bytes_is}
use Rattle.compare.proofs.names.same_string.Goals as goal

pub returns-then-a-b : goal.returns-then-a-b
returns-then-a-b c = strings_same c.args.bytes.now c.args.names.now.words.now c.args.a c.args.b c.if-a-b.true

pub returns : goal.returns
returns c =
    parts_same_lem c.args.bytes.now c.args.names.now.words.now c.args.a c.args.b _ _ _ _ _ c.string-x.ensures.0 c.string.ensures.0
    c.string-y.ensures.0 c.string-2.ensures.0 (c.eq.ensures ∙ same_bytes_is _ _)
