use Rattle.byte_check.proofs.NaturalLaws.{natural_empty, natural_by}
use Rattle.std.proofs.Common.{rules}
use mathlib.Core.Path.{◌∙◌}
use Rattle.byte_check.proofs.naturals.is_natural.Goals as goal

pub returns-then-to-from : goal.returns-then-to-from
returns-then-to-from c = natural_empty c.args.bytes.now c.args.from c.args.to c.if-to-from.true

pub returns-then-starts : goal.returns-then-starts
returns-then-starts c =
    natural_by c.args.bytes.now c.args.from c.args.to c.args.run.now c.requires.0 c.requires.1 c.if-to-from.false
    c.if-to-from-eq1.starts _ (search rules) c.if-starts.true

pub returns-else-starts : goal.returns-else-starts
returns-else-starts c =
    c.if-starts.false
    ∙ natural_by c.args.bytes.now c.args.from c.args.to c.args.run.now c.requires.0 c.requires.1 c.if-to-from.false
    c.if-to-from-eq1.starts _ (search rules) c.if-starts.false
