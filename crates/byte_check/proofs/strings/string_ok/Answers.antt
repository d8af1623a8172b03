use Rattle.byte_check.proofs.RunLaws.{string_outside, string_falls, string_is, string_ascii}
use Rattle.pool.specs.Views.{read}
use Rattle.byte_check.proofs.strings.string_ok.Goals as goal

pub returns-then-pool-end : goal.returns-then-pool-end
returns-then-pool-end c = string_outside (read c.args.pool.now) c.args.r _ c.string_end-end.ensures.0 c.if-pool-end.true

pub returns-then-offset-last : goal.returns-then-offset-last
returns-then-offset-last c =
    string_falls (read c.args.pool.now) c.args.r _ c.string_end-end.ensures.0
    c.if-pool-end.false _ _ c.string-offset.ensures.0 c.requires.1 c.if-offset-last.true

pub returns-then-end-ascii : goal.returns-then-end-ascii
returns-then-end-ascii c =
    string_ascii (read c.args.pool.now) c.args.r _ c.string_end-end.ensures.0
    c.if-pool-end.false _ _ c.string-offset.ensures.0 c.requires.1 c.if-offset-last.false _ c.requires.2 c.if-end-ascii.true

pub returns : goal.returns
returns c =
    string_is (read c.args.pool.now) c.args.r _ c.string_end-end.ensures.0
    c.if-pool-end.false _ _ c.string-offset.ensures.0 c.requires.1 _ c.if-offset-last.false c.is_valid.ensures
