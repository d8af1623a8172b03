use Rattle.byte_check.proofs.RunLaws.{block_rest, block_inside, block_ascii}
use mathlib.Core.Path.{sym, ◌∙◌}
use Rattle.byte_check.proofs.strings.ascii_blocks.Goals as goal

pub loop-block-preserved : goal.loop-block-preserved
loop-block-preserved c =
    let bs = c.args.bytes.now in
    let e = sym c.loop-block.invariant.1 ∙ c.in-Some.ensures.steps.1.0 in (
      block_inside bs c.loop-block.at _ _ e c.loop-block.invariant.0,
      block_rest bs c.loop-block.at _ _ e,
      block_ascii bs c.loop-block.at _ _ e c.loop-block.invariant.2 (rw (← c.largest.ensures) c.if-largest-ge128.false),
    )
