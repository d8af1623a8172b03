use Rattle.pool.specs.Tables.{string_at, string_word}
use Rattle.pool.proofs.Clips.{part_clip}
use Rattle.pool.proofs.pool.string_at.Goals as goal

pub returns : goal.returns
unfolding string_at
returns c =
    let ns = c.args.names.now.words.now in
    λ ws.
    part_clip c.args.bytes.now (string_word ns c.args.r 0) (string_word ns c.args.r 1) c.min-from.result c.min-to.result
    (rw (c.min-from.ensures, c.string-offset.ensures.0))
    (rw (c.min-to.ensures, c.string-offset.ensures.0, c.string-size.ensures.0))
