use mathlib.Core.Path.{ap, ◌∙◌}
use Prim.Native.Nat.{ℕ}
use lib.ListN.{replicate}
use Rattle.layout.proofs.Answers.{reported-listed}
use Rattle.layout_pending.proofs.Answers.{accepted_lends}
use Rattle.layout_pending.proofs.layout_accepted.Goals as goal

pub lay_out_pending-last-requires : goal.lay_out_pending-last-requires
lay_out_pending-last-requires c = accepted_lends c.args.document.now.accepted c.requires.0 c.requires.1

pub returns : goal.returns
returns c =
    let laid = c.lay_out_pending-last in (
      reported-listed c.args.width _ _ c.args.listing.now _ laid.ensures c.args.document.now.count c.args.document.now.total _ c.report.ensures,
      c.fill.ensures.after (λ y e. e) ∙ ap (λ (n : ℕ). replicate n 0) laid.auto.pending,
    )
