use Rattle.notation.proofs.HashLaws.{marks_begin, mark_more, mark_next}
use native.Mathlib.Omega.{arith}
use Rattle.notation.proofs.hashes.mark.Goals as goal

pub loop-k-init : goal.loop-k-init
loop-k-init c =
    record { marked = λ k l. absurd (omega arith); place = omega arith; hash = marks_begin c.args.bytes.now c.gap-apart.result; small = omega arith }

pub loop-k-preserved : goal.loop-k-preserved
loop-k-preserved c =
    let bytes = c.args.bytes.now in
    let i = c.loop-k.invariant in
    let next = mark_next bytes c.gap-apart.result c.loop-k.k c.loop-k.at c.min-end.result c.loop-k.hash _ i.place c.min-end.ensures i.hash c.hash_of-hash.ensures.0 in
    record {
      marked = mark_more bytes c.gap-apart.result c.loop-k.marks c.loop-k.k c.loop-k.hash (omega arith) i.marked i.hash;
      place = next.0;
      hash = next.1;
      small = c.hash_of-hash.ensures.1;
    }
