use Rattle.notation.proofs.HashLaws.{mark_small, hash_from_mark}
use Rattle.notation.proofs.hashes.hash_before.Goals as goal

pub hash_of-requires : goal.hash_of-requires
hash_of-requires c =
    let r = c.requires in
    mark_small c.args.bytes.now c.args.marks.now c.args.n c.gap-apart.result r.some r.inside r.marks c.gap-apart.ensures

pub returns : goal.returns
returns c =
    let r = c.requires in
    (hash_from_mark c.args.bytes.now c.args.marks.now c.args.n c.gap-apart.result r.some r.inside r.marks c.gap-apart.ensures _ c.hash_of.ensures.0, c.hash_of.ensures.1)
