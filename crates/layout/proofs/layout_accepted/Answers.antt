use Rattle.std.proofs.Common.{rules}
use Rattle.layout.proofs.Answers.{begun_room, begun_emitted, begun_listed}
use Rattle.layout.proofs.layout_accepted.Goals as goal

pub lay_out-requires : goal.lay_out-requires
lay_out-requires c = begun_room c.args.document.now.accepted c.requires c.new-listing.ensures

pub returns : goal.returns
returns c =
    let accepted = c.args.document.now.accepted in
    let begins = c.new-listing.ensures in
    begun_listed accepted c.requires begins c.lay_out.new.listing (begun_emitted accepted c.requires begins c.lay_out.ensures) c.report.ensures (search rules)
