use Rattle.pool.specs.Views.{read}
use Rattle.notation.proofs.NameClasses.{name_law}
use Rattle.notation.proofs.Owning.{entries_are}
use Rattle.notation.proofs.operators.operators.Goals as goal

pub classify-requires-clause-law : goal.classify-requires-clause-law
classify-requires-clause-law g c = name_law

pub returns-clause-table : goal.returns-clause-table
returns-clause-table g c =
    λ h. entries_are (read c.args.pool.now) c.requires.fields _ c.classify.ensures _ (c.owners_of.ensures.owned c.if-not-owners_of.false) _ c.spread.ensures
