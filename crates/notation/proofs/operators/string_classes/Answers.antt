use Rattle.notation.proofs.StringClasses.{string_law}
use Rattle.notation.proofs.operators.string_classes.Goals as goal

pub classify-requires-clause-law : goal.classify-requires-clause-law
classify-requires-clause-law g c = string_law
