use Rattle.utf8.proofs.Standard.{utf8_is}
use Rattle.utf8.proofs.is_utf8.Goals as goal

pub returns : goal.returns
returns c = utf8_is _ _ _ c.from_utf8.result _ c.from_utf8.ensures.cases c.is_ok.ensures.value
