use Rattle.lister.proofs.Finishing.{stop_finishes, layout_finishes, done_laid, refused_laid}
use Rattle.lister.proofs.checked.finish.Goals as goal

pub returns-in-Some : goal.returns-in-Some
returns-in-Some c = stop_finishes _ _ _ _ c.in-Some.is _ c.from.ensures _ _ c.clear.ensures.0 c.clear.ensures.1

pub returns-in-Ok : goal.returns-in-Ok
returns-in-Ok c = layout_finishes _ _ _ c.in_default.is _ _ _ c.layout_accepted.ensures (done_laid _ _ c.in-Ok.is)

pub returns-in-Err : goal.returns-in-Err
returns-in-Err c = layout_finishes _ _ _ c.in_default.is _ _ _ c.layout_accepted.ensures (refused_laid _ _ c.in-Err.is)
