use Rattle.declarations.proofs.DeclarLaws.{chain_alone}
use Rattle.declarations.proofs.declars.chain_stack.Goals as goal

pub returns : goal.returns
returns c = chain_alone _ _ _ c.requires.0 c.empty-k.ensures.1 c.push_chain.ensures
