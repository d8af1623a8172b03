use Rattle.binders.proofs.leaves.is_leaf_at.Goals as goal

pub returns : goal.returns
returns c = c.is_leaf.ensures _ c.expr_kind.ensures
