use Rattle.binders.proofs.chain.is_binder_at.Goals as goal

pub returns : goal.returns
returns c = c.is_binder.ensures _ c.expr_kind.ensures
