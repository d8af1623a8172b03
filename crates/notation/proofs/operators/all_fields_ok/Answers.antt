use Rattle.pool.specs.Views.{read}
use Rattle.pool.specs.Notation.{notation_ok}
use Rattle.notation.proofs.Owning.{found_bad, fields_wrong}
use mathlib.Core.Path.{sym, ◌∙◌}
use native.Mathlib.Omega.{arith}
use Rattle.notation.proofs.operators.all_fields_ok.Goals as goal

pub returns-then-not-fields_ok-clause-wrong : goal.returns-then-not-fields_ok-clause-wrong
returns-then-not-fields_ok-clause-wrong c =
    let p = read c.args.pool.now in
    λ h. found_bad (notation_ok p) _ c.loop-r.r (omega (arith, c.type_inv.pool)) (fields_wrong p _ (sym c.fields_ok.ensures ∙ c.if-not-fields_ok.true))
