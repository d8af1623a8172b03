use Rattle.names.proofs.Texts.{number_named, hygienic_on, hygienic_here}
use Rattle.names.specs.Names.{is_hygienic}
use native.Mathlib.Omega.{arith}
use mathlib.Core.Path.{sym, ap, ◌∙◌}
use Rattle.names.proofs.names.has_macro_scopes.Goals as goal

pub prefix_of-at-requires : goal.prefix_of-at-requires
prefix_of-at-requires c =
    (c.loop-at.invariant.0, number_named _ (sym c.is_number.ensures ∙ c.loop-at-test.true))

pub loop-at-preserved : goal.loop-at-preserved
loop-at-preserved c = (
  omega (arith, c.prefix_of-at.ensures.1, c.loop-at.invariant.0),
  ap is_hygienic c.prefix_of-at.ensures.0
      ∙ hygienic_on _ (sym c.is_number.ensures ∙ c.loop-at-test.true) ∙ c.loop-at.invariant.1,
)

pub returns : goal.returns
returns c = c.is_hyg.ensures ∙ hygienic_here _ (sym c.is_number.ensures ∙ c.loop-at-test.false) ∙ c.loop-at.invariant.1
