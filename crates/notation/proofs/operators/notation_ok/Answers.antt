use Rattle.pool.specs.Views.{read}
use Rattle.pool.specs.Tables.{T}
use Rattle.pool.specs.Notation.{notation_ok}
use Rattle.notation.proofs.Owning.{found_right}
use mathlib.Core.Path.{◌≡◌}
use native.Mathlib.Omega.{arith}
use Rattle.notation.proofs.operators.notation_ok.Goals as goal

pub returns-then-pool-eq0 : goal.returns-then-pool-eq0
returns-then-pool-eq0 c =
    let p = read c.args.pool.now in
    let none : T p.words ≡ 0 = omega (arith, c.type_inv.pool) in
    found_right (notation_ok p) _ (λ k l. absurd (omega arith))
