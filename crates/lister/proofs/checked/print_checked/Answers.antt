use Rattle.pool.specs.Views.{lent}
use Rattle.lister.proofs.Operating.{no_operators}
use native.Mathlib.Omega.{arith}
use Rattle.lister.proofs.checked.print_checked.Goals as goal

pub print_with-requires-clause-told : goal.print_with-requires-clause-told
print_with-requires-clause-told c = no_operators (lent c.args.pool) (omega (arith, c.args.pool.words.found, c.if-pool-eq0.true))
