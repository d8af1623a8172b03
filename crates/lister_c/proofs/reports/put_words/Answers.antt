use native.Mathlib.Omega.{arith}
use Rattle.std.proofs.Common.{rules}
use mathlib.Core.Path.{ap, ◌∙◌}
use mathlib.Core.List.{List, ◌++◌}
use Prim.Native.Nat.{ℕ}
use lib.ListN.{drop}
use Rattle.lister_c.proofs.Stores.{untouched, stored}
use Rattle.lister_c.proofs.reports.put_words.Goals as goal

pub returns-then-out-ge8 : goal.returns-then-out-ge8
returns-then-out-ge8 c =
    ap (λ (w : List ℕ). w ++ drop 8 c.args.out.now) c.copy_from_slice.ensures.after ∙ stored c.args.out.now c.args.words.now (omega (arith, c.if-out-ge8.true))

pub returns-else-out-ge8 : goal.returns-else-out-ge8
returns-else-out-ge8 c = untouched c.args.out.now c.args.words.now (omega (arith, c.if-out-ge8.false))
