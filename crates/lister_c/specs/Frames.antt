-- The references of the C functions, as their contracts speak of them: a function returns the number v, and leaves what the definition
-- makes of the areas it was lent.
use Rattle.std.specs.Prelude.{List, Result, ◌≡◌, ℕ}
use Rattle.pool_check.specs.declared.PoolError.{PoolError}
use Rattle.basics.specs.Lent.{Area, was, left}
use Rattle.comparison.specs.Call as comparisons
use Rattle.layout.specs.Call as call
use Rattle.layout_pending.specs.Call as pendings
use Rattle.lister.specs.declared.Part.{Part}
use Rattle.lister.specs.Prints as prints
use Rattle.lister.specs.Frames.{lent_areas, left_areas}
use Rattle.lister_c.specs.Reports.{checked, laid, laid_pending, printed, handed, compared}

abbrev pub Checks : Area → ℕ → Result Unit PoolError → Type 0
Checks out v verdict = record { number = v; out = left out } ≡ checked verdict (was out)

abbrev pub LaysOut : Area → Area → ℕ → (List ℕ → call.Outcome) → Type 0
LaysOut listing out v defined = record { number = v; listing = left listing; out = left out } ≡ laid (defined (was listing)) (was out)

abbrev pub LaysOutPending : Area → Area → Area → ℕ → (List ℕ → List ℕ → pendings.Outcome) → Type 0
LaysOutPending pending listing out v defined =
    record { number = v; listing = left listing; pending = left pending; out = left out }
    ≡ laid_pending (defined (was pending) (was listing)) (was out)

abbrev pub Prints : Area → Area → Area → Area → ℕ → (prints.Areas → prints.Outcome) → Type 0
Prints rows text listing out v defined =
    record { number = v; areas = left_areas rows text listing; out = left out }
    ≡ printed (defined (lent_areas rows text listing)) (was out)

abbrev pub HandsOut : Area → ℕ → Part → Type 0
HandsOut out v p = record { number = v; out = left out } ≡ handed p (was out)

abbrev pub ComparesRows : Area → ℕ → comparisons.Answer → Type 0
ComparesRows out v c = record { number = v; out = left out } ≡ compared c (was out)
