use Rattle.binders.specs.Scopes.{place_in}
use Prim.Native.Nat.{◌≤◌}
use mathlib.Core.Path.{◌≡◌}
use Rattle.binders.proofs.vars.pp_bvar.Given as goal

abbrev pub invariant-loop-at : goal.invariant-loop-at
invariant-loop-at l = record {
  place : place_in l.k l.scope l.i ≡ place_in l.k l.at l.left;
  within : l.at ≤ l.k.count;
  fewer : l.left ≤ l.i;
}

abbrev pub decreases-loop-at : goal.decreases-loop-at
decreases-loop-at l = l.at
