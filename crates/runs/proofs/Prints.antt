-- A print of a root is the call of its kind.
use Prim.Native.Nat.{ℕ}
use mathlib.Core.Path.{◌≡◌, refl}
use Rattle.lister.specs.Source.{Source}
use Rattle.lister.specs.Prints.{Areas, print}
use Rattle.third_property.specs.ThirdProperty.{call}
use Rattle.runs.specs.declared.kind.Kind.{Kind}
use Rattle.runs.specs.declared.kind.Kind.TheVariants.{Expression, Declaration}
use Rattle.runs.specs.Calls.{print_of, root_of}

pub call_is : (k : Kind) (s : Source) (row indent width : ℕ) (areas : Areas)
    → print s (root_of k row) indent width areas ≡ call (print_of k) s row indent width areas
unfolding call
call_is Expression s row indent width areas = refl
call_is Declaration s row indent width areas = refl
