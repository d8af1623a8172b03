-- Document 02, P8: "Index 65,535 is to print `.65536`, and check accepts it; 65,536 is refused 4", computed by the definitions.
use Rattle.std.specs.Prelude.{ℕ, [], ◌∷◌, ◌++◌, ◌≡◌, refl, replicate, Ok, Err}
use Rattle.utf8.specs.Quoted.{bytes}
use Rattle.pool_check.specs.declared.PoolError.TheVariants.{Rows}
use Rattle.declarations.specs.declared.listing.Root.TheVariants.{Expr, Declar}
use Rattle.lister.specs.declared.error.PrintError.TheVariants.{Pool}
use Rattle.lister.specs.Source.{Source, judged_with, judged}
use Rattle.lister.specs.Prints.{Areas, print_with, print_expr, print_declar, untouched}
use Rattle.lister.specs.LastProjection.{last_before}
use Rattle.specimens.specs.Refusals.{pool}
use Rattle.specimens.specs.Computing.{computing}

-- a string, two names, an empty list, the constant s, its projection with an index, and an axiom s of that type
unfoldable pub projection : ℕ → Source
projection index =
    record {
      bytes = bytes "s";
      words =
          pool 1 2 0 1 0 2 1
          ((0 ∷ 1 ∷ [])
          ++ (0 ∷ 0 ∷ 0 ∷ 0 ∷ 1 ∷ 0 ∷ 0 ∷ 0 ∷ [])
          ++ (0 ∷ 0 ∷ [])
          ++ (2 ∷ 1 ∷ 0 ∷ 0 ∷ 0 ∷ 0 ∷ 1 ∷ 0 ∷ [])
          ++ (7 ∷ 1 ∷ index ∷ 0 ∷ 0 ∷ 0 ∷ 2 ∷ 0 ∷ [])
          ++ (0 ∷ 1 ∷ 0 ∷ 1 ∷ 0 ∷ []));
    }

pub lent : Areas
lent = record { rows = replicate 350 0; text = replicate 50 0; listing = replicate 18 0 }

pub last_but_one_is_listed : (print_expr (projection 65534) 1 2 120 lent).areas.listing ≡ bytes "@s.65535" ++ replicate 10 0
unfolding computing projection lent
last_but_one_is_listed = refl

pub last_is_accepted : judged (projection 65535) ≡ Ok tt
unfolding computing projection
last_is_accepted = refl

pub last_is_listed : (print_expr (projection 65535) 1 2 120 lent).areas.listing ≡ bytes "@s.65536" ++ replicate 10 0
unfolding computing projection lent
last_is_listed = refl

pub last_is_listed_in_an_axiom : (print_declar (projection 65535) 0 2 120 lent).areas.listing ≡ bytes "axiom s : @s.65536"
unfolding computing projection lent
last_is_listed_in_an_axiom = refl

pub next_is_refused : judged (projection 65536) ≡ Err (Rows 1)
unfolding computing projection
next_is_refused = refl

-- the last index was refused before, so what is said of pools without it does not hold of all
pub last_was_refused : judged_with last_before (projection 65535) ≡ Err (Rows 1)
unfolding computing projection
last_was_refused = refl

pub last_was_not_listed : print_with last_before (projection 65535) (Expr 1) 2 120 lent ≡ untouched (Err (Pool (Rows 1))) lent
unfolding computing projection lent
last_was_not_listed = refl

pub last_was_not_listed_in_an_axiom : print_with last_before (projection 65535) (Declar 0) 2 120 lent ≡ untouched (Err (Pool (Rows 1))) lent
unfolding computing projection lent
last_was_not_listed_in_an_axiom = refl
