-- A run as the contract of a function speaks of it: what the references of its call were, and are.
use Rattle.std.specs.Prelude.{ℕ, true, ◌≡◌}
use Rattle.basics.specs.Lent.{Area}
use Rattle.declarations.specs.declared.listing.Root.{Root}
use Rattle.declarations.specs.declared.listing.Root.TheVariants.{Expr, Declar}
use Rattle.lister.specs.Answers.{Answer}
use Rattle.lister.specs.Frames.{given, lent_areas, left_areas}
use Rattle.lister.specs.Prints.{sizes_ok}
use Rattle.third_property.specs.ThirdProperty.{Print, expression, declaration, Run, Rooted, OneRun}
use Rattle.runs.specs.declared.Call.{Call}
use Rattle.runs.specs.declared.kind.Kind.{Kind}
use Rattle.runs.specs.declared.kind.Kind.TheVariants.{Expression, Declaration}
use Rattle.third_property.specs.Success.{Decided}

-- the print of a kind, and the root at a row
abbrev pub print_of : Kind → Print
print_of Expression = expression
print_of Declaration = declaration

abbrev pub root_of : Kind → ℕ → Root
root_of Expression row = Expr row
root_of Declaration row = Declar row

abbrev pub run_with : (k : Print) → Call → Area → Area → Area → Answer → Run k
run_with k call rows text listing v =
    record {
      source = given call.source;
      root = call.root;
      indent = call.indent;
      width = call.width;
      lent = lent_areas rows text listing;
      answer = v;
      left = left_areas rows text listing;
    }

-- what holds of one call: its clauses of the third property, and when it succeeds
pub record OneCall {k : Print} (r : Run k) : Type 0 where
  pub property : OneRun r
  pub decided : Rooted r → sizes_ok r.indent r.width ≡ true → Decided r
