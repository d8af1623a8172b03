-- What a test of a document row's kind says of the word that stands for it.
use Prim.Native.Nat.{ℕ}
use mathlib.Core.Bool.{Bool}
use mathlib.Core.Path.{◌≡◌, refl}
use native.Mathlib.Omega.{arith}
use lib.Dec.{eqb}
use denote.Enum.Bare.{sameb}
use denote.Enum.Declared.{tag_of}
use Rattle.std.specs.Prelude.{Option, Some}
use Rattle.std.specs.Option.{option_eq}
use Rattle.document.specs.Codes.{Stands, row_code}
use Rattle.document.specs.declared.kinds.RowKind.{RowKind}
use Rattle.document.specs.declared.kinds.RowKind.TheVariants.{Text, Join, Break, Nest, Group}
use Rattle.document.specs.contracts.kinds.RowKind.{the_type}
use Rattle.pool.proofs.Standing.{Places, kind_test}

place : (k : RowKind) → tag_of the_type k ≡ row_code k
place Text = refl
place Join = refl
place Break = refl
place Nest = refl
place Group = refl

rows_placed : Places the_type row_code 4
rows_placed = record { place = place; low = λ k. grind arith }

pub row_test : (w : ℕ) (o : Option RowKind) → Stands w o → (k : RowKind) (b : Bool) → b ≡ option_eq (sameb the_type) o (Some k) → b ≡ eqb w (row_code k)
row_test w = kind_test the_type row_code 4 w rows_placed
