-- The number and the place of what stops a walk, as `step` of Walk has them.
use Rattle.std.specs.Prelude.{ℕ}
use Rattle.document.specs.declared.written.Stop.{Stop}
use Rattle.document.specs.declared.written.Stop.TheVariants.{Names, Document, RowArea, TextArea}

abbrev pub number_of : Stop → ℕ
number_of (Names row) = 7
number_of (Document rows) = 8
number_of (RowArea rows) = 20
number_of (TextArea rows) = 21

abbrev pub place_of : Stop → ℕ
place_of (Names row) = row
place_of (Document rows) = rows
place_of (RowArea rows) = rows
place_of (TextArea rows) = rows
