-- 01, From the lent areas: "1 to 6 .. change no area"; nor does 31 of document 02, P5.
use Prim.Native.Nat.{ℕ, ◌≤◌}
use native.Mathlib.Omega.{arith}
use mathlib.Core.Bool.{Bool, true, false, cond}
use mathlib.Core.Logic.{◌⊎◌, inl, inr}
use mathlib.Core.Path.{◌≡◌, refl}
use lib.Dec.{ltb, eqb}
use lib.ListN.{length}
use Rattle.document.specs.Doc.{Doc}
use Rattle.document.specs.Walk.{Marked, unmarked, Progress, going, stopped, walk}
use Rattle.layout.specs.declared.Counts.{Counts}
use Rattle.layout.specs.Call as layout
use Rattle.std.specs.Prelude.{Result, Ok, Err}
use Rattle.pool_check.specs.declared.PoolError.{PoolError}
use Rattle.lister.specs.declared.error.PrintError.TheVariants.{Names, Document, RowArea, TextArea}
use Rattle.lister.specs.Answers.{number, stop_answer, of_laid}
use Rattle.lister.specs.Prints.{Areas, Outcome, untouched, document_cleared, document_listed, after_walk, print_doc, checked}

-- the numbers that are refused before a print begins
abbrev pub Early : ℕ → Type 0
Early n = ((1 ≤ n) × (n ≤ 6)) ⊎ (n ≡ 31)

-- a print that has begun answers none of them: 0, or 7 to 22
unfoldable pub Late : ℕ → Type 0
Late n = (n ≤ 22) × ((1 ≤ n) → (n ≤ 6) → ⊥)

late_stop : (n at : ℕ) → Late (number (stop_answer n at))
unfolding Late stop_answer number
late_stop n at = by (eqb n 7) (eqb n 8) (eqb n 20)
  where
    by : (a b c : Bool) → Late (number (Err (cond a (Names at) (cond b (Document at) (cond c (RowArea at) (TextArea at))))))
    by true b c = (omega arith, λ h k. omega arith)
    by false true c = (omega arith, λ h k. omega arith)
    by false false true = (omega arith, λ h k. omega arith)
    by false false false = (omega arith, λ h k. omega arith)

late_listed : (rows bytes width : ℕ) (d : Doc) (areas : Areas) → Late (number (document_listed rows bytes width d areas).answer)
unfolding Late document_listed layout.listed of_laid number
late_listed rows bytes width d areas = by (ltb (length areas.listing) _) _
  where
    by : (full : Bool) (counts : Counts) → Late (number (of_laid (cond full (layout.refusal 22 0) (Ok counts))))
    by true counts = (omega arith, λ h k. omega arith)
    by false counts = (omega arith, λ h k. omega arith)

late_walk : (p : Progress) (d : Doc) (width : ℕ) (areas : Areas) → Late (number (after_walk p d width areas).answer)
unfolding after_walk document_cleared
late_walk (stopped n at) d width areas = late_stop n at
late_walk (going rows bytes) d width areas = late_listed rows bytes width d areas

pub late_print : (m : Marked) (width : ℕ) (areas : Areas) → Late (number (print_doc m width areas).answer)
unfolding print_doc
late_print m width areas = late_walk (walk (length areas.rows) (length areas.text) m) (unmarked m) width areas

-- "1 to 6 .. change no area", nor does 31
pub early_refusals_change_no_area :
    (v : Result Unit PoolError) (present sizes : Bool) (print : Outcome) (areas : Areas) → Late (number print.answer) →
    Early (number (checked v present sizes print areas).answer) → (checked v present sizes print areas).areas ≡ areas
unfolding checked untouched Late
early_refusals_change_no_area (Err e) present sizes print areas late early = refl
early_refusals_change_no_area (Ok u) true true print areas late (inl h) = absurd (late.1 h.0 h.1)
early_refusals_change_no_area (Ok u) true true print areas late (inr e) = absurd (omega (arith, late.0, e))
early_refusals_change_no_area (Ok u) true false print areas late early = refl
early_refusals_change_no_area (Ok u) false sizes print areas late early = refl
