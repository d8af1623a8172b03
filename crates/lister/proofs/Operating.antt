-- The table of operators of a checked pool.
use Prim.Native.Nat.{ℕ}
use mathlib.Core.Bool.{true}
use mathlib.Core.List.{[]}
use mathlib.Core.Path.{◌≡◌, ap}
use Rattle.std.specs.Prelude.{is_none}
use Rattle.byte_check.specs.Scan.{found}
use Rattle.byte_check.proofs.Scan.{found_none}
use Rattle.pool.specs.Notation.{notation_fields_ok, notation_ok}
use Rattle.pool.specs.Sound.{Sound}
use Rattle.pool.specs.Tables.{Pool, T}
use Rattle.basics.proofs.Booleans.{and_left}
use Rattle.declarations.specs.declared.listing.Root.{Root}
use Rattle.notation.specs.Classes.{NamesRight}
use Rattle.notation.specs.Tables.{FieldsRight, Operators, entry_from}
use Rattle.lister.specs.Stages.{Begins}

module _ (p : Pool) (sound : Sound p) where
  pub names_right : (root : Root) (indent width : ℕ) → Begins p root indent width → NamesRight p
  names_right root indent width b =
      record { strings = sound.strings; names = sound.names; few_strings = b.few_strings; few_names = b.few; few_notation = b.few_notation }

  pub fields_right : FieldsRight p
  unfolding notation_ok
  fields_right r h = and_left (notation_fields_ok p r) _ (sound.notation r h)

  -- no name is given twice
  pub given_once : true ≡ is_none (found (notation_ok p) (T p.words))
  given_once = ap is_none (found_none (notation_ok p) (T p.words) sound.notation)

-- where there is no notation, an empty table has all operators
pub no_operators : (p : Pool) → T p.words ≡ 0 → Operators p []
unfolding entry_from
no_operators p e r h = rw e
