-- The references of a call, as the contracts speak of them.
use Rattle.std.specs.Prelude.{◌≡◌}
use Rattle.basics.specs.Lent.{Area, Shared, was, left, held}
use Rattle.lister.specs.declared.source.Source.{Source as Given}
use Rattle.lister.specs.Answers.{Answer}
use Rattle.lister.specs.Source.{Source}
use Rattle.lister.specs.Prints.{Areas, Outcome}

-- what a call is given, as a struct and one by one
abbrev pub given : Given → Source
given source = record { bytes = source.bytes.now; words = source.words.now }

abbrev pub given_both : Shared → Shared → Source
given_both bytes words = record { bytes = held bytes; words = held words }

-- the lent areas, before and after the call
abbrev pub lent_areas : Area → Area → Area → Areas
lent_areas rows text listing = record { rows = was rows; text = was text; listing = was listing }

abbrev pub left_areas : Area → Area → Area → Areas
left_areas rows text listing = record { rows = left rows; text = left text; listing = left listing }

-- the call answers v, and with the areas it leaves that is what the definition makes of the areas it was lent
abbrev pub Prints : Area → Area → Area → Answer → (Areas → Outcome) → Type 0
Prints rows text listing v defined = record { answer = v; areas = left_areas rows text listing } ≡ defined (lent_areas rows text listing)
