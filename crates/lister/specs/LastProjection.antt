-- Document 02, P8: "Listings of pools without it remain the same."
use Rattle.std.specs.Prelude.{ℕ, ◌<◌, List, ◌≡◌}
use Rattle.pool.specs.Kinds.{expr_kind, projᵏ}
use Rattle.pool.specs.Tables.{E, expr_word}
use Rattle.pool.specs.Rules.{last_projection}
use Rattle.declarations.specs.declared.listing.Root.{Root}
use Rattle.lister.specs.Source.{Source, judged_with, judged}
use Rattle.lister.specs.Prints.{Areas, print_with, print}

-- 01: "projection index at most 65,534"
abbrev pub last_before : ℕ
last_before = 65534

-- "pools without it": no expression row is a projection of that index
abbrev pub Without : List ℕ → Type 0
Without ws = (r : ℕ) → r < E ws → expr_kind (expr_word ws r 0) ≡ projᵏ → expr_word ws r 2 ≡ last_projection → ⊥

-- a pool that is accepted or refused, and listed, as it was before
pub record AsBefore (source : Source) : Type 0 where
  pub checked : judged source ≡ judged_with last_before source
  pub printed : (root : Root) → (indent width : ℕ) → (areas : Areas)
      → print source root indent width areas ≡ print_with last_before source root indent width areas
