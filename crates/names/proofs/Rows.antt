-- What the code reads off a name row.
use Prim.Native.Nat.{ℕ, ◌+◌, ◌*◌, ◌^◌, ◌<◌}
use native.Mathlib.Omega.{arith}
use mathlib.Core.Bool.{false}
use mathlib.Core.Path.{◌≡◌, sym, ap, ◌∙◌}
use lib.Dec.{eqb}
use Rattle.utf8.specs.Quoted.{bytes}
use Rattle.utf8.specs.Letterlike.{same_bytes}
use Rattle.pool.specs.Tables.{Pool, name_word, string_at}
use Rattle.pool.specs.Unfold.{name_at}
use Rattle.basics.proofs.Booleans.{true-false}
use Rattle.pool.proofs.RowUnfolds.{NameRow, StringFits, is_anonymous_lem, is_string_lem, is_number_lem}
use Rattle.pieces.specs.Docs.{digits}
use Rattle.names.specs.Names.{is_anonymous, escaped}
use Rattle.names.specs.Components.{prefix_of, component, is_number, is_hyg}

-- ---- what the code reads off a name row

module _ (p : Pool) (r : ℕ) where
  pub anonymous_by : NameRow p r → eqb (name_word p.names r 0) 0 ≡ is_anonymous (name_at p r)
  unfolding is_anonymous
  anonymous_by (is_anonymous_lem k e) = rw (k, e)
  anonymous_by (is_string_lem k l f e) = rw (k, e)
  anonymous_by (is_number_lem k l e) = rw (k, e)

  pub number_by : NameRow p r → eqb (name_word p.names r 0) 2 ≡ is_number (name_at p r)
  unfolding is_number
  number_by (is_anonymous_lem k e) = rw (k, e)
  number_by (is_string_lem k l f e) = rw (k, e)
  number_by (is_number_lem k l e) = rw (k, e)

  pub prefix_by : NameRow p r → is_anonymous (name_at p r) ≡ false
      → (name_at p (name_word p.names r 1) ≡ prefix_of (name_at p r)) × (name_word p.names r 1 < r)
  unfolding is_anonymous prefix_of
  prefix_by (is_anonymous_lem k e) a = true-false (sym (ap is_anonymous e) ∙ a)
  prefix_by (is_string_lem k l f e) a = (rw e, l)
  prefix_by (is_number_lem k l e) a = (rw e, l)

  -- the string of a string's row lies within the byte area
  pub fits_by : NameRow p r → name_word p.names r 0 ≡ 1 → StringFits p (name_word p.names r 2)
  fits_by (is_anonymous_lem k e) q = absurd (omega arith)
  fits_by (is_string_lem k l f e) q = f
  fits_by (is_number_lem k l e) q = absurd (omega arith)

  pub hyg_not : NameRow p r → (name_word p.names r 0 ≡ 1 → ⊥) → false ≡ is_hyg (name_at p r)
  unfolding is_hyg
  hyg_not (is_anonymous_lem k e) q = rw e
  hyg_not (is_string_lem k l f e) q = absurd (q k)
  hyg_not (is_number_lem k l e) q = rw e

  pub hyg_is : NameRow p r → name_word p.names r 0 ≡ 1 → same_bytes (string_at p (name_word p.names r 2)) (bytes "_hyg") ≡ is_hyg (name_at p r)
  unfolding is_hyg
  hyg_is (is_anonymous_lem k e) q = absurd (omega arith)
  hyg_is (is_string_lem k l f e) q = rw e
  hyg_is (is_number_lem k l e) q = absurd (omega arith)

  pub component_string : NameRow p r → name_word p.names r 0 ≡ 1 → escaped (string_at p (name_word p.names r 2)) ≡ component (name_at p r)
  unfolding component
  component_string (is_anonymous_lem k e) q = absurd (omega arith)
  component_string (is_string_lem k l f e) q = rw e
  component_string (is_number_lem k l e) q = absurd (omega arith)

  pub component-number : NameRow p r → is_anonymous (name_at p r) ≡ false → (name_word p.names r 0 ≡ 1 → ⊥)
      → digits (name_word p.names r 2 + name_word p.names r 3 * 2 ^ 32) ≡ component (name_at p r)
  unfolding is_anonymous component
  component-number (is_anonymous_lem k e) a q = true-false (sym (ap is_anonymous e) ∙ a)
  component-number (is_string_lem k l f e) a q = absurd (q k)
  component-number (is_number_lem k l e) a q = rw e
