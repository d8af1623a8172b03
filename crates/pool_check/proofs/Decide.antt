-- What the answer on a row of a deep table says of its rules and of its depth.
use Prim.Native.Nat.{ℕ, ◌<◌}
use mathlib.Core.Bool.{Bool, true, false}
use mathlib.Core.List.{List}
use mathlib.Core.Path.{◌≡◌, refl, ◌∙◌}
use lib.Dec.{leb}
use lib.ListN.{get_or}
use borrow.Author.Count.{below_more}
use Rattle.std.specs.Prelude.{None, Some}
use Rattle.std.specs.Bool.{then_some}
use Rattle.basics.proofs.Booleans.{and_left}
use Rattle.pool.specs.Tables.{Pool}
use Rattle.pool_check.specs.Depths.{DeepTable, DepthTold, row_ok, asked}

fields_right : (right : Bool) (d depth : ℕ) → Some d ≡ then_some right depth → (right ≡ true) × (d ≡ depth)
fields_right true d depth e = (refl, cc)
fields_right false d depth e = absurd (cc)

fields_wrong : (right : Bool) (depth : ℕ) → None ≡ then_some right depth → right ≡ false
fields_wrong true depth e = absurd (cc)
fields_wrong false depth e = refl

-- the rows below row r keep their rules, and the list has their depths
pub record Below (t : DeepTable) (p : Pool) (depths : List ℕ) (r : ℕ) : Type 0 where
  pub right : (j : ℕ) → j < r → row_ok t p j ≡ true
  pub known : (j : ℕ) → j < r → get_or depths j 0 ≡ t.depth p j

module _ (t : DeepTable) (p : Pool) (depths : List ℕ) (r : ℕ) where
  pub row_wrong : None ≡ asked t p depths r → row_ok t p r ≡ false
  row_wrong e = rw (fields_wrong _ _ e)

  pub row_told : DepthTold t → Below t p depths r → (d : ℕ) → Some d ≡ asked t p depths r → (row_ok t p r ≡ leb d 64) × (d ≡ t.depth p r)
  row_told law below d e =
      let here = fields_right _ _ _ e in
      let depth : d ≡ t.depth p r = here.1 ∙ law p depths r (below_more _ r (λ j l. and_left _ _ (below.right j l)) here.0) below.known in
      (rw (here.0, ← depth), depth)
