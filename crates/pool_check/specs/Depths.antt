-- The tables whose rows have a depth of at most 64: the names and the levels. The laws are proved in pool/proofs: an implementation gives
-- them by name, so they stand here.
use Rattle.std.specs.Prelude.{◌≡◌, ℕ, ◌+◌, ◌<◌, Bool, true, ◌&&◌, List, Option, get_or, leb}
use Rattle.std.specs.Bool.{then_some}
use Rattle.pool.specs.Tables.{Pool, N, L, name_word, level_word}
use Rattle.pool.specs.Kinds.{name_kind, level_kind}
use Rattle.pool.specs.Rules.{name_fields_ok, level_fields_ok}
use Rattle.pool.specs.Depths.{name_depth_by, level_depth_by}
use Rattle.pool.specs.Tree.{name_depth, level_depth}
use Rattle.pool.specs.Unfold.{name_at, level_at}
use Rattle.pool.proofs.Unfolds.{name_depth_told, level_depth_told}

pub record DeepTable : Type 0 where
  pub count : Pool → ℕ
  pub fields_ok : Pool → ℕ → Bool
  pub depth : Pool → ℕ → ℕ
  -- the depth of a row from a list of those of lower rows
  pub depth_by : Pool → List ℕ → ℕ → ℕ

-- a row keeps its rules
abbrev pub row_ok : DeepTable → Pool → ℕ → Bool
row_ok t p r = t.fields_ok p r && leb (t.depth p r) 64

-- the depth of a row, from a list of those of lower rows, where its fields are right
abbrev pub asked : DeepTable → Pool → List ℕ → ℕ → Option ℕ
asked t p depths r = then_some (t.fields_ok p r) (t.depth_by p depths r)

-- the depths of lower rows tell that of a row, where its fields and theirs are right
abbrev pub DepthTold : DeepTable → Type 0
DepthTold t = (p : Pool) (depths : List ℕ) (r : ℕ) → ((j : ℕ) → j < r + 1 → t.fields_ok p j ≡ true)
    → ((j : ℕ) → j < r → get_or depths j 0 ≡ t.depth p j) → t.depth_by p depths r ≡ t.depth p r

abbrev pub name_table : DeepTable
name_table = record {
  count = λ p. N p.names;
  fields_ok = λ p r. name_fields_ok p.names r (name_kind (name_word p.names r 0));
  depth = λ p r. name_depth (name_at p r);
  depth_by = λ p depths r. name_depth_by p.names depths r (name_kind (name_word p.names r 0));
}

pub name_law : DepthTold name_table
name_law = name_depth_told

abbrev pub level_table : DeepTable
level_table = record {
  count = λ p. L p.words;
  fields_ok = λ p r. level_fields_ok p r (level_kind (level_word p.words r 0));
  depth = λ p r. level_depth (level_at p r);
  depth_by = λ p depths r. level_depth_by p.words depths r (level_kind (level_word p.words r 0));
}

pub level_law : DepthTold level_table
level_law = level_depth_told
