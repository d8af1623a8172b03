-- What the row of a sort, a constant or a literal says of it.
use Prim.Native.Nat.{ℕ, ◌<◌}
use mathlib.Core.Path.{◌≡◌, ap}
use Rattle.document.specs.Walk.{textᵐ}
use Rattle.pool.specs.Tables.{S, N, L, E, expr_word, string_at}
use Rattle.pool.specs.Unfold.{name_at, level_at, expr_at}
use Rattle.pool.proofs.ExprUnfolds.{sort_at, const_at, nat_at, str_at, sort_ok, const_ok, nat_ok, str_ok}
use Rattle.pieces.specs.Docs.{◌⊹◌, quoted}
use Rattle.names.specs.Names.{name_doc}
use Rattle.levels.specs.Levels.{sort_doc}
use Rattle.binders.specs.declared.printer.Printer.{Printer}
use Rattle.binders.specs.Options.{pool_of}
use Rattle.binders.specs.Leaves.{leaf_doc}

module _ (p : Printer) (r : ℕ) (h : r < E (pool_of p).words) where
  abbrev kind : ℕ
  kind = expr_word (pool_of p).words r 0

  abbrev part : ℕ
  part = expr_word (pool_of p).words r 1

  pub sort_row : kind ≡ 1 → part < L (pool_of p).words
  sort_row e = sort_ok (pool_of p) p.pool.sound r h e

  pub const_row : kind ≡ 2 → part < N (pool_of p).names
  const_row e = (const_ok (pool_of p) p.pool.sound r h e).0

  pub nat_row : kind ≡ 8 → part < S (pool_of p).names
  nat_row e = nat_ok (pool_of p) p.pool.sound r h e

  pub str_row : kind ≡ 9 → part < S (pool_of p).names
  str_row e = str_ok (pool_of p) p.pool.sound r h e

  pub sort_leaf : kind ≡ 1 → leaf_doc (expr_at (pool_of p) r) ≡ sort_doc (level_at (pool_of p) part)
  unfolding leaf_doc
  sort_leaf e = ap leaf_doc (sort_at (pool_of p) p.pool.sound r h e)

  pub const_leaf : kind ≡ 2 → leaf_doc (expr_at (pool_of p) r) ≡ quoted "@" ⊹ name_doc (name_at (pool_of p) part)
  unfolding leaf_doc
  const_leaf e = ap leaf_doc (const_at (pool_of p) p.pool.sound r h e)

  pub nat_leaf : kind ≡ 8 → leaf_doc (expr_at (pool_of p) r) ≡ textᵐ (string_at (pool_of p) part)
  unfolding leaf_doc
  nat_leaf e = ap leaf_doc (nat_at (pool_of p) p.pool.sound r h e)

  pub str_leaf : kind ≡ 9 → leaf_doc (expr_at (pool_of p) r) ≡ quoted "\"" ⊹ textᵐ (string_at (pool_of p) part) ⊹ quoted "\""
  unfolding leaf_doc
  str_leaf e = ap leaf_doc (str_at (pool_of p) p.pool.sound r h e)

pub ruleset leaf_rows = (sort_row, const_row, nat_row, str_row, sort_leaf, const_leaf, nat_leaf, str_leaf)
