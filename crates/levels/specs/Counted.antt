-- What the printers of levels read off a row: a level as so many successors of another that is none, and the word of a max.
use Rattle.std.specs.Prelude.{ℕ, ◌+◌, ◌≤◌, List, cond, eqb, ◌≡◌}
use Rattle.utf8.specs.Quoted.{bytes}
use Rattle.pool.specs.Tables.{Pool, level_word}
use Rattle.pool.specs.Unfold.{level_at}
use Rattle.levels.specs.declared.levels.Succs.{Succs}
use Rattle.levels.specs.Levels.{succs_par}

pub record Counted (p : Pool) (r : ℕ) (v : Succs) : Type 0 where
  pub low : v.base + v.count ≤ r
  pub last : level_word p.words v.base 0 ≡ 1 → ⊥
  pub same : succs_par (level_at p v.base) v.count ≡ succs_par (level_at p r) 0

-- the word of a level of kind 2 or 3
unfoldable pub max_text : ℕ → List ℕ
max_text k = cond (eqb k 2) (bytes "max") (bytes "imax")
