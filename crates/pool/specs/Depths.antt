-- What the code computes row by row: the depth of a name or level row from the depths of lower rows.
use Rattle.std.specs.Prelude.{ℕ, ◌+◌, max, List, get_or}
use Rattle.pool.specs.Kinds.{NameKind, anonymousᵏ, stringᵏ, numberᵏ, noNameᵏ, LevelKind, zeroᵏ, succᵏ, maxᵏ, imaxᵏ, paramᵏ, noLevelᵏ}
use Rattle.pool.specs.Tables.{name_word, level_word}

unfoldable pub name_depth_by : List ℕ → List ℕ → ℕ → NameKind → ℕ
name_depth_by ns depths r anonymousᵏ = 1
name_depth_by ns depths r stringᵏ = 1 + get_or depths (name_word ns r 1) 0
name_depth_by ns depths r numberᵏ = 1 + get_or depths (name_word ns r 1) 0
name_depth_by ns depths r noNameᵏ = 1

unfoldable pub level_depth_by : List ℕ → List ℕ → ℕ → LevelKind → ℕ
level_depth_by ws depths r zeroᵏ = 1
level_depth_by ws depths r succᵏ = 1 + get_or depths (level_word ws r 1) 0
level_depth_by ws depths r maxᵏ = 1 + max (get_or depths (level_word ws r 1) 0) (get_or depths (level_word ws r 2) 0)
level_depth_by ws depths r imaxᵏ = 1 + max (get_or depths (level_word ws r 1) 0) (get_or depths (level_word ws r 2) 0)
level_depth_by ws depths r paramᵏ = 1
level_depth_by ws depths r noLevelᵏ = 1
