-- What the answer means for trees: the call says equal exactly where the trees of the two rows are equal.
use Prim.Native.Nat.{ℕ, suc, ◌<◌}
use native.Mathlib.Omega.{arith}
use mathlib.Core.List.{List}
use mathlib.Core.Path.{◌≡◌, sym, ap, ◌∙◌}
use Rattle.pool.specs.Tables.{Pool, E, pool}
use Rattle.pool.specs.Sound.{Sound}
use Rattle.pool.specs.Tree.{Expr, forget, same}
use Rattle.pool.specs.Unfold.{expr_at}
use Rattle.pool.proofs.TreeLaws.{lift_none, same_forgets, forgets_same}
use Rattle.difference.specs.Order.{equal, first_pair}
use Rattle.difference.proofs.OrderLaws.{is_equal, equal_is, equal_trees}

module _ (bs ws : List ℕ) (sound : Sound (pool bs ws)) (a b : ℕ) (ha : a < E ws) (hb : b < E ws) where
  abbrev p : Pool
  p = pool bs ws

  says_equal : is_equal (first_pair p 0 a b) ≡ same (expr_at p a) (expr_at p b)
  unfolding first_pair
  says_equal =
      equal_trees p sound (suc a) 0 0 a b ha hb (omega arith) ∙ ap (λ (e : Expr). same e (expr_at p b)) (lift_none 0 (expr_at p a))

  -- "A tree is a root's full unfolding": two trees are equal once their places are forgotten
  pub equal_where_trees_are : forget (expr_at p a) ≡ forget (expr_at p b) → first_pair p 0 a b ≡ equal
  equal_where_trees_are e = equal_is _ (says_equal ∙ forgets_same (expr_at p a) (expr_at p b) e)

  pub trees_are_equal : first_pair p 0 a b ≡ equal → forget (expr_at p a) ≡ forget (expr_at p b)
  unfolding is_equal
  trees_are_equal e = same_forgets (expr_at p a) (expr_at p b) (sym says_equal ∙ ap is_equal e)
