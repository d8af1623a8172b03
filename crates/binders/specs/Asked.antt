-- What the printers ask: of the pool, of the stack and the scope, and of the row.
use Rattle.std.specs.Prelude.{ℕ, suc, ◌+◌, ◌-◌, ◌<◌, ◌≤◌, ◌≡◌, Bool}
use Rattle.pool.specs.Tables.{Pool, E}
use Rattle.pool.specs.Tree.{Expr}
use Rattle.pool.specs.Unfold.{expr_at}
use Rattle.binders.specs.Steps.{first_binder, run_length, part_length, group_length, drop_chain}
use Rattle.binders.specs.declared.stack.Stack.{Stack}
use Rattle.binders.specs.Scopes.{Held, Grown, Chained}

-- a row to be printed in a scope
pub record Asked (p : Pool) (k : Stack) (h r : ℕ) : Type 0 where
  pub held : Held p k
  pub scope : h ≤ k.count
  pub row : r < E p.words

-- a chain's names were put on the stack k, in the scope h
pub record ChainPushed (p : Pool) (k : Stack) (h : ℕ) (e : Expr) (l : Stack) : Type 0 where
  pub grown : Grown k l
  pub held : Held p l
  pub chained : Chained p l h k.count e

-- the run that starts at row r ends before a row, after so many binders
pub record RunEnd (p : Pool) (c : Bool) (r row count : ℕ) : Type 0 where
  pub length : count ≡ run_length c (expr_at p r)
  pub tree : expr_at p row ≡ drop_chain count (expr_at p r)
  pub low : row + count ≤ r

-- the group that the binder at row r starts, among n binders, ends before a row, after so many
pub record GroupEnd (p : Pool) (n r row count : ℕ) : Type 0 where
  pub length :
      count
      ≡ suc (group_length (n - 1) (first_binder (expr_at p r)).style (first_binder (expr_at p r)).type 1 (drop_chain 1 (expr_at p r)))
  pub tree : expr_at p row ≡ drop_chain count (expr_at p r)
  pub low : row + count ≤ r

-- a part of a chain to be printed: the stack ends with the names of its binders, the first one's entry being m
pub record InChain (p : Pool) (k : Stack) (h m r : ℕ) : Type 0 where
  pub asked : Asked p k h r
  pub chained : Chained p k h m (expr_at p r)

-- where an arrow binder, or the run of others that row r starts, ends: before a row, after so many binders
pub record PartEnd (p : Pool) (arrow : Bool) (r row count : ℕ) : Type 0 where
  pub length : count ≡ part_length arrow (expr_at p r)
  pub tree : expr_at p row ≡ drop_chain count (expr_at p r)
  pub low : row < r
