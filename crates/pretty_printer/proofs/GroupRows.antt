-- The rows of a chain whose names are on the stack: the groups of its first n binders.
use Prim.Native.Nat.{ℕ, ◌+◌, ◌-◌, ◌<◌, ◌≤◌}
use native.Mathlib.Omega.{arith}
use mathlib.Core.Bool.{Bool, true, false}
use lib.Dec.{eqb}
use mathlib.Core.Path.{◌≡◌, refl, sym, ◌∙◌}
use Rattle.document.specs.Sink.{State, emit}
use Rattle.pool.specs.Tables.{Pool, expr_word}
use Rattle.pool.specs.Tree.{Expr}
use Rattle.pool.specs.Unfold.{name_at, expr_at}
use Rattle.pieces.specs.Docs.{under, tile}
use Rattle.pieces.specs.Puts.{put_colon, open_group, close_group}
use Rattle.binders.specs.declared.printer.Printer.{Printer}
use Rattle.binders.specs.declared.stack.Stack.{Stack}
use Rattle.binders.specs.Asked.{InChain, GroupEnd}
use Rattle.binders.specs.Options.{PpOptions, options_of, pool_of}
use Rattle.binders.specs.Steps.{first_binder, binder_kind, chain_length, drop_chain, name_docs, group_length}
use Rattle.binders.proofs.DropLaws.{Later, later_some, group_within}
use Rattle.binders.proofs.NamingLaws.{some_binder}
use Rattle.binders.proofs.ViewLaws.{BinderRow, binder_at}
use Rattle.pretty_printer.specs.Parts.{in_scope, groups_part}
use Rattle.pretty_printer.proofs.ChainRows.{chain_later, chain_room}
use Rattle.pretty_printer.proofs.TelescopeLaws.{no_groups, groups_at}

-- no binders, no groups
pub none_row : (opts : PpOptions) (p : Pool) (k : Stack) (first : Bool) (h m n : ℕ) (e : Expr) (st : State) → n ≡ 0 → (first ≡ true → 0 < n)
    → st ≡ groups_part opts p k first h m n e st
none_row opts p k true h m n e st z f = absurd (let l : 0 < n = f refl in omega arith)
none_row opts p k false h m n e st z f = rw z (sym (no_groups opts p k h m e st))

module _ (q : Printer) {k : Stack} {h m r : ℕ} (c : InChain (pool_of q) k h m r) {n : ℕ} (some : 0 < n) (few : n ≤ chain_length (expr_at (pool_of q) r)) where
  abbrev p : Pool
  p = pool_of q

  abbrev opts : PpOptions
  opts = options_of q

  abbrev w : ℕ → ℕ
  w i = expr_word p.words r i

  abbrev e : Expr
  e = expr_at p r

  binder : binder_kind (w 0) ≡ true
  binder = some_binder p q.pool.sound r c.asked.row n some few

  made : BinderRow p q.pool.sound r c.asked.row
  made = binder_at p q.pool.sound r c.asked.row binder

  pub group_type : (x : ℕ) → x ≡ w 3 → x < r
  group_type x z = omega (arith, made.type)

  pub group_style : (x : ℕ) → x ≡ w 2 → x < 4
  group_style x z = omega (arith, made.style)

  module _ {x count : ℕ} (g : GroupEnd p n r x count) where
    -- a group has a binder at least, and not more than there are
    pub group_some : 0 < count
    group_some = omega (arith, g.length)

    pub group_few : count ≤ n
    group_few =
        let within : group_length (n - 1) (first_binder e).style (first_binder e).type 1 (drop_chain 1 e) ≤ n - 1 = group_within (n - 1) _ _ 1 _ in
        omega (arith, g.length)

    pub group_room : m + count ≤ k.count
    group_room = chain_room q c count (omega (arith, group_few))

    pub group_low : x < r
    group_low = omega (arith, g.low, group_some)

    -- what follows the group, and how many binders are left of it
    pub group_later : InChain p k (m + count) (m + count) x
    group_later = chain_later q c count x group_some (omega (arith, group_few)) g.tree group_low

    pub group_left : n - count ≤ chain_length (expr_at p x)
    group_left =
        let later : Later p k 0 0 count e = later_some p k 0 0 count e group_some (omega (arith, group_few)) in
        rw g.tree (omega (arith, later.left))

    pub groups_row : (first : Bool) (style type : ℕ) (st : State) → style ≡ w 2 → type ≡ w 3 →
        groups_part opts p k false (m + count) (m + count) (n - count) (expr_at p x)
        (close_group first opts.indent style (emit (under 1 (in_scope opts p k h (expr_at p type))) (put_colon (emit (tile (name_docs count e)) (open_group first style st)))))
        ≡ groups_part opts p k first h m n e st
    groups_row first style type st es et =
        rw (es, et)
        (groups_at opts p k c.asked.held.linked (eqb (w 0) 4) r (name_at p (w 1)) (w 2) (expr_at p (w 3)) (expr_at p (w 4))
        h m n count (m + count) (n - count) first e (expr_at p x) st made.made c.chained c.asked.scope some few g.length g.tree refl refl)

    -- where none is left
    pub last_group : (first : Bool) (style type : ℕ) (st : State) → style ≡ w 2 → type ≡ w 3 → n - count ≡ 0 →
        close_group first opts.indent style (emit (under 1 (in_scope opts p k h (expr_at p type))) (put_colon (emit (tile (name_docs count e)) (open_group first style st))))
        ≡ groups_part opts p k first h m n e st
    last_group first style type st es et none =
        none_row opts p k false (m + count) (m + count) (n - count) (expr_at p x) _ none (λ e. cc) ∙ groups_row first style type st es et
