-- The groups of a run, one after the other, as the chain's rows have them.
use Prim.Native.Nat.{ℕ, zero, suc, ◌+◌, ◌-◌, ◌<◌, ◌≤◌}
use native.Mathlib.Nat.{add-suc, add-zero}
use native.Mathlib.Omega.{arith}
use mathlib.Core.Bool.{Bool, true, false}
use mathlib.Core.List.{List, [], ◌∷◌, map}
use mathlib.Core.Path.{◌≡◌, refl, sym, ap, ap₂, ◌∙◌}
use lib.ListN.{length, take, drop}
use Rattle.document.specs.Walk.{Marked}
use Rattle.document.specs.Sink.{State, put_break, emit}
use Rattle.pool.specs.Tables.{Pool}
use Rattle.pool.specs.Tree.{Name, Expr, occurs}
use Rattle.pool.specs.Unfold.{name_at}
use Rattle.pieces.specs.Docs.{Parenable, under, tile, opening, closing}
use Rattle.pieces.specs.Tiles.{end_tile, put_tile}
use Rattle.binders.specs.declared.stack.Stack.{Stack}
use Rattle.binders.specs.Runs.{leading, following, runs}
use Rattle.binders.specs.Binders.{Binder, same_group, binder_name, group_doc, telescope}
use Rattle.binders.specs.Rename.{rename}
use Rattle.binders.specs.Scopes.{entry, Linked, place_in, scoped, Chained}
use Rattle.binders.specs.Steps.{first_binder, group_length, drop_chain, chain_length, name_docs, mk_binder}
use Rattle.pieces.specs.Puts.{end_group, put_colon, open_group, close_group}
use Rattle.pretty_printer.specs.Parts.{printed, in_scope, groups_part}
use Rattle.binders.proofs.RunLaws.{runs_are_leading, runs_of_none}
use Rattle.binders.proofs.ScopeLaws.{chain_length_lem, place_out}
use Rattle.pretty_printer.proofs.ChainLaws.{leading_takes, following_drops, group_length_lem}
use Rattle.pretty_printer.proofs.EmitLaws.{telescope_puts, group_puts}
use Rattle.binders.proofs.ViewLaws.{first_made, scoped_made, drop_made, chained_parts}
use Rattle.binders.proofs.DropLaws.{Later, later_some, names_taken, group_within}
use Rattle.binders.proofs.RunningLaws.{drop_nothing}
use Rattle.binders.specs.Options.{PpOptions}

-- ---- lists: a leading run within the first n

module _ {A : Type 0} where
  take_within : (g n : ℕ) (xs : List A) → g ≤ n → take g (take n xs) ≡ take g xs
  take_within zero n xs l = refl
  take_within (suc g) zero xs l = absurd (omega arith)
  take_within (suc g) (suc n) [] l = refl
  take_within (suc g) (suc n) (x ∷ xs) l = ap (λ (y : List A). x ∷ y) (take_within g n xs (omega arith))

  take_none : (c : ℕ) → take {A = A} c [] ≡ []
  take_none zero = refl
  take_none (suc c) = refl

  drop-within : (g n : ℕ) (xs : List A) → drop g (take n xs) ≡ take (n - g) (drop g xs)
  drop-within zero n xs = let z : n - 0 ≡ n = omega arith in rw z
  drop-within (suc g) zero [] = let z : 0 - suc g ≡ 0 = omega arith in rw z
  drop-within (suc g) zero (x ∷ xs) = let z : 0 - suc g ≡ 0 = omega arith in rw z
  drop-within (suc g) (suc n) [] = sym (take_none (suc n - suc g))
  drop-within (suc g) (suc n) (x ∷ xs) = let z : suc n - suc g ≡ n - g = omega arith in rw z (drop-within g n xs)

-- ---- groups

next_tile : (d : Marked) (ds : List Marked) (st : State) → put_tile (d ∷ ds) st ≡ put_tile ds (end_tile (emit d (put_break 1 st)))
unfolding put_tile
next_tile d ds st = refl

-- none has no groups
pub no_groups : (opts : PpOptions) (p : Pool) (k : Stack) (h m : ℕ) (e : Expr) (st : State) → groups_part opts p k false h m 0 e st ≡ st
unfolding groups_part put_tile
no_groups opts p k h m e st = rw (runs_of_none same_group)

-- a chain's first binder among n + 1: its group, of g + 1 binders, and what is left of them after it
module _ (opts : PpOptions) (p : Pool) (k : Stack) (linked : Linked k) (i : Bool) (q : ℕ) (a : Name) (s : ℕ) (t b : Expr) (h m n : ℕ)
    (chained : Chained p k h m (mk_binder i q a s t b)) (within : h ≤ k.count) (few : suc n ≤ chain_length (mk_binder i q a s t b)) where
  abbrev pp : Expr → Parenable
  pp = printed opts p k

  abbrev e : Expr
  e = mk_binder i q a s t b

  abbrev x : Binder
  x = record { is_pi = i; used = occurs 0 b; name = a; style = s; type = rename (place_in k h) t; place = q }

  abbrev xs : List Binder
  xs = scoped k (suc m) (suc m) b

  abbrev g : ℕ
  g = group_length n s t 1 b

  parts : ((entry k m).link ≡ h) × (name_at p (entry k m).name ≡ a) × Chained p k (suc m) (suc m) b
  parts = chained_parts p k h m i q a s t b chained

  inner : suc m ≤ k.count
  inner = let l : length (scoped k (suc m) (suc m) b) + suc m ≡ k.count = chain_length_lem p k (suc m) (suc m) b parts.2 in omega arith

  counted : length (leading (same_group x) (take n xs)) ≡ g
  counted =
      group_length_lem p k linked i (occurs 0 b) a s t q h n 1 (suc m) (suc m) b parts.2 inner
      (λ j. ap (place_in k (suc m)) (add-suc j 0 ∙ ap suc (add-zero j)) ∙ place_out k m j ∙ ap (λ (y : ℕ). place_in k y j) parts.0)

  small : g ≤ n
  small = group_within n s t 1 b

  group_is : leading (same_group x) (take n xs) ≡ take g xs
  group_is = leading_takes (same_group x) (take n xs) ∙ ap (λ (c : ℕ). take c (take n xs)) counted ∙ take_within g n xs small

  left : Later p k h m (suc g) e
  left = later_some p k h m (suc g) e (omega arith) (omega (arith, small, few))

  rest_is : following (same_group x) (take n xs) ≡ take (n - g) (scoped k (m + suc g) (m + suc g) (drop_chain (suc g) e))
  rest_is =
      following_drops (same_group x) (take n xs)
      ∙ ap (λ (c : ℕ). drop c (take n xs)) counted
      ∙ drop-within g n xs
      ∙ ap (take (n - g)) (sym (left.rest ∙ ap (drop (suc g)) (scoped_made i q a s t b k h m)))

  taken_is : take (suc n) (scoped k h m e) ≡ x ∷ take n xs
  taken_is = ap (take (suc n)) (scoped_made i q a s t b k h m)

  -- what a group puts between its brackets
  abbrev pub group_inside : State → State
  group_inside st = emit (under 1 (in_scope opts p k h t)) (put_colon (emit (tile (name_docs (suc g) e)) st))

  group_emits : (st : State) → emit (group_doc opts pp (x ∷ take g xs)) st ≡ end_group opts.indent (closing s) (group_inside (emit (opening s) st))
  unfolding in_scope
  group_emits st =
      let names : map binder_name (x ∷ take g xs) ≡ name_docs (suc g) e =
      ap (λ (l : List Binder). map binder_name (take (suc g) l)) (sym (scoped_made i q a s t b k h m)) ∙ names_taken k (suc g) h m e (omega (arith, small, few)) in
      group_puts opts pp x (take g xs) st ∙ rw names

  -- the first group, and those after it
  pub groups_on : (first : Bool) (st : State) →
      groups_part opts p k first h m (suc n) e st
      ≡ groups_part opts p k false (m + suc g) (m + suc g) (n - g) (drop_chain (suc g) e) (close_group first opts.indent s (group_inside (open_group first s st)))
  unfolding groups_part close_group open_group
  groups_on true st =
      ap (λ (l : List Binder). emit (telescope opts pp l) st) taken_is
      ∙ telescope_puts opts pp x (take n xs) st
      ∙ ap₂ (λ (l u : List Binder). put_tile (map (group_doc opts pp) (runs same_group l)) (emit (group_doc opts pp (x ∷ u)) st)) rest_is group_is
      ∙ ap (put_tile (map (group_doc opts pp) (runs same_group (take (n - g) (scoped k (m + suc g) (m + suc g) (drop_chain (suc g) e)))))) (group_emits st)
  groups_on false st =
      ap (λ (l : List Binder). put_tile (map (group_doc opts pp) (runs same_group l)) st) taken_is
      ∙ ap (λ (l : List (List Binder)). put_tile (map (group_doc opts pp) l) st) (runs_are_leading same_group x (take n xs))
      ∙ next_tile (group_doc opts pp (x ∷ leading (same_group x) (take n xs))) (map (group_doc opts pp) (runs same_group (following (same_group x) (take n xs)))) st
      ∙ ap₂ (λ (l u : List Binder). put_tile (map (group_doc opts pp) (runs same_group l)) (end_tile (emit (group_doc opts pp (x ∷ u)) (put_break 1 st)))) rest_is group_is
      ∙ ap (λ (v : State). put_tile (map (group_doc opts pp) (runs same_group (take (n - g) (scoped k (m + suc g) (m + suc g) (drop_chain (suc g) e))))) (end_tile v)) (group_emits (put_break 1 st))

-- the same, at a row's tree, with the code's own numbers
pub groups_at : (opts : PpOptions) (p : Pool) (k : Stack) (linked : Linked k) (i : Bool) (q : ℕ) (a : Name) (s : ℕ) (t b : Expr)
    (h m n count next left : ℕ) (first : Bool) (e₀ e₁ : Expr) (st : State) →
    e₀ ≡ mk_binder i q a s t b → Chained p k h m e₀ → h ≤ k.count → 0 < n → n ≤ chain_length e₀ →
    count ≡ suc (group_length (n - 1) (first_binder e₀).style (first_binder e₀).type 1 (drop_chain 1 e₀)) → e₁ ≡ drop_chain count e₀ →
    next ≡ m + count → left ≡ n - count →
    groups_part opts p k false next next left e₁ (close_group first opts.indent s (emit (under 1 (in_scope opts p k h t)) (put_colon (emit (tile (name_docs count e₀)) (open_group first s st)))))
    ≡ groups_part opts p k first h m n e₀ st
groups_at opts p k linked i q a s t b h m zero count next left first e₀ e₁ st made chained within some few counts rest nexts lefts = absurd (omega arith)
groups_at opts p k linked i q a s t b h m (suc n) count next left first e₀ e₁ st made chained within some few counts rest nexts lefts =
    let one : suc n - 1 ≡ n = omega arith in
    let f : first_binder e₀ ≡ record { is_pi = i; used = occurs 0 b; name = a; style = s; type = t; place = q } = ap first_binder made ∙ first_made i q a s t b in
    let d : drop_chain 1 e₀ ≡ b = ap (drop_chain 1) made ∙ drop_made i q a s t b 0 ∙ drop_nothing b in
    let c : count ≡ suc (group_length n s t 1 b) = counts ∙ rw (one, f, d) in
    let z : suc n - suc (group_length n s t 1 b) ≡ n - group_length n s t 1 b = omega arith in
    let ch : Chained p k h m (mk_binder i q a s t b) = rw made at chained in
    let fe : suc n ≤ chain_length (mk_binder i q a s t b) = rw made at few in
    rw (rest, nexts, lefts, c, made, z) (sym (groups_on opts p k linked i q a s t b h m n ch within fe first st))
