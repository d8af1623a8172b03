-- Scope links are 01's `lift`: a chain's types, printed in the scopes of its stack, are the lifted types of the definition.
use Prim.Native.Nat.{ℕ, zero, suc, ◌+◌, ◌-◌, ◌<◌, ◌≤◌}
use native.Mathlib.Omega.{arith}
use native.Mathlib.Nat.{suc-add}
use borrow.Author.Count.{below_more}
use mathlib.Core.List.{[]}
use mathlib.Core.Path.{◌≡◌, refl, sym, ap, ap₂, ◌∙◌}
use lib.ListN.{length, length-set}
use lib.Seq.{get_or-set_same, get_or-set_other}
use Rattle.pool.specs.Tables.{Pool, N}
use Rattle.pool.specs.Tree.{Expr, var, sort, const, app, pi, lam, letᵉ, proj, nat, str, lift}
use Rattle.pool.specs.Unfold.{name_at}
use Rattle.binders.specs.declared.stack.Stack.{Stack}
use Rattle.pieces.specs.Docs.{number_doc}
use Rattle.names.specs.Names.{name_doc}
use Rattle.binders.specs.Binders.{binders, chain_body, pushed}
use Rattle.binders.specs.Variables.{var_doc}
use Rattle.binders.specs.Rename.{up, rename}
use Rattle.binders.specs.Scopes.{entry, names_below, names_of, outward, place_by, place_in, Linked, Held, Grown, push, scoped, last_scope, Chained}
use Rattle.binders.proofs.RenameLaws.{rename_agrees, lift_adds, own_variable}

-- how many names a chain puts on the stack
pub chain_length_lem : (p : Pool) (k : Stack) (h m : ℕ) (e : Expr) → Chained p k h m e → length (scoped k h m e) + m ≡ k.count
unfolding scoped Chained
chain_length_lem p k h m (var i) c = omega arith
chain_length_lem p k h m (sort l) c = omega arith
chain_length_lem p k h m (const n ls) c = omega arith
chain_length_lem p k h m (app f a) c = omega arith
chain_length_lem p k h m (pi q n s t b) c = omega (arith, chain_length_lem p k (suc m) (suc m) b c.2)
chain_length_lem p k h m (lam q n s t b) c = omega (arith, chain_length_lem p k (suc m) (suc m) b c.2)
chain_length_lem p k h m (letᵉ q n t v b d) c = omega arith
chain_length_lem p k h m (proj n i e) c = omega arith
chain_length_lem p k h m (nat s) c = omega arith
chain_length_lem p k h m (str s) c = omega arith

-- inside a binder: the renaming goes up with the scope
pub scope_up : (k : Stack) (h m : ℕ) (ρ : ℕ → ℕ) → (entry k m).link ≡ h → m < k.count → ((i : ℕ) → place_in k h i ≡ ρ i + (k.count - m)) → (i : ℕ)
    → place_in k (suc m) i ≡ up ρ i + (k.count - suc m)
unfolding place_by outward up
scope_up k h m ρ l lt f zero = omega arith
scope_up k h m ρ l lt f (suc i) = ap (place_by k i) l ∙ f i ∙ omega arith

-- the renaming that a chain's first type is under, where the names from entry m on are the chain's
unfoldable pub Under : Stack → ℕ → ℕ → (ℕ → ℕ) → Type 0
Under k h m ρ = (i : ℕ) → place_in k h i ≡ ρ i + (k.count - m)

type_is : (k : Stack) (h m n : ℕ) (ρ : ℕ → ℕ) (t : Expr) → Under k h m ρ → n + m ≡ k.count → lift n 0 (rename ρ t) ≡ rename (place_in k h) t
unfolding Under
type_is k h m n ρ t f e = lift_adds n ρ t ∙ rename_agrees (λ i. ρ i + n) (place_in k h) (λ i. ap (λ (j : ℕ). ρ i + j) (omega arith) ∙ sym (f i)) t

pub chain_is_scoped : (p : Pool) (k : Stack) (h m : ℕ) (ρ : ℕ → ℕ) (e : Expr) → Chained p k h m e → Under k h m ρ → binders (rename ρ e) ≡ scoped k h m e
unfolding binders rename scoped Chained Under
chain_is_scoped p k h m ρ (var i) c f = refl
chain_is_scoped p k h m ρ (sort l) c f = refl
chain_is_scoped p k h m ρ (const n ls) c f = refl
chain_is_scoped p k h m ρ (app g a) c f = refl
chain_is_scoped p k h m ρ (pi q n s t b) c f =
    let len : length (scoped k (suc m) (suc m) b) + suc m ≡ k.count = chain_length_lem p k (suc m) (suc m) b c.2 in
    let rest : binders (rename (up ρ) b) ≡ scoped k (suc m) (suc m) b =
    chain_is_scoped p k (suc m) (suc m) (up ρ) b c.2 (scope_up k h m ρ c.0 (omega arith) f) in
    rw (rest, own_variable ρ b, type_is k h m (suc (length (scoped k (suc m) (suc m) b))) ρ t f (omega arith))
chain_is_scoped p k h m ρ (lam q n s t b) c f =
    let len : length (scoped k (suc m) (suc m) b) + suc m ≡ k.count = chain_length_lem p k (suc m) (suc m) b c.2 in
    let rest : binders (rename (up ρ) b) ≡ scoped k (suc m) (suc m) b =
    chain_is_scoped p k (suc m) (suc m) (up ρ) b c.2 (scope_up k h m ρ c.0 (omega arith) f) in
    rw (rest, own_variable ρ b, type_is k h m (suc (length (scoped k (suc m) (suc m) b))) ρ t f (omega arith))
chain_is_scoped p k h m ρ (letᵉ q n t v b d) c f = refl
chain_is_scoped p k h m ρ (proj n i e) c f = refl
chain_is_scoped p k h m ρ (nat s) c f = refl
chain_is_scoped p k h m ρ (str s) c f = refl

pub body_is_scoped : (p : Pool) (k : Stack) (h m : ℕ) (ρ : ℕ → ℕ) (e : Expr) → Chained p k h m e → Under k h m ρ → chain_body (rename ρ e) ≡ rename
    (place_in k (last_scope h m e)) (chain_body e)
unfolding chain_body last_scope Chained Under rename
body_is_scoped p k h m ρ (var i) c f = rename_agrees ρ (place_in k h) (λ j. omega (arith, f j)) (var i)
body_is_scoped p k h m ρ (sort l) c f = rename_agrees ρ (place_in k h) (λ j. omega (arith, f j)) (sort l)
body_is_scoped p k h m ρ (const n ls) c f = rename_agrees ρ (place_in k h) (λ j. omega (arith, f j)) (const n ls)
body_is_scoped p k h m ρ (app g a) c f = rename_agrees ρ (place_in k h) (λ j. omega (arith, f j)) (app g a)
body_is_scoped p k h m ρ (pi q n s t b) c f =
    let len : length (scoped k (suc m) (suc m) b) + suc m ≡ k.count = chain_length_lem p k (suc m) (suc m) b c.2 in
    body_is_scoped p k (suc m) (suc m) (up ρ) b c.2 (scope_up k h m ρ c.0 (omega arith) f)
body_is_scoped p k h m ρ (lam q n s t b) c f =
    let len : length (scoped k (suc m) (suc m) b) + suc m ≡ k.count = chain_length_lem p k (suc m) (suc m) b c.2 in
    body_is_scoped p k (suc m) (suc m) (up ρ) b c.2 (scope_up k h m ρ c.0 (omega arith) f)
body_is_scoped p k h m ρ (letᵉ q n t v b d) c f = rename_agrees ρ (place_in k h) (λ j. omega (arith, f j)) (letᵉ q n t v b d)
body_is_scoped p k h m ρ (proj n i e) c f = rename_agrees ρ (place_in k h) (λ j. omega (arith, f j)) (proj n i e)
body_is_scoped p k h m ρ (nat s) c f = rename_agrees ρ (place_in k h) (λ j. omega (arith, f j)) (nat s)
body_is_scoped p k h m ρ (str s) c f = rename_agrees ρ (place_in k h) (λ j. omega (arith, f j)) (str s)

-- the names in force with the chain's
pub names_are_pushed : (p : Pool) (k : Stack) (h m : ℕ) (e : Expr) → Chained p k h m e → pushed (scoped k h m e) (names_below p k m) ≡ names_of p k
unfolding pushed scoped Chained names_of names_below
names_are_pushed p k h m (var i) c = ap (names_below p k) (sym c)
names_are_pushed p k h m (sort l) c = ap (names_below p k) (sym c)
names_are_pushed p k h m (const n ls) c = ap (names_below p k) (sym c)
names_are_pushed p k h m (app f a) c = ap (names_below p k) (sym c)
names_are_pushed p k h m (pi q n s t b) c =
    rw (← c.1) (names_are_pushed p k (suc m) (suc m) b c.2)
names_are_pushed p k h m (lam q n s t b) c =
    rw (← c.1) (names_are_pushed p k (suc m) (suc m) b c.2)
names_are_pushed p k h m (letᵉ q n t v b d) c = ap (names_below p k) (sym c)
names_are_pushed p k h m (proj n i e) c = ap (names_below p k) (sym c)
names_are_pushed p k h m (nat s) c = ap (names_below p k) (sym c)
names_are_pushed p k h m (str s) c = ap (names_below p k) (sym c)

-- ---- a stack that grew

pub grown_place : (k l : Stack) → Linked k → Grown k l → (h i : ℕ) → h ≤ k.count → place_in l h i ≡ place_in k h i + (l.count - k.count)
unfolding place_by outward
grown_place k l w g zero zero b = omega (arith, g.more)
grown_place k l w g zero (suc i) b = omega (arith, g.more)
grown_place k l w g (suc h) zero b = omega (arith, g.more)
grown_place k l w g (suc h) (suc i) b =
    rw (g.kept h b) (grown_place k l w g (entry k h).link i (omega (arith, w.below h b)))

-- a chain's names were put on the stack k, in the scope h
pub chain_under : (k l : Stack) → Linked k → Grown k l → (h : ℕ) → h ≤ k.count → Under l h k.count (place_in k h)
unfolding Under
chain_under k l w g h b i = grown_place k l w g h i b

pub grown_names : (p : Pool) (k l : Stack) (m : ℕ) → Grown k l → m ≤ k.count → names_below p l m ≡ names_below p k m
unfolding names_below
grown_names p k l zero g b = refl
grown_names p k l (suc m) g b = rw (g.kept m b, grown_names p k l m g (omega arith))

-- ---- a variable

-- the scope that the variable i of the scope h leads to, and what is left of i where the names end
unfoldable pub outer_scope : Stack → ℕ → ℕ
outer_scope k zero = zero
outer_scope k (suc h) = (entry k h).link

pub place_past : (k : Stack) (i : ℕ) → place_in k 0 i ≡ k.count + i
unfolding place_by outward
place_past k zero = refl
place_past k (suc i) = refl

pub place_here : (k : Stack) (h : ℕ) → place_in k (suc h) 0 ≡ k.count - suc h
unfolding place_by outward
place_here k h = refl

pub place_out : (k : Stack) (h i : ℕ) → place_in k (suc h) (suc i) ≡ place_in k (entry k h).link i
unfolding place_by outward
place_out k h i = refl

-- a place past the names prints its index
pub past_names : (p : Pool) (k : Stack) (m j index : ℕ) → var_doc (names_below p k m) (m + j) index ≡ number_doc index
unfolding names_below var_doc
past_names p k zero j index = past j
  where
    past : (n : ℕ) → var_doc [] n index ≡ number_doc index
    past zero = refl
    past (suc n) = refl
past_names p k (suc m) j index = rw (suc-add m j) (past_names p k m j index)

-- a place among them prints the name of its entry
nth_name : (p : Pool) (k : Stack) (j m h index : ℕ) → j + suc h ≡ m → var_doc (names_below p k m) j index ≡ name_doc (name_at p (entry k h).name)
unfolding names_below var_doc
nth_name p k j zero h index e = absurd (omega arith)
nth_name p k zero (suc m) h index e = ap (λ (i : ℕ). name_doc (name_at p (entry k i).name)) (omega arith)
nth_name p k (suc j) (suc m) h index e = nth_name p k j m h index (omega arith)

pub among_names : (p : Pool) (k : Stack) (m h index : ℕ) → h < m → var_doc (names_below p k m) (m - suc h) index ≡ name_doc (name_at p (entry k h).name)
among_names p k m h index b = nth_name p k (m - suc h) m h index (omega arith)

-- ---- a let

-- one name more: what stands inside is renamed as inside a binder
pub let_scope : (k l : Stack) → Linked k → Grown k l → (h : ℕ) → h ≤ k.count → l.count ≡ suc k.count → (entry l k.count).link ≡ h → (i : ℕ)
    → place_in l (suc k.count) i ≡ up (place_in k h) i
unfolding Under
let_scope k l w g h b c e i = scope_up l h k.count (place_in k h) e (omega arith) (chain_under k l w g h b) i ∙ omega arith

-- ---- the renaming of a scope has a left inverse, since it rises

pub place_above : (k : Stack) → Linked k → (h i : ℕ) → h ≤ k.count → k.count - h ≤ place_in k h i
unfolding place_by outward
place_above k w zero zero b = omega arith
place_above k w zero (suc i) b = omega arith
place_above k w (suc h) zero b = omega arith
place_above k w (suc h) (suc i) b =
    let l : (entry k h).link ≤ h = w.below h b in
    omega (arith, place_above k w (entry k h).link i (omega arith))

pub place_rises : (k : Stack) → Linked k → (h i : ℕ) → h ≤ k.count → place_in k h i < place_in k h (suc i)
unfolding place_by outward
place_rises k w zero zero b = omega arith
place_rises k w zero (suc i) b = omega arith
place_rises k w (suc h) zero b =
    let l : (entry k h).link ≤ h = w.below h b in
    omega (arith, place_above k w (entry k h).link 0 (omega arith))
place_rises k w (suc h) (suc i) b =
    let l : (entry k h).link ≤ h = w.below h b in place_rises k w (entry k h).link i (omega arith)

-- ---- one name more

module _ (k : Stack) (name link : ℕ) (linked : Linked k) (room : k.count < 1024) where
  pub push_last : entry (push k name link) k.count ≡ record { name = name; link = link }
  push_last = get_or-set_same k.entries k.count _ _ (omega (arith, linked.full))

  push_other : (i : ℕ) → i < k.count → entry (push k name link) i ≡ entry k i
  push_other i h = get_or-set_other k.entries k.count i _ _ (omega arith)

  pub push_grown : Grown k (push k name link)
  push_grown = record { more = omega arith; kept = push_other }

  pub push_linked : link ≤ k.count → Linked (push k name link)
  push_linked h = record {
    full = length-set k.entries k.count _ ∙ linked.full;
    small = omega arith;
    below = below_more _ k.count (λ i l. rw (push_other i l) (linked.below i l)) (rw push_last h);
  }

  pub push_named : (p : Pool) → Held p k → name < N p.names → link ≤ k.count → Held p (push k name link)
  push_named p held n h =
      record { linked = push_linked h; named = below_more _ k.count (λ i l. rw (push_other i l) (held.named i l)) (rw push_last n) }

pub grown_grown : {k l m : Stack} → Grown k l → Grown l m → Grown k m
grown_grown {k} {l} {m} f g =
    record { more = omega (arith, f.more, g.more); kept = λ i h. g.kept i (omega (arith, f.more)) ∙ f.kept i h }

pub grown_self : (k : Stack) → Grown k k
grown_self k = record { more = omega arith; kept = λ i h. refl }

-- ---- a variable followed outward

-- one step
pub place_next : (k : Stack) (h i : ℕ) → 0 < h → 0 < i → place_in k h i ≡ place_in k (entry k (h - 1)).link (i - 1)
place_next k zero i n b = absurd (omega arith)
place_next k (suc h) zero n b = absurd (omega arith)
place_next k (suc h) (suc i) n b = place_out k h i ∙ ap₂ (λ (x y : ℕ). place_in k (entry k x).link y) (omega arith) (omega arith)

pub link_within : (k : Stack) → Linked k → (h : ℕ) → 0 < h → h ≤ k.count → (entry k (h - 1)).link ≤ k.count
link_within k w h n b = omega (arith, w.below (h - 1) (omega arith))

-- the end: the index is reached, or the names end
pub place_at : (k : Stack) (h : ℕ) → 0 < h → place_in k h 0 ≡ k.count - h
place_at k zero n = absurd (omega arith)
place_at k (suc h) n = place_here k h

pub place_out_of : (k : Stack) (h i : ℕ) → h ≡ 0 → place_in k h i ≡ k.count + i
place_out_of k h i z = ap (λ (x : ℕ). place_in k x i) z ∙ place_past k i

pub names_past : (p : Pool) (k : Stack) (place index : ℕ) → k.count ≤ place → var_doc (names_of p k) place index ≡ number_doc index
unfolding names_of
names_past p k place index b =
    let e : place ≡ k.count + (place - k.count) = omega arith in
    ap (λ (x : ℕ). var_doc (names_below p k k.count) x index) e ∙ past_names p k k.count (place - k.count) index

pub name_among : (p : Pool) (k : Stack) (h index : ℕ) → 0 < h → h ≤ k.count →
    var_doc (names_of p k) (k.count - h) index ≡ name_doc (name_at p (entry k (h - 1)).name)
unfolding names_of
name_among p k zero index n b = absurd (omega arith)
name_among p k (suc h) index n b =
    let e : suc h - 1 ≡ h = omega arith in rw e (among_names p k k.count h index b)

pub ruleset places = (place_next, link_within, place_at, place_out_of, names_past, name_among)
