-- What the printers of a chain and of an application put, in the code's own steps.
use Rattle.std.specs.Prelude.{ℕ, zero, suc, Bool, true, false, ◌&&◌, ◌||◌, not, cond, List, [], ◌∷◌, eqb}
use Rattle.document.specs.Walk.{Marked}
use Rattle.pool.specs.Tree.{Name, anonymous, Expr, var, sort, const, app, pi, lam, letᵉ, proj, nat, str, lift, occurs, same}
use Rattle.pieces.specs.Docs.{◌⊹◌, line, G, Parenable, under}
use Rattle.binders.specs.Binders.{Binder, is_named_pi, is_lambda, binder_name}

-- an application's tile, from its head on
module _ (pp : Expr → Parenable) where
  unfoldable pub spine_doc : Expr → Marked
  spine_doc (var i) = G (under 1023 (pp (var i)))
  spine_doc (sort l) = G (under 1023 (pp (sort l)))
  spine_doc (const n ls) = G (under 1023 (pp (const n ls)))
  spine_doc (app f a) = spine_doc f ⊹ G (line ⊹ G (under 1024 (pp a)))
  spine_doc (pi p n s t b) = G (under 1023 (pp (pi p n s t b)))
  spine_doc (lam p n s t b) = G (under 1023 (pp (lam p n s t b)))
  spine_doc (letᵉ p n t v b d) = G (under 1023 (pp (letᵉ p n t v b d)))
  spine_doc (proj n i e) = G (under 1023 (pp (proj n i e)))
  spine_doc (nat s) = G (under 1023 (pp (nat s)))
  spine_doc (str s) = G (under 1023 (pp (str s)))

-- a chain's first binder as its row has it, its type not lifted
unfoldable pub first_binder : Expr → Binder
first_binder (var i) = record { is_pi = false; used = false; name = anonymous; style = 0; type = var i; place = 0 }
first_binder (sort l) = record { is_pi = false; used = false; name = anonymous; style = 0; type = sort l; place = 0 }
first_binder (const n ls) = record { is_pi = false; used = false; name = anonymous; style = 0; type = const n ls; place = 0 }
first_binder (app f a) = record { is_pi = false; used = false; name = anonymous; style = 0; type = app f a; place = 0 }
first_binder (pi p n s t b) = record { is_pi = true; used = occurs 0 b; name = n; style = s; type = t; place = p }
first_binder (lam p n s t b) = record { is_pi = false; used = occurs 0 b; name = n; style = s; type = t; place = p }
first_binder (letᵉ p n t v b d) = record { is_pi = false; used = false; name = anonymous; style = 0; type = t; place = 0 }
first_binder (proj n i e) = record { is_pi = false; used = false; name = anonymous; style = 0; type = e; place = 0 }
first_binder (nat s) = record { is_pi = false; used = false; name = anonymous; style = 0; type = nat s; place = 0 }
first_binder (str s) = record { is_pi = false; used = false; name = anonymous; style = 0; type = str s; place = 0 }

-- a run of other pis, or of lambdas
unfoldable pub in_run : Bool → Binder → Bool
in_run true b = is_named_pi b
in_run false b = is_lambda b

-- how many binders of a run a chain starts with
unfoldable pub run_length : Bool → Expr → ℕ
run_length c (var i) = 0
run_length c (sort l) = 0
run_length c (const n ls) = 0
run_length c (app f a) = 0
run_length c (pi p n s t b) = cond (in_run c (first_binder (pi p n s t b))) (suc (run_length c b)) 0
run_length c (lam p n s t b) = cond (in_run c (first_binder (lam p n s t b))) (suc (run_length c b)) 0
run_length c (letᵉ p n t v b d) = 0
run_length c (proj n i e) = 0
run_length c (nat s) = 0
run_length c (str s) = 0

-- whether a binder j places after one of a style and a type, none of them lifted, belongs to that one's group
unfoldable pub in_group : ℕ → Expr → ℕ → Binder → Bool
in_group style type j b = not (eqb style 3) && (eqb style b.style && same (lift j 0 type) b.type)

-- how many binders of that group a chain starts with, among its first n
unfoldable pub group_length : ℕ → ℕ → Expr → ℕ → Expr → ℕ
group_length n style type j (var i) = 0
group_length n style type j (sort l) = 0
group_length n style type j (const a ls) = 0
group_length n style type j (app f a) = 0
group_length zero style type j (pi p a s t b) = 0
group_length (suc n) style type j (pi p a s t b) =
    cond (in_group style type j (first_binder (pi p a s t b))) (suc (group_length n style type (suc j) b)) 0
group_length zero style type j (lam p a s t b) = 0
group_length (suc n) style type j (lam p a s t b) =
    cond (in_group style type j (first_binder (lam p a s t b))) (suc (group_length n style type (suc j) b)) 0
group_length n style type j (letᵉ p a t v b d) = 0
group_length n style type j (proj a i e) = 0
group_length n style type j (nat s) = 0
group_length n style type j (str s) = 0

-- a chain without its first n binders
unfoldable pub drop_chain : ℕ → Expr → Expr
drop_chain n (var i) = var i
drop_chain n (sort l) = sort l
drop_chain n (const m ls) = const m ls
drop_chain n (app f a) = app f a
drop_chain zero (pi p m s t b) = pi p m s t b
drop_chain (suc n) (pi p m s t b) = drop_chain n b
drop_chain zero (lam p m s t b) = lam p m s t b
drop_chain (suc n) (lam p m s t b) = drop_chain n b
drop_chain n (letᵉ p m t v b d) = letᵉ p m t v b d
drop_chain n (proj m i e) = proj m i e
drop_chain n (nat s) = nat s
drop_chain n (str s) = str s

-- a pi, or a lambda
unfoldable pub mk_binder : Bool → ℕ → Name → ℕ → Expr → Expr → Expr
mk_binder true p n s t b = pi p n s t b
mk_binder false p n s t b = lam p n s t b

unfoldable pub is_binder : Expr → Bool
is_binder (var i) = false
is_binder (sort l) = false
is_binder (const n ls) = false
is_binder (app f a) = false
is_binder (pi p n s t b) = true
is_binder (lam p n s t b) = true
is_binder (letᵉ p n t v b d) = false
is_binder (proj n i e) = false
is_binder (nat s) = false
is_binder (str s) = false

-- the kinds 4 and 5
unfoldable pub binder_kind : ℕ → Bool
binder_kind kind = eqb kind 4 || eqb kind 5

-- how many binders a chain has
unfoldable pub chain_length : Expr → ℕ
chain_length (var i) = 0
chain_length (sort l) = 0
chain_length (const n ls) = 0
chain_length (app f a) = 0
chain_length (pi p n s t b) = suc (chain_length b)
chain_length (lam p n s t b) = suc (chain_length b)
chain_length (letᵉ p n t v b d) = 0
chain_length (proj n i e) = 0
chain_length (nat s) = 0
chain_length (str s) = 0

-- the names of a chain's first binders, as documents
unfoldable pub name_docs : ℕ → Expr → List Marked
name_docs zero e = []
name_docs (suc n) e = binder_name (first_binder e) ∷ name_docs n (drop_chain 1 e)

-- how many binders stand before what follows: one arrow, or a run of others
unfoldable pub part_length : Bool → Expr → ℕ
part_length true e = 1
part_length false e = run_length (first_binder e).is_pi e

-- the level of an arrow binder and what follows it, and of a run of others
unfoldable pub level_of : Bool → ℕ
level_of arrow = cond arrow 24 0
