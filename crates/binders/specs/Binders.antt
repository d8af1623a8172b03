-- 01, Expressions to documents: chains and their binders.
use Rattle.std.specs.Prelude.{ℕ, suc, ◌+◌, Bool, true, false, ◌&&◌, ◌||◌, not, cond, List, [], ◌∷◌, map, eqb, length}
use Rattle.document.specs.Walk.{Marked, names}
use Rattle.pool.specs.Tree.{Name, Expr, var, sort, const, app, pi, lam, letᵉ, proj, nat, str, lift, occurs, same}
use Rattle.pieces.specs.Docs.{◌⊹◌, quoted, line, G, NG, Parenable, with_inner, under, tile, opening, closing}
use Rattle.binders.specs.Runs.{runs}
use Rattle.names.specs.Names.{name_doc, is_anonymous, is_hygienic}
use Rattle.binders.specs.Options.{PpOptions}
use Rattle.binders.specs.Shown.{shown, NamesInForce}

-- a pi or a lambda of a chain; `used`: its variable occurs in its body
pub record Binder : Type 0 where
  pub is_pi : Bool
  pub used : Bool
  pub name : Name
  pub style : ℕ
  pub type : Expr
  pub place : ℕ

-- "A chain is the longest run of pi and lambda." "A binder's type prints under the whole chain's names, its loose indices
-- lifted past the rest of the chain (`lift`).": past itself and those after it
unfoldable pub binders : Expr → List Binder
binders (var i) = []
binders (sort l) = []
binders (const n ls) = []
binders (app f a) = []
binders (pi p n s t b) =
    let rest : List Binder = binders b in
    record { is_pi = true; used = occurs 0 b; name = n; style = s; type = lift (suc (length rest)) 0 t; place = p } ∷ rest
binders (lam p n s t b) =
    let rest : List Binder = binders b in
    record { is_pi = false; used = occurs 0 b; name = n; style = s; type = lift (suc (length rest)) 0 t; place = p } ∷ rest
binders (letᵉ p n t v b d) = []
binders (proj n i e) = []
binders (nat s) = []
binders (str s) = []

-- what stands after the chain
unfoldable pub chain_body : Expr → Expr
chain_body (var i) = var i
chain_body (sort l) = sort l
chain_body (const n ls) = const n ls
chain_body (app f a) = app f a
chain_body (pi p n s t b) = chain_body b
chain_body (lam p n s t b) = chain_body b
chain_body (letᵉ p n t v b d) = letᵉ p n t v b d
chain_body (proj n i e) = proj n i e
chain_body (nat s) = nat s
chain_body (str s) = str s

-- the names in force with a chain's
unfoldable pub pushed : List Binder → NamesInForce → NamesInForce
pushed [] ns = ns
pushed (b ∷ bs) ns = pushed bs (shown b.name ∷ ns)

-- "a chain's names before its rows": they come into force before a document; a chain of none has no mark
unfoldable pub in_force : List Binder → ℕ → Marked → Marked
in_force [] outside d = d
in_force (b ∷ bs) outside d = names b.place (outside + length (b ∷ bs)) d

-- "Arrow binder: pi, default style, and body without its variable, or anonymous, or hygienic"
unfoldable pub is_arrow : Binder → Bool
is_arrow b = b.is_pi && (eqb b.style 0 && (not b.used || (is_anonymous b.name || is_hygienic b.name)))

-- a pi that is no arrow
unfoldable pub is_named_pi : Binder → Bool
is_named_pi b = b.is_pi && not (is_arrow b)

abbrev pub is_lambda : Binder → Bool
is_lambda b = not b.is_pi

-- "Other pis in a leading run", "Lambdas": those that go with a chain's next binder. An arrow binder is alone.
unfoldable pub goes_along : Binder → Binder → Bool
goes_along b c = (is_named_pi b && is_named_pi c) || (is_lambda b && is_lambda c)

-- "each the leading run of equal style and equal type tree after lifting (all fields); an instance binder is alone"
unfoldable pub same_group : Binder → Binder → Bool
same_group b c = not (eqb b.style 3) && (eqb b.style c.style && same b.type c.type)

-- "An anonymous name whose variable does not occur prints "_"."
unfoldable pub binder_name : Binder → Marked
binder_name b = cond (is_anonymous b.name && not b.used) (quoted "_") (name_doc b.name)

-- `pp` prints an expression under the chain's names
module _ (opts : PpOptions) (pp : Expr → Parenable) where
  -- "N(G(open+(tile of names+" "+":"+|+G(type under 1))+close))", the type being the first binder's
  unfoldable pub group_doc : List Binder → Marked
  group_doc [] = quoted ""
  group_doc (b ∷ bs) =
      NG opts.indent
      (opening b.style
      ⊹ (tile (map binder_name (b ∷ bs)) ⊹ quoted " " ⊹ quoted ":" ⊹ line ⊹ G (under 1 (pp b.type)))
      ⊹ closing b.style)

  -- "Binders: tile over groups"
  unfoldable pub telescope : List Binder → Marked
  telescope bs = tile (map group_doc (runs same_group bs))

  -- "G(N(G(type under 25))+" "+U+2192+|)+tail under 24, inner 24"
  unfoldable pub arrow_par : Binder → Parenable → Parenable
  arrow_par b tail =
      with_inner 24
      (G (NG opts.indent (under 25 (pp b.type)) ⊹ quoted " " ⊹ quoted "→" ⊹ line) ⊹ under 24 tail)

  -- "N(G("forall"+" "+binders+","))+|+tail, inner 0"
  unfoldable pub forall_par : List Binder → Parenable → Parenable
  forall_par bs tail =
      with_inner 0
      (NG opts.indent (quoted "forall" ⊹ quoted " " ⊹ telescope bs ⊹ quoted ",") ⊹ line ⊹ under 0 tail)

  -- "Lambdas: N(G("fun"+" "+binders+" "+"=>"))+|+tail, inner 0"
  unfoldable pub fun_par : List Binder → Parenable → Parenable
  fun_par bs tail =
      with_inner 0
      (NG opts.indent (quoted "fun" ⊹ quoted " " ⊹ telescope bs ⊹ quoted " " ⊹ quoted "=>") ⊹ line ⊹ under 0 tail)

  unfoldable pub run_par : List Binder → Parenable → Parenable
  run_par [] tail = tail
  run_par (b ∷ bs) tail =
      cond (is_arrow b) (arrow_par b tail) (cond b.is_pi (forall_par (b ∷ bs) tail) (fun_par (b ∷ bs) tail))

  unfoldable pub runs_par : List (List Binder) → Parenable → Parenable
  runs_par [] body = body
  runs_par (r ∷ rs) body = run_par r (runs_par rs body)

  -- a part of a chain, and what follows it (`pp_binders`)
  unfoldable pub binders_par : List Binder → Parenable → Parenable
  binders_par bs body = runs_par (runs goes_along bs) body
