-- Number 7 reports a place, and nothing else depends on one: trees that are equal once their places are forgotten have documents that are
-- equal but for the places of their marks.
use Prim.Native.Nat.{ℕ, zero, suc, ◌+◌}
use native.Mathlib.Omega.{arith}
use mathlib.Core.Bool.{Bool, true, false, ◌&&◌, not, cond}
use mathlib.Core.List.{List, [], ◌∷◌, map}
use mathlib.Core.Path.{◌≡◌, refl, sym, ap, ap₂, ◌∙◌, subst}
use lib.Dec.{ltb, eqb}
use lib.ListN.{length, take, drop}
use Rattle.basics.proofs.Booleans.{both_ways}
use Rattle.document.specs.Walk.{Marked, textᵐ, joinᵐ, breakᵐ, nestᵐ, groupᵐ, names}
use Rattle.pool.specs.Tree.{Name, Level, Expr, var, sort, const, app, pi, lam, letᵉ, proj, nat, str, Declar, typed, valued, lift, same, depth, forget, forgetᵈ}
use Rattle.pool.proofs.TreeLaws.{lift_forgets, forget-occurs, forget-depth, forget_twice, same_forgets, forgets_same}
use Rattle.pieces.specs.Docs.{◌⊹◌, quoted, line, G, Parenable, under, tile, tile_from}
use Rattle.binders.specs.Runs.{runs_to, runs, leading, following}
use Rattle.binders.specs.Binders.{
  Binder,
  binders,
  chain_body,
  pushed,
  in_force,
  is_arrow,
  is_named_pi,
  same_group,
  goes_along,
  binder_name,
  group_doc,
  telescope,
  arrow_par,
  forall_par,
  fun_par,
  run_par,
  runs_par,
  binders_par,
}
use Rattle.std.specs.Prelude.{Option, None, Some}
use Rattle.pool.specs.Kinds.{NotationKind, prefixᵏ, infixᵏ, postfixᵏ, noNotationᵏ}
use Rattle.pool.specs.Notation.{Operator}
use Rattle.binders.specs.Operators.{head_operator, prefix_par, postfix_par, infix_par}
use Rattle.pretty_printer.specs.Exprs.{app_head, app_args, app_par, operator_par, applied_par, chain_par, let_par, expr_par_to, expr_par, expr_doc}
use Rattle.declarations.specs.Declars.{keyword, info, can_leave, taken, Taken, def_rest, main_def, axiom_rest, main_axiom, declar_doc}
use Rattle.binders.specs.Options.{PpOptions}
use Rattle.binders.specs.Shown.{NamesInForce}

-- ---- documents that are equal but for the places

-- a document with its places forgotten
unfoldable pub bare : Marked → Marked
bare (textᵐ s) = textᵐ s
bare (joinᵐ a b) = joinᵐ (bare a) (bare b)
bare (breakᵐ k) = breakᵐ k
bare (nestᵐ m d) = nestᵐ m (bare d)
bare (groupᵐ d) = groupᵐ (bare d)
bare (names place count d) = names 0 count (bare d)

pub record Like (a b : Marked) : Type 0 where
  pub bared : bare a ≡ bare b

itself : {a : Marked} → Like a a
itself = record { bared = refl }

record Alike (p q : Parenable) : Type 0 where
  doc : Like p.doc q.doc
  inner : p.inner ≡ q.inner

like_join : {a b c d : Marked} → Like a c → Like b d → Like (a ⊹ b) (c ⊹ d)
unfolding bare
like_join p q = record { bared = ap₂ joinᵐ p.bared q.bared }

like_nest : {a b : Marked} (m : ℕ) → Like a b → Like (nestᵐ m a) (nestᵐ m b)
unfolding bare
like_nest m p = record { bared = ap (nestᵐ m) p.bared }

like_group : {a b : Marked} → Like a b → Like (G a) (G b)
unfolding bare
like_group p = record { bared = ap groupᵐ p.bared }

like_names : {a b : Marked} (p q c d : ℕ) → c ≡ d → Like a b → Like (names p c a) (names q d b)
unfolding bare
like_names p q c d e h = record { bared = ap₂ (names 0) e h.bared }

never : {A : Type 0} → true ≡ false → A
never e = absurd (let z : ◌≡◌ {A = ℕ} 0 1 = cc in omega arith)

like_under : (outer : ℕ) {p q : Parenable} → Alike p q → Like (under outer p) (under outer q)
unfolding under
like_under outer {p} {q} a = by (ltb p.inner outer) (ltb q.inner outer) (ap (λ (n : ℕ). ltb n outer) a.inner)
  where
    by : (b c : Bool) → b ≡ c
        → Like (cond b (quoted "(" ⊹ p.doc ⊹ quoted ")") p.doc) (cond c (quoted "(" ⊹ q.doc ⊹ quoted ")") q.doc)
    by true true e = like_join (like_join itself a.doc) itself
    by false false e = a.doc
    by true false e = never e
    by false true e = never (sym e)

bare_tile_from : (d : Marked) (ds : List Marked) → bare (tile_from d ds) ≡ tile_from (bare d) (map bare ds)
unfolding tile_from bare
bare_tile_from d [] = refl
bare_tile_from d (next ∷ ds) = bare_tile_from (d ⊹ G (line ⊹ next)) ds

bare_tile : (ds : List Marked) → bare (tile ds) ≡ tile (map bare ds)
unfolding tile quoted bare
bare_tile [] = refl
bare_tile (d ∷ ds) = bare_tile_from d ds

like_tile : (ds es : List Marked) → map bare ds ≡ map bare es → Like (tile ds) (tile es)
like_tile ds es e = record { bared = bare_tile ds ∙ ap tile e ∙ sym (bare_tile es) }

like_maps : {A : Type 0} (f : A → A) (g h : A → Marked) → ((x : A) → Like (g x) (h (f x))) → (xs : List A)
    → map bare (map g xs) ≡ map bare (map h (map f xs))
like_maps f g h e [] = refl
like_maps f g h e (x ∷ xs) = ap₂ (λ (d : Marked) (ds : List Marked). d ∷ ds) (e x).bared (like_maps f g h e xs)

-- ---- runs of a list whose members are changed

module _ {A B : Type 0} (f : A → B) where
  length-map : (xs : List A) → length (map f xs) ≡ length xs
  length-map [] = refl
  length-map (x ∷ xs) = ap suc (length-map xs)

  take-map : (n : ℕ) (xs : List A) → take n (map f xs) ≡ map f (take n xs)
  take-map zero xs = refl
  take-map (suc n) [] = refl
  take-map (suc n) (x ∷ xs) = ap (λ (l : List B). f x ∷ l) (take-map n xs)

  drop-map : (n : ℕ) (xs : List A) → drop n (map f xs) ≡ map f (drop n xs)
  drop-map zero xs = refl
  drop-map (suc n) [] = refl
  drop-map (suc n) (x ∷ xs) = drop-map n xs

  module _ (test : A → Bool) (other : B → Bool) (e : (x : A) → other (f x) ≡ test x) where
    leading-map : (xs : List A) → leading other (map f xs) ≡ map f (leading test xs)
    unfolding leading
    leading-map [] = refl
    leading-map (x ∷ xs) =
        ap (λ (b : Bool). cond b (f x ∷ leading other (map f xs)) []) (e x) ∙ by (test x) (leading-map xs)
      where
        by : (b : Bool) → leading other (map f xs) ≡ map f (leading test xs)
            → cond b (f x ∷ leading other (map f xs)) [] ≡ map f (cond b (x ∷ leading test xs) [])
        by true h = ap (λ (l : List B). f x ∷ l) h
        by false h = refl

    following-map : (xs : List A) → following other (map f xs) ≡ map f (following test xs)
    unfolding following
    following-map [] = refl
    following-map (x ∷ xs) =
        ap (λ (b : Bool). cond b (following other (map f xs)) (f x ∷ map f xs)) (e x) ∙ by (test x) (following-map xs)
      where
        by : (b : Bool) → following other (map f xs) ≡ map f (following test xs)
            → cond b (following other (map f xs)) (f x ∷ map f xs) ≡ map f (cond b (following test xs) (x ∷ xs))
        by true h = h
        by false h = refl

  module _ (goes : A → A → Bool) (other : B → B → Bool) (e : (x y : A) → other (f x) (f y) ≡ goes x y) where
    runs_to_map : (n : ℕ) (xs : List A) → runs_to n other (map f xs) ≡ map (map f) (runs_to n goes xs)
    unfolding runs_to
    runs_to_map zero xs = refl
    runs_to_map (suc n) [] = refl
    runs_to_map (suc n) (x ∷ xs) =
        ap₂ (λ (l : List B) (ls : List (List B)). (f x ∷ l) ∷ ls) (leading-map (goes x) (other (f x)) (e x) xs)
        (ap (runs_to n other) (following-map (goes x) (other (f x)) (e x) xs) ∙ runs_to_map n (following (goes x) xs))

    runs_map : (xs : List A) → runs other (map f xs) ≡ map (map f) (runs goes xs)
    unfolding runs
    runs_map xs = ap (λ (n : ℕ). runs_to n other (map f xs)) (length-map xs) ∙ runs_to_map (length xs) xs

-- ---- binders

-- a binder with its places forgotten
abbrev plainᵇ : Binder → Binder
plainᵇ b = record { is_pi = b.is_pi; used = b.used; name = b.name; style = b.style; type = forget b.type; place = 0 }

-- equality of trees passes over places
same_forgotten : (a b : Expr) → same (forget a) (forget b) ≡ same a b
same_forgotten a b =
    both_ways (same (forget a) (forget b)) (same a b)
    (λ h. forgets_same a b (sym (forget_twice a) ∙ same_forgets (forget a) (forget b) h ∙ forget_twice b))
    (λ h. forgets_same (forget a) (forget b) (ap forget (same_forgets a b h)))

same_group_plain : (b c : Binder) → same_group (plainᵇ b) (plainᵇ c) ≡ same_group b c
unfolding same_group
same_group_plain b c = ap (λ (x : Bool). not (eqb b.style 3) && (eqb b.style c.style && x)) (same_forgotten b.type c.type)

arrow_plain : (b : Binder) → is_arrow (plainᵇ b) ≡ is_arrow b
unfolding is_arrow
arrow_plain b = refl

named_plain : (b : Binder) → is_named_pi (plainᵇ b) ≡ is_named_pi b
unfolding is_named_pi is_arrow
named_plain b = refl

along_plain : (b c : Binder) → goes_along (plainᵇ b) (plainᵇ c) ≡ goes_along b c
unfolding goes_along is_named_pi is_arrow
along_plain b c = refl

binders-forget : (e : Expr) → binders (forget e) ≡ map plainᵇ (binders e)
unfolding binders forget
binders-forget (var i) = refl
binders-forget (sort l) = refl
binders-forget (const n ls) = refl
binders-forget (app f a) = refl
binders-forget (pi p n s t b) = rw (binders-forget b, forget-occurs 0 b, length-map plainᵇ (binders b), lift_forgets)
binders-forget (lam p n s t b) = rw (binders-forget b, forget-occurs 0 b, length-map plainᵇ (binders b), lift_forgets)
binders-forget (letᵉ p n t v b d) = refl
binders-forget (proj n i e) = refl
binders-forget (nat s) = refl
binders-forget (str s) = refl

body_forget : (e : Expr) → chain_body (forget e) ≡ forget (chain_body e)
unfolding chain_body forget
body_forget (var i) = refl
body_forget (sort l) = refl
body_forget (const n ls) = refl
body_forget (app f a) = refl
body_forget (pi p n s t b) = body_forget b
body_forget (lam p n s t b) = body_forget b
body_forget (letᵉ p n t v b d) = refl
body_forget (proj n i e) = refl
body_forget (nat s) = refl
body_forget (str s) = refl

pushed-plain : (bs : List Binder) (ns : NamesInForce) → pushed (map plainᵇ bs) ns ≡ pushed bs ns
unfolding pushed
pushed-plain [] ns = refl
pushed-plain (b ∷ bs) ns = pushed-plain bs (b.name ∷ ns)

names_plain : (bs : List Binder) → map binder_name (map plainᵇ bs) ≡ map binder_name bs
unfolding binder_name
names_plain [] = refl
names_plain (b ∷ bs) = ap (λ (l : List Marked). binder_name b ∷ l) (names_plain bs)

like_in_force : (bs : List Binder) (outside : ℕ) (d e : Marked) → Like d e → Like (in_force bs outside d) (in_force (map plainᵇ bs) outside e)
unfolding in_force
like_in_force [] outside d e h = h
like_in_force (b ∷ bs) outside d e h =
    like_names b.place 0 (outside + length (b ∷ bs)) (outside + length (map plainᵇ (b ∷ bs)))
    (ap (λ (n : ℕ). outside + n) (sym (length-map plainᵇ (b ∷ bs)))) h

module _ (opts : PpOptions) (pp : Expr → Parenable) (like : (e : Expr) → Alike (pp e) (pp (forget e))) where
  like_group_doc : (bs : List Binder) → Like (group_doc opts pp bs) (group_doc opts pp (map plainᵇ bs))
  unfolding group_doc
  like_group_doc [] = itself
  like_group_doc (b ∷ bs) =
      like_nest opts.indent
      (like_group
      (like_join
      (like_join itself
      (like_join (like_join (like_join (like_join (record { bared = ap (λ (l : List Marked). bare (tile l)) (sym (names_plain (b ∷ bs))) }) itself) itself) itself)
      (like_group (like_under 1 (like b.type)))))
      itself))

  like_telescope : (bs : List Binder) → Like (telescope opts pp bs) (telescope opts pp (map plainᵇ bs))
  unfolding telescope
  like_telescope bs =
      subst (λ (l : List (List Binder)). Like (tile (map (group_doc opts pp) (runs same_group bs))) (tile (map (group_doc opts pp) l)))
      (sym (runs_map plainᵇ same_group same_group same_group_plain bs))
      (like_tile (map (group_doc opts pp) (runs same_group bs)) (map (group_doc opts pp) (map (map plainᵇ) (runs same_group bs)))
      (like_maps (map plainᵇ) (group_doc opts pp) (group_doc opts pp) like_group_doc (runs same_group bs)))

  alike_run : (bs : List Binder) (tail other : Parenable) → Alike tail other → Alike (run_par opts pp bs tail) (run_par opts pp (map plainᵇ bs) other)
  unfolding run_par arrow_par forall_par fun_par is_arrow
  alike_run [] tail other h = h
  alike_run (b ∷ bs) tail other h = by (is_arrow b) b.is_pi
    where
      by : (x y : Bool)
          → Alike (cond x (arrow_par opts pp b tail) (cond y (forall_par opts pp (b ∷ bs) tail) (fun_par opts pp (b ∷ bs) tail)))
          (cond x (arrow_par opts pp (plainᵇ b) other) (cond y (forall_par opts pp (map plainᵇ (b ∷ bs)) other) (fun_par opts pp (map plainᵇ (b ∷ bs)) other)))
      by true y =
          record {
            doc = like_join (like_group (like_join (like_join (like_join (like_nest opts.indent (like_group (like_under 25 (like b.type)))) itself) itself) itself)) (like_under 24 h);
            inner = refl;
          }
      by false true =
          record {
            doc = like_join (like_join (like_nest opts.indent (like_group (like_join (like_join itself (like_telescope (b ∷ bs))) itself))) itself) (like_under 0 h);
            inner = refl;
          }
      by false false =
          record {
            doc = like_join (like_join (like_nest opts.indent (like_group (like_join (like_join (like_join itself (like_telescope (b ∷ bs))) itself) itself))) itself) (like_under 0 h);
            inner = refl;
          }

  alike_runs : (rs : List (List Binder)) (body other : Parenable) → Alike body other → Alike (runs_par opts pp rs body) (runs_par opts pp (map (map plainᵇ) rs) other)
  unfolding runs_par
  alike_runs [] body other h = h
  alike_runs (r ∷ rs) body other h =
      alike_run r (runs_par opts pp rs body) (runs_par opts pp (map (map plainᵇ) rs) other) (alike_runs rs body other h)

  alike_binders : (bs : List Binder) (body other : Parenable) → Alike body other → Alike (binders_par opts pp bs body) (binders_par opts pp (map plainᵇ bs) other)
  unfolding binders_par
  alike_binders bs body other h =
      subst (λ (rs : List (List Binder)). Alike (runs_par opts pp (runs goes_along bs) body) (runs_par opts pp rs other))
      (sym (runs_map plainᵇ goes_along goes_along along_plain bs))
      (alike_runs (runs goes_along bs) body other h)

  alike_chain : (bs : List Binder) (outside : ℕ) (body : Expr) → Alike (chain_par opts pp bs outside body) (chain_par opts pp (map plainᵇ bs) outside (forget body))
  unfolding chain_par
  alike_chain bs outside body =
      let a = alike_binders bs (pp body) (pp (forget body)) (like body) in
      record { doc = like_in_force bs outside _ _ a.doc; inner = a.inner }

  alike_app : (head : Expr) (args : List Expr) → Alike (app_par opts pp head args) (app_par opts pp (forget head) (map forget args))
  unfolding app_par
  alike_app head args =
      record {
        doc =
            like_nest opts.indent
            (like_group
            (like_tile (G (under 1023 (pp head)) ∷ map (λ a. G (under 1024 (pp a))) args) (G (under 1023 (pp (forget head))) ∷ map (λ a. G (under 1024 (pp a))) (map forget args))
            (ap₂ (λ (d : Marked) (ds : List Marked). d ∷ ds) (like_group (like_under 1023 (like head))).bared
            (like_maps forget (λ a. G (under 1024 (pp a))) (λ a. G (under 1024 (pp a))) (λ a. like_group (like_under 1024 (like a))) args))));
        inner = refl;
      }

  alike_operator : (o : Operator) (k : NotationKind) (head : Expr) (args : List Expr)
      → Alike (operator_par opts pp o k head args) (operator_par opts pp o k (forget head) (map forget args))
  unfolding operator_par prefix_par infix_par postfix_par
  alike_operator o prefixᵏ head [] = alike_app head []
  alike_operator o prefixᵏ head (x ∷ []) = record { doc = like_join itself (like_under o.priority (like x)); inner = refl }
  alike_operator o prefixᵏ head (x ∷ y ∷ more) = alike_app head (x ∷ y ∷ more)
  alike_operator o infixᵏ head [] = alike_app head []
  alike_operator o infixᵏ head (x ∷ []) = alike_app head (x ∷ [])
  alike_operator o infixᵏ head (x ∷ y ∷ []) =
      record {
        doc = like_nest opts.indent (like_group (like_join (like_join (like_join (like_under o.priority (like x)) itself) itself) (like_under o.priority (like y))));
        inner = refl;
      }
  alike_operator o infixᵏ head (x ∷ y ∷ z ∷ more) = alike_app head (x ∷ y ∷ z ∷ more)
  alike_operator o postfixᵏ head [] = alike_app head []
  alike_operator o postfixᵏ head (x ∷ []) =
      record { doc = like_group (like_join (like_join (like_under o.priority (like x)) itself) itself); inner = refl }
  alike_operator o postfixᵏ head (x ∷ y ∷ more) = alike_app head (x ∷ y ∷ more)
  alike_operator o noNotationᵏ head args = alike_app head args

  alike_applied : (o : Option Operator) (head : Expr) (args : List Expr)
      → Alike (applied_par opts pp o head args) (applied_par opts pp o (forget head) (map forget args))
  unfolding applied_par
  alike_applied None head args = alike_app head args
  alike_applied (Some o) head args = alike_operator o o.kind head args

-- ---- expressions

operator_forget : (opts : PpOptions) (e : Expr) → head_operator opts (forget e) ≡ head_operator opts e
unfolding head_operator forget
operator_forget opts (var i) = refl
operator_forget opts (sort l) = refl
operator_forget opts (const n ls) = refl
operator_forget opts (app f a) = operator_forget opts f
operator_forget opts (pi p n s t b) = refl
operator_forget opts (lam p n s t b) = refl
operator_forget opts (letᵉ p n t v b d) = refl
operator_forget opts (proj n i e) = refl
operator_forget opts (nat s) = refl
operator_forget opts (str s) = refl

head_forget : (e : Expr) → app_head (forget e) ≡ forget (app_head e)
unfolding app_head forget
head_forget (var i) = refl
head_forget (sort l) = refl
head_forget (const n ls) = refl
head_forget (app f a) = head_forget f
head_forget (pi p n s t b) = refl
head_forget (lam p n s t b) = refl
head_forget (letᵉ p n t v b d) = refl
head_forget (proj n i e) = refl
head_forget (nat s) = refl
head_forget (str s) = refl

args_forget : (e : Expr) (others : List Expr) → app_args (forget e) (map forget others) ≡ map forget (app_args e others)
unfolding app_args forget
args_forget (var i) others = refl
args_forget (sort l) others = refl
args_forget (const n ls) others = refl
args_forget (app f a) others = args_forget f (a ∷ others)
args_forget (pi p n s t b) others = refl
args_forget (lam p n s t b) others = refl
args_forget (letᵉ p n t v b d) others = refl
args_forget (proj n i e) others = refl
args_forget (nat s) others = refl
args_forget (str s) others = refl

module _ (opts : PpOptions) where
  -- a chain whose binders are `bs`, under any bound
  chain_alike : (k : ℕ) → ((ns : NamesInForce) (e : Expr) → Alike (expr_par_to opts k ns e) (expr_par_to opts k ns (forget e)))
      → (ns : NamesInForce) (bs cs : List Binder) (body other : Expr) → cs ≡ map plainᵇ bs → other ≡ forget body
      → Alike (chain_par opts (expr_par_to opts k (pushed bs ns)) bs (length ns) body) (chain_par opts (expr_par_to opts k (pushed cs ns)) cs (length ns) other)
  chain_alike k below ns bs cs body other e f =
      subst (λ (x : List Binder). Alike left (chain_par opts (expr_par_to opts k (pushed x ns)) x (length ns) other)) (sym e)
      (subst (λ (x : Expr). Alike left (chain_par opts (expr_par_to opts k (pushed (map plainᵇ bs) ns)) (map plainᵇ bs) (length ns) x)) (sym f)
      (subst (λ (x : NamesInForce). Alike left (chain_par opts (expr_par_to opts k x) (map plainᵇ bs) (length ns) (forget body))) (sym (pushed-plain bs ns))
      (alike_chain opts (expr_par_to opts k (pushed bs ns)) (below (pushed bs ns)) bs (length ns) body)))
    where
      left : Parenable
      left = chain_par opts (expr_par_to opts k (pushed bs ns)) bs (length ns) body

  alike_let : (p q c : ℕ) (n : Name) (t v b t' v' b' : Parenable) → Alike t t' → Alike v v' → Alike b b' → Alike (let_par opts p c n t v b) (let_par opts q c n t' v' b')
  unfolding let_par
  alike_let p q c n t v b t' v' b' x y z =
      record {
        doc =
            like_group
            (like_join
            (like_join
            (like_nest opts.indent
            (like_group
            (like_join
            (like_join
            (like_join (like_join (like_join (like_join itself (like_group (like_join itself (like_group (like_under 1 x))))) itself) itself) itself)
            (like_group (like_under 0 y)))
            itself)))
            itself)
            (like_names p q c c refl (like_under 0 z)));
        inner = refl;
      }

  alike_to : (k : ℕ) (ns : NamesInForce) (e : Expr) → Alike (expr_par_to opts k ns e) (expr_par_to opts k ns (forget e))
  unfolding expr_par_to forget
  alike_to zero ns e = record { doc = itself; inner = refl }
  alike_to (suc k) ns (var i) = record { doc = itself; inner = refl }
  alike_to (suc k) ns (sort l) = record { doc = itself; inner = refl }
  alike_to (suc k) ns (const n ls) = record { doc = itself; inner = refl }
  alike_to (suc k) ns (app f a) =
      let pp : Expr → Parenable = expr_par_to opts k ns in
      let o : Option Operator = head_operator opts f in
      let left : Parenable = applied_par opts pp o (app_head f) (app_args f (a ∷ [])) in
      subst (λ (x : Option Operator). Alike left (applied_par opts pp x (app_head (forget f)) (app_args (forget f) (forget a ∷ [])))) (sym (operator_forget opts f))
      (subst (λ (x : Expr). Alike left (applied_par opts pp o x (app_args (forget f) (forget a ∷ [])))) (sym (head_forget f))
      (subst (λ (x : List Expr). Alike left (applied_par opts pp o (forget (app_head f)) x)) (sym (args_forget f (a ∷ [])))
      (alike_applied opts pp (alike_to k ns) o (app_head f) (app_args f (a ∷ [])))))
  alike_to (suc k) ns (pi p n s t b) =
      chain_alike k (alike_to k) ns (binders (pi p n s t b)) (binders (pi 0 n s (forget t) (forget b))) (chain_body b) (chain_body (forget b)) (binders-forget (pi p n s t b)) (body_forget b)
  alike_to (suc k) ns (lam p n s t b) =
      chain_alike k (alike_to k) ns (binders (lam p n s t b)) (binders (lam 0 n s (forget t) (forget b))) (chain_body b) (chain_body (forget b)) (binders-forget (lam p n s t b)) (body_forget b)
  alike_to (suc k) ns (letᵉ p n t v b d) =
      alike_let p 0 (suc (length ns)) n (expr_par_to opts k ns t) (expr_par_to opts k ns v) (expr_par_to opts k (n ∷ ns) b) (expr_par_to opts k ns (forget t))
      (expr_par_to opts k ns (forget v)) (expr_par_to opts k (n ∷ ns) (forget b))
      (alike_to k ns t) (alike_to k ns v) (alike_to k (n ∷ ns) b)
  alike_to (suc k) ns (proj n i e) =
      record { doc = like_join (like_join (like_group (like_under 1024 (alike_to k ns e))) itself) itself; inner = refl }
  alike_to (suc k) ns (nat s) = record { doc = itself; inner = refl }
  alike_to (suc k) ns (str s) = record { doc = itself; inner = refl }

  alike_expr : (ns : NamesInForce) (e : Expr) → Alike (expr_par opts ns e) (expr_par opts ns (forget e))
  unfolding expr_par
  alike_expr ns e =
      subst (λ (k : ℕ). Alike (expr_par_to opts (depth e) ns e) (expr_par_to opts k ns (forget e))) (sym (forget-depth e)) (alike_to (depth e) ns e)

  expr_unplaced : (e : Expr) → Like (expr_doc opts e) (expr_doc opts (forget e))
  unfolding expr_doc
  expr_unplaced e = like_group (like_under 0 (alike_expr [] e))

  -- equal expressions have equal documents but for the places
  pub expr_like : (e f : Expr) → forget e ≡ forget f → Like (expr_doc opts e) (expr_doc opts f)
  expr_like e f h = record { bared = (expr_unplaced e).bared ∙ ap (λ (x : Expr). bare (expr_doc opts x)) h ∙ sym (expr_unplaced f).bared }

-- ---- declarations

-- the binders taken from a type are as many, and the opened value is the same but for its places
leave_plain : (b : Binder) → can_leave (plainᵇ b) ≡ can_leave b
unfolding can_leave
leave_plain b = refl

abbrev plainᵗ : Taken → Taken
plainᵗ t = record { count = t.count; value = forget t.value }

taken-plain : (bs : List Binder) (v : Expr) (n : ℕ) → taken (map plainᵇ bs) (forget v) n ≡ plainᵗ (taken bs v n)
unfolding taken forget
taken-plain [] v n = refl
taken-plain (b ∷ bs) (var i) n = refl
taken-plain (b ∷ bs) (sort l) n = refl
taken-plain (b ∷ bs) (const a ls) n = refl
taken-plain (b ∷ bs) (app f a) n = refl
taken-plain (b ∷ bs) (pi p a s t e) n = refl
taken-plain (b ∷ bs) (lam p a s t e) n =
    ap (λ (x : Bool). cond x (taken (map plainᵇ bs) (forget e) (suc n)) (record { count = n; value = lam 0 a s (forget t) (forget e) })) (leave_plain b)
    ∙ by (can_leave b) (taken-plain bs e (suc n))
  where
    by : (x : Bool) → taken (map plainᵇ bs) (forget e) (suc n) ≡ plainᵗ (taken bs e (suc n))
        → cond x (taken (map plainᵇ bs) (forget e) (suc n)) (record { count = n; value = lam 0 a s (forget t) (forget e) })
        ≡ plainᵗ (cond x (taken bs e (suc n)) (record { count = n; value = lam p a s t e }))
    by true h = h
    by false h = refl
taken-plain (b ∷ bs) (letᵉ p a t v e d) n = refl
taken-plain (b ∷ bs) (proj a i e) n = refl
taken-plain (b ∷ bs) (nat s) n = refl
taken-plain (b ∷ bs) (str s) n = refl

module _ (opts : PpOptions) (pp : Expr → Parenable) (like : (e : Expr) → Alike (pp e) (pp (forget e))) where
  like_def_rest : (bs : List Binder) (T U : Marked) → Like T U → Like (def_rest opts pp bs T) (def_rest opts pp (map plainᵇ bs) U)
  unfolding def_rest
  like_def_rest [] T U h = like_join (like_join (like_join itself h) itself) itself
  like_def_rest (b ∷ bs) T U h =
      like_group
      (like_join
      (like_join (like_join (like_join (like_join (like_nest opts.indent (like_group (like_telescope opts pp like (b ∷ bs)))) itself) itself) h) itself)
      itself)

  like_axiom_rest : (bs : List Binder) (T U : Marked) → Like T U → Like (axiom_rest opts pp bs T) (axiom_rest opts pp (map plainᵇ bs) U)
  unfolding axiom_rest
  like_axiom_rest [] T U h = like_nest opts.indent (like_group (like_join (like_join itself itself) (like_group h)))
  like_axiom_rest (b ∷ bs) T U h =
      like_nest opts.indent (like_group (like_join (like_join (like_join (like_join (like_telescope opts pp like (b ∷ bs)) itself) itself) itself) (like_group h)))

-- the parts of a declaration that its chain's binders decide, over the printer of what is inside
module _ (opts : PpOptions) (pp : Expr → Parenable) where
  abbrev axiom_part : List Binder → Expr → Marked
  axiom_part bs body =
      in_force bs 0 (axiom_rest opts pp (leading is_named_pi bs) (under 0 (binders_par opts pp (following is_named_pi bs) (pp body))))

  abbrev def_part : List Binder → Expr → Taken → Marked
  def_part bs body t =
      in_force bs 0
      (def_rest opts pp (take t.count bs) (nestᵐ opts.indent (line ⊹ G (under 0 (binders_par opts pp (drop t.count bs) (pp body))))))

  abbrev value_part : List Binder → Taken → Marked
  value_part bs t = nestᵐ opts.indent (line ⊹ G (under 0 (pp (lift (length (drop t.count bs)) 0 t.value))))

  module _ (like : (e : Expr) → Alike (pp e) (pp (forget e))) where
    like_axiom_part : (bs : List Binder) (body : Expr) → Like (axiom_part bs body) (axiom_part (map plainᵇ bs) (forget body))
    like_axiom_part bs body =
        subst (λ (x : List Binder). Like (axiom_part bs body)
        (in_force (map plainᵇ bs) 0 (axiom_rest opts pp x (under 0 (binders_par opts pp (following is_named_pi (map plainᵇ bs)) (pp (forget body)))))))
        (sym (leading-map plainᵇ is_named_pi is_named_pi named_plain bs))
        (subst (λ (x : List Binder). Like (axiom_part bs body) (in_force (map plainᵇ bs) 0
        (axiom_rest opts pp (map plainᵇ (leading is_named_pi bs)) (under 0 (binders_par opts pp x (pp (forget body)))))))
        (sym (following-map plainᵇ is_named_pi is_named_pi named_plain bs))
        (like_in_force bs 0 _ _
        (like_axiom_rest opts pp like (leading is_named_pi bs) _ _
        (like_under 0 (alike_binders opts pp like (following is_named_pi bs) (pp body) (pp (forget body)) (like body))))))

    like_def_part : (bs : List Binder) (body : Expr) (t : Taken) → Like (def_part bs body t) (def_part (map plainᵇ bs) (forget body) (plainᵗ t))
    like_def_part bs body t =
        subst (λ (x : List Binder). Like (def_part bs body t)
        (in_force (map plainᵇ bs) 0 (def_rest opts pp x
        (nestᵐ opts.indent (line ⊹ G (under 0 (binders_par opts pp (drop t.count (map plainᵇ bs)) (pp (forget body)))))))))
        (sym (take-map plainᵇ t.count bs))
        (subst (λ (x : List Binder). Like (def_part bs body t) (in_force (map plainᵇ bs) 0
        (def_rest opts pp (map plainᵇ (take t.count bs)) (nestᵐ opts.indent (line ⊹ G
        (under 0 (binders_par opts pp x (pp (forget body)))))))))
        (sym (drop-map plainᵇ t.count bs))
        (like_in_force bs 0 _ _
        (like_def_rest opts pp like (take t.count bs) _ _
        (like_nest opts.indent
        (like_join itself (like_group (like_under 0 (alike_binders opts pp like (drop t.count bs) (pp body) (pp (forget body)) (like body)))))))))

    like_value_part : (bs : List Binder) (t : Taken) → Like (value_part bs t) (value_part (map plainᵇ bs) (plainᵗ t))
    like_value_part bs t =
        let n : length (drop t.count (map plainᵇ bs)) ≡ length (drop t.count bs) = ap length (drop-map plainᵇ t.count bs) ∙ length-map plainᵇ (drop t.count bs) in
        subst (λ (x : Expr). Like (value_part bs t) (nestᵐ opts.indent (line ⊹ G (under 0 (pp x)))))
        (lift_forgets (length (drop t.count bs)) 0 t.value ∙ ap (λ (k : ℕ). lift k 0 (forget t.value)) (sym n))
        (like_nest opts.indent (like_join itself (like_group (like_under 0 (like (lift (length (drop t.count bs)) 0 t.value))))))

module _ (opts : PpOptions) where
  axiom_unplaced : (kind : ℕ) (name : Name) (levels : List Level) (type : Expr)
      → Like (main_axiom opts kind name levels type) (main_axiom opts kind name levels (forget type))
  unfolding main_axiom
  axiom_unplaced kind name levels type =
      let bs : List Binder = binders type in
      let part : NamesInForce → List Binder → Expr → Marked = (λ ns cs body. axiom_part opts (expr_par opts ns) cs body) in
      like_join itself
      (subst (λ (cs : List Binder). Like (part (pushed bs []) bs (chain_body type)) (part (pushed cs []) cs (chain_body (forget type)))) (sym (binders-forget type))
      (subst (λ (ns : NamesInForce). Like (part (pushed bs []) bs (chain_body type)) (part ns (map plainᵇ bs) (chain_body (forget type)))) (sym (pushed-plain bs []))
      (subst (λ (body : Expr). Like (part (pushed bs []) bs (chain_body type)) (part (pushed bs []) (map plainᵇ bs) body)) (sym (body_forget type))
      (like_axiom_part opts (expr_par opts (pushed bs [])) (alike_expr opts (pushed bs [])) bs (chain_body type)))))

  def_unplaced : (kind : ℕ) (name : Name) (levels : List Level) (type value : Expr)
      → Like (main_def opts kind name levels type value) (main_def opts kind name levels (forget type) (forget value))
  unfolding main_def
  def_unplaced kind name levels type value =
      let bs : List Binder = binders type in
      let t : Taken = taken bs value 0 in
      let front : Marked = keyword kind ⊹ quoted " " ⊹ info name levels ⊹ quoted " " in
      let whole : NamesInForce → List Binder → Expr → Taken → Marked =
      (λ ns cs body u. front ⊹ def_part opts (expr_par opts ns) cs body u ⊹ value_part opts (expr_par opts ns) cs u) in
      let left : Marked = whole (pushed bs []) bs (chain_body type) t in
      subst (λ (cs : List Binder). Like left (whole (pushed cs []) cs (chain_body (forget type)) (taken cs (forget value) 0))) (sym (binders-forget type))
      (subst (λ (u : Taken). Like left (whole (pushed (map plainᵇ bs) []) (map plainᵇ bs) (chain_body (forget type)) u)) (sym (taken-plain bs value 0))
      (subst (λ (ns : NamesInForce). Like left (whole ns (map plainᵇ bs) (chain_body (forget type)) (plainᵗ t))) (sym (pushed-plain bs []))
      (subst (λ (body : Expr). Like left (whole (pushed bs []) (map plainᵇ bs) body (plainᵗ t))) (sym (body_forget type))
      (like_join
      (like_join itself (like_def_part opts (expr_par opts (pushed bs [])) (alike_expr opts (pushed bs [])) bs (chain_body type) t))
      (like_value_part opts (expr_par opts (pushed bs [])) (alike_expr opts (pushed bs [])) bs t)))))

  declar_unplaced : (d : Declar) → Like (declar_doc opts d) (declar_doc opts (forgetᵈ d))
  unfolding declar_doc forgetᵈ
  declar_unplaced (typed kind name levels type) = like_group (axiom_unplaced kind name levels type)
  declar_unplaced (valued kind name levels type value) = like_group (def_unplaced kind name levels type value)

  -- equal declarations have equal documents but for the places
  pub declar_like : (d e : Declar) → forgetᵈ d ≡ forgetᵈ e → Like (declar_doc opts d) (declar_doc opts e)
  declar_like d e h = record { bared = (declar_unplaced d).bared ∙ ap (λ (x : Declar). bare (declar_doc opts x)) h ∙ sym (declar_unplaced e).bared }
