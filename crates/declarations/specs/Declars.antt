-- 01, Declarations.
use Rattle.std.specs.Prelude.{ℕ, zero, suc, Bool, ◌&&◌, not, cond, List, [], ◌∷◌, eqb, length, take, drop}
use Rattle.document.specs.Walk.{Marked, nestᵐ}
use Rattle.pool.specs.Tree.{Name, Level, Expr, var, sort, const, app, pi, lam, letᵉ, proj, nat, str, Declar, typed, valued, lift}
use Rattle.pieces.specs.Docs.{◌⊹◌, quoted, line, G, NG, Parenable, under}
use Rattle.binders.specs.Runs.{leading, following}
use Rattle.names.specs.Names.{name_doc, is_anonymous}
use Rattle.levels.specs.Levels.{levels_doc}
use Rattle.binders.specs.Binders.{Binder, binders, chain_body, pushed, in_force, is_named_pi, telescope, binders_par}
use Rattle.pretty_printer.specs.Exprs.{expr_par}
use Rattle.binders.specs.Options.{PpOptions}

-- "Word (axiom, Quotient primitive, theorem, def, opaque, inductive, constructor, recursor)" by kind
unfoldable pub keyword : ℕ → Marked
keyword zero = quoted "axiom"
keyword (suc zero) = quoted "Quotient primitive"
keyword (suc (suc zero)) = quoted "theorem"
keyword (suc (suc (suc zero))) = quoted "def"
keyword (suc (suc (suc (suc zero)))) = quoted "opaque"
keyword (suc (suc (suc (suc (suc zero))))) = quoted "inductive"
keyword (suc (suc (suc (suc (suc (suc zero)))))) = quoted "constructor"
keyword (suc (suc (suc (suc (suc (suc (suc k))))))) = quoted "recursor"

-- "Info: name+("."+G("{"+tile of levels+"}")), or name+empty text for no levels."
unfoldable pub info : Name → List Level → Marked
info n ls = name_doc n ⊹ levels_doc ls

-- "leading binders leave the type while they are pi, not anonymous, default style, and the value is a lambda, which opens":
-- how many, and the opened value
unfoldable pub can_leave : Binder → Bool
can_leave b = b.is_pi && (not (is_anonymous b.name) && eqb b.style 0)

pub record Taken : Type 0 where
  pub count : ℕ
  pub value : Expr

unfoldable pub taken : List Binder → Expr → ℕ → Taken
taken [] v n = record { count = n; value = v }
taken (b ∷ bs) (var i) n = record { count = n; value = var i }
taken (b ∷ bs) (sort l) n = record { count = n; value = sort l }
taken (b ∷ bs) (const a ls) n = record { count = n; value = const a ls }
taken (b ∷ bs) (app f a) n = record { count = n; value = app f a }
taken (b ∷ bs) (pi p a s t e) n = record { count = n; value = pi p a s t e }
taken (b ∷ bs) (lam p a s t e) n = cond (can_leave b) (taken bs e (suc n)) (record { count = n; value = lam p a s t e })
taken (b ∷ bs) (letᵉ p a t v e d) n = record { count = n; value = letᵉ p a t v e d }
taken (b ∷ bs) (proj a i e) n = record { count = n; value = proj a i e }
taken (b ∷ bs) (nat s) n = record { count = n; value = nat s }
taken (b ∷ bs) (str s) n = record { count = n; value = str s }

module _ (opts : PpOptions) where
  -- "T = N(|+G(remaining type)). No such binder: ":"+T+" "+":="; else G(N(G(binders))+" "+":"+T+" "+":=")."
  unfoldable pub def_rest : (Expr → Parenable) → List Binder → Marked → Marked
  def_rest pp [] T = quoted ":" ⊹ T ⊹ quoted " " ⊹ quoted ":="
  def_rest pp (b ∷ bs) T =
      G (NG opts.indent (telescope opts pp (b ∷ bs)) ⊹ quoted " " ⊹ quoted ":" ⊹ T ⊹ quoted " " ⊹ quoted ":=")

  -- "Kinds 2 to 4": "joined last, after word, info and rest, comes N(|+G(opened value, lifted past the binders not taken))"
  unfoldable pub main_def : ℕ → Name → List Level → Expr → Expr → Marked
  main_def kind name levels type value =
      let bs : List Binder = binders type in
      let pp : Expr → Parenable = expr_par opts (pushed bs []) in
      let t : Taken = taken bs value 0 in
      let remaining : List Binder = drop t.count bs in
      let T : Marked = nestᵐ opts.indent (line ⊹ G (under 0 (binders_par opts pp remaining (pp (chain_body type))))) in
      keyword kind
      ⊹ quoted " "
      ⊹ info name levels
      ⊹ quoted " "
      ⊹ in_force bs 0 (def_rest pp (take t.count bs) T)
      ⊹ nestᵐ opts.indent (line ⊹ G (under 0 (pp (lift (length remaining) 0 t.value))))

  -- "Others: N(G(binders+" "+":"+|+G(type))) over the leading non-arrow pis; without any, ":" alone opens it."
  unfoldable pub axiom_rest : (Expr → Parenable) → List Binder → Marked → Marked
  axiom_rest pp [] T = NG opts.indent (quoted ":" ⊹ line ⊹ G T)
  axiom_rest pp (b ∷ bs) T = NG opts.indent (telescope opts pp (b ∷ bs) ⊹ quoted " " ⊹ quoted ":" ⊹ line ⊹ G T)

  unfoldable pub main_axiom : ℕ → Name → List Level → Expr → Marked
  main_axiom kind name levels type =
      let bs : List Binder = binders type in
      let pp : Expr → Parenable = expr_par opts (pushed bs []) in
      let T : Marked = under 0 (binders_par opts pp (following is_named_pi bs) (pp (chain_body type))) in
      keyword kind
      ⊹ quoted " "
      ⊹ info name levels
      ⊹ quoted " "
      ⊹ in_force bs 0 (axiom_rest pp (leading is_named_pi bs) T)

  -- "Every listing is one outer G."
  unfoldable pub declar_doc : Declar → Marked
  declar_doc (typed kind name levels type) = G (main_axiom kind name levels type)
  declar_doc (valued kind name levels type value) = G (main_def kind name levels type value)
