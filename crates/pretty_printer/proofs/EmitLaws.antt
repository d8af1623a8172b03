-- What a document's parts put, in the code's own steps.
use mathlib.Core.Bool.{Bool, true, false, cond}
use mathlib.Core.List.{List, [], ◌∷◌, ◌++◌, map, append_assoc, map-append}
use mathlib.Core.Path.{◌≡◌, refl, sym, ap, ◌∙◌}
use Rattle.document.specs.Walk.{Marked}
use Rattle.document.specs.Sink.{State, put_join, emit}
use Rattle.pool.specs.Tree.{Expr, var, sort, const, app, pi, lam, letᵉ, proj, nat, str}
use Rattle.pieces.specs.Docs.{◌⊹◌, quoted, line, G, NG, Parenable, with_inner, under, tile, tile_from, opening, closing}
use Rattle.pieces.specs.Tiles.{put_tile}
use Rattle.pieces.proofs.Emitting.{tile_emits}
use Rattle.binders.specs.Runs.{leading, following, runs}
use Rattle.binders.specs.Binders.{Binder, is_arrow, goes_along, same_group, binder_name, group_doc, telescope, arrow_par, forall_par, fun_par, run_par, runs_par}
use Rattle.binders.specs.Binders.{binders_par}
use Rattle.pretty_printer.specs.Exprs.{app_head, app_args, app_par}
use Rattle.binders.specs.Steps.{spine_doc}
use Rattle.pieces.specs.Puts.{join_piece, join_line, put_colon, put_arrow, start_run, mark_run, end_run, end_group}
use Rattle.binders.proofs.RunLaws.{runs_are_leading, runs_of_none}
use Rattle.binders.proofs.GroupLaws.{arrow_alone}
use Rattle.binders.specs.Options.{PpOptions}

-- ---- tiles

tile_last : (d : Marked) (ds : List Marked) (x : Marked) → tile_from d (ds ++ (x ∷ [])) ≡ tile_from d ds ⊹ G (line ⊹ x)
unfolding tile_from
tile_last d [] x = refl
tile_last d (next ∷ ds) x = tile_last (d ⊹ G (line ⊹ next)) ds x

-- ---- applications

args_last : (e : Expr) (xs : List Expr) → app_args e xs ≡ app_args e [] ++ xs
unfolding app_args
args_last (var i) xs = refl
args_last (sort l) xs = refl
args_last (const n ls) xs = refl
args_last (app f a) xs = args_last f (a ∷ xs) ∙ sym (ap (λ (l : List Expr). l ++ xs) (args_last f (a ∷ [])) ∙ append_assoc (app_args f []) (a ∷ []) xs)
args_last (pi p n s t b) xs = refl
args_last (lam p n s t b) xs = refl
args_last (letᵉ p n t v b d) xs = refl
args_last (proj n i e) xs = refl
args_last (nat s) xs = refl
args_last (str s) xs = refl

module _ (pp : Expr → Parenable) where
  arg : Expr → Marked
  arg a = G (under 1024 (pp a))

  -- the tile of an application, from its head on
  spine_is_tile : (e : Expr) → spine_doc pp e ≡ tile_from (G (under 1023 (pp (app_head e)))) (map arg (app_args e []))
  unfolding spine_doc app_head app_args tile_from arg
  spine_is_tile (var i) = refl
  spine_is_tile (sort l) = refl
  spine_is_tile (const n ls) = refl
  spine_is_tile (app f a) =
      ap (λ (d : Marked). d ⊹ G (line ⊹ arg a)) (spine_is_tile f)
      ∙ sym (ap (λ (l : List Expr). tile_from (G (under 1023 (pp (app_head f)))) (map arg l)) (args_last f (a ∷ []))
      ∙ ap (tile_from (G (under 1023 (pp (app_head f))))) (map-append arg (app_args f []) (a ∷ []))
      ∙ tile_last (G (under 1023 (pp (app_head f)))) (map arg (app_args f [])) (arg a))
  spine_is_tile (pi p n s t b) = refl
  spine_is_tile (lam p n s t b) = refl
  spine_is_tile (letᵉ p n t v b d) = refl
  spine_is_tile (proj n i e) = refl
  spine_is_tile (nat s) = refl
  spine_is_tile (str s) = refl

  pub app_is_spine : (opts : PpOptions) (f a : Expr) → app_par opts pp (app_head f) (app_args f (a ∷ [])) ≡ with_inner 1023 (NG opts.indent (spine_doc pp (app f a)))
  unfolding app_par tile app_head app_args arg
  app_is_spine opts f a = ap (λ (d : Marked). with_inner 1023 (NG opts.indent d)) (sym (spine_is_tile (app f a)))

-- ---- chains

module _ (opts : PpOptions) (pp : Expr → Parenable) where
  pub no_binders : (body : Parenable) → binders_par opts pp [] body ≡ body
  unfolding binders_par runs_par
  no_binders body = rw (runs_of_none goes_along)

  pub arrow_first : (b : Binder) (bs : List Binder) (body : Parenable) → is_arrow b ≡ true → b.is_pi ≡ true → binders_par opts pp (b ∷ bs)
      body ≡ arrow_par opts pp b (binders_par opts pp bs body)
  unfolding binders_par runs_par run_par
  arrow_first b bs body e q = rw (arrow_alone b e q bs, e)

  pub run_first : (b : Binder) (bs : List Binder) (body : Parenable) → is_arrow b ≡ false →
      binders_par opts pp (b ∷ bs) body ≡ cond b.is_pi
      (forall_par opts pp (b ∷ leading (goes_along b) bs) (binders_par opts pp (following (goes_along b) bs) body))
      (fun_par opts pp (b ∷ leading (goes_along b) bs) (binders_par opts pp (following (goes_along b) bs) body))
  unfolding binders_par runs_par run_par
  run_first b bs body e = rw (runs_are_leading goes_along b bs, e)

  -- an arrow binder and what follows it
  pub arrow_puts : (b : Binder) (tail : Parenable) (st : State) → emit (arrow_par opts pp b tail).doc st ≡ put_join
      (emit (under 24 tail) (put_arrow opts.indent (emit (under 25 (pp b.type)) st)))
  unfolding arrow_par emit put_arrow join_line join_piece quoted
  arrow_puts b tail st = refl

  -- a run and what follows it
  pub run_puts : (c : Bool) (bs : List Binder) (tail : Parenable) (st : State) →
      emit (cond c (forall_par opts pp bs tail) (fun_par opts pp bs tail)).doc st ≡ put_join (emit (under 0 tail) (end_run opts.indent c (emit (telescope opts pp bs) (start_run c st))))
  unfolding forall_par fun_par emit end_run mark_run start_run join_line join_piece quoted
  run_puts true bs tail st = refl
  run_puts false bs tail st = refl

  -- a run's groups: the first, then the others
  pub telescope_puts : (b : Binder) (bs : List Binder) (st : State) →
      emit (telescope opts pp (b ∷ bs)) st ≡ put_tile (map (group_doc opts pp) (runs same_group (following (same_group b) bs))) (emit (group_doc opts pp (b ∷ leading (same_group b) bs)) st)
  unfolding telescope tile
  telescope_puts b bs st = rw (runs_are_leading same_group b bs)
      (sym (tile_emits (group_doc opts pp (b ∷ leading (same_group b) bs)) (map (group_doc opts pp) (runs same_group (following (same_group b) bs))) st))

  pub group_puts : (b : Binder) (bs : List Binder) (st : State) →
      emit (group_doc opts pp (b ∷ bs)) st ≡ end_group opts.indent (closing b.style)
      (emit (under 1 (pp b.type)) (put_colon (emit (tile (map binder_name (b ∷ bs))) (emit (opening b.style) st))))
  unfolding group_doc emit end_group put_colon join_line join_piece quoted
  group_puts b bs st = refl
