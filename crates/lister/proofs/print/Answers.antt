use mathlib.Core.Path.{sym, ap, ◌∙◌}
use Rattle.pool.specs.Tables.{Pool}
use Rattle.binders.specs.Options.{options}
use Rattle.pool_check.proofs.Verdicts.{err_is}
use Rattle.declarations.specs.Roots.{root_doc}
use Rattle.lister.specs.Answers.{Answer}
use Rattle.lister.specs.Prints.{Areas, print_doc, has_root}
use Rattle.lister.proofs.Beginning.{kept, pool_refused, root_missing, size_refused, print_begins, begins}
use Rattle.lister.proofs.print.Goals as goal

pub returns-in_err-pool : goal.returns-in_err-pool
returns-in_err-pool c =
    let a = c.args in
    let areas : Areas = record { rows = a.rows.now; text = a.text.now; listing = a.listing.now } in
    ap (λ (v : Answer). kept v areas) (err_is _ _ c.from_residual.ensures.1) ∙ pool_refused _ _ _ _ _ _ (sym c.in_err-pool.ensures.verdict)

pub returns-then-not-has_root : goal.returns-then-not-has_root
returns-then-not-has_root c =
    let absent = ap (has_root c.args.root) (sym c.in_ok-pool.ensures.same) ∙ sym c.has_root.ensures ∙ c.if-not-has_root.true in
    root_missing _ _ _ _ _ (sym c.in_ok-pool.ensures.verdict) absent

pub returns-then-not-sizes_ok : goal.returns-then-not-sizes_ok
returns-then-not-sizes_ok c =
    let present = ap (has_root c.args.root) (sym c.in_ok-pool.ensures.same) ∙ sym c.has_root.ensures ∙ c.if-not-has_root.false in
    size_refused _ _ _ _ _ (sym c.in_ok-pool.ensures.verdict) present (sym c.sizes_ok.ensures ∙ c.if-not-sizes_ok.true)

pub print_checked-requires : goal.print_checked-requires
print_checked-requires c =
    begins _ _ _ _ _ c.in_ok-pool.ensures.same c.in_ok-pool.ensures.few (sym c.has_root.ensures ∙ c.if-not-has_root.false) (sym c.sizes_ok.ensures ∙ c.if-not-sizes_ok.false)

pub returns : goal.returns
returns c =
    let a = c.args in
    let areas : Areas = record { rows = a.rows.now; text = a.text.now; listing = a.listing.now } in
    let same = c.in_ok-pool.ensures.same in
    let present = ap (has_root c.args.root) (sym same) ∙ sym c.has_root.ensures ∙ c.if-not-has_root.false in
    c.print_checked.ensures
    ∙ ap (λ (q : Pool). print_doc (root_doc c.args.root (options c.args.indent q) q) c.args.width areas) same
    ∙ print_begins _ _ _ _ _ (sym c.in_ok-pool.ensures.verdict) present (sym c.sizes_ok.ensures ∙ c.if-not-sizes_ok.false)
