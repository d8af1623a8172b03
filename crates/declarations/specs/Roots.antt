-- A root: an expression or a declaration of a pool (document 01, Pool).
use Rattle.std.specs.Prelude.{ℕ}
use Rattle.document.specs.Walk.{Marked}
use Rattle.pool.specs.Tables.{Pool, E, D}
use Rattle.pool.specs.Unfold.{expr_at, declar_at}
use Rattle.binders.specs.Options.{PpOptions}
use Rattle.pretty_printer.specs.Exprs.{expr_doc}
use Rattle.declarations.specs.Declars.{declar_doc}
use Rattle.declarations.specs.declared.listing.Root.{Root}
use Rattle.declarations.specs.declared.listing.Root.TheVariants.{Expr, Declar}

-- its row
abbrev pub row_of : Root → ℕ
row_of (Expr row) = row
row_of (Declar row) = row

-- how many rows its table has
abbrev pub roots_in : Root → Pool → ℕ
roots_in (Expr row) p = E p.words
roots_in (Declar row) p = D p.words

-- the document that it is printed to, with its marks
abbrev pub root_doc : Root → PpOptions → Pool → Marked
root_doc (Expr row) opts p = expr_doc opts (expr_at p row)
root_doc (Declar row) opts p = declar_doc opts (declar_at p row)
