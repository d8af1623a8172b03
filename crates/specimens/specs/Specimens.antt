-- 01, Specimens: the starred ones, "proved together, as a list with one result about the definitions"; among the names those of 02, P1, and
-- `Prop` of 02, P5.
use Rattle.std.specs.Prelude.{ℕ, List, [], ◌∷◌, ◌≡◌, refl, length}
use Prim.Native.String.{String}
use Rattle.utf8.specs.Quoted.{bytes}
use Rattle.document.specs.Doc.{row_count, text_bytes}
use Rattle.document.specs.Walk.{Marked, unmarked}
use Rattle.layout.specs.Layout.{pieces}
use Rattle.layout.specs.Listing.{bytes_of, longest_row}
use Rattle.pool.specs.Tree.{Name, anonymous, string, number, Level, zeroˡ, maxˡ, paramˡ, Expr, var, sort, const, app, pi, lam, valued}
use Rattle.names.specs.Names.{name_doc}
use Rattle.binders.specs.Options.{indented}
use Rattle.pretty_printer.specs.Exprs.{expr_doc}
use Rattle.declarations.specs.Declars.{declar_doc}
use Rattle.specimens.specs.Computing.{computing}

-- the listing of a document at a width
unfoldable pub listing : ℕ → Marked → List ℕ
listing width m = bytes_of (pieces width (unmarked m))

-- document rows, text bytes, listing length, longest row
unfoldable pub counts : ℕ → Marked → List ℕ
counts width m =
    row_count (unmarked m) ∷ length (text_bytes (unmarked m)) ∷ length (listing width m) ∷ longest_row 0 (pieces width (unmarked m)) ∷ []

unfoldable pub name : String → Name
name s = string anonymous (bytes s)

unfoldable pub constant : String → Expr
constant s = const (name s) []

-- a default pi and a default lambda
forallᵉ : String → Expr → Expr → Expr
forallᵉ s t b = pi 0 (name s) 0 t b

fun : String → Expr → Expr → Expr
fun s t b = lam 0 (name s) 0 t b

-- printed with the indent 2, at the width 120 unless 01 says another
expr : Expr → List ℕ
expr e = listing 120 (expr_doc (indented 2) e)

nat_to_nat : Marked
nat_to_nat = expr_doc (indented 2) (pi 0 anonymous 0 (constant "Nat") (constant "Nat"))

u : Level
u = paramˡ (name "u")

-- the type (a : Sort u) → Sort u, with a value
k : Expr → List ℕ
k value = listing 120 (declar_doc (indented 2) (valued 3 (name "k") (u ∷ []) (forallᵉ "a" (sort u) (sort u)) value))

a_then_b_c : Name
a_then_b_c = string (name "a") (bytes "b c")

names : List Name → List (List ℕ)
names [] = []
names (n ∷ ns) = listing 120 (name_doc n) ∷ names ns

pub printed : List (List ℕ)
printed =
    expr (var 0)
    ∷ expr (pi 0 anonymous 0 (var 5) (constant "C"))
    ∷ expr (app (constant "f") (app (constant "g") (constant "a")))
    ∷ expr (forallᵉ "n" (constant "Nat") (app (constant "P") (var 0)))
    ∷ counts 13 nat_to_nat
    ∷ listing 13 nat_to_nat
    ∷ counts 12 nat_to_nat
    ∷ listing 12 nat_to_nat
    ∷ expr (sort zeroˡ)
    ∷ expr (sort (maxˡ zeroˡ zeroˡ))
    ∷ expr (fun "a" (constant "A") (fun "b" (constant "B") (fun "c" (constant "A") (fun "d" (constant "A") (var 0)))))
    ∷ k (fun "a" (sort u) (var 0))
    ∷ k (constant "c")
    ∷ counts 120 (name_doc a_then_b_c)
    ∷ counts 120 (name_doc anonymous)
    ∷ names
    (name "α"
    ∷ name "x₈"
    ∷ name "ω"
    ∷ name "x₉"
    ∷ name "λ"
    ∷ a_then_b_c
    ∷ anonymous
    ∷ string (name "a b") (bytes "c")
    ∷ number (name "a b") 5
    ∷ string (string (name "a") []) (bytes "b")
    ∷ string (name "") (bytes "b c")
    ∷ name "_@"
    ∷ [])

pub expected : List (List ℕ)
expected =
    bytes "0"
    ∷ bytes "6 → @C"
    ∷ bytes "@f (@g @a)"
    ∷ bytes "forall (n : @Nat), @P n"
    ∷ (17 ∷ 12 ∷ 13 ∷ 13 ∷ [])
    ∷ bytes "@Nat → @Nat"
    ∷ (17 ∷ 12 ∷ 13 ∷ 8 ∷ [])
    ∷ bytes "@Nat →\n@Nat"
    ∷ bytes "Prop"
    ∷ bytes "Sort (max 0 0)"
    ∷ bytes "fun (a : @A) (b : @B) (c d : @A) => d"
    ∷ bytes "def k.{u} (a : Sort u) : Sort u := a"
    ∷ bytes "def k.{u} : Sort u → Sort u := @c"
    ∷ (1 ∷ 9 ∷ 9 ∷ 9 ∷ [])
    ∷ (1 ∷ 4 ∷ 4 ∷ 4 ∷ [])
    ∷ bytes "α"
    ∷ bytes "x₈"
    ∷ bytes "«ω»"
    ∷ bytes "«x₉»"
    ∷ bytes "«λ»"
    ∷ bytes "a.«b c»"
    ∷ bytes "«»"
    ∷ bytes "«a b».c"
    ∷ bytes "«a b».5"
    ∷ bytes "a..b"
    ∷ bytes "«b c»"
    ∷ bytes "_@"
    ∷ []

pub specimens_print : printed ≡ expected
unfolding computing listing counts name constant forallᵉ fun expr nat_to_nat u k a_then_b_c names printed expected
specimens_print = refl
