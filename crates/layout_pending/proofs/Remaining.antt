-- The pieces that some entries stand for, and what takes an entry's place stands for the same.
use Prim.Native.Nat.{ℕ, ◌-◌}
use mathlib.Core.Bool.{true, false}
use mathlib.Core.List.{List, [], ◌∷◌, ◌++◌, append_assoc}
use mathlib.Core.Path.{◌≡◌, ap, ◌∙◌}
use Rattle.document.specs.Doc.{Doc, join, nest, group, has_break, first_break, flat_size, through}
use Rattle.document.specs.Rows.{word, left_of, doc_at}
use Rattle.layout.specs.declared.cursor.Cursor.{Cursor}
use Rattle.layout.specs.Layout.{Piece, testᵖ, run, layout}
use Rattle.layout.proofs.Pieces.{run-append}
use Rattle.layout_pending.specs.declared.entries.Entry.{Entry}
use Rattle.layout_pending.specs.Contract.{left_child, right_child, nested, grouped, tested_unless}

-- the pieces of the document d, as an entry has it
abbrev pub pieces_of : ℕ → Doc → Entry → Cursor → List Piece
pieces_of w d e c = layout w d e.nest e.flat e.next c

unfoldable pub remaining : ℕ → List ℕ → List ℕ → ℕ → List Entry → Cursor → List Piece
remaining w rows texts count [] c = []
remaining w rows texts count (e ∷ es) c =
    let ps = pieces_of w (doc_at rows texts count e.row) e c in
    ps ++ remaining w rows texts count es (run w c ps)

module _ (w : ℕ) (rows texts : List ℕ) (count : ℕ) (e : Entry) (es : List Entry) (c : Cursor) where
  abbrev doc : ℕ → Doc
  doc = doc_at rows texts count

  abbrev rest : Cursor → List Piece
  rest = remaining w rows texts count es

  of_doc : (d : Doc) → doc e.row ≡ d → remaining w rows texts count (e ∷ es) c ≡ pieces_of w d e c ++ rest (run w c (pieces_of w d e c))
  unfolding remaining
  of_doc d q = ap (λ (x : Doc). pieces_of w x e c ++ rest (run w c (pieces_of w x e c))) q

  pub remaining_join : doc e.row ≡ join (doc (left_of rows e.row)) (doc (e.row - 1))
      → through (has_break (doc (e.row - 1))) (first_break (doc (e.row - 1))) e.next ≡ (left_child rows e).next
      → remaining w rows texts count (e ∷ es) c ≡ remaining w rows texts count (left_child rows e ∷ right_child e ∷ es) c
  unfolding remaining layout
  remaining_join q n =
      let a : Doc = doc (left_of rows e.row) in
      let b : Doc = doc (e.row - 1) in
      let A : List Piece = pieces_of w a (left_child rows e) c in
      let B : List Piece = pieces_of w b (right_child e) (run w c A) in
      let same : pieces_of w (join a b) e c ≡ A ++ B =
      ap (λ (t : ℕ). let ps = layout w a e.nest e.flat t c in ps ++ layout w b e.nest e.flat e.next (run w c ps)) n in
      of_doc (join a b) q
      ∙ ap (λ (ps : List Piece). ps ++ rest (run w c ps)) same
      ∙ ap (λ (x : Cursor). (A ++ B) ++ rest x) (run-append w c A B)
      ∙ append_assoc A B (rest (run w (run w c A) B))

  pub remaining_nest : doc e.row ≡ nest (word rows e.row 1) (doc (e.row - 1))
      → remaining w rows texts count (e ∷ es) c ≡ remaining w rows texts count (nested rows e ∷ es) c
  unfolding remaining layout
  remaining_nest q = of_doc _ q

  module _ (q : doc e.row ≡ group (doc (e.row - 1))) where
    pub remaining_flat : e.flat ≡ true → remaining w rows texts count (e ∷ es) c ≡ remaining w rows texts count (grouped rows e c ∷ es) c
    unfolding remaining layout
    remaining_flat f = of_doc _ q ∙ rw f

    pub remaining_test : e.flat ≡ false → flat_size (doc (e.row - 1)) ≡ word rows e.row 4
        → remaining w rows texts count (e ∷ es) c ≡ testᵖ (grouped rows e c).flat ∷ remaining w rows texts count (grouped rows e c ∷ es) (tested_unless e.flat c)
    unfolding remaining layout run
    remaining_test f s = of_doc _ q ∙ rw (f, s)
