-- Laws of pieces: the cursor after them, and their bytes.
use Prim.Native.Nat.{ℕ, ◌+◌}
use native.Mathlib.Omega.{arith}
use native.Mathlib.Nat.{add-zero}
use mathlib.Core.Bool.{Bool}
use mathlib.Core.List.{List, [], ◌∷◌, ◌++◌, append-nil, append_assoc}
use mathlib.Core.Path.{◌≡◌, refl, sym, ap, ap₂, ◌∙◌}
use lib.ListN.{length, length-append, length-replicate}
use Rattle.layout.specs.declared.cursor.Cursor.{Cursor}
use Rattle.layout.specs.Layout.{Piece, textᵖ, blankᵖ, newlineᵖ, testᵖ, after, run}
use Rattle.layout.specs.Listing.{piece_bytes, bytes_of}
use Rattle.layout.specs.Paint.{paint}
use Rattle.layout.specs.Contract.{Emitted, Emitteds}
use Rattle.layout.proofs.Painting.{paint-append}

after_position : (w : ℕ) (c : Cursor) (p : Piece) → (after w c p).position ≡ c.position + length (piece_bytes p)
after_position w c (textᵖ s) = refl
after_position w c (blankᵖ k) = simp length-replicate
after_position w c (newlineᵖ k n) = let h = length-replicate {A = ℕ} n 32 in omega arith
after_position w c (testᵖ b) = sym (add-zero c.position)

pub run_position : (w : ℕ) (c : Cursor) (ps : List Piece) → (run w c ps).position ≡ c.position + length (bytes_of ps)
unfolding run bytes_of
run_position w c [] = sym (add-zero c.position)
run_position w c (p ∷ ps) =
    let h = run_position w (after w c p) ps in
    let e = after_position w c p in
    let l = length-append (piece_bytes p) (bytes_of ps) in
    omega arith

pub run-append : (w : ℕ) (c : Cursor) (ps qs : List Piece) → run w c (ps ++ qs) ≡ run w (run w c ps) qs
unfolding run
run-append w c [] qs = refl
run-append w c (p ∷ ps) qs = run-append w (after w c p) ps qs

bytes-append : (ps qs : List Piece) → bytes_of (ps ++ qs) ≡ bytes_of ps ++ bytes_of qs
unfolding bytes_of
bytes-append [] qs = refl
bytes-append (p ∷ ps) qs =
    ap (λ (l : List ℕ). piece_bytes p ++ l) (bytes-append ps qs) ∙ sym (append_assoc (piece_bytes p) (bytes_of ps) (bytes_of qs))

module _ (w : ℕ) where
  pub emitted_one : (p : Piece) (c v : Cursor) (l l' : List ℕ) → Emitted w p c v l l' → Emitteds w (p ∷ []) c v l l'
  unfolding run bytes_of
  emitted_one p c v l l' e = record { cursor = e.cursor; bytes = e.bytes ∙ ap (paint l c.position) (sym (append-nil (piece_bytes p))) }

  pub emitted_append : (ps qs : List Piece) (c m v : Cursor) (l k l' : List ℕ) → Emitteds w ps c m l k → Emitteds w qs m v k l' → Emitteds w (ps ++ qs) c v l l'
  emitted_append ps qs c m v l k l' a b =
      record {
        cursor = b.cursor ∙ ap (λ (x : Cursor). run w x qs) a.cursor ∙ sym (run-append w c ps qs);
        bytes =
            b.bytes
            ∙ ap₂ (λ (x : List ℕ) (y : ℕ). paint x y (bytes_of qs)) a.bytes (ap (λ (x : Cursor). x.position) a.cursor ∙ run_position w c ps)
            ∙ paint-append l c.position (bytes_of ps) (bytes_of qs)
            ∙ ap (paint l c.position) (sym (bytes-append ps qs));
      }

  pub emitted_test : (b : Bool) (ps : List Piece) (c v : Cursor) (l l' : List ℕ) → Emitteds w ps (after w c (testᵖ b)) v l l' → Emitteds w (testᵖ b ∷ ps) c v l l'
  unfolding run bytes_of
  emitted_test b ps c v l l' a = record { cursor = a.cursor; bytes = a.bytes }
