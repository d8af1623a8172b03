-- Laws of levels: what the printers' pieces make of a level row.
use Prim.Native.Nat.{ℕ, zero, suc, ◌+◌, ◌-◌, ◌<◌, ◌≤◌}
use native.Mathlib.Nat.{add-sub_cancel_left}
use native.Mathlib.Numerals.{add-one}
use native.Mathlib.Omega.{arith}
use mathlib.Core.List.{List, [], ◌∷◌, map}
use mathlib.Core.Path.{◌≡◌, refl, sym}
use lib.Dec.{ltb}
use borrow.Author.Tests.{le-ltb}
use Rattle.utf8.specs.Quoted.{bytes}
use Rattle.document.specs.Walk.{Marked}
use Rattle.document.specs.Sink.{State, put_text, put_break, put_join, put_group, emit}
use Rattle.pool.specs.Tables.{Pool, N, level_word, list_word, list_entry}
use Rattle.pool.specs.Tree.{Level}
use Rattle.pool.specs.Unfold.{name_at, level_at, levels_from, list_at}
use Rattle.pool.proofs.RowUnfolds.{LevelRow, is_zero, is_succ, is_max, is_imax, is_param}
use Rattle.pieces.specs.Docs.{◌⊹◌, quoted, G, Parenable, with_inner, under, tile, number_doc}
use Rattle.pieces.specs.Parens.{open_if, close_if}
use Rattle.pieces.specs.Tiles.{end_tile, put_tile}
use Rattle.names.specs.Names.{name_doc}
use Rattle.levels.specs.Levels.{plus, max_par, succs_par, level_par, sort_doc, levels_doc}
use Rattle.levels.specs.Counted.{max_text}
use Rattle.pieces.proofs.Emitting.{under_emits, tile_emits}

-- ---- documents

-- no parentheses at the highest inner level
under_most : (outer : ℕ) (d : Marked) (st : State) → outer ≤ 1024 → emit d st ≡ emit (under outer (with_inner 1024 d)) st
unfolding under
under_most outer d st h = rw (le-ltb 1024 outer h)

pub plus_emits : (outer : ℕ) (q : Parenable) (n : ℕ) (st : State) → 0 < n
    → close_if (ltb 0 outer) (put_join (emit (number_doc n) (put_join (put_text (bytes "+") (emit (under 1 q) (open_if (ltb 0 outer) st))))))
    ≡ emit (under outer (plus q n)) st
unfolding plus emit quoted
plus_emits outer q zero st h = absurd (omega arith)
plus_emits outer q (suc n) st h = sym (under_emits outer (with_inner 0 (under 1 q ⊹ quoted "+" ⊹ number_doc (suc n))) st)

module _ (p : Pool) (r : ℕ) where
  pub succ_below : LevelRow p r → level_word p.words r 0 ≡ 1 → level_word p.words r 1 < r
  succ_below (is_zero k e) q = absurd (omega arith)
  succ_below (is_succ k l e) q = l
  succ_below (is_max k l m e) q = absurd (omega arith)
  succ_below (is_imax k l m e) q = absurd (omega arith)
  succ_below (is_param k l e) q = absurd (omega arith)

  pub succ_on : LevelRow p r → level_word p.words r 0 ≡ 1 → (n : ℕ)
      → succs_par (level_at p (level_word p.words r 1)) (n + 1) ≡ succs_par (level_at p r) n
  unfolding succs_par
  succ_on (is_zero k e) q n = absurd (omega arith)
  succ_on (is_succ k l e) q n = rw (e, add-one)
  succ_on (is_max k l m e) q n = absurd (omega arith)
  succ_on (is_imax k l m e) q n = absurd (omega arith)
  succ_on (is_param k l e) q n = absurd (omega arith)

  pub zero_emits : LevelRow p r → level_word p.words r 0 ≡ 0 → (outer n : ℕ) (st : State) → outer ≤ 1024
      → emit (number_doc n) st ≡ emit (under outer (succs_par (level_at p r) n)) st
  unfolding succs_par
  zero_emits (is_zero k e) q outer n st h = rw e (under_most outer (number_doc n) st h)
  zero_emits (is_succ k l e) q outer n st h = absurd (omega arith)
  zero_emits (is_max k l m e) q outer n st h = absurd (omega arith)
  zero_emits (is_imax k l m e) q outer n st h = absurd (omega arith)
  zero_emits (is_param k l e) q outer n st h = absurd (omega arith)

  pub param_below : LevelRow p r → level_word p.words r 0 ≡ 4 → level_word p.words r 1 < N p.names
  param_below (is_zero k e) q = absurd (omega arith)
  param_below (is_succ k l e) q = absurd (omega arith)
  param_below (is_max k l m e) q = absurd (omega arith)
  param_below (is_imax k l m e) q = absurd (omega arith)
  param_below (is_param k l e) q = l

  pub param_emits : LevelRow p r → level_word p.words r 0 ≡ 4 → (outer : ℕ) (st : State) → outer ≤ 1024
      → emit (name_doc (name_at p (level_word p.words r 1))) st ≡ emit (under outer (level_par (level_at p r))) st
  unfolding succs_par plus
  param_emits (is_zero k e) q outer st h = absurd (omega arith)
  param_emits (is_succ k l e) q outer st h = absurd (omega arith)
  param_emits (is_max k l m e) q outer st h = absurd (omega arith)
  param_emits (is_imax k l m e) q outer st h = absurd (omega arith)
  param_emits (is_param k l e) q outer st h = rw e (under_most outer (name_doc (name_at p (level_word p.words r 1))) st h)

  pub max_below : LevelRow p r → 2 ≤ level_word p.words r 0 → level_word p.words r 0 < 4 → (level_word p.words r 1 < r) × (level_word p.words r 2 < r)
  max_below (is_zero k e) x y = absurd (omega arith)
  max_below (is_succ k l e) x y = absurd (omega arith)
  max_below (is_max k l m e) x y = (l, m)
  max_below (is_imax k l m e) x y = (l, m)
  max_below (is_param k l e) x y = absurd (omega arith)

  pub max_emits : LevelRow p r → 2 ≤ level_word p.words r 0 → level_word p.words r 0 < 4 → (outer : ℕ) (st : State)
      → close_if (ltb 0 outer) (put_join (emit (under 1 (level_par (level_at p (level_word p.words r 2)))) (put_join
      (put_break 1 (put_join (emit (under 1 (level_par (level_at p (level_word p.words r 1))))
      (put_join (put_text (bytes " ") (put_text (max_text (level_word p.words r 0)) (open_if (ltb 0 outer) st))))))))))
      ≡ emit (under outer (level_par (level_at p r))) st
  unfolding succs_par plus max_par emit quoted max_text
  max_emits (is_zero k e) x y outer st = absurd (omega arith)
  max_emits (is_succ k l e) x y outer st = absurd (omega arith)
  max_emits (is_max k l m e) x y outer st = rw (
    e,
    k,
    under_emits outer
        (max_par "max" (level_par (level_at p (level_word p.words r 1))) (level_par (level_at p (level_word p.words r 2)))) st,
  )
  max_emits (is_imax k l m e) x y outer st = rw (
    e,
    k,
    under_emits outer
        (max_par "imax" (level_par (level_at p (level_word p.words r 1))) (level_par (level_at p (level_word p.words r 2)))) st,
  )
  max_emits (is_param k l e) x y outer st = absurd (omega arith)

  pub plus_is : LevelRow p r → (level_word p.words r 0 ≡ 0 → ⊥) → (level_word p.words r 0 ≡ 1 → ⊥) → (n : ℕ)
      → plus (level_par (level_at p r)) n ≡ succs_par (level_at p r) n
  unfolding succs_par plus
  plus_is (is_zero k e) x y n = absurd (x k)
  plus_is (is_succ k l e) x y n = absurd (y k)
  plus_is (is_max k l m e) x y n = rw e
  plus_is (is_imax k l m e) x y n = rw e
  plus_is (is_param k l e) x y n = rw e

  -- ---- sorts

  pub sort_prop : LevelRow p r → level_word p.words r 0 ≡ 0 → (st : State) → emit (quoted "Prop") st ≡ emit (sort_doc (level_at p r)) st
  unfolding sort_doc
  sort_prop (is_zero k e) q st = rw e
  sort_prop (is_succ k l e) q st = absurd (omega arith)
  sort_prop (is_max k l m e) q st = absurd (omega arith)
  sort_prop (is_imax k l m e) q st = absurd (omega arith)
  sort_prop (is_param k l e) q st = absurd (omega arith)

  pub sort_type : LevelRow p r → level_word p.words r 0 ≡ 1 → (st : State)
      → emit (quoted "Type" ⊹ quoted " " ⊹ under 1024 (level_par (level_at p (level_word p.words r 1)))) st ≡ emit (sort_doc (level_at p r)) st
  unfolding sort_doc
  sort_type (is_zero k e) q st = absurd (omega arith)
  sort_type (is_succ k l e) q st = rw e
  sort_type (is_max k l m e) q st = absurd (omega arith)
  sort_type (is_imax k l m e) q st = absurd (omega arith)
  sort_type (is_param k l e) q st = absurd (omega arith)

  pub sort_sort : LevelRow p r → (level_word p.words r 0 ≡ 0 → ⊥) → (level_word p.words r 0 ≡ 1 → ⊥) → (st : State)
      → emit (quoted "Sort" ⊹ quoted " " ⊹ under 1024 (level_par (level_at p r))) st ≡ emit (sort_doc (level_at p r)) st
  unfolding sort_doc
  sort_sort (is_zero k e) z q st = absurd (z k)
  sort_sort (is_succ k l e) z q st = absurd (q k)
  sort_sort (is_max k l m e) z q st = rw e
  sort_sort (is_imax k l m e) z q st = rw e
  sort_sort (is_param k l e) z q st = rw e

-- ---- lists of levels

abbrev pub shown : Level → Marked
shown x = under 0 (level_par x)

some_listed : (ls : List Level) (st : State) → (ls ≡ [] → ⊥)
    → put_join (emit (G (quoted "{" ⊹ tile (map shown ls) ⊹ quoted "}")) (put_text (bytes ".") st)) ≡ emit (levels_doc ls) st
unfolding levels_doc emit quoted
some_listed [] st h = absurd (h refl)
some_listed (l ∷ ls) st h = refl

module _ (p : Pool) where
  pub tile-step : (i to : ℕ) (st : State) → i < to
      → put_tile (map shown (levels_from p (i + 1) (to - (i + 1)))) (end_tile (emit (shown (level_at p (list_entry p.words i))) (put_break 1 st)))
      ≡ put_tile (map shown (levels_from p i (to - i))) st
  unfolding put_tile levels_from
  tile-step i to st h =
      let e : to - i ≡ suc (to - (i + 1)) = omega arith in
      rw (e, add-one)

  pub tile_end : (i to : ℕ) (st : State) → to ≤ i → put_tile (map shown (levels_from p i (to - i))) st ≡ st
  unfolding put_tile levels_from
  tile_end i to st h =
      let e : to - i ≡ 0 = omega arith in
      rw e

  pub levels_emit : (from to : ℕ) (st : State) → from < to
      → put_group (put_join (put_text (bytes "}")
      (put_join (put_tile (map shown (levels_from p (from + 1) (to - (from + 1))))
      (emit (shown (level_at p (list_entry p.words from))) (put_text (bytes "{") st))))))
      ≡ emit (G (quoted "{" ⊹ tile (map shown (levels_from p from (to - from))) ⊹ quoted "}")) st
  unfolding levels_from tile emit quoted
  levels_emit from to st h =
      let e : to - from ≡ suc (to - (from + 1)) = omega arith in
      rw (e, add-one, tile_emits)

  some_from : (i n : ℕ) → (n ≡ 0 → ⊥) → levels_from p i n ≡ [] → ⊥
  unfolding levels_from
  some_from i zero h e = h refl
  some_from i (suc n) h e = let z : ◌≡◌ {A = ℕ} 0 1 = cc in omega arith

  pub no_levels : (r : ℕ) (st : State) → list_word p.words r 1 ≡ 0 → put_text (bytes "") st ≡ emit (levels_doc (list_at p r)) st
  unfolding list_at levels_from levels_doc emit quoted
  no_levels r st e = rw e

  pub some_levels : (r : ℕ) (st : State) → (list_word p.words r 1 ≡ 0 → ⊥)
      → put_join (emit (G (quoted
      "{" ⊹ tile (map shown (levels_from p (list_word p.words r 0) (list_word p.words r 0 + list_word p.words r 1 - list_word p.words r 0))) ⊹ quoted "}"))
      (put_text (bytes ".") st))
      ≡ emit (levels_doc (list_at p r)) st
  unfolding list_at
  some_levels r st h = rw add-sub_cancel_left (some_listed (levels_from p (list_word p.words r 0) (list_word p.words r 1)) st (some_from (list_word p.words r 0) (list_word p.words r 1) h))
