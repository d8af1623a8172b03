-- Laws of the letterlike classes.
use Prim.Native.Nat.{ℕ, zero, suc, ◌+◌, ◌<◌}
use mathlib.Core.Bool.{Bool, true, false, ◌&&◌, cond}
use mathlib.Core.List.{List, [], ◌∷◌, ◌++◌}
use mathlib.Core.Path.{◌≡◌, refl, sym, ap, ◌∙◌}
use lib.ListN.{length, get_or, drop}
use lib.Dec.{eqb}
use Rattle.utf8.specs.Letterlike.{is_start, is_rest, all_rest, letterlike, same_bytes, plain}
use Rattle.std.specs.Prelude.{Option, None, Some}
use Rattle.utf8.specs.Steps.{Step, ended}
use lib.Seq.{drop-cons}
use lib.Pointwise.{pointwise}
use native.Mathlib.Numerals.{add-one}
use Rattle.utf8.specs.Utf8.{points, points_from}

-- what is asked of the points from the first one on, or after it
unfoldable pub fit : Bool → List ℕ → Bool
fit true ps = letterlike ps
fit false ps = all_rest ps

-- of the first point, and of the others
pub fit_next : (first : Bool) (c : ℕ) (ps : List ℕ) → fit first (c ∷ ps) ≡ cond first (is_start c) (is_rest c) && fit false ps
unfolding fit letterlike all_rest
fit_next true c ps = refl
fit_next false c ps = refl

-- a byte is taken from what is left
module _ (s : List ℕ) (i need bits need' bits' : ℕ) (point : Option ℕ) (first t : Bool) (h : i < length s)
    (step : Step need bits (get_or s i 0) need' bits' point) (before : fit first (points_from need bits (drop i s)) ≡ t) where
  after : fit first (ended point ++ points_from need' bits' (drop (i + 1) s)) ≡ t
  after = rw (← step (drop (i + 1) s), add-one, ← drop-cons s i 0 h) before

  -- which ended no point, one that may stand there, or one that may not
  pub none_ended : point ≡ None → fit first (points_from need' bits' (drop (i + 1) s)) ≡ t
  none_ended e = rw e at after

  fits : (c : ℕ) → point ≡ Some c → cond first (is_start c) (is_rest c) && fit false (points_from need' bits' (drop (i + 1) s)) ≡ t
  fits c e = sym (fit_next first c _) ∙ rw e at after

  pub fit_ended : (c : ℕ) (may : Bool) → point ≡ Some c → may ≡ cond first (is_start c) (is_rest c) → may ≡ true
      → fit false (points_from need' bits' (drop (i + 1) s)) ≡ t
  fit_ended c may e m y = rw (← m, y) at (fits c e)

  pub unfit_ended : (c : ℕ) (may : Bool) → point ≡ Some c → may ≡ cond first (is_start c) (is_rest c) → may ≡ false → false ≡ t
  unfit_ended c may e m n = rw (← m, n) at (fits c e)

fit_none : (first : Bool) → fit first [] ≡ true
unfolding fit letterlike all_rest
fit_none true = refl
fit_none false = refl

points_none : (need bits : ℕ) → points_from need bits [] ≡ []
unfolding points_from
points_none zero bits = refl
points_none (suc need) bits = refl

pub fit_end : (first : Bool) (need bits : ℕ) (s : List ℕ) (t : Bool) → s ≡ [] → fit first (points_from need bits s) ≡ t → true ≡ t
fit_end first need bits s t e h = sym (rw (e, points_none need bits) (fit_none first)) ∙ h

pub fit_start : (need bits : ℕ) (s : List ℕ) → need ≡ 0 → bits ≡ 0 → fit true (points_from need bits s) ≡ letterlike (points s)
unfolding fit points
fit_start need bits s n b = rw (n, b) refl

-- a comparison of bytes, as std makes it
pub same_bytes_is : (s t : List ℕ) → pointwise eqb s t ≡ same_bytes s t
unfolding same_bytes
same_bytes_is [] [] = refl
same_bytes_is [] (y ∷ t) = refl
same_bytes_is (x ∷ s) [] = refl
same_bytes_is (x ∷ s) (y ∷ t) = ap (λ (r : Bool). eqb x y && r) (same_bytes_is s t)

-- "_@" is plain, and so is what is letterlike
module _ (s at : List ℕ) (same r : Bool) (e : same ≡ pointwise eqb s at) (a : at ≡ 95 ∷ 64 ∷ []) where
  same_is : same ≡ same_bytes s (95 ∷ 64 ∷ [])
  same_is = e ∙ (same_bytes_is s at ∙ ap (same_bytes s) a)

  pub plain_same : same ≡ true → same ≡ plain s
  unfolding plain
  plain_same t = rw (← same_is, t) refl

  pub plain_other : same ≡ false → r ≡ letterlike (points s) → r ≡ plain s
  unfolding plain
  plain_other t l = rw (← same_is, t) l
