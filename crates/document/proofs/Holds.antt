-- A list that holds another from an index on.
use Prim.Native.Nat.{ℕ, ◌+◌, ◌<◌, ◌≤◌}
use native.Mathlib.Omega.{arith}
use mathlib.Core.List.{List, [], ◌++◌, append_assoc}
use mathlib.Core.Path.{◌≡◌, refl, sym, ap, ap₂, ◌∙◌, subst}
use lib.ListN.{length, take, drop, get_or, length-append, take-append-drop, get_or-append}
use lib.Seq.{get_or-append-add, drop_at, take_at, length-take-le}

pub record Holds (l : List ℕ) (i : ℕ) (xs : List ℕ) : Type 0 where
  pub pre : List ℕ
  pub post : List ℕ
  pub eq : l ≡ pre ++ (xs ++ post)
  pub at : length pre ≡ i

pub holds_front : (xs post : List ℕ) → Holds (xs ++ post) 0 xs
holds_front xs post = record { pre = []; post = post; eq = refl; at = refl }

pub holds_to : {l xs : List ℕ} (i j : ℕ) → i ≡ j → Holds l i xs → Holds l j xs
holds_to {l} {xs} i j e h = subst (λ (k : ℕ). Holds l k xs) e h

module _ {l : List ℕ} {i : ℕ} where
  pub holds_left : (xs ys : List ℕ) → Holds l i (xs ++ ys) → Holds l i xs
  holds_left xs ys h =
      record {
        pre = h.pre;
        post = ys ++ h.post;
        eq = h.eq ∙ ap (λ (z : List ℕ). h.pre ++ z) (append_assoc xs ys h.post);
        at = h.at;
      }

  pub holds_right : (xs ys : List ℕ) → Holds l i (xs ++ ys) → Holds l (i + length xs) ys
  holds_right xs ys h =
      record {
        pre = h.pre ++ xs;
        post = h.post;
        eq = h.eq ∙ ap (λ (z : List ℕ). h.pre ++ z) (append_assoc xs ys h.post) ∙ sym (append_assoc h.pre xs (ys ++ h.post));
        at = let a = h.at in let b = length-append h.pre xs in omega arith;
      }

  pub holds_append : (xs ys : List ℕ) → Holds l i xs → Holds l (i + length xs) ys → Holds l i (xs ++ ys)
  holds_append xs ys h k =
      let a = h.at in
      let b = length-append h.pre xs in
      let e : h.post ≡ ys ++ k.post =
      sym (drop_at (h.pre ++ xs) h.post (i + length xs) (omega arith))
      ∙ ap (drop (i + length xs)) (append_assoc h.pre xs h.post ∙ sym h.eq ∙ k.eq)
      ∙ drop_at k.pre (ys ++ k.post) (i + length xs) k.at in
      record {
        pre = h.pre;
        post = k.post;
        eq = h.eq ∙ ap (λ (z : List ℕ). h.pre ++ (xs ++ z)) e ∙ ap (λ (z : List ℕ). h.pre ++ z) (sym (append_assoc xs ys k.post));
        at = h.at;
      }

  pub holds_at : (xs : List ℕ) (k : ℕ) → k < length xs → Holds l i xs → get_or l (i + k) 0 ≡ get_or xs k 0
  holds_at xs k p h =
      ap₂ (λ (z : List ℕ) (j : ℕ). get_or z (j + k) 0) h.eq (sym h.at)
      ∙ get_or-append-add h.pre (xs ++ h.post) k 0
      ∙ get_or-append xs h.post 0 k p

  pub holds_part : (xs : List ℕ) → Holds l i xs → take (length xs) (drop i l) ≡ xs
  holds_part xs h =
      ap (λ (z : List ℕ). take (length xs) (drop i z)) h.eq
      ∙ ap (take (length xs)) (drop_at h.pre (xs ++ h.post) i h.at)
      ∙ take_at xs h.post (length xs) refl

  pub holds_take : (n : ℕ) → i ≤ length l → Holds l i (take n (drop i l))
  holds_take n h =
      record {
        pre = take i l;
        post = drop n (drop i l);
        eq = sym (ap (λ (z : List ℕ). take i l ++ z) (take-append-drop n (drop i l)) ∙ take-append-drop i l);
        at = length-take-le i l h;
      }
