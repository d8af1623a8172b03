-- What a sweep finds: the bits of a row's word are the variables that occur in its tree, as far as the row's depth lets them be known.
use Prim.Native.Nat.{ℕ, zero, suc, ◌+◌, ◌-◌, ◌*◌, ◌/◌, ◌%◌, ◌^◌, ◌<◌, ◌≤◌}
use native.Mathlib.Omega.{arith}
use native.Mathlib.Nat.{add-zero}
use mathlib.Core.Bool.{Bool, true, false, ◌||◌, cond}
use mathlib.Core.List.{List}
use mathlib.Core.Path.{◌≡◌, refl, sym, ap, ap₂, ◌∙◌, subst}
use borrow.Author.Tests.{le-ltb, ltb-true, ltb-false, leb-true, leb-false, eqb-true, eqb-false, eq-eqb, ne_eqb}
use lib.Bits.{bit_or, or_lt}
use lib.Dec.{leb, ltb, eqb}
use lib.ListN.{length, get_or, set, length-set, replicate}
use lib.Pow.{pow-lt}
use lib.Seq.{get_or-set_same, get_or-set_other}
use Rattle.pool.specs.Tables.{Pool, E, expr_word}
use Rattle.pool.specs.Areas.{over}
use Rattle.pool.specs.Sound.{Sound}
use Rattle.pool.specs.Tree.{occurs, depth}
use Rattle.pool.specs.Unfold.{expr_at}
use Rattle.pool.proofs.TreeLaws.{none_above, greatest_occurs}
use Rattle.pool.proofs.ExprUnfolds.{loose-word, depth-word}
use Rattle.occurrence.specs.Parts.{first_part, second_part, body_part, occurs_at}
use Rattle.occurrence.specs.Sets.{bit, Kept, kept, entry_at, part_word, body_word, last_bit, row_word, row_step, sweep_rows, sweeps, Sweep, Answers}
use Rattle.occurrence.proofs.PartLaws.{in_parts, first_lower, second_lower, body_lower, depth_at, some_depth, first_deep, second_deep, body_deep}
use Rattle.occurrence.proofs.BitLaws.{bit-or, bit_none, bit-one, bit_moved, bit_carried, moved_small}

abbrev pub small : ℕ → Type 0
small w = w < 18446744073709551616

-- a row's word is right: of the variables from base on that are far enough from the end
pub record Right (p : Pool) (base end r w : ℕ) : Type 0 where
  pub fits : w < 18446744073709551616
  pub says : (k : ℕ) → k < 64 → base + k + depth (expr_at p r) ≤ end → bit k w ≡ occurs (base + k) (expr_at p r)

-- and the bit that comes into it from above
abbrev pub Carry : Pool → ℕ → ℕ → ℕ → ℕ → Type 0
Carry p base end r w = base + 64 + depth (expr_at p r) ≤ end → bit 0 w ≡ occurs (base + 64) (expr_at p r)

-- the bit of the greatest variable
last_there : (l base k : ℕ) → k < 64 → l ≡ suc (base + k) → bit k (last_bit l base) ≡ true
unfolding last_bit
last_there l base k h e =
    let f : l - base - 1 ≡ k = omega arith in
    rw (le-ltb (base + 64) l (omega arith)) (bit-one k (l - base - 1) ∙ eq-eqb (l - base - 1) k f)

last_absent : (l base k : ℕ) → base < l → (l ≡ suc (base + k) → ⊥) → bit k (last_bit l base) ≡ false
unfolding last_bit
last_absent l base k h n = by (ltb (base + 64) l) refl
  where
    by : (b : Bool) → ltb (base + 64) l ≡ b → bit k (cond b 0 (2 ^ (l - base - 1))) ≡ false
    by true e = bit_none k
    by false e = bit-one k (l - base - 1) ∙ ne_eqb (l - base - 1) k (λ q. n (omega arith))

last_small : (l base : ℕ) → base < l → small (last_bit l base)
unfolding last_bit
last_small l base h = by (ltb (base + 64) l) refl
  where
    by : (b : Bool) → ltb (base + 64) l ≡ b → small (cond b 0 (2 ^ (l - base - 1)))
    by true e = omega arith
    by false e = let g : l ≤ base + 64 = ltb-false (base + 64) l e in pow-lt {i = l - base - 1} {j = 64} (omega arith)

or_small : (a b : ℕ) → small a → small b → small (bit_or a b)
or_small a b h g = or_lt 64 a b h g

none_small : small 0
none_small = omega arith

-- a row, over right words of lower rows
module _ (p : Pool) (sound : Sound p) (base end r : ℕ) (h : r < E p.words) (sets above : List ℕ)
    (lower : (x : ℕ) → x < r → Right p base end x (get_or sets x 0)) (carry : (x : ℕ) → x < r → Carry p base end x (get_or above x 0)) where
  -- a part under as many binders
  part_small : (part : ℕ) → part ≤ r → small (part_word sets part)
  unfolding entry_at
  part_small zero g = none_small
  part_small (suc x) g = (lower x (omega arith)).fits

  part_says : (k : ℕ) → k < 64 → base + k + depth (expr_at p r) ≤ end → (part : ℕ) → part ≤ r → depth_at p part < depth (expr_at p r)
      → bit k (part_word sets part) ≡ occurs_at p (base + k) part
  unfolding entry_at occurs_at
  part_says k f e zero g d = bit_none k
  part_says k f e (suc x) g d = (lower x (omega arith)).says k f (omega arith)

  -- a body
  body_small : (part : ℕ) → part ≤ r → small (body_word sets above part)
  unfolding body_word
  body_small part g = moved_small (part_word sets part) (part_word above part) (part_small part g)

  body_says : (k : ℕ) → k < 64 → base + k + depth (expr_at p r) ≤ end → (part : ℕ) → part ≤ r → depth_at p part < depth (expr_at p r)
      → bit k (body_word sets above part) ≡ occurs_at p (suc (base + k)) part
  unfolding body_word entry_at occurs_at
  body_says k f e zero g d = bit_none k
  body_says k f e (suc x) g d = by (ltb k 63) refl
    where
      w : Right p base end x (get_or sets x 0)
      w = lower x (omega arith)

      by : (b : Bool) → ltb k 63 ≡ b → bit k (get_or sets x 0 / 2 + get_or above x 0 % 2 * 9223372036854775808) ≡ occurs (suc (base + k)) (expr_at p x)
      by true q =
          bit_moved (get_or sets x 0) (get_or above x 0) k (ltb-true k 63 q) ∙ w.says (suc k) (let l : k < 63 = ltb-true k 63 q in omega arith) (omega arith)
          ∙ ap (λ (i : ℕ). occurs i (expr_at p x)) (let a : base + suc k ≡ suc (base + k) = omega arith in a)
      by false q =
          let l : 63 ≤ k = ltb-false k 63 q in
          let s : k ≡ 63 = omega arith in
          ap (λ (i : ℕ). bit i (get_or sets x 0 / 2 + get_or above x 0 % 2 * 9223372036854775808)) s
          ∙ bit_carried (get_or sets x 0) (get_or above x 0) w.fits ∙ carry x (omega arith) (omega arith)
          ∙ ap (λ (i : ℕ). occurs i (expr_at p x)) (let a : base + 64 ≡ suc (base + k) = omega arith in a)

  abbrev l : ℕ
  l = expr_word p.words r 7

  abbrev one : ℕ
  one = first_part p.words r (expr_word p.words r 0)

  abbrev two : ℕ
  two = second_part p.words r (expr_word p.words r 0)

  abbrev under : ℕ
  under = body_part p.words r (expr_word p.words r 0)

  union : ℕ
  union = bit_or (last_bit l base) (bit_or (part_word sets one) (bit_or (part_word sets two) (body_word sets above under)))

  union_small : base < l → small union
  unfolding union
  union_small g =
      or_small _ _ (last_small l base g)
      (or_small _ _ (part_small one (first_lower p sound r h))
      (or_small _ _ (part_small two (second_lower p sound r h)) (body_small under (body_lower p sound r h))))

  union_says : base < l → (k : ℕ) → k < 64 → base + k + depth (expr_at p r) ≤ end → bit k union ≡ occurs (base + k) (expr_at p r)
  unfolding union
  union_says g k f e =
      bit-or k _ _ ∙ ap (λ (b : Bool). bit k (last_bit l base) || b) (bit-or k _ _ ∙ ap₂ ◌||◌ (part_says k f e one (first_lower p sound r h) (first_deep p sound r h))
      (bit-or k _ _ ∙ ap₂ ◌||◌ (part_says k f e two (second_lower p sound r h) (second_deep p sound r h))
      (body_says k f e under (body_lower p sound r h) (body_deep p sound r h)))) ∙ by (eqb l (suc (base + k))) refl
    where
      parts : Bool
      parts = occurs_at p (base + k) one || (occurs_at p (base + k) two || occurs_at p (suc (base + k)) under)

      by : (b : Bool) → eqb l (suc (base + k)) ≡ b → bit k (last_bit l base) || parts ≡ occurs (base + k) (expr_at p r)
      by true q =
          let s : l ≡ suc (base + k) = eqb-true l (suc (base + k)) q in
          ap (λ (b : Bool). b || parts) (last_there l base k f s) ∙ sym (greatest_occurs (base + k) (expr_at p r) (sym (loose-word p sound r h) ∙ s))
      by false q =
          let n : l ≡ suc (base + k) → ⊥ = eqb-false l (suc (base + k)) q in
          ap (λ (b : Bool). b || parts) (last_absent l base k g n) ∙ sym (in_parts p sound r h (base + k) n)

  pub row_right : Right p base end r (row_word p.words sets above base r)
  unfolding row_word union
  row_right = by (leb l base) refl
    where
      by : (b : Bool) → leb l base ≡ b → Right p base end r (cond b 0 (bit_or (last_bit l base) (bit_or (part_word sets one) (bit_or (part_word sets two) (body_word sets above under)))))
      by true q =
          record {
            fits = none_small;
            says = λ k f e. bit_none k ∙ sym (none_above (base + k) (expr_at p r) (let g : l ≤ base = leb-true l base q in omega (arith, loose-word p sound r h)));
          }
      by false q = record { fits = union_small (leb-false l base q); says = union_says (leb-false l base q) }

bit_low : (w : ℕ) → bit 0 (w % 2) ≡ bit 0 w
unfolding bit
bit_low w = ap (λ (v : ℕ). eqb v 1) (let e : w % 2 % 2 ≡ w % 2 = omega arith in e)

abbrev sets_of : Kept → List ℕ
sets_of (kept sets above) = sets

-- in the middle of a sweep: rows below r are done, the others have the words of the sweep before
record Going (p : Pool) (base end n r : ℕ) (sets above : List ℕ) : Type 0 where
  done : (x : ℕ) → x < r → Right p base end x (get_or sets x 0)
  carry : (x : ℕ) → x < r → Carry p base end x (get_or above x 0)
  old : (x : ℕ) → r ≤ x → x < n → Right p (base + 64) end x (get_or sets x 0)
  fits : n ≤ length sets
  fits_above : n ≤ length above

-- all rows below n are right
pub record AllRight (p : Pool) (base end n : ℕ) (k : Kept) : Type 0 where
  pub sets : List ℕ
  pub above : List ℕ
  pub is : k ≡ kept sets above
  pub right : (x : ℕ) → x < n → Right p base end x (get_or sets x 0)
  pub fits : n ≤ length sets
  pub fits_above : n ≤ length above

at_next : (P : ℕ → Type 0) (r : ℕ) → ((x : ℕ) → x < r → P x) → P r → (x : ℕ) → x < suc r → P x
at_next P r f g x h = by (eqb x r) refl
  where
    by : (b : Bool) → eqb x r ≡ b → P x
    by true q = subst P (sym (eqb-true x r q)) g
    by false q = let n : x ≡ r → ⊥ = eqb-false x r q in f x (omega (arith, n))

module _ (p : Pool) (sound : Sound p) (base end n : ℕ) (few : n ≤ E p.words) where
  -- one step
  module _ (r : ℕ) (h : r < n) (sets above : List ℕ) (g : Going p base end n r sets above) where
    abbrev low : List ℕ
    low = set above r (get_or sets r 0 % 2)

    abbrev word : ℕ
    word = row_word p.words sets low base r

    other : (l : List ℕ) (v x : ℕ) → (x ≡ r → ⊥) → get_or (set l r v) x 0 ≡ get_or l x 0
    other l v x m = get_or-set_other l r x v 0 m

    low_carry : (x : ℕ) → x < suc r → Carry p base end x (get_or low x 0)
    unfolding bit
    low_carry =
        at_next (λ (x : ℕ). Carry p base end x (get_or low x 0)) r
        (λ x f. subst (Carry p base end x) (sym (other above (get_or sets r 0 % 2) x (λ q. omega arith))) (g.carry x f))
        (λ e. ap (bit 0) (get_or-set_same above r (get_or sets r 0 % 2) 0 (omega (arith, g.fits_above))) ∙ bit_low (get_or sets r 0)
        ∙ (g.old r (omega arith) h).says 0 (omega arith) (omega arith) ∙ ap (λ (i : ℕ). occurs i (expr_at p r)) (add-zero (base + 64)))

    stepped : Right p base end r word
    stepped = row_right p sound base end r (omega arith) sets low g.done (λ x f. low_carry x (omega arith))

    going : Going p base end n (suc r) (set sets r word) low
    going =
        record {
          done = at_next (λ (x : ℕ). Right p base end x (get_or (set sets r word) x 0)) r
              (λ x f. subst (Right p base end x) (sym (other sets word x (λ q. omega arith))) (g.done x f))
              (subst (Right p base end r) (sym (get_or-set_same sets r word 0 (omega (arith, g.fits)))) stepped);
          carry = low_carry;
          old = λ x f e. subst (Right p (base + 64) end x) (sym (other sets word x (λ q. omega arith))) (g.old x (omega arith) e);
          fits = omega (arith, g.fits, length-set sets r word);
          fits_above = omega (arith, g.fits_above, length-set above r (get_or sets r 0 % 2));
        }

  -- what is left of a sweep
  rest : (m r : ℕ) → m + r ≡ n → (sets above : List ℕ) → Going p base end n r sets above → AllRight p base end n (sweep_rows p.words base m r (kept sets above))
  unfolding sweep_rows row_step
  rest zero r e sets above g =
      record {
        sets = sets;
        above = above;
        is = refl;
        right = λ x f. g.done x (omega arith);
        fits = g.fits;
        fits_above = g.fits_above;
      }
  rest (suc m) r e sets above g = rest m (suc r) (omega arith) _ _ (going r (omega arith) sets above g)

  swept_once : (k : Kept) → AllRight p (base + 64) end n k → AllRight p base end n (sweep_rows p.words base n 0 k)
  swept_once k a =
      subst (λ (x : Kept). AllRight p base end n (sweep_rows p.words base n 0 x)) (sym a.is)
      (rest n 0 (omega arith) a.sets a.above
      (record {
        done = λ x f. absurd (omega arith);
        carry = λ x f. absurd (omega arith);
        old = λ x f e. a.right x e;
        fits = a.fits;
        fits_above = a.fits_above;
      }))

-- all sweeps
module _ (p : Pool) (sound : Sound p) (i end n : ℕ) (few : n ≤ E p.words) where
  swept_all : (s : ℕ) (k : Kept) → AllRight p (i + s * 64) end n k → AllRight p i end n (sweeps p.words i n s k)
  unfolding sweeps
  swept_all zero k a = subst (λ (b : ℕ). AllRight p b end n k) (let e : i + 0 * 64 ≡ i = omega arith in e) a
  swept_all (suc s) k a =
      swept_all s _
      (swept_once p sound (i + s * 64) end n few k
      (subst (λ (b : ℕ). AllRight p b end n k) (let e : i + suc s * 64 ≡ i + s * 64 + 64 = omega arith in e) a))

pub zeros_small : (m j : ℕ) → get_or (replicate m 0) j 0 < 18446744073709551616
zeros_small zero j = omega arith
zeros_small (suc m) zero = omega arith
zeros_small (suc m) (suc j) = zeros_small m j

-- the answer that is read off at the end
pub answered : (ws : List ℕ) (r i : ℕ) (sets above after lows : List ℕ) → Sweep ws r i sets above → (d : ℕ) → d ≡ expr_word ws r 6
    → kept after lows ≡ sweeps ws i (r + 1) (d / 64 + 1) (kept sets above) → Answers ws r i (eqb (get_or after r 0 % 2) 1)
unfolding bit
answered ws r i sets above after lows a d ed e bs ns sound =
    let p : Pool = over bs ns ws in
    let end : ℕ = i + (d / 64 + 1) * 64 in
    let first : AllRight p end end (r + 1) (kept sets above) =
    record {
      sets = sets;
      above = above;
      is = refl;
      right = λ x f. record { fits = a.small x; says = λ k g q. absurd (omega (arith, q, some_depth (expr_at p x))) };
      fits = omega (arith, a.fits);
      fits_above = omega (arith, a.fits_above);
    } in
    let last : AllRight p i end (r + 1) (sweeps ws i (r + 1) (d / 64 + 1) (kept sets above)) =
    swept_all p sound i end (r + 1) (omega (arith, a.row)) (d / 64 + 1) (kept sets above) first in
    let same : after ≡ last.sets = ap sets_of (e ∙ last.is) in
    let deep : d ≡ depth (expr_at p r) = ed ∙ depth-word p sound r a.row in
    ap (λ (l : List ℕ). bit 0 (get_or l r 0)) same ∙ (last.right r (omega arith)).says 0 (omega arith) (omega (arith, deep))
    ∙ ap (λ (v : ℕ). occurs v (expr_at p r)) (add-zero i)
