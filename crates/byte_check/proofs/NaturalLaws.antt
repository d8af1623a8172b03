-- Runs of digits, and the strings that are naturals.
use Prim.Native.Nat.{ℕ, zero, suc, ◌+◌, ◌-◌, ◌≤◌, ◌<◌, max, min}
use native.Mathlib.Omega.{arith}
use mathlib.Core.Bool.{Bool, true, false, ◌&&◌, ◌||◌, not, cond}
use mathlib.Core.List.{List, [], ◌∷◌, ◌++◌}
use mathlib.Core.Path.{◌≡◌, refl, sym, ap, ap₂, ◌∙◌}
use lib.ListN.{length, get_or, take, drop, length-drop}
use lib.Seq.{drop-cons, length-take-le}
use lib.Dec.{ltb, leb, eqb}
use borrow.Author.Count.{below_more}
use borrow.Author.Tests.{ltb-true, ltb-false, leb-true, leb-false}
use Rattle.basics.proofs.Booleans.{and-false, and_intro}
use Rattle.pool.proofs.Clips.{part_clip}
use Rattle.pool.specs.Tables.{Pool, string_word, string_at}
use Rattle.pool.specs.Rules.{is_digit, all_digits, natural}
use Rattle.byte_check.proofs.RunLaws.{span_split, span_open, span_none}
use Rattle.byte_check.proofs.Scan.{natural_is, natural_none}
use Rattle.std.specs.declared.ops.Range.{Range}
use Rattle.std.specs.Int.{from_bool}
use Rattle.byte_check.specs.Runs.{span, Digits, RunOf, RunAt, mark}

-- a byte that is no digit
digits_broken : (xs : List ℕ) (y : ℕ) (ys : List ℕ) → is_digit y ≡ false → all_digits (xs ++ y ∷ ys) ≡ false
unfolding all_digits
digits_broken [] y ys f = ap (λ (b : Bool). b && all_digits ys) f
digits_broken (x ∷ xs) y ys f = ap (λ (b : Bool). is_digit x && b) (digits_broken xs y ys f) ∙ and-false (is_digit x)

module _ (bs : List ℕ) where
  digits-taken : (n from : ℕ) → from + n ≤ length bs → Digits bs from (from + n) → all_digits (take n (drop from bs)) ≡ true
  unfolding all_digits
  digits-taken zero from h d = refl
  digits-taken (suc n) from h d =
      let later : Digits bs (suc from) (suc from + n) = λ i l g. d i (omega arith) (omega arith) in
      ap (λ (l : List ℕ). all_digits (take (suc n) l)) (drop-cons bs from 0 (omega arith))
      ∙ and_intro (d from (omega arith) (omega arith)) (digits-taken n (suc from) (omega arith) later)

  -- one more digit, and one run after the other
  pub digits_more : (from i : ℕ) → Digits bs from i → is_digit (get_or bs i 0) ≡ true → Digits bs from (i + 1)
  digits_more from i d e j l h = below_more (λ (k : ℕ). from ≤ k → is_digit (get_or bs k 0) ≡ true) i (λ k g m. d k m g) (λ m. e) j h l

  digits_join : (from at to : ℕ) → Digits bs from at → Digits bs at to → Digits bs from to
  digits_join from at to c d i l h = by_place (ltb i at) refl
    where
      by_place : (b : Bool) → ltb i at ≡ b → is_digit (get_or bs i 0) ≡ true
      by_place true q = c i l (ltb-true i at q)
      by_place false q = d i (ltb-false i at q) h

  -- the next run: v is where the digits end
  pub run_on : (run : Range ℕ) (from to v : ℕ) → RunOf bs run → run.start ≤ from → from ≤ run.end → to ≤ length bs → run.end ≤ v
      → v ≤ max run.end to → Digits bs run.end v → (v < max run.end to → is_digit (get_or bs v 0) ≡ false)
      → RunAt bs from to (record { start = run.start; end = v })
  run_on run from to v k b l h p q d s =
      let inside = k.inside in
      record {
        begins = b;
        reaches = omega arith;
        run_of = record { inside = omega arith; digits = digits_join run.start run.end v k.digits d };
        stops = λ g. s (omega arith);
      }

  pub run_new : (from to v : ℕ) → to ≤ length bs → from ≤ v → v ≤ to → Digits bs from v → (v < to → is_digit (get_or bs v 0) ≡ false)
      → RunAt bs from to (record { start = from; end = v })
  run_new from to v h p q d s =
      record { begins = omega arith; reaches = p; run_of = record { inside = omega arith; digits = d }; stops = s }

  pub run_none : RunOf bs (record { start = 0; end = 0 })
  run_none = record { inside = omega arith; digits = λ i l h. absurd (omega arith) }

  module _ (from to : ℕ) (run : Range ℕ) (k : RunAt bs from to run) (h : to ≤ length bs) where
    -- all are digits if the run goes on to their end
    digits_by : all_digits (span bs from to) ≡ leb to run.end
    unfolding all_digits
    digits_by = by_end (leb to run.end) refl
      where
        by_end : (b : Bool) → leb to run.end ≡ b → all_digits (span bs from to) ≡ b
        by_end true q = by_start (leb to from) refl
          where
            by_start : (b : Bool) → leb to from ≡ b → all_digits (span bs from to) ≡ true
            by_start true g = ap all_digits (span_none bs from to (leb-true to from g))
            by_start false g =
                let f : from < to = leb-false to from g in
                let l : to ≤ run.end = leb-true to run.end q in
                let b : run.start ≤ from = k.begins in
                digits-taken (to - from) from (omega arith) (λ i m n. k.run_of.digits i (omega arith) (omega arith))
        by_end false q =
            let l : run.end < to = leb-false to run.end q in
            ap all_digits (span_split bs from run.end to k.reaches (omega arith)
            ∙ ap (λ (s : List ℕ). span bs from run.end ++ s) (span_open bs run.end to l h))
            ∙ digits_broken (span bs from run.end) (get_or bs run.end 0) (span bs (run.end + 1) to) (k.stops l)

    natural_read : from < to → (eqb (to - from) 1 || not (eqb (get_or bs from 0) 48)) && leb to run.end ≡ natural (span bs from to)
    natural_read l =
        let d : length (drop from bs) ≡ length bs - from = length-drop from bs in
        let n : length (span bs from to) ≡ to - from = length-take-le (to - from) (drop from bs) (omega arith) in
        let g : get_or (span bs from to) 0 0 ≡ get_or bs from 0 = ap (λ (s : List ℕ). get_or s 0 0) (span_open bs from to l h) in
        ap₂ (λ (m c : ℕ). (eqb m 1 || not (eqb c 48)) && leb to run.end) (sym n) (sym g)
        ∙ ap (λ (b : Bool). (eqb (length (span bs from to)) 1 || not (eqb (get_or (span bs from to) 0 0) 48)) && b) (sym digits_by)
        ∙ natural_is (span bs from to) (λ z. let e : length (span bs from to) ≡ 0 = z in omega arith)

    -- where the code has found x of how they start
    pub natural_by : from < to → (starts x : Bool) → starts ≡ (eqb (to - from) 1 || not (eqb (get_or bs from 0) 48)) → starts ≡ x
        → x && leb to run.end ≡ natural (span bs from to)
    natural_by l starts x e q = rw (← q, e) (natural_read l)

  pub natural_empty : (from to : ℕ) → to ≤ from → false ≡ natural (span bs from to)
  natural_empty from to h = natural_none (span bs from to) (ap length (span_none bs from to h))

bool_mark : (b : Bool) → from_bool b ≡ cond b 1 0
bool_mark true = refl
bool_mark false = refl

-- what is marked of a string row, whose bytes are cut off at the end of the area
pub mark_of : (p : Pool) (r from end to : ℕ) (v : ℕ) → from ≡ min (string_word p.names r 0) (length p.bytes)
    → end ≡ string_word p.names r 0 + string_word p.names r 1 → to ≡ min end (length p.bytes)
    → v ≡ from_bool (natural (span p.bytes from to)) → v ≡ mark p r
unfolding string_at
mark_of p r from end to v f e t q =
    q ∙ bool_mark (natural (span p.bytes from to)) ∙ ap (λ (s : List ℕ). cond (natural s) 1 0) (part_clip p.bytes (string_word p.names r 0) (string_word p.names r 1) from to f
    (t ∙ ap (λ (n : ℕ). min n (length p.bytes)) e))
