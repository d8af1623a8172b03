-- What an accepted pool has: every row keeps its rule; what each kind of row then has and what its tree is.
use Prim.Native.Nat.{ℕ, zero, suc, ◌+◌, ◌≤◌, ◌<◌}
use native.Mathlib.Omega.{arith}
use mathlib.Core.Bool.{Bool, true, false, cond}
use mathlib.Core.List.{List}
use mathlib.Core.Path.{◌≡◌, refl, ap, ◌∙◌}
use lib.Dec.{leb, ltb, eqb}
use lib.ListN.{length}
use borrow.Author.Tests.{ltb-true, ltb-false, leb-true, eqb-true, eqb-false}
use Rattle.std.specs.Prelude.{None, Result, Ok, Err}
use Rattle.pool_check.specs.declared.PoolError.{PoolError}
use Rattle.pool_check.specs.declared.PoolError.TheVariants.{Words, Limit, Strings, Rows, Notation}
use Rattle.pool_check.specs.Stages.{Limited, Small}
use Rattle.notation.specs.Classes.{NamesRight}
use Rattle.pool.specs.Tables.{Pool, pool, S, N, L, K, Q, E, D, T, total}
use Rattle.pool.specs.Notation.{notation_ok}
use Rattle.pool.specs.Rules.{string_ok, name_ok, level_ok, list_ok, list_entry_ok, expr_ok, declar_ok}
use Rattle.pool.specs.Sound.{Sound}
use Rattle.byte_check.specs.Scan.{first_bad, found}
use Rattle.pool_check.specs.Check.{number, is_accepted, in_table, refusal, words_ok, limits_ok, rows_verdict_with, rows_verdict, verdict_with, verdict}
use Rattle.basics.proofs.Booleans.{and_left, and_right, false-true}

apart : (r i : ℕ) → i ≤ r → (r ≡ i → ⊥) → i < r
apart r i l n = by (ltb i r) refl
  where
    by : (b : Bool) → ltb i r ≡ b → i < r
    by true e = ltb-true i r e
    by false e = let g : r ≤ i = ltb-false i r e in let q : r ≡ i = omega arith in absurd (n q)

-- past the rows that a scan went through, each is ok
step_passed : (ok : ℕ → Bool) (left i r : ℕ) → i ≤ r → r < suc left + i → (b : Bool) → ok i ≡ b
    → suc left + i ≤ cond b (first_bad ok left (suc i)) i
    → (left + suc i ≤ first_bad ok left (suc i) → suc i ≤ r → r < left + suc i → ok r ≡ true) → ok r ≡ true
step_passed ok left i r l g true e k later = here (eqb r i) refl
  where
    here : (b : Bool) → eqb r i ≡ b → ok r ≡ true
    here true q = ap ok (eqb-true r i q) ∙ e
    here false q =
        let m : i < r = apart r i l (eqb-false r i q) in
        later (omega arith) m (omega arith)
step_passed ok left i r l g false e k later = absurd (omega arith)

all_passed : (ok : ℕ → Bool) (left i : ℕ) → left + i ≤ first_bad ok left i → (r : ℕ) → i ≤ r → r < left + i → ok r ≡ true
unfolding first_bad
all_passed ok zero i h r l g = absurd (omega arith)
all_passed ok (suc left) i h r l g =
    step_passed ok left i r l g (ok i) refl h (λ k m n. all_passed ok left (suc i) k r m n)

-- where no bad row was found
none_bad : (ok : ℕ → Bool) (count : ℕ) → None ≡ found ok count → (r : ℕ) → r < count → ok r ≡ true
unfolding found
none_bad ok count h r l = by (ltb (first_bad ok count 0) count) refl
  where
    by : (b : Bool) → ltb (first_bad ok count 0) count ≡ b → ok r ≡ true
    by true q = let f = rw q at h in absurd (cc)
    by false q = let g : count ≤ first_bad ok count 0 = ltb-false (first_bad ok count 0) count q in all_passed ok count 0 (omega arith) r (omega arith) (omega arith)

-- the strings and the names, before the other tables
pub names_right : (p : Pool) → Small p → None ≡ found (string_ok p) (S p.names) → None ≡ found (name_ok p) (N p.names) → NamesRight p
names_right p small strings names =
    record {
      strings = none_bad (string_ok p) (S p.names) strings;
      names = none_bad (name_ok p) (N p.names) names;
      few_strings = small.strings;
      few_names = small.names;
      few_notation = small.notation;
    }

-- a table that was passed
table_passed : (ok : ℕ → Bool) (count : ℕ) (refused : ℕ → PoolError) (next : Result Unit PoolError)
    → in_table ok count refused next ≡ Ok tt → ((r : ℕ) → r < count → ok r ≡ true) × (next ≡ Ok tt)
table_passed ok count refused next h = by (ltb (first_bad ok count 0) count) refl h
  where
    by : (b : Bool) → ltb (first_bad ok count 0) count ≡ b → cond b (Err (refused (first_bad ok count 0))) next ≡ Ok tt
        → ((r : ℕ) → r < count → ok r ≡ true) × (next ≡ Ok tt)
    by true e k = absurd (cc)
    by false e k =
        let g : count ≤ first_bad ok count 0 = ltb-false (first_bad ok count 0) count e in
        ((λ r l. all_passed ok count 0 (omega arith) r (omega arith) (omega arith)), k)

-- no row is refused: every row keeps its rule
pub rows_accepted : (p : Pool) → rows_verdict p ≡ Ok tt → Sound p
unfolding rows_verdict_with
rows_accepted p h =
    let a = table_passed (string_ok p) (S p.names) Strings _ h in
    let b = table_passed (name_ok p) (N p.names) Rows _ a.1 in
    let c = table_passed (level_ok p) (L p.words) Rows _ b.1 in
    let d = table_passed (list_ok p) (K p.words) Rows _ c.1 in
    let e = table_passed (list_entry_ok p) (Q p.words) Rows _ d.1 in
    let f = table_passed (expr_ok p) (E p.words) Rows _ e.1 in
    let g = table_passed (declar_ok p) (D p.words) Rows _ f.1 in
    let i = table_passed (notation_ok p) (T p.words) (λ row. Notation) _ g.1 in
    record { strings = a.0; names = b.0; levels = c.0; lists = d.0; entries = e.0; exprs = f.0; declars = g.0; notation = i.0 }

limited : (bs ws : List ℕ) → words_ok ws ≡ true → limits_ok bs ws ≡ true → Limited bs ws
limited bs ws u v =
    let v1 = and_right (leb (S ws) 65536) _ v in
    let v2 = and_right (leb (N ws) 65536) _ v1 in
    let v3 = and_right (leb (L ws) 65536) _ v2 in
    let v4 = and_right (leb (K ws) 65536) _ v3 in
    let v5 = and_right (leb (Q ws) 65536) _ v4 in
    let v6 = and_right (leb (E ws) 65536) _ v5 in
    let v7 = and_right (leb (D ws) 65536) _ v6 in
    record {
      head = leb-true 8 (length ws) (and_left (leb 8 (length ws)) _ u);
      whole = eqb-true (total ws) (length ws) (and_right (leb 8 (length ws)) _ u);
      strings = leb-true (S ws) 65536 (and_left (leb (S ws) 65536) _ v);
      names = leb-true (N ws) 65536 (and_left (leb (N ws) 65536) _ v1);
      levels = leb-true (L ws) 65536 (and_left (leb (L ws) 65536) _ v2);
      lists = leb-true (K ws) 65536 (and_left (leb (K ws) 65536) _ v3);
      entries = leb-true (Q ws) 65536 (and_left (leb (Q ws) 65536) _ v4);
      exprs = leb-true (E ws) 65536 (and_left (leb (E ws) 65536) _ v5);
      declars = leb-true (D ws) 65536 (and_left (leb (D ws) 65536) _ v6);
      notation = leb-true (T ws) 65536 (and_left (leb (T ws) 65536) _ v7);
      bytes = leb-true (length bs) 16777216 (and_right (leb (T ws) 65536) _ v7);
    }

-- an accepted pool is within its limits and sound
pub accepted : (bs ws : List ℕ) → verdict bs ws ≡ Ok tt → Limited bs ws × Sound (pool bs ws)
unfolding verdict_with
accepted bs ws h = by (words_ok ws) (limits_ok bs ws) refl refl h
  where
    by : (a b : Bool) → words_ok ws ≡ a → limits_ok bs ws ≡ b → cond a (cond b (rows_verdict (pool bs ws)) (Err (refusal 2 0))) (Err (refusal 1 0)) ≡ Ok tt
        → Limited bs ws × Sound (pool bs ws)
    by true true u v k = (limited bs ws u v, rows_accepted (pool bs ws) k)
    by true false u v k = absurd (cc)
    by false b u v k = absurd (cc)

pub accepted_is : (v : Result Unit PoolError) → is_accepted v ≡ true → v ≡ Ok tt
unfolding is_accepted number
accepted_is (Ok tt) e = refl
accepted_is (Err Words) e = false-true e
accepted_is (Err Limit) e = false-true e
accepted_is (Err (Strings row)) e = false-true e
accepted_is (Err (Rows row)) e = false-true e
accepted_is (Err Notation) e = false-true e
