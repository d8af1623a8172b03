-- `emit` does what `walk` says.
use Prim.Native.Nat.{ℕ, zero, suc, ◌+◌, ◌-◌, ◌*◌, ◌%◌, ◌^◌, ◌≤◌}
use native.Mathlib.Omega.{arith}
use native.Mathlib.Nat.{mod-eq_of_lt}
use mathlib.Core.List.{List, [], ◌∷◌, ◌++◌, append_assoc, append-nil}
use mathlib.Core.Path.{◌≡◌, refl, sym, ap, ap₂, ◌∙◌, subst}
use lib.ListN.{length, drop, replicate, length-append, length-replicate}
use Rattle.document.specs.declared.measures.Measures.{Measures}
use Rattle.document.specs.Doc.{Doc, text, join, break, nest, group, row_count, flat_size, first_break, has_break, text_bytes}
use Rattle.document.specs.Rows.{word, left_of, measures_at, joined, wrapped}
use Rattle.document.specs.Stored.{measures, row_of, own_row, stored, Fine}
use Rattle.document.specs.Walk.{Marked, textᵐ, joinᵐ, breakᵐ, nestᵐ, groupᵐ, names, unmarked, Event, row, named, Progress, going, stopped, step, steps}
use Rattle.document.specs.Walk.{text_events, events, walk}
use Rattle.document.specs.Sink.{State, row_words, put_row, put_bytes, end_text, put_text, put_break, put_join, put_wrapped, put_names, emit, cleared}
use Rattle.document.specs.Sink.State.{state}
use Rattle.document.proofs.ReadBack.{stored-length, some_row, own, own_words, Words}
use Rattle.document.proofs.Sizes.{words_fit}
use Rattle.document.proofs.Steps.{Stopped, Stays, stays_emit, stays_join, stays_wrapped, stays_after, steps-append, written_at, At, areas, Grown, Agree, agree_words}
use Rattle.document.proofs.Steps.{then, row_agrees, names_agree, text_words, text_agrees}

-- ---- the measures of what is written

-- the subtree of the document d, which is written after p rows, ends just before row suc r
written : (rows : List ℕ) (d : Doc) (t p r : ℕ) (pre rest : List ℕ) → rows ≡ (pre ++ stored t d) ++ rest → length pre ≡ p * 7 → suc r ≡ p + row_count d
    → measures_at rows r ≡ measures d
written rows d t p r pre rest e l s =
    let w : Words rows d r =
    own_words rows d t r (own rows d t p r s (record { pre = pre; post = rest; eq = e ∙ append_assoc pre (stored t d) rest; at = l })) in
    let c = w.count in
    let f = w.flat in
    let g = w.first in
    let h = w.has in
    rw (c, f, g, h)

-- ---- a row over what is written

module _ (R T : ℕ) (pre rest tpre trest : List ℕ) (r t : ℕ) (at : At R T pre rest tpre trest r t) where
  -- its words fit
  fit_row : (kind a b : ℕ) (d : Doc) → Fine d → row_count d * 7 ≤ length pre + 7 → length (text_bytes d) ≤ length tpre → (p : Progress) (st : State)
      → Agree R T pre rest tpre trest (row_words kind a b (measures d)) [] p st → Agree R T pre rest tpre trest (row_of kind a b d) [] p st
  fit_row kind a b d fine n l p st =
      agree_words R T pre rest tpre trest (row_words kind a b (measures d)) [] (row_of kind a b d) p st
      (λ r' t' at'.
      let x = length-append pre (row_words kind a b (measures d)) in
      let y = at'.rows_at in
      let z = at'.few in
      let u = at'.text_at in
      let v = at'.small in
      let w = append-nil tpre in
      words_fit kind a b d fine (omega arith) (let q : length tpre ≡ t' = ap length (sym w) ∙ u in omega arith))

  -- a nest or a group, over the document d that is written last, after p rows
  wrapped_agrees : (p : ℕ) (front : List ℕ) (d : Doc) (u : ℕ) → pre ≡ front ++ stored u d → length front ≡ p * 7 → r ≡ p + row_count d → (kind a : ℕ)
      → Agree R T pre rest tpre trest (row_words kind a 0 (wrapped (measures d))) [] (step R T (going r t) row) (put_wrapped kind a (areas pre rest tpre trest r t))
  unfolding put_wrapped
  wrapped_agrees p front d u is l n kind a =
      let x = some_row d in
      subst (λ (m : Measures). Agree R T pre rest tpre trest (row_words kind a 0 (wrapped (measures d))) [] (step R T (going r t) row) (put_row kind a 0 (wrapped m) (areas pre rest tpre trest r t)))
      (sym (written (pre ++ rest) d u p (r - 1) front rest (ap (λ (z : List ℕ). z ++ rest) is) l (omega arith)))
      (row_agrees R T pre rest tpre trest r t at kind a 0 (wrapped (measures d)))

  -- a join of the two that are written last
  join_agrees : (p : ℕ) (front : List ℕ) (d e : Doc) (u v : ℕ) → pre ≡ (front ++ stored u d) ++ stored v e → length front ≡ p * 7 → r ≡ p + row_count d + row_count e
      → Agree R T pre rest tpre trest (row_words 1 0 0 (measures (join d e))) [] (step R T (going r t) row) (put_join (areas pre rest tpre trest r t))
  unfolding put_join row_count flat_size first_break has_break
  join_agrees p front d e u v is l n =
      let x = some_row d in
      let y = some_row e in
      let rows : List ℕ = pre ++ rest in
      let lf = length-append front (stored u d) in
      let ls = stored-length u d in
      let right : measures_at rows (r - 1) ≡ measures e =
      written rows e v (p + row_count d) (r - 1) (front ++ stored u d) rest (ap (λ (z : List ℕ). z ++ rest) is) (omega arith) (omega arith) in
      let c : word rows (r - 1) 3 ≡ row_count e = ap (λ (m : Measures). m.count) right in
      let left : measures_at rows (left_of rows r) ≡ measures d =
      written rows d u p (left_of rows r) front (stored v e ++ rest) (ap (λ (z : List ℕ). z ++ rest) is ∙ append_assoc (front ++ stored u d) (stored v e) rest) l (omega arith) in
      subst (λ (m : Measures). Agree R T pre rest tpre trest (row_words 1 0 0 (measures (join d e))) [] (step R T (going r t) row) (put_row 1 0 0 m (areas pre rest tpre trest r t)))
      (sym (ap₂ joined left right))
      (row_agrees R T pre rest tpre trest r t at 1 0 0 (measures (join d e)))

-- ---- a document

-- the last row of a document, over its child
wrap_emits : (R T : ℕ) (pre rest tpre trest : List ℕ) (r t : ℕ) → At R T pre rest tpre trest r t → (es : List Event) (d e : Doc) (kind a : ℕ) (st : State) → Fine e
    → measures e ≡ wrapped (measures d) → text_bytes e ≡ text_bytes d
    → Agree R T pre rest tpre trest (stored t d) (text_bytes d) (steps R T (going r t) es) st
    → Agree R T pre rest tpre trest (stored t d ++ row_of kind a 0 e) (text_bytes d) (steps R T (going r t) (es ++ (row ∷ []))) (put_wrapped kind a st)
unfolding steps
wrap_emits R T pre rest tpre trest r t at es d e kind a st fine me te h =
    let ra = at.rows_at in
    let ta = at.text_at in
    let ls = stored-length t d in
    let lp = length-append pre (stored t d) in
    let lt = length-append tpre (text_bytes d) in
    let lte : length (text_bytes e) ≡ length (text_bytes d) = ap length te in
    let ne : row_count e ≡ 1 + row_count d = ap (λ (m : Measures). m.count) me in
    let pre' : List ℕ = pre ++ stored t d in
    let rest' : List ℕ = drop (length (stored t d)) rest in
    let tpre' : List ℕ = tpre ++ text_bytes d in
    let trest' : List ℕ = drop (length (text_bytes d)) trest in
    let st' : State = put_wrapped kind a st in
    subst (λ (p : Progress). Agree R T pre rest tpre trest (stored t d ++ row_of kind a 0 e) (text_bytes d) p st') (sym (steps-append R T (going r t) es (row ∷ [])))
    (subst (λ (b : List ℕ). Agree R T pre rest tpre trest (stored t d ++ row_of kind a 0 e) b (steps R T (steps R T (going r t) es) (row ∷ [])) st')
    (append-nil (text_bytes d))
    (then R T pre rest tpre trest (stored t d) (text_bytes d) (row_of kind a 0 e) [] (steps R T (going r t) es) (row ∷ []) (put_wrapped kind a) st
    (stays_wrapped kind a)
    (λ r' t' at'.
    let ra' = at'.rows_at in
    let last : State = put_wrapped kind a (areas pre' rest' tpre' trest' r' t') in
    fit_row R T pre' rest' tpre' trest' r' t' at' kind a 0 e fine (omega arith) (omega arith) (step R T (going r' t') row) last
    (subst (λ (m : Measures). Agree R T pre' rest' tpre' trest' (row_words kind a 0 m) [] (step R T (going r' t') row) last) (sym me)
    (wrapped_agrees R T pre' rest' tpre' trest' r' t' at' r pre d t refl ra (omega arith) kind a)))
    h))

join_emits : (R T : ℕ) (pre rest tpre trest : List ℕ) (r t : ℕ) → At R T pre rest tpre trest r t → (es fs : List Event) (d e : Doc) (st : State)
    (f : State → State) → Fine (join d e) → Stays f
    → ((pre' rest' tpre' trest' : List ℕ) (r' t' : ℕ) → At R T pre' rest' tpre' trest' r' t'
    → Agree R T pre' rest' tpre' trest' (stored t' e) (text_bytes e) (steps R T (going r' t') fs) (f (areas pre' rest' tpre' trest' r' t')))
    → Agree R T pre rest tpre trest (stored t d) (text_bytes d) (steps R T (going r t) es) st
    → Agree R T pre rest tpre trest (stored t (join d e)) (text_bytes (join d e)) (steps R T (going r t) (es ++ (fs ++ (row ∷ [])))) (put_join (f st))
unfolding steps stored own_row text_bytes row_count
join_emits R T pre rest tpre trest r t at es fs d e st f fine stays k h =
    let ra = at.rows_at in
    let ta = at.text_at in
    let u : ℕ = t + length (text_bytes d) in
    let own : List ℕ = row_of 1 0 0 (join d e) in
    let ld = stored-length t d in
    let le = stored-length u e in
    let pre' : List ℕ = pre ++ stored t d in
    let rest' : List ℕ = drop (length (stored t d)) rest in
    let tpre' : List ℕ = tpre ++ text_bytes d in
    let trest' : List ℕ = drop (length (text_bytes d)) trest in
    let pre'' : List ℕ = pre' ++ stored u e in
    let rest'' : List ℕ = drop (length (stored u e)) rest' in
    let tpre'' : List ℕ = tpre' ++ text_bytes e in
    let trest'' : List ℕ = drop (length (text_bytes e)) trest' in
    let lp = length-append pre (stored t d) in
    let lq = length-append (pre ++ stored t d) (stored u e) in
    let lt = length-append tpre (text_bytes d) in
    let lv = length-append (tpre ++ text_bytes d) (text_bytes e) in
    let lb = length-append (text_bytes d) (text_bytes e) in
    let st' : State = put_join (f st) in
    subst (λ (p : Progress). Agree R T pre rest tpre trest (stored t (join d e)) (text_bytes d ++ text_bytes e) p st') (sym (steps-append R T (going r t) es (fs ++ (row ∷ []))))
    (subst (λ (b : List ℕ). Agree R T pre rest tpre trest (stored t (join d e)) (text_bytes d ++ b) (steps R T (steps R T (going r t) es) (fs ++ (row ∷ []))) st')
    (append-nil (text_bytes e))
    (then R T pre rest tpre trest (stored t d) (text_bytes d) (stored u e ++ own) (text_bytes e ++ []) (steps R T (going r t) es) (fs ++ (row ∷ [])) (λ x. put_join (f x)) st
    (stays_after f put_join stays stays_join)
    (λ r' t' at'.
    let ra' = at'.rows_at in
    let ta' = at'.text_at in
    let tu : t' ≡ u = omega arith in
    let mid : State = f (areas pre' rest' tpre' trest' r' t') in
    subst (λ (p : Progress). Agree R T pre' rest' tpre' trest' (stored u e ++ own) (text_bytes e ++ []) p (put_join mid)) (sym (steps-append R T (going r' t') fs (row ∷ [])))
    (then R T pre' rest' tpre' trest' (stored u e) (text_bytes e) own [] (steps R T (going r' t') fs) (row ∷ []) put_join mid stays_join
    (λ r'' t'' at''.
    let ra'' = at''.rows_at in
    fit_row R T pre'' rest'' tpre'' trest'' r'' t'' at'' 1 0 0 (join d e) fine (omega arith) (omega arith) (step R T (going r'' t'') row)
    (put_join (areas pre'' rest'' tpre'' trest'' r'' t''))
    (join_agrees R T pre'' rest'' tpre'' trest'' r'' t'' at'' r pre d e t u refl ra (omega arith)))
    (subst (λ (x : ℕ). Agree R T pre' rest' tpre' trest' (stored x e) (text_bytes e) (steps R T (going r' t') fs) mid) tu
    (k pre' rest' tpre' trest' r' t' at'))))
    h))

text_fits : (t : ℕ) (s : List ℕ) → t + length s ≤ 65536 → text_words t (length s) ≡ row_of 0 t (length s) (text s)
unfolding row_count flat_size first_break has_break text_bytes Fine
text_fits t s h =
    let p : t % 2 ^ 32 ≡ t = mod-eq_of_lt (omega arith) in
    let q : length s % 2 ^ 32 ≡ length s = mod-eq_of_lt (omega arith) in
    rw (p, q)

-- emitting a marked document agrees with its walk
pub emit_agrees : (R T : ℕ) (m : Marked) → Fine (unmarked m) → (pre rest tpre trest : List ℕ) (r t : ℕ) → At R T pre rest tpre trest r t
    → Agree R T pre rest tpre trest (stored t (unmarked m)) (text_bytes (unmarked m)) (steps R T (going r t) (events m)) (emit m (areas pre rest tpre trest r t))
unfolding unmarked events emit stored own_row text_bytes Fine put_text put_break steps row_count flat_size first_break has_break
emit_agrees R T (textᵐ s) fine pre rest tpre trest r t at =
    agree_words R T pre rest tpre trest (text_words t (length s)) s (row_of 0 t (length s) (text s))
    (steps R T (going r t) (text_events s)) (end_text t (put_bytes s (areas pre rest tpre trest r t)))
    (λ r' t' at'.
    let l = length-append tpre s in
    let a = at.text_at in
    let b = at'.text_at in
    let c = at'.small in
    text_fits t s (omega arith))
    (text_agrees R T s t (length s) pre rest tpre trest r t at refl)
emit_agrees R T (joinᵐ a b) fine pre rest tpre trest r t at =
    join_emits R T pre rest tpre trest r t at (events a) (events b) (unmarked a) (unmarked b) (emit a (areas pre rest tpre trest r t)) (emit b) fine (stays_emit b)
    (λ pre' rest' tpre' trest' r' t' at'. emit_agrees R T b fine.1 pre' rest' tpre' trest' r' t' at')
    (emit_agrees R T a fine.0 pre rest tpre trest r t at)
emit_agrees R T (breakᵐ k) fine pre rest tpre trest r t at =
    fit_row R T pre rest tpre trest r t at 2 k 0 (break k) fine (omega arith) (omega arith) (step R T (going r t) row) (put_break k (areas pre rest tpre trest r t))
    (row_agrees R T pre rest tpre trest r t at 2 k 0 (measures (break k)))
emit_agrees R T (nestᵐ n d) fine pre rest tpre trest r t at =
    wrap_emits R T pre rest tpre trest r t at (events d) (unmarked d) (nest n (unmarked d)) 3 n (emit d (areas pre rest tpre trest r t)) fine refl refl
    (emit_agrees R T d fine.1 pre rest tpre trest r t at)
emit_agrees R T (groupᵐ d) fine pre rest tpre trest r t at =
    wrap_emits R T pre rest tpre trest r t at (events d) (unmarked d) (group (unmarked d)) 4 0 (emit d (areas pre rest tpre trest r t)) fine refl refl
    (emit_agrees R T d fine pre rest tpre trest r t at)
emit_agrees R T (names place count d) fine pre rest tpre trest r t at =
    then R T pre rest tpre trest [] [] (stored t (unmarked d)) (text_bytes (unmarked d)) (step R T (going r t) (named place count)) (events d) (emit d)
    (put_names place count (areas pre rest tpre trest r t)) (stays_emit d)
    (λ r' t' at'.
    let a = at.text_at in
    let b = at'.text_at in
    let l = length-append tpre [] in
    let tu : t' ≡ t = omega arith in
    subst (λ (x : ℕ). Agree R T (pre ++ []) rest (tpre ++ []) trest (stored x (unmarked d)) (text_bytes (unmarked d)) (steps R T (going r' t') (events d))
    (emit d (areas (pre ++ []) rest (tpre ++ []) trest r' t'))) tu
    (emit_agrees R T d fine (pre ++ []) rest (tpre ++ []) trest r' t' at'))
    (names_agree R T pre rest tpre trest r t at place count)

-- ---- from cleared areas

zeros : (n k : ℕ) → n ≡ k → replicate {A = ℕ} n 0 ≡ replicate k 0
zeros n k e = ap (λ (j : ℕ). replicate {A = ℕ} j 0) e

drop_zeros : (n k : ℕ) → drop {A = ℕ} k (replicate n 0) ≡ replicate (n - k) 0
drop_zeros n zero = zeros n (n - 0) (omega arith)
drop_zeros zero (suc k) = zeros 0 (0 - suc k) (omega arith)
drop_zeros (suc n) (suc k) = drop_zeros n k ∙ zeros (n - k) (suc n - suc k) (omega arith)

-- a walk that goes through: the document is stored, with zeros after it
pub record Emitted (R T : ℕ) (d : Doc) (r t : ℕ) (st : State) : Type 0 where
  pub rows : r ≡ row_count d
  pub text : t ≡ length (text_bytes d)
  pub few : row_count d ≤ 16384
  pub small : length (text_bytes d) ≤ 65536
  pub rows_fit : row_count d * 7 ≤ R
  pub text_fits : length (text_bytes d) ≤ T
  pub is : st ≡ state (stored 0 d ++ replicate (R - row_count d * 7) 0) (text_bytes d ++ replicate (T - length (text_bytes d)) 0) (written_at (row_count d) (length (text_bytes d)))

cleared_agrees : (R T : ℕ) (m : Marked) → Fine (unmarked m) → Agree R T [] (replicate {A = ℕ} R 0) [] (replicate {A = ℕ} T 0) (stored 0 (unmarked m))
    (text_bytes (unmarked m)) (walk R T m) (emit m (cleared R T))
unfolding walk
cleared_agrees R T m fine =
    let l = length-replicate {A = ℕ} R 0 in
    let k = length-replicate {A = ℕ} T 0 in
    emit_agrees R T m fine [] (replicate {A = ℕ} R 0) [] (replicate {A = ℕ} T 0) 0 0
    (record { rows_at = refl; text_at = refl; rows_long = omega arith; text_long = omega arith; few = omega arith; small = omega arith })

pub emit_of_going_walk : (R T : ℕ) (m : Marked) → Fine (unmarked m) → (r t : ℕ) → walk R T m ≡ going r t → Emitted R T (unmarked m) r t (emit m (cleared R T))
emit_of_going_walk R T m fine r t e =
    let d : Doc = unmarked m in
    let g : Grown R T [] (replicate {A = ℕ} R 0) [] (replicate {A = ℕ} T 0) (stored 0 d) (text_bytes d) r t (emit m (cleared R T)) =
    subst (λ (p : Progress). Agree R T [] (replicate {A = ℕ} R 0) [] (replicate {A = ℕ} T 0) (stored 0 d) (text_bytes d) p (emit m (cleared R T))) e (cleared_agrees R T m fine) in
    let ls = stored-length 0 d in
    let ra : length (stored 0 d) ≡ r * 7 = g.at.rows_at in
    let ta : length (text_bytes d) ≡ t = g.at.text_at in
    let f = g.at.few in
    let s = g.at.small in
    let rl : length (stored 0 d) + length (drop (length (stored 0 d)) (replicate {A = ℕ} R 0)) ≡ R = g.at.rows_long in
    let tl : length (text_bytes d) + length (drop (length (text_bytes d)) (replicate {A = ℕ} T 0)) ≡ T = g.at.text_long in
    let rr : r ≡ row_count d = omega arith in
    record {
      rows = rr;
      text = sym ta;
      few = omega arith;
      small = omega arith;
      rows_fit = omega arith;
      text_fits = omega arith;
      is =
          g.is
          ∙ ap₂ (λ (x : ℕ) (y : ℕ). state (stored 0 d ++ drop x (replicate {A = ℕ} R 0)) (text_bytes d ++ drop (length (text_bytes d)) (replicate {A = ℕ} T 0)) (written_at y t)) ls rr
          ∙ ap (λ (x : ℕ). state (stored 0 d ++ drop (row_count d * 7) (replicate {A = ℕ} R 0))
          (text_bytes d ++ drop (length (text_bytes d)) (replicate {A = ℕ} T 0)) (written_at (row_count d) x)) (sym ta)
          ∙ ap₂ (λ (x y : List ℕ). state (stored 0 d ++ x) (text_bytes d ++ y) (written_at (row_count d) (length (text_bytes d))))
          (drop_zeros R (row_count d * 7)) (drop_zeros T (length (text_bytes d)));
    }

-- a walk that is refused: the sink has the number and the place
pub emit_of_stopped_walk : (R T : ℕ) (m : Marked) → Fine (unmarked m) → (number place : ℕ) → walk R T m ≡ stopped number place → Stopped number place (emit m (cleared R T))
emit_of_stopped_walk R T m fine number place e =
    subst (λ (p : Progress). Agree R T [] (replicate {A = ℕ} R 0) [] (replicate {A = ℕ} T 0) (stored 0 (unmarked m)) (text_bytes (unmarked m)) p (emit m (cleared R T))) e (cleared_agrees R T m fine)
