-- Documents that are equal but for their places are walked alike: the place of a 7 alone may differ.
use Prim.Native.Nat.{ℕ}
use mathlib.Core.Bool.{Bool, true, false, cond}
use mathlib.Core.List.{List, [], ◌∷◌, ◌++◌, map}
use mathlib.Core.Path.{◌≡◌, refl, sym, ap, ap₂, ◌∙◌, subst}
use lib.Dec.{leb}
use Rattle.document.specs.Doc.{join, nest, group}
use Rattle.document.specs.Walk.{Marked, textᵐ, joinᵐ, breakᵐ, nestᵐ, groupᵐ, names, unmarked, Event, byte, row, named, text_events, events, Progress, going, stopped, step, steps, walk}
use Rattle.third_property.proofs.PlaceLaws.{bare, Like}

-- ---- documents

plain_bare : (m : Marked) → unmarked (bare m) ≡ unmarked m
unfolding unmarked bare
plain_bare (textᵐ s) = refl
plain_bare (joinᵐ a b) = ap₂ join (plain_bare a) (plain_bare b)
plain_bare (breakᵐ k) = refl
plain_bare (nestᵐ n d) = ap (nest n) (plain_bare d)
plain_bare (groupᵐ d) = ap group (plain_bare d)
plain_bare (names place count d) = plain_bare d

pub plain_like : (m n : Marked) → Like m n → unmarked m ≡ unmarked n
plain_like m n h = sym (plain_bare m) ∙ ap unmarked h.bared ∙ plain_bare n

-- ---- events

unfoldable bare_event : Event → Event
bare_event byte = byte
bare_event row = row
bare_event (named place count) = named 0 count

append-map : (es fs : List Event) → map bare_event (es ++ fs) ≡ map bare_event es ++ map bare_event fs
append-map [] fs = refl
append-map (e ∷ es) fs = ap (λ (l : List Event). bare_event e ∷ l) (append-map es fs)

text_bare : (s : List ℕ) → text_events s ≡ map bare_event (text_events s)
unfolding text_events bare_event
text_bare [] = refl
text_bare (b ∷ s) = ap (λ (l : List Event). byte ∷ l) (text_bare s)

last_bare : (es fs : List Event) → fs ≡ map bare_event es → fs ++ (row ∷ []) ≡ map bare_event (es ++ (row ∷ []))
unfolding bare_event
last_bare es fs h = ap (λ (l : List Event). l ++ (row ∷ [])) h ∙ sym (append-map es (row ∷ []))

events_bare : (m : Marked) → events (bare m) ≡ map bare_event (events m)
unfolding bare events bare_event
events_bare (textᵐ s) = text_bare s
events_bare (joinᵐ a b) =
    ap₂ (λ (x y : List Event). x ++ y) (events_bare a) (last_bare (events b) (events (bare b)) (events_bare b))
    ∙ sym (append-map (events a) (events b ++ (row ∷ [])))
events_bare (breakᵐ k) = refl
events_bare (nestᵐ n d) = last_bare (events d) (events (bare d)) (events_bare d)
events_bare (groupᵐ d) = last_bare (events d) (events (bare d)) (events_bare d)
events_bare (names place count d) = ap (λ (l : List Event). named 0 count ∷ l) (events_bare d)

-- ---- walks

-- the same rows and bytes written; or refused under the same number, at the same place unless it is 7
abbrev pub Near : Progress → Progress → Type 0
Near (going r t) (going u v) = (r ≡ u) × (t ≡ v)
Near (going r t) (stopped n q) = ⊥
Near (stopped n p) (going u v) = ⊥
Near (stopped n p) (stopped m q) = (n ≡ m) × ((n ≡ 7 → ⊥) → p ≡ q)

near_self : (p : Progress) → Near p p
near_self (going r t) = (refl, refl)
near_self (stopped n p) = (refl, λ h. refl)

near_third : (p q o : Progress) → Near p o → Near q o → Near p q
near_third (going r t) (going u v) (going x y) h k = (h.0 ∙ sym k.0, h.1 ∙ sym k.1)
near_third (going r t) (going u v) (stopped l o) h k = absurd h
near_third (going r t) (stopped m q) (going x y) h k = absurd k
near_third (going r t) (stopped m q) (stopped l o) h k = absurd h
near_third (stopped n p) (going u v) (going x y) h k = absurd h
near_third (stopped n p) (going u v) (stopped l o) h k = absurd k
near_third (stopped n p) (stopped m q) (going x y) h k = absurd h
near_third (stopped n p) (stopped m q) (stopped l o) h k =
    (h.0 ∙ sym k.0, λ other. h.1 other ∙ sym (k.1 (λ e. other (h.0 ∙ sym k.0 ∙ e))))

near_one : (R T r t : ℕ) (e : Event) → Near (step R T (going r t) e) (step R T (going r t) (bare_event e))
unfolding step bare_event
near_one R T r t byte = near_self (step R T (going r t) byte)
near_one R T r t row = near_self (step R T (going r t) row)
near_one R T r t (named place count) = by (leb count 1024)
  where
    by : (b : Bool) → Near (cond b (going r t) (stopped 7 place)) (cond b (going r t) (stopped 7 0))
    by true = (refl, refl)
    by false = (refl, λ other. absurd (other refl))

near_step : (R T : ℕ) (p q : Progress) (e : Event) → Near p q → Near (step R T p e) (step R T q (bare_event e))
unfolding step
near_step R T (going r t) (going u v) e h =
    subst (λ (x : ℕ). Near (step R T (going r t) e) (step R T (going x v) (bare_event e))) h.0
    (subst (λ (y : ℕ). Near (step R T (going r t) e) (step R T (going r y) (bare_event e))) h.1 (near_one R T r t e))
near_step R T (going r t) (stopped m q) e h = absurd h
near_step R T (stopped n p) (going u v) e h = absurd h
near_step R T (stopped n p) (stopped m q) e h = h

near_steps : (R T : ℕ) (p q : Progress) (es : List Event) → Near p q → Near (steps R T p es) (steps R T q (map bare_event es))
unfolding steps
near_steps R T p q [] h = h
near_steps R T p q (e ∷ es) h = near_steps R T (step R T p e) (step R T q (bare_event e)) es (near_step R T p q e h)

near_bare : (R T : ℕ) (m : Marked) → Near (walk R T m) (walk R T (bare m))
unfolding walk
near_bare R T m =
    subst (λ (es : List Event). Near (steps R T (going 0 0) (events m)) (steps R T (going 0 0) es)) (sym (events_bare m))
    (near_steps R T (going 0 0) (going 0 0) (events m) (refl, refl))

pub walks_near : (R T : ℕ) (m n : Marked) → Like m n → Near (walk R T m) (walk R T n)
walks_near R T m n h =
    near_third (walk R T m) (walk R T n) (walk R T (bare n))
    (subst (λ (x : Marked). Near (walk R T m) (walk R T x)) h.bared (near_bare R T m))
    (near_bare R T n)
