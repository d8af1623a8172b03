-- Laws of the rows that were found equal.
use Prim.Native.Nat.{ℕ, min, max}
use mathlib.Core.Bool.{Bool, true}
use mathlib.Core.List.{List}
use mathlib.Core.Path.{◌≡◌, sym, ap, ◌∙◌}
use lib.Dec.{eqb}
use borrow.Author.Tests.{eqb-true}
use Rattle.links.proofs.LinkLaws.{unsorted}
use Rattle.difference.specs.declared.walk.Found.{Found}
use Rattle.difference.specs.declared.walk.Found.TheVariants.{Equal}
use Rattle.difference.specs.Walks.{is_plain, KeepsWhere, KeepsIf, Root, Finds, Classed}

pub finds : (kept after : List ℕ) (x r : ℕ) → Root kept x r → KeepsWhere kept after x r → Finds kept after x r
finds kept after x r s k = record { keeps = λ S o. k.keeps S o (s.is S o); is = s.is }

module _ (l₀ l₁ l₂ : List ℕ) (x y a b : ℕ) (f : Finds l₀ l₁ x a) (g : Finds l₁ l₂ y b) where
  pub classes_one : (v : Bool) → v ≡ eqb a b → Classed l₀ l₂ x y v
  classes_one v e =
      record {
        keeps = λ S o. g.keeps S (f.keeps S o);
        one = λ q S o. f.is S o ∙ ap S (eqb-true a b (sym e ∙ q)) ∙ sym (g.is S (f.keeps S o));
      }

  pub united : (l₃ : List ℕ) (high low : ℕ) → high ≡ max a b → low ≡ min a b → KeepsWhere l₂ l₃ high low → KeepsWhere l₀ l₃ x y
  united l₃ high low eh el k =
      record {
        keeps = λ S o q.
            k.keeps S (g.keeps S (f.keeps S o))
            (ap S eh ∙ unsorted S a b (sym (f.is S o) ∙ q ∙ g.is S (f.keeps S o)) ∙ ap S (sym el));
      }

pub keeps_equal : (ws before after : List ℕ) (found : Found) (d c a b : ℕ) → found ≡ Equal → is_plain ws d c a ≡ true → KeepsWhere before after a b
    → KeepsIf ws before after found d c a b
keeps_equal ws before after found d c a b e y k = record { keeps = λ S o f. k.keeps S o (f e y) }
