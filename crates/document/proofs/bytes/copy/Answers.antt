use Prim.Native.Nat.{ℕ}
use native.Mathlib.Omega.{arith}
use mathlib.Core.Path.{◌≡◌, refl, sym, ap, ◌∙◌}
use mathlib.Core.List.{List, [], ◌∷◌, ◌++◌}
use lib.ListN.{length, take, get_or}
use Rattle.std.proofs.Math.Seq.{take-length}
use Rattle.std.proofs.lemmas.List.{take_more, take_more_set}
use Rattle.document.proofs.bytes.copy.Goals as goal

pub loop-i-init : goal.loop-i-init
loop-i-init c = refl

pub loop-i-preserved : goal.loop-i-preserved
loop-i-preserved c =
    let i = c.loop-i.i in
    let bytes = c.args.from.now in
    take_more_set c.loop-i.to i (get_or bytes i 0) (omega (arith, c.loop-i.auto.to, c.requires, c.loop-i-test.true))
    ∙ ap (λ (l : List ℕ). l ++ get_or bytes i 0 ∷ []) c.loop-i.invariant
    ∙ sym (take_more bytes i 0 c.loop-i-test.true)

pub returns : goal.returns
returns c =
    let all : c.loop-i.i ≡ length c.args.from.now = omega (arith, c.loop-i.auto.i-end, c.loop-i-test.false) in
    let whole : length c.loop-i.to ≡ c.loop-i.i = omega (arith, all, c.loop-i.auto.to, c.requires) in
    sym (take-length c.loop-i.to) ∙ ap (λ (n : ℕ). take n c.loop-i.to) whole ∙ c.loop-i.invariant
    ∙ ap (λ (n : ℕ). take n c.args.from.now) all
    ∙ take-length c.args.from.now
