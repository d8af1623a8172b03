use Rattle.notation.proofs.RepeatLaws.{moved, read_repeats, read_differs, repeats_more, parts_same, parts_differ, same_place}
use borrow.Author.Tests.{not-true, not-false}
use Prim.Native.Nat.{◌+◌}
use mathlib.Core.Path.{refl, sym, ◌∙◌}
use native.Mathlib.Omega.{arith}
use Rattle.notation.proofs.runs.Run.same.Goals as goal

pub returns-then-shift-eq0-clause-same : goal.returns-then-shift-eq0-clause-same
returns-then-shift-eq0-clause-same c = same_place c.args.bytes.now c.args.at c.args.shift c.args.n c.if-shift-eq0.true

pub returns-then-ne-clause-same : goal.returns-then-ne-clause-same
returns-then-ne-clause-same c =
    let bytes = c.args.bytes.now in
    let k = c.known_of-known in
    let from = k.ensures.from in
    let to = k.ensures.to in
    let differ = read_differs bytes c.args.shift c.args.at c.max-low.result (omega arith) (omega arith) _ refl (not-true _ (sym c.ne.ensures ∙ c.if-ne.true)) in
    parts_differ bytes c.args.at c.args.shift c.args.n c.requires.inside (λ whole. differ (λ i l m. whole i l (omega arith)))

pub returns-then-ne-2-clause-same : goal.returns-then-ne-2-clause-same
returns-then-ne-2-clause-same c =
    let bytes = c.args.bytes.now in
    let k = c.known_of-known in
    let from = k.ensures.from in
    let to = k.ensures.to in
    let differ = read_differs bytes c.args.shift c.min-high.result (c.args.at + c.args.n) (omega arith) (omega arith) _ refl
    (not-true _ (sym c.ne-2.ensures ∙ c.if-ne-2.true)) in
    parts_differ bytes c.args.at c.args.shift c.args.n c.requires.inside (λ whole. differ (λ i l m. whole i (omega arith) m))

pub returns-clause-known : goal.returns-clause-known
returns-clause-known c =
    let bytes = c.args.bytes.now in
    let k = c.known_of-known in
    let from = k.ensures.from in
    let to = k.ensures.to in
    let known = moved bytes _ _ k.result.from k.result.to k.ensures.shift (k.ensures.known bytes c.requires.known) in
    let low = read_repeats bytes c.args.shift c.args.at c.max-low.result (omega arith) (omega arith) _ refl (not-false _ (sym c.ne.ensures ∙ c.if-ne.false)) in
    let high = read_repeats bytes c.args.shift c.min-high.result (c.args.at + c.args.n) (omega arith) (omega arith) _ refl (not-false _ (sym c.ne-2.ensures ∙ c.if-ne-2.false)) in
    let more = repeats_more bytes c.args.at c.args.shift (c.args.at + c.args.n) k.result.from k.result.to _ _ from to (omega arith) c.max-low.ensures c.min-high.ensures known low high in
    λ i l m. more i (omega (arith, c.min-self.ensures, l)) (omega (arith, c.max-self.ensures, m))

pub returns-clause-same : goal.returns-clause-same
returns-clause-same c =
    let bytes = c.args.bytes.now in
    let k = c.known_of-known in
    let from = k.ensures.from in
    let to = k.ensures.to in
    let known = moved bytes _ _ k.result.from k.result.to k.ensures.shift (k.ensures.known bytes c.requires.known) in
    let low = read_repeats bytes c.args.shift c.args.at c.max-low.result (omega arith) (omega arith) _ refl (not-false _ (sym c.ne.ensures ∙ c.if-ne.false)) in
    let high = read_repeats bytes c.args.shift c.min-high.result (c.args.at + c.args.n) (omega arith) (omega arith) _ refl (not-false _ (sym c.ne-2.ensures ∙ c.if-ne-2.false)) in
    let more = repeats_more bytes c.args.at c.args.shift (c.args.at + c.args.n) k.result.from k.result.to _ _ from to (omega arith) c.max-low.ensures c.min-high.ensures known low high in
    parts_same bytes c.args.at c.args.shift c.args.n c.requires.inside (λ i l m. more i (omega (arith, l)) (omega (arith, m)))
