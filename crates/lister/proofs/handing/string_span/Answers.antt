use native.Mathlib.Omega.{arith}
use mathlib.Core.Path.{◌≡◌, sym, ap, ◌∙◌}
use Rattle.pool.specs.Tables.{Pool, S, string_word}
use Rattle.lister.proofs.HandingLaws.{string_refused, string_missing, string_there}
use Rattle.lister.proofs.handing.string_span.Goals as goal

pub returns-in_default : goal.returns-in_default
returns-in_default c = string_refused _ _ _ (sym c.in_default.ensures.verdict)

pub returns-then-pool-r : goal.returns-then-pool-r
returns-then-pool-r c =
    let strings : c.in-Ok.pool.names.tables.strings ≡ S c.args.source.words.now = c.in-Ok.pool.names.found.strings ∙ ap (λ (q : Pool). S q.names) c.in-Ok.ensures.same in
    string_missing _ _ (sym c.in-Ok.ensures.verdict) (omega (arith, strings, c.if-pool-r.true))

pub returns : goal.returns
returns c =
    let same = c.in-Ok.ensures.same in
    let strings : c.in-Ok.pool.names.tables.strings ≡ S c.args.source.words.now = c.in-Ok.pool.names.found.strings ∙ ap (λ (q : Pool). S q.names) same in
    string_there _ _ (sym c.in-Ok.ensures.verdict) (omega (arith, strings, c.if-pool-r.false)) _ _
    (c.string.ensures.0 ∙ ap (λ (q : Pool). string_word q.names c.args.r 0) same)
    (c.string-2.ensures.0 ∙ ap (λ (q : Pool). string_word q.names c.args.r 1) same)
