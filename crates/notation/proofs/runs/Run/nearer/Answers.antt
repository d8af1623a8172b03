use Rattle.notation.proofs.RepeatLaws.{nearer_is, nearer_low, nearer_past}
use Rattle.std.proofs.Math.Nat.{div-mul-le_self, lt-div-mul-add}
use Prim.Native.Nat.{◌+◌, ◌*◌, ◌/◌, ◌<◌}
use mathlib.Core.Path.{sym, ◌∙◌}
use native.Mathlib.Omega.{arith}
use Rattle.notation.proofs.runs.Run.nearer.Goals as goal

pub returns-then-past-n-clause-parts : goal.returns-then-past-n-clause-parts
returns-then-past-n-clause-parts c =
    λ q e.
    let step = c.args.self.now.shift in
    let few = div-mul-le_self c.args.shift step in
    let more : c.args.shift < c.args.shift / step * step + step = lt-div-mul-add (omega arith) in
    let past = nearer_past c.args.bytes.now c.args.at c.args.shift c.args.n step c.requires.inside _ (omega arith) (omega arith)
    (sym c.if-not-same.false ∙ c.same.ensures.same) in
    nearer_is c.args.bytes.now c.args.at c.args.shift c.args.n step c.requires.inside _ q e past

pub returns-clause-parts : goal.returns-clause-parts
returns-clause-parts c =
    λ q e.
    let step = c.args.self.now.shift in
    let low = nearer_low c.args.bytes.now c.args.at c.args.shift c.args.n step c.requires.inside c.if-low-eq0.false
    (sym c.if-not-same-2.false ∙ c.same-2.ensures.same) in
    nearer_is c.args.bytes.now c.args.at c.args.shift c.args.n step c.requires.inside _ q e low
