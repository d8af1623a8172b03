use Rattle.std.proofs.Common.{arith}
use Rattle.pool.specs.declared.kinds.LevelKind.TheVariants.{Zero, Param}
use Rattle.pool.proofs.RowUnfolds.{level_kind_small}
use Rattle.compare.proofs.LevelLaws.{one_row, other_kinds, both_zero, branches, names_there, params_are}
use Rattle.pool.proofs.Standing.{found_kind}
use Rattle.compare.proofs.levels.glance.Goals as goal

pub returns-then-a-b : goal.returns-then-a-b
returns-then-a-b c = one_row _ c.args.pool.now.sound _ _ c.requires.0 c.requires.1 c.if-a-b.true

pub returns-then-ne : goal.returns-then-ne
returns-then-ne c = other_kinds _ c.args.pool.now.sound _ _ c.requires.0 c.requires.1 _ _ c.level_kind-kind.ensures c.level_kind.ensures _ c.ne.ensures c.if-ne.true

pub returns-in-Some-Zero : goal.returns-in-Some-Zero
returns-in-Some-Zero c =
    let kind = found_kind _ _ _ _ c.level_kind-kind.ensures c.in-Some-Zero.field-0 Zero c.in-Some-Zero.is (rw c.in-Some-Zero.is at c.in-Some-Zero.field-0-is) in
    both_zero _ c.args.pool.now.sound _ _ c.requires.0 c.requires.1 _ _ c.level_kind-kind.ensures c.level_kind.ensures _ c.ne.ensures c.if-ne.false kind

pub same_name-requires : goal.same_name-requires
same_name-requires c =
    let kind = found_kind _ _ _ _ c.level_kind-kind.ensures c.in-Some-Param.field-0 Param c.in-Some-Param.is (rw c.in-Some-Param.is at c.in-Some-Param.field-0-is) in
    names_there _ c.args.pool.now.sound _ _ c.requires.0 c.requires.1 _ _ c.level_kind-kind.ensures c.level_kind.ensures _ c.ne.ensures c.if-ne.false kind
    _ _ c.level-name_a.ensures.0 c.level-name_b.ensures.0

pub returns-in-Some-Param : goal.returns-in-Some-Param
returns-in-Some-Param c =
    let kind = found_kind _ _ _ _ c.level_kind-kind.ensures c.in-Some-Param.field-0 Param c.in-Some-Param.is (rw c.in-Some-Param.is at c.in-Some-Param.field-0-is) in
    params_are _ c.args.pool.now.sound _ _ c.requires.0 c.requires.1 _ _ c.level_kind-kind.ensures c.level_kind.ensures _ c.ne.ensures c.if-ne.false kind
    _ _ c.level-name_a.ensures.0 c.level-name_b.ensures.0 _ c.same_name.ensures

pub returns-in_default : goal.returns-in_default
returns-in_default c =
    branches _ c.args.pool.now.sound _ _ c.requires.0 c.requires.1 _ _ c.level_kind-kind.ensures c.level_kind.ensures _ c.ne.ensures c.if-ne.false
    (λ e. absurd (grind arith)) (grind arith)

-- never, since a checked row has a kind
pub returns-in_default-2 : goal.returns-in_default-2
returns-in_default-2 c =
    let small = level_kind_small _ c.args.pool.now.sound _ c.requires.0 in
    let past = rw c.in_default.is at c.level_kind-kind.ensures in
    absurd (omega arith)
