use Rattle.pool.specs.Views.{read}
use Rattle.pool.specs.Tables.{N}
use Rattle.notation.proofs.NameClasses.{kind_small, string_refers, number_refers, word_of, first_equal, first_unequal}
use Rattle.notation.proofs.NameClasses.{kinds_equal, kinds_unequal, both_anonymous, both_string, both_number}
use Prim.Native.Nat.{◌<◌}
use mathlib.Core.Path.{refl, sym, ◌∙◌}
use native.Mathlib.Omega.{arith}
use Rattle.notation.proofs.names.NameRowsClasses.same.Goals as goal

pub returns-then-ne-clause-same : goal.returns-then-ne-clause-same
returns-then-ne-clause-same c =
    let p = read c.args.pool.now in
    let lower : c.args.c < N p.names = omega arith in
    kinds_unequal p c.requires.lower.right c.args.c c.args.r lower c.requires.lower.row _ _ c.kind.ensures c.kind-2.ensures _ c.ne.ensures c.if-ne.true

pub returns-in_default-clause-same : goal.returns-in_default-clause-same
returns-in_default-clause-same c =
    let p = read c.args.pool.now in
    let lower : c.args.c < N p.names = omega arith in
    let small = kind_small p c.requires.lower.right c.args.c lower in
    absurd (omega (arith, c.in_default.ensures))

pub string-requires : goal.string-requires
string-requires c =
    let p = read c.args.pool.now in
    let lower : c.args.c < N p.names = omega arith in
    let kind = word_of _ _ _ c.in-Some.ensures c.in-String.is in
    let refers = string_refers p c.requires.lower.right c.args.c lower kind in
    omega arith

pub string-requires-in-String : goal.string-requires-in-String
string-requires-in-String c =
    let p = read c.args.pool.now in
    let lower : c.args.c < N p.names = omega arith in
    let kind = word_of _ _ _ c.in-Some.ensures c.in-String.is in
    let same_kind = kinds_equal p c.requires.lower.right c.args.c c.args.r lower c.requires.lower.row _ _ c.kind.ensures c.kind-2.ensures _ c.ne.ensures c.if-ne.false in
    let refers = string_refers p c.requires.lower.right c.args.r c.requires.lower.row (sym same_kind ∙ kind) in
    omega arith

pub prefix-requires : goal.prefix-requires
prefix-requires c =
    let p = read c.args.pool.now in
    let lower : c.args.c < N p.names = omega arith in
    let kind = word_of _ _ _ c.in-Some.ensures c.in-String.is in
    let refers = string_refers p c.requires.lower.right c.args.c lower kind in
    omega arith

pub prefix-requires-then-string : goal.prefix-requires-then-string
prefix-requires-then-string c =
    let p = read c.args.pool.now in
    let lower : c.args.c < N p.names = omega arith in
    let kind = word_of _ _ _ c.in-Some.ensures c.in-String.is in
    let same_kind = kinds_equal p c.requires.lower.right c.args.c c.args.r lower c.requires.lower.row _ _ c.kind.ensures c.kind-2.ensures _ c.ne.ensures c.if-ne.false in
    let refers = string_refers p c.requires.lower.right c.args.r c.requires.lower.row (sym same_kind ∙ kind) in
    omega arith

pub prefix-requires-then-number : goal.prefix-requires-then-number
prefix-requires-then-number c =
    let p = read c.args.pool.now in
    let lower : c.args.c < N p.names = omega arith in
    let kind = word_of _ _ _ c.in-Some.ensures c.in-Number.is in
    let refers = number_refers p c.requires.lower.right c.args.c lower kind in
    omega arith

pub prefix-requires-then-number-2 : goal.prefix-requires-then-number-2
prefix-requires-then-number-2 c =
    let p = read c.args.pool.now in
    let lower : c.args.c < N p.names = omega arith in
    let kind = word_of _ _ _ c.in-Some.ensures c.in-Number.is in
    let same_kind = kinds_equal p c.requires.lower.right c.args.c c.args.r lower c.requires.lower.row _ _ c.kind.ensures c.kind-2.ensures _ c.ne.ensures c.if-ne.false in
    let refers = number_refers p c.requires.lower.right c.args.r c.requires.lower.row (sym same_kind ∙ kind) in
    omega arith

pub returns-in-Anonymous-clause-same : goal.returns-in-Anonymous-clause-same
returns-in-Anonymous-clause-same c =
    let p = read c.args.pool.now in
    let lower : c.args.c < N p.names = omega arith in
    let kind = word_of _ _ _ c.in-Some.ensures c.in-Anonymous.is in
    let same_kind = kinds_equal p c.requires.lower.right c.args.c c.args.r lower c.requires.lower.row _ _ c.kind.ensures c.kind-2.ensures _ c.ne.ensures c.if-ne.false in
    both_anonymous p c.requires.lower.right c.args.c c.args.r lower c.requires.lower.row kind (sym same_kind ∙ kind)

pub returns-then-string-clause-same : goal.returns-then-string-clause-same
returns-then-string-clause-same c =
    let p = read c.args.pool.now in
    let lower : c.args.c < N p.names = omega arith in
    let kind = word_of _ _ _ c.in-Some.ensures c.in-String.is in
    let same_kind = kinds_equal p c.requires.lower.right c.args.c c.args.r lower c.requires.lower.row _ _ c.kind.ensures c.kind-2.ensures _ c.ne.ensures c.if-ne.false in
    let refers_c = string_refers p c.requires.lower.right c.args.c lower kind in
    let refers_r = string_refers p c.requires.lower.right c.args.r c.requires.lower.row (sym same_kind ∙ kind) in
    first_equal c.string.result c.string-in-String.result c.prefix.result c.prefix-then-string.result
    (both_string p c.requires.lower.right c.args.c c.args.r lower c.requires.lower.row _ _ _ _ kind (sym same_kind ∙ kind)
    (c.string.ensures.0 ∙ c.requires.lower.known.1 _ refers_c.1) (c.string-in-String.ensures.0 ∙ c.requires.lower.known.1 _ refers_r.1)
    (c.prefix.ensures.0 ∙ c.requires.lower.classed _ (omega arith)) (c.prefix-then-string.ensures.0 ∙ c.requires.lower.classed _ refers_r.0))
    c.if-string.true

pub returns-else-string-clause-same : goal.returns-else-string-clause-same
returns-else-string-clause-same c =
    let p = read c.args.pool.now in
    let lower : c.args.c < N p.names = omega arith in
    let kind = word_of _ _ _ c.in-Some.ensures c.in-String.is in
    let same_kind = kinds_equal p c.requires.lower.right c.args.c c.args.r lower c.requires.lower.row _ _ c.kind.ensures c.kind-2.ensures _ c.ne.ensures c.if-ne.false in
    let refers_c = string_refers p c.requires.lower.right c.args.c lower kind in
    let refers_r = string_refers p c.requires.lower.right c.args.r c.requires.lower.row (sym same_kind ∙ kind) in
    first_unequal c.string.result c.string-in-String.result _ _
    (both_string p c.requires.lower.right c.args.c c.args.r lower c.requires.lower.row _ _ _ _ kind (sym same_kind ∙ kind)
    (c.string.ensures.0 ∙ c.requires.lower.known.1 _ refers_c.1) (c.string-in-String.ensures.0 ∙ c.requires.lower.known.1 _ refers_r.1) refl refl)
    c.if-string.false

pub returns-then-number-clause-same : goal.returns-then-number-clause-same
returns-then-number-clause-same c =
    let p = read c.args.pool.now in
    let lower : c.args.c < N p.names = omega arith in
    let kind = word_of _ _ _ c.in-Some.ensures c.in-Number.is in
    let same_kind = kinds_equal p c.requires.lower.right c.args.c c.args.r lower c.requires.lower.row _ _ c.kind.ensures c.kind-2.ensures _ c.ne.ensures c.if-ne.false in
    let refers_c = number_refers p c.requires.lower.right c.args.c lower kind in
    let refers_r = number_refers p c.requires.lower.right c.args.r c.requires.lower.row (sym same_kind ∙ kind) in
    first_equal c.number.result c.number-in-Number.result c.prefix-then-number.result c.prefix-then-number-2.result
    (both_number p c.requires.lower.right c.args.c c.args.r lower c.requires.lower.row _ _ _ _ kind (sym same_kind ∙ kind)
    c.number.ensures c.number-in-Number.ensures
    (c.prefix-then-number.ensures.0 ∙ c.requires.lower.classed _ (omega arith)) (c.prefix-then-number-2.ensures.0 ∙ c.requires.lower.classed _ refers_r))
    c.if-number.true

pub returns-else-number-clause-same : goal.returns-else-number-clause-same
returns-else-number-clause-same c =
    let p = read c.args.pool.now in
    let lower : c.args.c < N p.names = omega arith in
    let kind = word_of _ _ _ c.in-Some.ensures c.in-Number.is in
    let same_kind = kinds_equal p c.requires.lower.right c.args.c c.args.r lower c.requires.lower.row _ _ c.kind.ensures c.kind-2.ensures _ c.ne.ensures c.if-ne.false in
    first_unequal c.number.result c.number-in-Number.result _ _
    (both_number p c.requires.lower.right c.args.c c.args.r lower c.requires.lower.row _ _ _ _ kind (sym same_kind ∙ kind)
    c.number.ensures c.number-in-Number.ensures refl refl)
    c.if-number.false
