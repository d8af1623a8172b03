use Rattle.pool.specs.Views.{read}
use Rattle.notation.proofs.NameClasses.{kind_small, string_refers, number_refers, word_of, hash_anonymous, hash_string, hash_number}
use mathlib.Core.Path.{◌∙◌}
use native.Mathlib.Omega.{arith}
use Rattle.notation.proofs.names.NameRowsClasses.hash.Goals as goal

pub returns-in_default : goal.returns-in_default
returns-in_default c = let small = kind_small (read c.args.pool.now) c.requires.right c.args.r c.requires.row in absurd (omega (arith, c.in_default.ensures))

pub returns-in-Anonymous : goal.returns-in-Anonymous
returns-in-Anonymous c = hash_anonymous (read c.args.pool.now) c.args.r (word_of _ _ _ c.in-Some.ensures c.in-Anonymous.is)

pub prefix-requires : goal.prefix-requires
prefix-requires c =
    let kind = word_of _ _ _ c.in-Some.ensures c.in-String.is in
    let refers = string_refers (read c.args.pool.now) c.requires.right c.args.r c.requires.row kind in
    omega arith

pub string-requires : goal.string-requires
string-requires c =
    let kind = word_of _ _ _ c.in-Some.ensures c.in-String.is in
    let refers = string_refers (read c.args.pool.now) c.requires.right c.args.r c.requires.row kind in
    omega arith

pub prefix-requires-in-Number : goal.prefix-requires-in-Number
prefix-requires-in-Number c =
    let kind = word_of _ _ _ c.in-Some.ensures c.in-Number.is in
    let refers = number_refers (read c.args.pool.now) c.requires.right c.args.r c.requires.row kind in
    omega arith

pub returns-in-String : goal.returns-in-String
returns-in-String c =
    let p = read c.args.pool.now in
    let kind = word_of _ _ _ c.in-Some.ensures c.in-String.is in
    let refers = string_refers p c.requires.right c.args.r c.requires.row kind in
    c.mixed.ensures ∙ hash_string p c.args.r _ _ kind (c.prefix.ensures.0 ∙ c.requires.classed _ refers.0) (c.string.ensures.0 ∙ c.requires.known.1 _ refers.1)

pub returns-in-Number : goal.returns-in-Number
returns-in-Number c =
    let p = read c.args.pool.now in
    let kind = word_of _ _ _ c.in-Some.ensures c.in-Number.is in
    let refers = number_refers p c.requires.right c.args.r c.requires.row kind in
    c.mixed-in-Number.ensures ∙ hash_number p c.args.r _ _ kind (c.prefix-in-Number.ensures.0 ∙ c.requires.classed _ refers) c.number.ensures
