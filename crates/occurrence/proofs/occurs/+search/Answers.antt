use Rattle.std.proofs.Common.{◌≡◌, ◌<◌, true, false, sym, ◌∙◌, arith}
use Rattle.pool.specs.Tables.{E}
use Rattle.pool.specs.Views.{lent}
use Rattle.occurrence.proofs.SearchLaws.{there_is, no_part, a_part, first_row, second_row, body_row, first_there, second_there, on_body}
use Rattle.occurrence.proofs.occurs.+search.Goals as goal
use Rattle.occurrence.proofs.occurs.+search.Goals.{then-search, else-search}

pub returns-in_default : goal.returns-in_default
returns-in_default t c = no_part _ _ c.in_default.is

pub returns-in-Some-at_once : goal.returns-in-Some-at_once
returns-in-Some-at_once t c = sym (a_part _ _ c.in-Some.is ∙ c.at_once.ensures.told _ c.in-Some-at_once.is)

pub search-requires : goal.search-requires
search-requires t c =
    let part = there_is c.in-Some.is in
    let row : c.in-Some.r < E c.args.pool.now.words.words.now = omega (arith, part) in
    let low = first_row (lent c.args.pool.now) c.in-Some.r c.args.pool.now.sound row (c.of-parts.ensures.first _ c.expr_kind.ensures) in
    (omega (arith, low, part), omega (arith, low, row))

pub search-requires-else-search : goal.search-requires-else-search
search-requires-else-search t c =
    let part = there_is c.in-Some.is in
    let row : c.in-Some.r < E c.args.pool.now.words.words.now = omega (arith, part) in
    let low = second_row (lent c.args.pool.now) c.in-Some.r c.args.pool.now.sound row (c.of-parts.ensures.second _ c.expr_kind.ensures) in
    (omega (arith, low, part), omega (arith, low, row))

pub search-requires-else-search-2 : goal.search-requires-else-search-2
search-requires-else-search-2 t c =
    let part = there_is c.in-Some.is in
    let row : c.in-Some.r < E c.args.pool.now.words.words.now = omega (arith, part) in
    let low = body_row (lent c.args.pool.now) c.in-Some.r c.args.pool.now.sound row (c.of-parts.ensures.body _ c.expr_kind.ensures) in
    (omega (arith, low, part), omega (arith, low, row))

pub returns-then-search-2 : goal.returns-then-search-2
returns-then-search-2 t c =
    let left = c.at_once.ensures.left c.in_default-at_once.is in
    let first = c.of-parts.ensures.first _ c.expr_kind.ensures in
    let second = c.of-parts.ensures.second _ c.expr_kind.ensures in
    c.if-search-2.true ∙ sym
    (a_part _ _ c.in-Some.is ∙ elim c.if-search.branch [
      | then-search w ↦ first_there _ _ _ left first (sym c.search.ensures) w.if-search.true
      | else-search w ↦ second_there _ _ _ left second (sym w.search-else-search.ensures) (sym w.value-is ∙ c.if-search-2.true)
    ])

pub returns-else-search-2 : goal.returns-else-search-2
returns-else-search-2 t c =
    let left = c.at_once.ensures.left c.in_default-at_once.is in
    let first = c.of-parts.ensures.first _ c.expr_kind.ensures in
    let second = c.of-parts.ensures.second _ c.expr_kind.ensures in
    let body = c.of-parts.ensures.body _ c.expr_kind.ensures in
    elim c.if-search.branch [
      | then-search w ↦ absurd (let none : true ≡ false = sym w.if-search.true ∙ sym w.value-is ∙ c.if-search-2.false in cc)
      | else-search w ↦
          c.search-else-search-2.ensures ∙ sym
          (a_part _ _ c.in-Some.is
          ∙ on_body _ _ _ left second (sym w.search-else-search.ensures ∙ sym w.value-is ∙ c.if-search-2.false) first body (sym c.search.ensures ∙ w.if-search.false))
    ]
