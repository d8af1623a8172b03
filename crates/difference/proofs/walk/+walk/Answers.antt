use Rattle.std.proofs.Common.{rules, arith}
use mathlib.Core.Logic.{inl, inr}
use mathlib.Core.Path.{ap}
use Rattle.occurrence.specs.Parts.{part_of}
use Rattle.difference.proofs.WalkLaws.{walked_absent, rows_of, still, walked_quick}
use Rattle.difference.proofs.WalkLaws.{open_rows, ask_bodies, bodies, walked_body, ask_seconds, seconds, walked_second, ask_firsts, firsts, walked_first}
use Rattle.difference.proofs.walk.+walk.Goals as goal
use Rattle.difference.proofs.walk.+walk.Goals.{in_default-via-in-Some+in_default, in_default-via-in_default}

pub returns-in_default : goal.returns-in_default
returns-in_default t c =
    walked_absent _ _ _
    (elim c.in_default.branch [
      | in_default-via-in-Some+in_default w ↦ inr (ap part_of w.in_default.is-1)
      | in_default-via-in_default w ↦ inl (ap part_of w.in_default.is-0)
    ])
    c.requires c.pair_unless.ensures (λ e. search rules) (λ e q. search rules)

pub returns-in-Some : goal.returns-in-Some
returns-in-Some t c =
    let rows = rows_of _ _ c.args.d _ _ _ _ _ _ _ _ c.requires c.in-Some-Some.is-0 c.in-Some-Some.is-1 c.spend.ensures in
    walked_quick rows (still rows c.requires c.same_class-known.ensures) c.at_once.ensures c.in-Some.is c.pair_unless-in-Some.ensures

pub walk-body-requires : goal.walk-body-requires
walk-body-requires t c =
    let rows = rows_of _ _ c.args.d _ _ _ _ _ _ _ _ c.requires c.in-Some-Some.is-0 c.in-Some-Some.is-1 c.spend.ensures in
    let parted = open_rows rows c.at_once.ensures c.in_default-at_once.is in
    let sound = c.args.pool.now.sound in
    let asked = ask_bodies sound parted (c.of-of_a.ensures.body _ c.expr_kind-kind.ensures) (c.of-of_b.ensures.body _ c.expr_kind-kind.ensures)
    (still rows c.requires c.same_class-known.ensures) in
    (omega (arith, asked.0), asked.1)

pub returns-then-ne : goal.returns-then-ne
returns-then-ne t c =
    let rows = rows_of _ _ c.args.d _ _ _ _ _ _ _ _ c.requires c.in-Some-Some.is-0 c.in-Some-Some.is-1 c.spend.ensures in
    let parted = open_rows rows c.at_once.ensures c.in_default-at_once.is in
    let sound = c.args.pool.now.sound in
    walked_body sound parted c.walk-body.ensures rows.unlimited
    (bodies sound parted (c.of-of_a.ensures.body _ c.expr_kind-kind.ensures) (c.of-of_b.ensures.body _ c.expr_kind-kind.ensures) c.walk-body.ensures) (search rules)

pub walk-second-requires : goal.walk-second-requires
walk-second-requires t c =
    let rows = rows_of _ _ c.args.d _ _ _ _ _ _ _ _ c.requires c.in-Some-Some.is-0 c.in-Some-Some.is-1 c.spend.ensures in
    let parted = open_rows rows c.at_once.ensures c.in_default-at_once.is in
    let sound = c.args.pool.now.sound in
    let asked = ask_seconds sound parted (c.of-of_a.ensures.second _ c.expr_kind-kind.ensures) (c.of-of_b.ensures.second _ c.expr_kind-kind.ensures)
    c.walk-body.ensures.true_still in
    (omega (arith, asked.0), asked.1)

pub returns-then-ne-2 : goal.returns-then-ne-2
returns-then-ne-2 t c =
    let rows = rows_of _ _ c.args.d _ _ _ _ _ _ _ _ c.requires c.in-Some-Some.is-0 c.in-Some-Some.is-1 c.spend.ensures in
    let parted = open_rows rows c.at_once.ensures c.in_default-at_once.is in
    let sound = c.args.pool.now.sound in
    let body = bodies sound parted (c.of-of_a.ensures.body _ c.expr_kind-kind.ensures) (c.of-of_b.ensures.body _ c.expr_kind-kind.ensures) c.walk-body.ensures in
    let second = seconds sound parted (c.of-of_a.ensures.second _ c.expr_kind-kind.ensures) (c.of-of_b.ensures.second _ c.expr_kind-kind.ensures) c.walk-second.ensures in
    walked_second sound parted c.walk-second.ensures (λ e. c.walk-body.ensures.unlimited (rows.unlimited e)) body (search rules) second (search rules)

pub walk-first-requires : goal.walk-first-requires
walk-first-requires t c =
    let rows = rows_of _ _ c.args.d _ _ _ _ _ _ _ _ c.requires c.in-Some-Some.is-0 c.in-Some-Some.is-1 c.spend.ensures in
    let parted = open_rows rows c.at_once.ensures c.in_default-at_once.is in
    let sound = c.args.pool.now.sound in
    let asked = ask_firsts sound parted (c.of-of_a.ensures.first _ c.expr_kind-kind.ensures) (c.of-of_b.ensures.first _ c.expr_kind-kind.ensures)
    c.walk-second.ensures.true_still in
    (omega (arith, asked.0), asked.1)

pub returns : goal.returns
returns t c =
    let rows = rows_of _ _ c.args.d _ _ _ _ _ _ _ _ c.requires c.in-Some-Some.is-0 c.in-Some-Some.is-1 c.spend.ensures in
    let parted = open_rows rows c.at_once.ensures c.in_default-at_once.is in
    let sound = c.args.pool.now.sound in
    let body = bodies sound parted (c.of-of_a.ensures.body _ c.expr_kind-kind.ensures) (c.of-of_b.ensures.body _ c.expr_kind-kind.ensures) c.walk-body.ensures in
    let second = seconds sound parted (c.of-of_a.ensures.second _ c.expr_kind-kind.ensures) (c.of-of_b.ensures.second _ c.expr_kind-kind.ensures) c.walk-second.ensures in
    let first = firsts sound parted (c.of-of_a.ensures.first _ c.expr_kind-kind.ensures) (c.of-of_b.ensures.first _ c.expr_kind-kind.ensures) c.walk-first.ensures in
    walked_first sound parted c.walk-first.ensures (λ e. c.walk-second.ensures.unlimited (c.walk-body.ensures.unlimited (rows.unlimited e)))
    body (search rules) second (search rules) first c.keep_equal.ensures
