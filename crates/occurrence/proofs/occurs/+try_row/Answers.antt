use Rattle.std.proofs.Common.{◌≡◌, ◌<◌, refl, sym, ◌∙◌, rules, arith}
use Rattle.std.specs.Prelude.{Some, None, true, false}
use Rattle.pool.specs.Tables.{E}
use Rattle.pool.specs.Views.{lent}
use Rattle.occurrence.specs.Parts.{part_of}
use Rattle.occurrence.proofs.SearchLaws.{there_is, told, no_part, a_part, near_row, far_row, body_row, near_there, far_there, on_near, on_far, on_body_last}
use Rattle.occurrence.proofs.occurs.+try_row.Goals as goal

pub try_part-returns-in_default : goal.try_part-returns-in_default
try_part-returns-in_default t c = told _ _ (no_part _ _ c.in_default.is)

pub try_part-returns-then-is_some : goal.try_part-returns-then-is_some
try_part-returns-then-is_some t c = λ b q. a_part _ _ c.in-Some.is ∙ c.at_once-told.ensures.told b q

pub try_part-returns : goal.try_part-returns
try_part-returns t c = λ b q. a_part _ _ c.in-Some.is ∙ c.try_row.ensures b q

pub try_row-loop-part-init : goal.try_row-loop-part-init
try_row-loop-part-init t c = record { same = sym (a_part _ _ refl); lower = omega arith }

pub try_row-returns-then-is_some : goal.try_row-returns-then-is_some
try_row-returns-then-is_some t c = λ b q. c.loop-part.invariant.same ∙ a_part _ _ c.in-Some.is ∙ c.at_once-told.ensures.told b q

pub try_row-part_at_once-beyond-requires : goal.try_row-part_at_once-beyond-requires
try_row-part_at_once-beyond-requires t c =
    let first = c.of-parts.ensures.first _ c.expr_kind.ensures in
    let second = c.of-parts.ensures.second _ c.expr_kind.ensures in
    let part = there_is c.in-Some.is in
    let row : c.in-Some.row < E c.args.pool.now.words.words.now = omega (arith, part, c.loop-part.invariant.lower, c.requires) in
    let low = far_row (lent c.args.pool.now) c.in-Some.row c.args.pool.now.sound row first second c.in_order-near.ensures in
    omega (arith, low, row)

pub try_row-returns-then-eq : goal.try_row-returns-then-eq
try_row-returns-then-eq t c =
    let first = c.of-parts.ensures.first _ c.expr_kind.ensures in
    let second = c.of-parts.ensures.second _ c.expr_kind.ensures in
    let left : c.at_once-told.result ≡ None = search rules in
    let there : c.part_at_once-beyond.result ≡ Some true = search rules in
    told _ _
    (sym
    (c.loop-part.invariant.same ∙ a_part _ _ c.in-Some.is
    ∙ far_there _ _ _ (c.at_once-told.ensures.left left) first second c.in_order-near.ensures (c.part_at_once-beyond.ensures _ there) refl))

pub try_row-loop-part-smaller-then-is_none : goal.try_row-loop-part-smaller-then-is_none
try_row-loop-part-smaller-then-is_none t c =
    let first = c.of-parts.ensures.first _ c.expr_kind.ensures in
    let second = c.of-parts.ensures.second _ c.expr_kind.ensures in
    let part = there_is c.in-Some.is in
    let row : c.in-Some.row < E c.args.pool.now.words.words.now = omega (arith, part, c.loop-part.invariant.lower, c.requires) in
    let low = near_row (lent c.args.pool.now) c.in-Some.row c.args.pool.now.sound row first second c.in_order-near.ensures in
    omega (arith, low, part)

pub try_row-loop-part-preserved-then-is_none : goal.try_row-loop-part-preserved-then-is_none
try_row-loop-part-preserved-then-is_none t c =
    let first = c.of-parts.ensures.first _ c.expr_kind.ensures in
    let second = c.of-parts.ensures.second _ c.expr_kind.ensures in
    let part = there_is c.in-Some.is in
    let row : c.in-Some.row < E c.args.pool.now.words.words.now = omega (arith, part, c.loop-part.invariant.lower, c.requires) in
    let low = near_row (lent c.args.pool.now) c.in-Some.row c.args.pool.now.sound row first second c.in_order-near.ensures in
    let left : c.at_once-told.result ≡ None = search rules in
    let absent : c.part_at_once-beyond.result ≡ Some false = search rules in
    let none : part_of c.of-parts.result.body ≡ 0 = search rules in
    record {
      same = c.loop-part.invariant.same ∙ a_part _ _ c.in-Some.is
          ∙ on_near _ _ _ (c.at_once-told.ensures.left left) first second c.in_order-near.ensures (c.part_at_once-beyond.ensures _ absent)
          (c.of-parts.ensures.body _ c.expr_kind.ensures) none;
      lower = omega (arith, low, part, c.loop-part.invariant.lower);
    }

pub try_row-try_part-requires : goal.try_row-try_part-requires
try_row-try_part-requires t c =
    let first = c.of-parts.ensures.first _ c.expr_kind.ensures in
    let second = c.of-parts.ensures.second _ c.expr_kind.ensures in
    let part = there_is c.in-Some.is in
    let row : c.in-Some.row < E c.args.pool.now.words.words.now = omega (arith, part, c.loop-part.invariant.lower, c.requires) in
    let low = near_row (lent c.args.pool.now) c.in-Some.row c.args.pool.now.sound row first second c.in_order-near.ensures in
    (omega (arith, low, part, c.loop-part.invariant.lower), omega (arith, low, row))

pub try_row-returns-then-branch : goal.try_row-returns-then-branch
try_row-returns-then-branch t c =
    let first = c.of-parts.ensures.first _ c.expr_kind.ensures in
    let second = c.of-parts.ensures.second _ c.expr_kind.ensures in
    let left : c.at_once-told.result ≡ None = search rules in
    told _ _
    (sym
    (c.loop-part.invariant.same ∙ a_part _ _ c.in-Some.is
    ∙ near_there _ _ _ (c.at_once-told.ensures.left left) first second c.in_order-near.ensures (c.in_ok-try_part.ensures _ refl) c.if-branch.true))

pub try_row-loop-part-smaller-then-is_none-2 : goal.try_row-loop-part-smaller-then-is_none-2
try_row-loop-part-smaller-then-is_none-2 t c =
    let first = c.of-parts.ensures.first _ c.expr_kind.ensures in
    let second = c.of-parts.ensures.second _ c.expr_kind.ensures in
    let part = there_is c.in-Some.is in
    let row : c.in-Some.row < E c.args.pool.now.words.words.now = omega (arith, part, c.loop-part.invariant.lower, c.requires) in
    let low = far_row (lent c.args.pool.now) c.in-Some.row c.args.pool.now.sound row first second c.in_order-near.ensures in
    omega (arith, low, part)

pub try_row-loop-part-preserved-then-is_none-2 : goal.try_row-loop-part-preserved-then-is_none-2
try_row-loop-part-preserved-then-is_none-2 t c =
    let first = c.of-parts.ensures.first _ c.expr_kind.ensures in
    let second = c.of-parts.ensures.second _ c.expr_kind.ensures in
    let part = there_is c.in-Some.is in
    let row : c.in-Some.row < E c.args.pool.now.words.words.now = omega (arith, part, c.loop-part.invariant.lower, c.requires) in
    let low = far_row (lent c.args.pool.now) c.in-Some.row c.args.pool.now.sound row first second c.in_order-near.ensures in
    let left : c.at_once-told.result ≡ None = search rules in
    let none : part_of c.of-parts.result.body ≡ 0 = search rules in
    record {
      same = c.loop-part.invariant.same ∙ a_part _ _ c.in-Some.is
          ∙ on_far _ _ _ (c.at_once-told.ensures.left left) first second c.in_order-near.ensures (c.in_ok-try_part.ensures _ refl ∙ c.if-branch.false)
          (c.of-parts.ensures.body _ c.expr_kind.ensures) none;
      lower = omega (arith, low, part, c.loop-part.invariant.lower);
    }

pub try_row-try_part-requires-in-Some : goal.try_row-try_part-requires-in-Some
try_row-try_part-requires-in-Some t c =
    let first = c.of-parts.ensures.first _ c.expr_kind.ensures in
    let second = c.of-parts.ensures.second _ c.expr_kind.ensures in
    let part = there_is c.in-Some.is in
    let row : c.in-Some.row < E c.args.pool.now.words.words.now = omega (arith, part, c.loop-part.invariant.lower, c.requires) in
    let low = far_row (lent c.args.pool.now) c.in-Some.row c.args.pool.now.sound row first second c.in_order-near.ensures in
    (omega (arith, low, part, c.loop-part.invariant.lower), omega (arith, low, row))

pub try_row-returns-then-branch-2 : goal.try_row-returns-then-branch-2
try_row-returns-then-branch-2 t c =
    let first = c.of-parts.ensures.first _ c.expr_kind.ensures in
    let second = c.of-parts.ensures.second _ c.expr_kind.ensures in
    let left : c.at_once-told.result ≡ None = search rules in
    told _ _
    (sym
    (c.loop-part.invariant.same ∙ a_part _ _ c.in-Some.is
    ∙ far_there _ _ _ (c.at_once-told.ensures.left left) first second c.in_order-near.ensures (c.in_ok-try_part-2.ensures _ refl) c.if-branch-2.true))

pub try_row-loop-part-smaller : goal.try_row-loop-part-smaller
try_row-loop-part-smaller t c =
    let part = there_is c.in-Some.is in
    let row : c.in-Some.row < E c.args.pool.now.words.words.now = omega (arith, part, c.loop-part.invariant.lower, c.requires) in
    let low = body_row (lent c.args.pool.now) c.in-Some.row c.args.pool.now.sound row (c.of-parts.ensures.body _ c.expr_kind.ensures) in
    omega (arith, low, part)

pub try_row-loop-part-preserved : goal.try_row-loop-part-preserved
try_row-loop-part-preserved t c =
    let first = c.of-parts.ensures.first _ c.expr_kind.ensures in
    let second = c.of-parts.ensures.second _ c.expr_kind.ensures in
    let part = there_is c.in-Some.is in
    let row : c.in-Some.row < E c.args.pool.now.words.words.now = omega (arith, part, c.loop-part.invariant.lower, c.requires) in
    let body = c.of-parts.ensures.body _ c.expr_kind.ensures in
    let low = body_row (lent c.args.pool.now) c.in-Some.row c.args.pool.now.sound row body in
    let left : c.at_once-told.result ≡ None = search rules in
    record {
      same = c.loop-part.invariant.same ∙ a_part _ _ c.in-Some.is
          ∙ on_body_last _ _ _ (c.at_once-told.ensures.left left) first second c.in_order-near.ensures (c.in_ok-try_part.ensures _ refl ∙ c.if-branch.false) body (c.in_ok-try_part-2.ensures _ refl ∙ c.if-branch-2.false);
      lower = omega (arith, low, part, c.loop-part.invariant.lower);
    }

pub try_row-returns : goal.try_row-returns
try_row-returns t c = told _ _ (no_part _ _ c.in_default.is ∙ sym c.loop-part.invariant.same)
