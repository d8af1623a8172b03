use Prim.Native.Nat.{suc}
use native.Mathlib.Omega.{arith}
use mathlib.Core.Path.{sym}
use Rattle.std.proofs.Common.{rules}
use Rattle.document.specs.Rows.{word}
use Rattle.document.proofs.Words.{kind_rest}
use Rattle.layout.proofs.Cases.{row_inside, text_asks, break_asks}
use Rattle.layout.proofs.Going.{lays_text, lays_break}
use Rattle.layout_pending.proofs.Taking.{head, join_asks, right_within, child_below, test_asks}
use Rattle.layout_pending.proofs.Turning.{top_room, depth_small, top_taking, turn_taken_less, put_asks, next_asks, turn_join_less}
use Rattle.layout_pending.proofs.Turning.{on_start, on_end, on_top, room_now, on_taken, on_join}
use Rattle.layout_pending.proofs.Turning.{nest_asks, on_nest, nest_less, group_asks, on_group, group_less}
use Rattle.layout_pending.proofs.turns.lay_out_pending.Goals as goal

pub loop-depth-init : goal.loop-depth-init
loop-depth-init c = on_start c.requires c.new-listing.ensures c.put.ensures c.whole.ensures

pub entry_at-e-requires : goal.entry_at-e-requires
entry_at-e-requires c = top_room c.loop-depth.invariant.turning c.loop-depth-test.true

pub kind_in-requires : goal.kind_in-requires
kind_in-requires c =
    let t = on_top c.loop-depth.invariant c.loop-depth-test.true c.entry_at-e.ensures in
    row_inside (room_now t)

pub lay_text-requires : goal.lay_text-requires
lay_text-requires c =
    let t = on_top c.loop-depth.invariant c.loop-depth-test.true c.entry_at-e.ensures in
    text_asks (room_now t) (sym (rw c.in-Some-Text.field-0-is at c.in-Some-Text.ensures))

pub loop-depth-smaller-in-Text-1 : goal.loop-depth-smaller-in-Text-1
loop-depth-smaller-in-Text-1 c =
    let t = on_top c.loop-depth.invariant c.loop-depth-test.true c.entry_at-e.ensures in
    turn_taken_less t.top

pub loop-depth-preserved-in-Text-1 : goal.loop-depth-preserved-in-Text-1
loop-depth-preserved-in-Text-1 c =
    let t = on_top c.loop-depth.invariant c.loop-depth-test.true c.entry_at-e.ensures in
    on_taken t (lays_text (room_now t) _ (sym (rw c.in-Some-Text.field-0-is at c.in-Some-Text.ensures)) c.lay_text.ensures)

pub lay_break-requires : goal.lay_break-requires
lay_break-requires c =
    let t = on_top c.loop-depth.invariant c.loop-depth-test.true c.entry_at-e.ensures in
    break_asks (room_now t) (sym (rw c.in-Some-Break.field-0-is at c.in-Some-Break.ensures))

pub loop-depth-smaller-in-Break-1 : goal.loop-depth-smaller-in-Break-1
loop-depth-smaller-in-Break-1 c =
    let t = on_top c.loop-depth.invariant c.loop-depth-test.true c.entry_at-e.ensures in
    turn_taken_less t.top

pub loop-depth-preserved-in-Break-1 : goal.loop-depth-preserved-in-Break-1
loop-depth-preserved-in-Break-1 c =
    let t = on_top c.loop-depth.invariant c.loop-depth-test.true c.entry_at-e.ensures in
    on_taken t (lays_break (room_now t) _ (sym (rw c.in-Some-Break.field-0-is at c.in-Some-Break.ensures)) c.lay_break.ensures)

pub last_child-requires : goal.last_child-requires
last_child-requires c =
    let t = on_top c.loop-depth.invariant c.loop-depth-test.true c.entry_at-e.ensures in
    (join_asks (top_taking t.top) (sym (rw c.in-Some-Join.field-0-is at c.in-Some-Join.ensures))).0.0

pub put-requires-in-Some-Join : goal.put-requires-in-Some-Join
put-requires-in-Some-Join c =
    let t = on_top c.loop-depth.invariant c.loop-depth-test.true c.entry_at-e.ensures in
    put_asks t.top _ _ c.last_child.ensures (right_within (top_taking t.top) (sym (rw c.in-Some-Join.field-0-is at c.in-Some-Join.ensures)))

pub left_child-requires : goal.left_child-requires
left_child-requires c =
    let t = on_top c.loop-depth.invariant c.loop-depth-test.true c.entry_at-e.ensures in
    join_asks (top_taking t.top) (sym (rw c.in-Some-Join.field-0-is at c.in-Some-Join.ensures))

pub put-requires-in-Some-Join-2 : goal.put-requires-in-Some-Join-2
put-requires-in-Some-Join-2 c =
    let t = on_top c.loop-depth.invariant c.loop-depth-test.true c.entry_at-e.ensures in
    let join = sym (rw c.in-Some-Join.field-0-is at c.in-Some-Join.ensures) in
    next_asks t.top join _ _ c.put-in-Some-Join.ensures c.last_child.ensures _ c.left_child.ensures

pub overflow_add-depth : goal.overflow_add-depth
overflow_add-depth c =
    let d = depth_small c.loop-depth.invariant.turning c.loop-depth-test.true in omega arith

pub loop-depth-smaller-in-Join-1 : goal.loop-depth-smaller-in-Join-1
loop-depth-smaller-in-Join-1 c =
    let t = on_top c.loop-depth.invariant c.loop-depth-test.true c.entry_at-e.ensures in
    let join = sym (rw c.in-Some-Join.field-0-is at c.in-Some-Join.ensures) in
    turn_join_less t.top join _ _ c.put-in-Some-Join.ensures c.last_child.ensures _ _ c.put-in-Some-Join-2.ensures c.left_child.ensures

pub loop-depth-preserved-in-Join-1 : goal.loop-depth-preserved-in-Join-1
loop-depth-preserved-in-Join-1 c =
    let t = on_top c.loop-depth.invariant c.loop-depth-test.true c.entry_at-e.ensures in
    let join = sym (rw c.in-Some-Join.field-0-is at c.in-Some-Join.ensures) in
    on_join t join _ _ c.put-in-Some-Join.ensures c.last_child.ensures _ _ c.put-in-Some-Join-2.ensures c.left_child.ensures

pub word_in-requires : goal.word_in-requires
word_in-requires c =
    let t = on_top c.loop-depth.invariant c.loop-depth-test.true c.entry_at-e.ensures in
    (omega arith, row_inside (room_now t))

pub overflow_add-e : goal.overflow_add-e
overflow_add-e c =
    let t = on_top c.loop-depth.invariant c.loop-depth-test.true c.entry_at-e.ensures in
    let n = (head (top_taking t.top)).nest_room in
    let z = c.word_in.ensures.1 in
    omega arith

pub last_child-requires-in-Some-Nest : goal.last_child-requires-in-Some-Nest
last_child-requires-in-Some-Nest c =
    let t = on_top c.loop-depth.invariant c.loop-depth-test.true c.entry_at-e.ensures in
    child_below (top_taking t.top) 0 (sym (rw c.in-Some-Nest.field-0-is at c.in-Some-Nest.ensures))

pub put-requires-in-Some-Nest : goal.put-requires-in-Some-Nest
put-requires-in-Some-Nest c =
    let t = on_top c.loop-depth.invariant c.loop-depth-test.true c.entry_at-e.ensures in
    nest_asks t (sym (rw c.in-Some-Nest.field-0-is at c.in-Some-Nest.ensures)) c.word_in.ensures.0 c.last_child-in-Some-Nest.ensures

pub loop-depth-smaller-in-Nest-1 : goal.loop-depth-smaller-in-Nest-1
loop-depth-smaller-in-Nest-1 c =
    let t = on_top c.loop-depth.invariant c.loop-depth-test.true c.entry_at-e.ensures in
    nest_less t (sym (rw c.in-Some-Nest.field-0-is at c.in-Some-Nest.ensures)) c.word_in.ensures.0 c.last_child-in-Some-Nest.ensures c.put-in-Some-Nest.ensures

pub loop-depth-preserved-in-Nest-1 : goal.loop-depth-preserved-in-Nest-1
loop-depth-preserved-in-Nest-1 c =
    let t = on_top c.loop-depth.invariant c.loop-depth-test.true c.entry_at-e.ensures in
    on_nest t (sym (rw c.in-Some-Nest.field-0-is at c.in-Some-Nest.ensures)) c.word_in.ensures.0 c.last_child-in-Some-Nest.ensures c.put-in-Some-Nest.ensures

pub is_flat-flat-requires : goal.is_flat-flat-requires
is_flat-flat-requires c =
    let t = on_top c.loop-depth.invariant c.loop-depth-test.true c.entry_at-e.ensures in
    test_asks (top_taking t.top)

pub last_child-requires-in_default : goal.last_child-requires-in_default
last_child-requires-in_default c =
    let t = on_top c.loop-depth.invariant c.loop-depth-test.true c.entry_at-e.ensures in
    let group = kind_rest (word c.args.rows.now c.entry_at-e.result.row 0) (grind arith) in
    child_below (top_taking t.top) (suc group.0) group.1

pub put-requires-in_default : goal.put-requires-in_default
put-requires-in_default c =
    let t = on_top c.loop-depth.invariant c.loop-depth-test.true c.entry_at-e.ensures in
    let group = kind_rest (word c.args.rows.now c.entry_at-e.result.row 0) (grind arith) in
    group_asks t {k = group.0} group.1 c.is_flat-flat.ensures c.last_child-in_default.ensures

pub loop-depth-smaller : goal.loop-depth-smaller
loop-depth-smaller c =
    let t = on_top c.loop-depth.invariant c.loop-depth-test.true c.entry_at-e.ensures in
    let group = kind_rest (word c.args.rows.now c.entry_at-e.result.row 0) (grind arith) in
    group_less t {k = group.0} group.1 c.is_flat-flat.ensures c.last_child-in_default.ensures c.put-in_default.ensures

pub loop-depth-preserved : goal.loop-depth-preserved
loop-depth-preserved c =
    let t = on_top c.loop-depth.invariant c.loop-depth-test.true c.entry_at-e.ensures in
    let group = kind_rest (word c.args.rows.now c.entry_at-e.result.row 0) (grind arith) in
    on_group t {k = group.0} group.1 c.is_flat-flat.ensures c.last_child-in_default.ensures c.put-in_default.ensures

pub returns : goal.returns
returns c = on_end c.new-listing.ensures c.loop-depth.invariant c.loop-depth-test.false (search rules)
