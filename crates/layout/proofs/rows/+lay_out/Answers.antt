use Prim.Native.Nat.{suc}
use native.Mathlib.Omega.{arith}
use mathlib.Core.Path.{sym}
use Rattle.document.specs.Rows.{word}
use Rattle.document.proofs.Words.{kind_rest}
use Rattle.layout.proofs.Cases.{text_asks, left_asks, next_asks, room_left, child_below}
use Rattle.layout.proofs.Going.{room_now, going_last, lays_text, lays_break, on_join, on_nest, on_flat, on_group}
use Rattle.layout.proofs.rows.+lay_out.Goals as goal
use Rattle.layout.proofs.rows.+lay_out.Goals.{in-Some-Join, in-Some-Nest, in_default+then-flat, in_default+else-flat}

pub lay_text-requires : goal.lay_text-requires
lay_text-requires t c =
    let kind = rw c.in-Some-Text.field-0-is at c.in-Some-Text.ensures in
    text_asks (room_now c.row.invariant) (sym kind)

pub returns-in-Some-Text : goal.returns-in-Some-Text
returns-in-Some-Text t c =
    let g = c.row.invariant in
    let kind = rw c.in-Some-Text.field-0-is at c.in-Some-Text.ensures in
    going_last g (lays_text (room_now g) _ (sym kind) c.lay_text.ensures)

pub returns-in-Some-Break : goal.returns-in-Some-Break
returns-in-Some-Break t c =
    let g = c.row.invariant in
    let kind = rw c.in-Some-Break.field-0-is at c.in-Some-Break.ensures in
    going_last g (lays_break (room_now g) _ (sym kind) c.lay_break.ensures)

pub left_of-left-requires : goal.left_of-left-requires
left_of-left-requires t c =
    let kind = rw c.in-Some-Join.field-0-is at c.in-Some-Join.ensures in
    left_asks (room_now c.row.invariant) (sym kind)

pub next_of_left-past-requires : goal.next_of_left-past-requires
next_of_left-past-requires t c =
    let kind = rw c.in-Some-Join.field-0-is at c.in-Some-Join.ensures in
    next_asks (room_now c.row.invariant) (sym kind)

pub lay_out-requires : goal.lay_out-requires
lay_out-requires t c =
    let g = c.row.invariant in
    let kind = rw c.in-Some-Join.field-0-is at c.in-Some-Join.ensures in
    let some = (left_asks (room_now g) (sym kind)).0 in
    let left = c.left_of-left.ensures in
    let down = g.going.down in
    (omega arith, room_left (room_now g) _ _ (sym kind) left c.next_of_left-past.ensures.1)

pub overflow_sub-r : goal.overflow_sub-r
overflow_sub-r t c =
    let room = room_now c.row.invariant in
    elim c.match-kind_in.branch [
      | in-Some-Join w ↦
          let kind = rw w.in-Some-Join.field-0-is at w.in-Some-Join.ensures in
          (left_asks room (sym kind)).0
      | in-Some-Nest w ↦
          let kind = rw w.in-Some-Nest.field-0-is at w.in-Some-Nest.ensures in
          child_below room 0 (sym kind)
      | in_default+then-flat w ↦
          let group = kind_rest (word c.args.rows.now c.row.r 0) (grind arith) in
          child_below room (suc group.0) group.1
      | in_default+else-flat w ↦
          let group = kind_rest (word c.args.rows.now c.row.r 0) (grind arith) in
          child_below room (suc group.0) group.1
    ]

pub row-smaller : goal.row-smaller
row-smaller t c = let some = overflow_sub-r t c in omega arith

pub row-preserved : goal.row-preserved
row-preserved t c =
    let g = c.row.invariant in
    elim c.match-kind_in.branch [
      | in-Some-Join w ↦
          let kind = rw w.in-Some-Join.field-0-is at w.in-Some-Join.ensures in
          rw (w.listing-is, w.nest-is, w.flat-is) (on_join g (sym kind) w.left_of-left.ensures w.next_of_left-past.ensures.0 w.lay_out.ensures)
      | in-Some-Nest w ↦
          let kind = rw w.in-Some-Nest.field-0-is at w.in-Some-Nest.ensures in
          rw (w.listing-is, w.nest-is, w.flat-is) (on_nest g (sym kind) w.word_in-nest.ensures.0)
      | in_default+then-flat w ↦
          let group = kind_rest (word c.args.rows.now c.row.r 0) (grind arith) in
          rw (w.listing-is, w.nest-is, w.flat-is) (on_flat g {k = group.0} group.1 w.if-flat.true)
      | in_default+else-flat w ↦
          let group = kind_rest (word c.args.rows.now c.row.r 0) (grind arith) in
          rw (w.listing-is, w.nest-is, w.flat-is)
          (on_group g {k = group.0} group.1 w.if-flat.false w.word_in.ensures.0 w.fits-flat.ensures.0 w.fits-flat.ensures.1)
    ]
