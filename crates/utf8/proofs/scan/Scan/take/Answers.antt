use Rattle.std.proofs.Common.{◌<◌, arith}
use Rattle.utf8.proofs.Laws.{bits_fit, room_on, step_whole, step_begun, step_last, step_on}
use Rattle.utf8.proofs.scan.Scan.take.Goals as goal

pub returns-then-b-lt128 : goal.returns-then-b-lt128
returns-then-b-lt128 c =
    rw c.from.ensures (step_whole _ _ _ _ _ (omega arith) c.if-b-lt128.true c.begun.ensures.need c.begun.ensures.bits)

pub returns-else-b-lt128 : goal.returns-else-b-lt128
returns-else-b-lt128 c = step_begun _ _ _ _ _ (omega arith) c.if-b-lt128.false c.begun.ensures.need c.begun.ensures.bits

pub overflow_mul-bits : goal.overflow_mul-bits
overflow_mul-bits c =
    let few : c.args.self.now.bits < 70600 = bits_fit c.args.self.now.need _ (omega arith) c.args.self.now.room in
    omega arith

pub overflow_add-bits : goal.overflow_add-bits
overflow_add-bits c =
    let few : c.args.self.now.bits < 70600 = bits_fit c.args.self.now.need _ (omega arith) c.args.self.now.room in
    omega arith

pub invariant_of-self : goal.invariant_of-self
invariant_of-self c = record {
  room = room_on c.args.self.now.need c.args.self.now.bits c.args.b _ _ c.args.self.now.room c.ranges.b.fits (omega arith) (omega arith);
}

pub returns-then-need-eq0 : goal.returns-then-need-eq0
returns-then-need-eq0 c = step_last c.args.self.now.need c.args.self.now.bits c.args.b _ _ (omega arith) (omega arith) (omega arith)

pub returns-else-need-eq0 : goal.returns-else-need-eq0
returns-else-need-eq0 c = step_on c.args.self.now.need c.args.self.now.bits c.args.b _ _ (omega arith) (omega arith) (omega arith)
