use Rattle.std.proofs.Common.{arith}
use Rattle.compare.proofs.NameLaws.{kinds_differ, both_roots, same_row, ends_differ, ends_same_lem, prefixes, two_names}
use Rattle.compare.proofs.names.same_name.Goals as goal

pub returns-then-ne : goal.returns-then-ne
returns-then-ne c =
    kinds_differ _ c.args.pool.now.sound _ _ c.loop-x.invariant.0 c.loop-x.invariant.1 _ _ c.kind-kind.ensures c.kind.ensures _ c.ne.ensures c.if-ne.true _ c.loop-x.invariant.2

pub returns-then-eq : goal.returns-then-eq
returns-then-eq c =
    both_roots _ c.args.pool.now.sound _ _ c.loop-x.invariant.0 c.loop-x.invariant.1 _ _ c.kind-kind.ensures c.kind.ensures _ c.ne.ensures c.if-ne.false
    _ c.eq.ensures c.if-eq.true _ c.loop-x.invariant.2

pub same_end-requires : goal.same_end-requires
same_end-requires c =
    let two = two_names _ c.args.pool.now.sound _ _ c.loop-x.invariant.0 c.loop-x.invariant.1 _ _ c.kind-kind.ensures c.kind.ensures _ c.ne.ensures c.if-ne.false _ c.eq.ensures c.if-eq.false in
    record { two = two; kind_is = c.kind-kind.ensures }

pub returns-then-not-same_end : goal.returns-then-not-same_end
returns-then-not-same_end c =
    let two = two_names _ c.args.pool.now.sound _ _ c.loop-x.invariant.0 c.loop-x.invariant.1 _ _ c.kind-kind.ensures c.kind.ensures _ c.ne.ensures c.if-ne.false _ c.eq.ensures c.if-eq.false in
    ends_differ _ c.args.pool.now.sound _ _ _ two _ c.same_end.ensures c.if-not-same_end.true _ c.loop-x.invariant.2

pub loop-x-smaller : goal.loop-x-smaller
loop-x-smaller c =
    let two = two_names _ c.args.pool.now.sound _ _ c.loop-x.invariant.0 c.loop-x.invariant.1 _ _ c.kind-kind.ensures c.kind.ensures _ c.ne.ensures c.if-ne.false _ c.eq.ensures c.if-eq.false in
    let low = prefixes _ c.args.pool.now.sound _ _ _ two in
    omega (arith, low.0, c.name-x.ensures.0)

pub loop-x-preserved : goal.loop-x-preserved
loop-x-preserved c =
    let two = two_names _ c.args.pool.now.sound _ _ c.loop-x.invariant.0 c.loop-x.invariant.1 _ _ c.kind-kind.ensures c.kind.ensures _ c.ne.ensures c.if-ne.false _ c.eq.ensures c.if-eq.false in
    let low = prefixes _ c.args.pool.now.sound _ _ _ two in (
      omega (arith, low.0, c.name-x.ensures.0, c.loop-x.invariant.0),
      omega (arith, low.1, c.name-y.ensures.0, c.loop-x.invariant.1),
      ends_same_lem _ c.args.pool.now.sound _ _ _ two _ c.same_end.ensures c.if-not-same_end.false _ c.loop-x.invariant.2 _ _ c.name-x.ensures.0
          c.name-y.ensures.0,
    )

pub returns : goal.returns
returns c = same_row _ c.args.pool.now.sound _ _ c.loop-x.invariant.0 c.loop-x.invariant.1 c.loop-x-test.false _ c.loop-x.invariant.2
