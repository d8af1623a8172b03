use Rattle.compare.proofs.EqualLaws.{other_depths, kinds_apart, low_differs, low_agrees, below_differs, apart_differs, not_lifted, may_be}
use Rattle.compare.proofs.trees.glance.Goals as goal

pub returns-then-expr : goal.returns-then-expr
returns-then-expr c = other_depths _ c.args.pool.now.sound _ _ c.requires.0 c.requires.1 c.args.d c.args.c _ _ c.expr.ensures.0 c.expr-2.ensures.0 c.if-expr.true

pub returns-then-ne : goal.returns-then-ne
returns-then-ne c =
    kinds_apart _ c.args.pool.now.sound _ _ c.requires.0 c.requires.1 c.args.d c.args.c _ _ c.expr_kind.ensures c.expr_kind-2.ensures _ c.ne.ensures c.if-ne.true

pub returns-then-loose_a-loose_b : goal.returns-then-loose_a-loose_b
returns-then-loose_a-loose_b c =
    low_differs _ c.args.pool.now.sound _ _ c.requires.0 c.requires.1 c.args.d c.args.c _ _ c.expr_kind.ensures c.expr_kind-2.ensures _ c.ne.ensures c.if-ne.false
    _ _ c.expr-loose_a.ensures.0 c.expr-loose_b.ensures.0 c.if-loose_a-c.true c.if-loose_a-loose_b.true

pub returns-then-a-b : goal.returns-then-a-b
returns-then-a-b c =
    low_agrees _ c.args.pool.now.sound _ _ c.requires.0 c.requires.1 c.args.d c.args.c _ _ c.expr_kind.ensures c.expr_kind-2.ensures _ c.ne.ensures c.if-ne.false
    _ _ c.expr-loose_a.ensures.0 c.expr-loose_b.ensures.0 c.if-loose_a-c.true c.if-a-b.true

pub returns-then-loose_b-loose_a : goal.returns-then-loose_b-loose_a
returns-then-loose_b-loose_a c =
    below_differs _ c.args.pool.now.sound _ _ c.requires.0 c.requires.1 c.args.d c.args.c _ _ c.expr_kind.ensures c.expr_kind-2.ensures _ c.ne.ensures c.if-ne.false
    _ _ c.expr-loose_a.ensures.0 c.expr-loose_b.ensures.0 c.if-loose_a-c.false c.if-loose_b-loose_a.true

pub returns-then-loose_b-loose_a-2 : goal.returns-then-loose_b-loose_a-2
returns-then-loose_b-loose_a-2 c =
    apart_differs _ c.args.pool.now.sound _ _ c.requires.0 c.requires.1 c.args.d c.args.c _ _ c.expr_kind.ensures c.expr_kind-2.ensures _ c.ne.ensures c.if-ne.false
    _ _ c.expr-loose_a.ensures.0 c.expr-loose_b.ensures.0 c.if-loose_a-c.false c.if-loose_b-loose_a.false c.if-loose_b-loose_a-2.true

pub returns-then-a-b-2 : goal.returns-then-a-b-2
returns-then-a-b-2 c =
    not_lifted _ c.args.pool.now.sound _ _ c.requires.0 c.requires.1 c.args.d c.args.c _ _ c.expr_kind.ensures c.expr_kind-2.ensures _ c.ne.ensures c.if-ne.false
    _ _ c.expr-loose_a.ensures.0 c.expr-loose_b.ensures.0 c.if-loose_a-c.false c.if-d-eq0.true c.if-a-b-2.true

pub returns-else-a-b : goal.returns-else-a-b
returns-else-a-b c =
    may_be _ c.args.pool.now.sound _ _ c.requires.0 c.requires.1 c.args.d c.args.c _ _ c.expr_kind.ensures c.expr_kind-2.ensures _ c.ne.ensures c.if-ne.false
    _ _ c.expr-loose_a.ensures.0 c.expr-loose_b.ensures.0

pub returns-else-d-eq0 : goal.returns-else-d-eq0
returns-else-d-eq0 c =
    may_be _ c.args.pool.now.sound _ _ c.requires.0 c.requires.1 c.args.d c.args.c _ _ c.expr_kind.ensures c.expr_kind-2.ensures _ c.ne.ensures c.if-ne.false
    _ _ c.expr-loose_a.ensures.0 c.expr-loose_b.ensures.0
