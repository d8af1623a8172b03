use Rattle.equality.proofs.MoveLaws.{first_alike, second_alike, body_alike}
use Rattle.equality.proofs.puts.each_part.Goals as goal

pub put_part-requires-clause-alike : goal.put_part-requires-clause-alike
put_part-requires-clause-alike g c =
    first_alike _ _ _ _ _ _ (c.of-of_a.ensures.first _ c.expr_kind-kind.ensures) (c.of-of_b.ensures.first _ c.expr_kind-kind.ensures)

pub put_part-requires-then-put_part-clause-alike : goal.put_part-requires-then-put_part-clause-alike
put_part-requires-then-put_part-clause-alike g c =
    second_alike _ _ _ _ _ _ (c.of-of_a.ensures.second _ c.expr_kind-kind.ensures) (c.of-of_b.ensures.second _ c.expr_kind-kind.ensures)

pub put_part-requires-then-put_part-2-clause-alike : goal.put_part-requires-then-put_part-2-clause-alike
put_part-requires-then-put_part-2-clause-alike g c =
    body_alike _ _ _ _ _ _ (c.of-of_a.ensures.body _ c.expr_kind-kind.ensures) (c.of-of_b.ensures.body _ c.expr_kind-kind.ensures)
