use Rattle.std.proofs.Common.{rules}
use Rattle.equality.proofs.MoveLaws.{put_all}
use Rattle.equality.proofs.puts.put_parts.Goals as goal

pub returns : goal.returns
returns c t =
    put_all _ _ _ _ _ _ (c.each_part.ensures t) (λ f. f.2.now) (λ f. f.0.now) (λ f. f.1.now) (λ u w f g s. (search rules, search rules)) (λ u w f g s. (search rules, search rules))
    _ _ _ (search rules) (search rules) (search rules)
