use Rattle.std.proofs.Common.{rules}
use Rattle.equality.proofs.MoveLaws.{link_all}
use Rattle.equality.proofs.puts.link_parts.Goals as goal

pub returns : goal.returns
returns c t = link_all _ _ _ _ _ _ (c.each_part.ensures t) (λ f. f.0.now) (λ b u w f g s. search rules) _ (search rules)
