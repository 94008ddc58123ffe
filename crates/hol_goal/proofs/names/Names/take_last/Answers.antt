use Rattle.hol_goal.proofs.NameParts.{last_out}
use Rattle.hol_goal.proofs.names.Names.take_last.Goals as goal

pub returns : goal.returns
returns c = last_out (λ part. part.value) c.self.inside.parts.items c.pop.new.self.items c.in_ok-last.last c.args.self.now c.self.view_is c.in_ok-last.ensures.items
