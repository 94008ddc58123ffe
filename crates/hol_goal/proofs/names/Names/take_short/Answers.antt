use Rattle.hol_goal.proofs.NameParts.{last_out}
use Rattle.hol_goal.proofs.names.Names.take_short.Goals as goal

pub returns-then-names-lt-PART_LEN : goal.returns-then-names-lt-PART_LEN
returns-then-names-lt-PART_LEN c = last_out (λ part. part.value) c.self.inside.parts.items c.pop.new.self.items c.in_ok-last.last c.args.self.now c.self.view_is c.in_ok-last.ensures.items
