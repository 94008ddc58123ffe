use Rattle.hol_steps.proofs.Together.{pair_put, good_put}
use Rattle.hol_steps.proofs.opening.put_pair.Goals as goal

pub returns-clause-put : goal.returns-clause-put
returns-clause-put c = pair_put c.args.pairs.now.items c.insert.new.self.items c.in_ok-copy.field-0 c.args.t.now c.in_ok-own.own c.args.x.now c.in_ok-insert.ensures.items c.in_ok-copy.ensures c.in_ok-own.ensures.is

pub returns-clause-good : goal.returns-clause-good
returns-clause-good c =
    good_put c.args.pairs.now.items c.insert.new.self.items c.in_ok-copy.field-0 c.args.t.now c.in_ok-own.own c.args.x.now c.in_ok-insert.ensures.items c.in_ok-copy.ensures c.in_ok-own.ensures.is c.requires
