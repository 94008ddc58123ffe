use Rattle.hol_match.proofs.Lookups.{pairs_added, good_added}
use Rattle.hol_match.proofs.instance.add_pair.Goals as goal

pub returns-clause-added : goal.returns-clause-added
returns-clause-added c =
    pairs_added c.args.pairs.now.items c.push.new.self.items c.in_ok-copy.field-0 c.args.t.now c.in_ok-variable.variable c.args.v.now
    c.in_ok-push.ensures.items c.in_ok-copy.ensures c.in_ok-variable.ensures

pub returns-clause-good : goal.returns-clause-good
returns-clause-good c =
    good_added c.args.pairs.now.items c.push.new.self.items c.in_ok-copy.field-0 c.args.t.now c.in_ok-variable.variable c.args.v.now
    c.in_ok-push.ensures.items c.in_ok-copy.ensures c.in_ok-variable.ensures c.requires
