use Rattle.hol_match.proofs.Ways.{ways_added}
use Rattle.hol_match.proofs.rules.add_rule.Goals as goal

pub returns : goal.returns
returns c = ways_added c.args.rules.now.items c.push.new.self.items c.args.rule c.in_ok-push.ensures.items
