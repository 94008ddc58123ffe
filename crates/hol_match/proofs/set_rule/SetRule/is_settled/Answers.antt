use Rattle.hol_match.proofs.Ground.{settled}
use Rattle.hol_match.proofs.set_rule.SetRule.is_settled.Goals as goal

-- what is kept says so
pub returns : goal.returns
returns c = settled c.args.self.now
