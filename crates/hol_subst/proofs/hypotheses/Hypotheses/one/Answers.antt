use Rattle.std.proofs.Common.{rules}
use Rattle.hol_subst.proofs.HypothesisLists.{ordered_one}
use Rattle.hol_subst.proofs.hypotheses.Hypotheses.one.Goals as goal

pub made-requires : goal.made-requires
made-requires c = ordered_one c.push.new.self.items c.args.p.now (search rules)
