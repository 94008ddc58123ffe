use Rattle.hol_theory.proofs.Defining.{theorem_added}
use Rattle.hol_theory.proofs.making.with_theorem.Goals as goal

pub returns : goal.returns
returns c = theorem_added c.args.entries.items c.push.new.self.items c.in_ok-key.key c.in_ok-value.value c.args.name.now c.args.theorem c.in_ok-push.ensures.items c.in_ok-key.ensures c.in_ok-value.ensures
