use Rattle.hol_exec.proofs.Changing.{theory_added}
use Rattle.hol_exec.proofs.reads.changed_keys.ChangedKeys.add_theory.Goals as goal

pub returns : goal.returns
returns c =
    theory_added c.self.inside.listed c.args.self.now c.self.inside.theories.items c.push.new.self.items c.in_ok-checkpoint.field-0 c.args.theory.now
    c.self.view_is c.in_ok-push.ensures.items c.in_ok-checkpoint.ensures
