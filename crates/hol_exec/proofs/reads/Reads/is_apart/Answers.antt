use Rattle.std.proofs.Common.{refl, subst}
use Rattle.std.specs.Map.{keys_of}
use Rattle.hol_exec.specs.ChangedKeys.{AreApart}
use Rattle.hol_exec.specs.ReadsValue.{ReadsValue}
use Rattle.hol_exec.proofs.reads.Reads.is_apart.Goals as goal

pub returns-then-not-may_meet : goal.returns-then-not-may_meet
returns-then-not-may_meet c = λ e.
    let own = c.self.inside in
    subst (λ (r : ReadsValue). AreApart c.args.changes.now (keys_of r.cited) × AreApart c.args.changes.now (keys_of r.made)) c.self.view_is (
      c.if-not-may_meet.ensures refl (keys_of own.cited.items) c.self.invariant.1,
      c.if-not-may_meet.ensures refl (keys_of own.made.items) c.self.invariant.2,
    )
