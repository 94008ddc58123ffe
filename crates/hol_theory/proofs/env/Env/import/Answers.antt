use Rattle.std.proofs.Common.{◌≡◌, ◌∙◌, length, ap, sym, subst}
use Rattle.hol_theory.specs.Adding.{AreNew, CanFollow}
use Rattle.hol_theory.proofs.Imports.{missing_new, missing_follows, whole_imported}
use Rattle.hol_theory.proofs.env.Env.import.Goals as goal

pub returns-then-self-eq0 : goal.returns-then-self-eq0
returns-then-self-eq0 c =
    let none : 0 ≡ length c.args.self.now = sym c.if-self-eq0.true ∙ c.self.invariant.2 ∙ ap length c.self.view_is in
    whole_imported c.args.self.now c.args.other.now c.become_checkpoint.new.self none c.in_ok-become_checkpoint.ensures.ok

pub take_all-requires-clause-new : goal.take_all-requires-clause-new
take_all-requires-clause-new c = subst (AreNew c.args.self.now) (sym c.in_ok-more.ensures) (missing_new c.args.self.now c.args.other.now c.promise.ensures.keys)

pub take_all-requires-clause-follow : goal.take_all-requires-clause-follow
take_all-requires-clause-follow c = subst (CanFollow c.args.self.now) (sym c.in_ok-more.ensures) (missing_follows c.args.self.now c.args.other.now c.promise.ensures.theory (sym c.in_default.ensures))
