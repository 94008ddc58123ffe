use Rattle.std.proofs.Common.{subst, sym, ◌∙◌, OnOk}
use Rattle.hol_subst.specs.Marks.{Marks}
use Rattle.hol_subst.proofs.Marks.{unbound}
use Rattle.hol_subst.proofs.PrimedNames.{primes_tell}
use Rattle.hol_subst.proofs.names.mark_variable.Goals as goal

pub returns-in-Some : goal.returns-in-Some
returns-in-Some c = subst (λ test. OnOk c.mark.result (Marks c.args.taken.now.items c.mark.new.taken.items test)) (λ i k. unbound _ _ _ (primes_tell c.args.v.now.0 c.args.base.now c.in-Some.primes k (sym c.name.ensures ∙ sym c.as_str.ensures ∙ c.in-Some.ensures)) (sym c.binds.ensures ∙ c.if-not-binds.true) i) c.mark.ensures
