use Rattle.std.proofs.Common.{subst, sym, ◌∙◌, OnOk}
use Rattle.hol_subst.specs.Marks.{Marks}
use Rattle.hol_subst.proofs.PrimedNames.{primes_tell}
use Rattle.hol_subst.proofs.names.mark_name.Goals as goal

pub returns-in-Some : goal.returns-in-Some
returns-in-Some c = subst (λ test. OnOk c.mark.result (Marks c.args.taken.now.items c.mark.new.taken.items test)) (λ i k. primes_tell c.args.name.now c.args.base.now c.in-Some.primes k (sym c.as_str.ensures ∙ c.in-Some.ensures) i) c.mark.ensures
