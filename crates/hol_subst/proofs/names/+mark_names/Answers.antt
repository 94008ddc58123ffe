use Rattle.std.proofs.Common.{subst, ◌∙◌, sym, ap, OnOk}
use Rattle.hol_terms.specs.Primes.{with_primes}
use Rattle.hol_terms.specs.Scope.{binders}
use Rattle.hol_terms.specs.View.{named_of}
use Rattle.hol_subst.specs.Marks.{Marks}
use Rattle.hol_subst.proofs.Marks.{of_variable}
use Rattle.hol_subst.proofs.names.+mark_names.Goals as goal

pub returns-in-Var : goal.returns-in-Var
returns-in-Var t c = subst (λ test. OnOk c.mark_variable.result (Marks c.args.taken.now.items c.mark_variable.new.taken.items test)) (λ i k. of_variable c.args.term.now c.in-Var.v (binders c.args.scope.now) (with_primes k c.args.base.now) (sym (ap named_of c.in-Var.is) ∙ c.node.ensures) i) c.mark_variable.ensures
