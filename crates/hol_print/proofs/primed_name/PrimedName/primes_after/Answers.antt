use Rattle.std.proofs.Common.{◌≡◌, sym, ◌∙◌, true, false}
use Rattle.std.proofs.lemmas.Slice.Eq.{bytes_eq-Decides}
use Rattle.hol_print.proofs.Primes.{other_base}
use Rattle.hol_print.proofs.primed_name.PrimedName.primes_after.Goals as goal

pub returns-else-eq : goal.returns-else-eq
returns-else-eq c k e = other_base c.self.inside.base.now c.args.base.now c.self.inside.primes k c.self.invariant c.requires (λ same. let h : true ≡ false = sym ((bytes_eq-Decides c.self.inside.base.now c.args.base.now).1 same) ∙ sym c.eq.ensures ∙ c.if-eq.false in cc) (c.self.view_is ∙ e)
