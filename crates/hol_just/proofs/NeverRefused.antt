-- A term of type bool can be assumed.
use Rattle.std.specs.Prelude.{◌≡◌, [], Some, is_some, Result, Err, refl}
use Rattle.std.proofs.Common.{ap, ◌∙◌, subst}
use Rattle.hol_terms.specs.Named.{Named, named_type}
use Rattle.hol_terms.specs.Nameless.{nameless}
use Rattle.hol_formulas.specs.Equation.{bool_type}
use Rattle.hol_kernel.specs.Given.{Given, assumption_of}
use Rattle.hol_kernel.specs.Gives.{by_rule, of_memory, Gives, in_kernel}
use Rattle.hol_kernel.specs.declared.error.Rule.{Rule}
use Rattle.hol_kernel.specs.declared.error.Rule.TheVariants as rule
use Rattle.hol_kernel.specs.declared.error.KernelError.{KernelError}
use Rattle.hol_kernel.specs.declared.error.KernelError.TheVariants.{Refused}
use Rattle.hol_kernel.proofs.Assumptions.{assumption_yes}
use Rattle.hol_just.specs.Made.{IsMade}
use Rattle.hol_just.proofs.Applied.{made_or_short}

pub never_refused :
    (p : Named) → named_type p ≡ Some bool_type → (r : Result Given KernelError) (e : KernelError) (by : Rule) → Gives in_kernel rule.Assume (assumption_of (nameless [] p)) r → r ≡ Err e → e ≡ Refused by → ⊥
never_refused p has r e by gives is which =
    let made = made_or_short in_kernel rule.Assume (assumption_of (nameless [] p)) r (ap is_some (assumption_yes p bool_type has refl)) gives in
    let short : by_rule by ≡ of_memory = subst (λ (x : Result Given KernelError). IsMade in_kernel x) (is ∙ ap Err which) made in
    absurd (cc)
