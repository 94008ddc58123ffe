-- The conclusion of what is given is a formula.
use Rattle.std.specs.Prelude.{IsTrue}
use Rattle.hol_terms.specs.Nameless.{Nameless}
use Rattle.hol_formulas.specs.Equation.{bool_type}
use Rattle.hol_kernel.specs.Items.{Items}
use Rattle.hol_kernel.specs.Theorem.{Theorem, IsWellTyped}
use Rattle.hol_kernel.specs.Given.{Given, proved, assumed, given_sequent}
use Rattle.hol_kernel.specs.Typing.{HasType}
use Rattle.hol_kernel.proofs.Declared.{has_type_is}
use Rattle.hol_kernel.proofs.Subsets.{within_of_subset}
use Rattle.hol_kernel.proofs.Weaken.{typed_wider}
use Rattle.hol_match.specs.Givens.{holds_given}

-- over each basis over which it can be read
abbrev pub IsFormula : Given → Type 0
IsFormula g = (basis : Items) → IsTrue (holds_given g basis) → HasType basis (given_sequent g).concl bool_type

pub theorem_formula : (th : Theorem) → IsWellTyped th → IsFormula (proved th)
theorem_formula th h basis suit = typed_wider th.basis basis (within_of_subset th.basis basis suit) th.sequent.concl bool_type h.conclusion

pub assumed_formula : (p : Nameless) → IsFormula (assumed p)
assumed_formula p basis suit = has_type_is basis p bool_type suit
