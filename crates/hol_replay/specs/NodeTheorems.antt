-- What private functions promise each other of the theorems of traces.
use Rattle.std.specs.Prelude.{◌≡◌, Option, Some}
use Rattle.hol_types.specs.Tree.{TypeTree}
use Rattle.hol_terms.specs.Nameless.{Nameless}
use Rattle.hol_formulas.specs.Equation.{equation}
use Rattle.hol_kernel.specs.Items.{Items}
use Rattle.hol_kernel.specs.Sequent.{Hyps, sequent_of}
use Rattle.hol_kernel.specs.Theorem.{Theorem, theorem_on}

-- t = u under the hypotheses, for the u that became of t
pub record IsNode (basis : Items) (hs : Hyps) (a : TypeTree) (t : Nameless) (became : Option Nameless) (th : Theorem) : Type 0 where
  pub new : Nameless
  pub gives : became ≡ Some new
  pub is : th ≡ theorem_on basis (sequent_of hs (equation a t new))
