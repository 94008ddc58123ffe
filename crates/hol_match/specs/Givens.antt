-- When what was given can be read over a basis, and the hypotheses of all that was given.
use Rattle.std.specs.Prelude.{List, [], ◌∷◌, Bool}
use Rattle.std.specs.List.{list_all}
use Rattle.std.specs.FinSet as set
use Rattle.hol_formulas.specs.Equation.{bool_type}
use Rattle.hol_kernel.specs.Given.{Given, proved, assumed, given_sequent}
use Rattle.hol_kernel.specs.Items.{Items}
use Rattle.hol_kernel.specs.Sequent.{Hyps, no_hyps}
use Rattle.hol_kernel.specs.Typing.{has_type}

-- the basis contains the theorem's, or the assumed term is well typed over it
abbrev pub holds_given : Given → Items → Bool
holds_given (proved th) basis = set.is_subset th.basis basis
holds_given (assumed p) basis = has_type basis p bool_type

abbrev pub all_hold : List Given → Items → Bool
all_hold gs basis = list_all (λ g. holds_given g basis) gs

abbrev pub all_hyps : List Given → Hyps
all_hyps [] = no_hyps
all_hyps (g ∷ gs) = set.union (given_sequent g).hyps (all_hyps gs)
