-- The equation of a term with what turns make of it.
-- Source: HOL Light's conversions (equal.ml): what makes a theorem |- t = u of a term t.
use Rattle.std.specs.Prelude.{ℕ, Option, None}
use Rattle.std.specs.Option.{option_map}
use Rattle.hol_types.specs.Tree.{TypeTree}
use Rattle.hol_terms.specs.Nameless.{Nameless}
use Rattle.hol_formulas.specs.Equation.{equation}
use Rattle.hol_kernel.specs.Items.{Items}
use Rattle.hol_kernel.specs.Sequent.{no_hyps, sequent_of}
use Rattle.hol_kernel.specs.Theorem.{Theorem, theorem_on}
use Rattle.hol_kernel.specs.Typing.{type_over}
use Rattle.hol_conv.specs.Beta.{beta_turn}
use Rattle.hol_conv.specs.Turns.{Outcome, finished, limit, too_large, all_turns}

-- |- t = u over the basis, for terms of the type a
abbrev pub equation_on : Items → TypeTree → Nameless → Nameless → Theorem
equation_on basis a t u = theorem_on basis (sequent_of no_hyps (equation a t u))

-- the equation of t with what all turns came to; none where they came to no end, and where t is not well typed over the basis
abbrev pub ended_equation : Items → Nameless → Outcome → Option Theorem
ended_equation basis t (finished u left) = option_map (λ a. equation_on basis a t u) (type_over basis t)
ended_equation basis t limit = None
ended_equation basis t too_large = None

-- the equation of t with what beta reduction to the end makes of it, in so many turns
abbrev pub beta_conversion : Items → ℕ → Nameless → Option Theorem
beta_conversion basis turns t = ended_equation basis t (all_turns beta_turn turns t)
