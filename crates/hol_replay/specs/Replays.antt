-- The equation that a trace gives.
-- Source: HOL Light's conversions (equal.ml): what makes a theorem |- t = u of a term t.
use Rattle.std.specs.Prelude.{cond, Option, None}
use Rattle.std.specs.Option.{option_map}
use Rattle.hol_formulas.specs.Equation.{equation}
use Rattle.hol_kernel.specs.Items.{Items}
use Rattle.hol_kernel.specs.Sequent.{sequent_of}
use Rattle.hol_kernel.specs.Theorem.{Theorem, theorem_on}
use Rattle.hol_kernel.specs.Typing.{type_over}
use Rattle.hol_match.specs.Givens.{all_hold, all_hyps}
use Rattle.hol_conv.specs.Traces.{TraceValue}

-- old = new over the basis, under the hypotheses of all that was used; none where some of that can't be read over the basis, and where the
-- old term is not well typed over it
abbrev pub trace_equation : Items → TraceValue → Option Theorem
trace_equation basis t = cond (all_hold t.used basis) (option_map (λ a. theorem_on basis (sequent_of (all_hyps t.used) (equation a t.old t.new))) (type_over basis t.old)) None
