-- Beta reduction that comes to an end, and the equation of its trace.
use Rattle.std.proofs.Common.{◌≡◌, ◌∙◌, ℕ, [], ap, sym, subst, cond, Some, None}
use Rattle.std.specs.Prelude.{IsSome, Ok, Err}
use Rattle.std.specs.Option.{option_map}
use Rattle.std.proofs.lemmas.Bool.{false≢true}
use Rattle.hol_terms.specs.Named.{Named}
use Rattle.hol_terms.specs.Nameless.{nameless}
use Rattle.hol_formulas.specs.Equation.{equation}
use Rattle.hol_kernel.specs.Items.{Items}
use Rattle.hol_kernel.specs.Sequent.{no_hyps, sequent_of}
use Rattle.hol_kernel.specs.Theorem.{Theorem, theorem_on}
use Rattle.hol_kernel.specs.Typing.{type_over}
use Rattle.hol_conv.specs.Beta.{beta_turn}
use Rattle.hol_conv.specs.Outcomes.{Tells, IsTraceOf}
use Rattle.hol_conv.specs.Turns.{all_turns}
use Rattle.hol_conv.specs.declared.rewritten.Rewritten.{Rewritten}
use Rattle.hol_conv.specs.declared.error.ConvError.TheVariants.{Limit, TooLarge}
use Rattle.hol_replay.specs.Equations.{ended_equation, beta_conversion}
use Rattle.hol_match.specs.Givens.{all_hold, all_hyps}
use Rattle.hol_replay.specs.Replays.{trace_equation}

module _ (basis : Items) (turns : ℕ) (t : Named) (h : IsSome (beta_conversion basis turns (nameless [] t))) where
  pub no_limit : Tells (Err Limit) (all_turns beta_turn turns (nameless [] t)) → ⊥
  no_limit e = false≢true (subst (λ o. IsSome (ended_equation basis (nameless [] t) o)) e h)

  pub not_too_large : Tells (Err TooLarge) (all_turns beta_turn turns (nameless [] t)) → ⊥
  not_too_large e = false≢true (subst (λ o. IsSome (ended_equation basis (nameless [] t) o)) e h)

  module _ (r : Rewritten) (trace : IsTraceOf t r) (used : r.trace.used ≡ []) where
    -- nothing has to be read for the trace
    replays : trace_equation basis r.trace ≡ option_map (λ a. theorem_on basis (sequent_of no_hyps (equation a (nameless [] t) (nameless [] r.term)))) (type_over basis (nameless [] t))
    replays = λ i. cond (all_hold (used i) basis) (option_map (λ a. theorem_on basis (sequent_of (all_hyps (used i)) (equation a (trace.0 i) (trace.1 i)))) (type_over basis (trace.0 i))) None

    ended : Tells (Ok r) (all_turns beta_turn turns (nameless [] t)) → beta_conversion basis turns (nameless [] t) ≡ trace_equation basis r.trace
    ended o = ap (ended_equation basis (nameless [] t)) o ∙ sym replays

    pub has_equation : Tells (Ok r) (all_turns beta_turn turns (nameless [] t)) → IsSome (trace_equation basis r.trace)
    has_equation o = subst (λ z. IsSome z) (ended o) h

    pub replayed : (th : Theorem) → Tells (Ok r) (all_turns beta_turn turns (nameless [] t)) → trace_equation basis r.trace ≡ Some th → beta_conversion basis turns (nameless [] t) ≡ Some th
    replayed th o e = ended o ∙ e

pub ruleset reductions = (no_limit, not_too_large, has_equation, replayed)
