-- The justifications of one move by conversions.
use Rattle.std.specs.Prelude.{◌≡◌, IsTrue, cond, List, [], ◌∷◌, Some, None, refl}
use Rattle.std.specs.Option.{option_map, option_and_then}
use Rattle.std.specs.FinSet as set
use Rattle.std.proofs.Common.{ap, sym, ◌∙◌}
use Rattle.hol_types.specs.Tree.{TypeTree}
use Rattle.hol_terms.specs.Nameless.{Nameless}
use Rattle.hol_terms.proofs.Alpha.{alpha_eq_decides}
use Rattle.hol_formulas.specs.Equation.{bool_type, equation}
use Rattle.hol_formulas.specs.Formula.{truth}
use Rattle.hol_formulas.proofs.FormulaLaws.{dest_eq_equation}
use Rattle.hol_kernel.specs.Items.{Items}
use Rattle.hol_kernel.specs.Sequent.{Hyps, Sequent, sequent_of}
use Rattle.hol_kernel.specs.Rules.{eq_mp_of, eq_mp_sides}
use Rattle.hol_kernel.specs.Typing.{type_over, HasType}
use Rattle.hol_kernel.specs.Theorem.{Theorem, theorem_on}
use Rattle.hol_equal.specs.Rules.{reversed, sym_of}
use Rattle.hol_match.specs.Givens.{all_hold, all_hyps}
use Rattle.hol_conv.specs.Traces.{TraceValue, KeepsTypes}
use Rattle.hol_goal.specs.Achieves.{Achieves, AreAllowed}
use Rattle.hol_just.specs.Reasons.{true_sequent, expanded_by, converted_back}
use Rattle.hol_just.specs.Justifies.{goal_at, always, ClosesTruth, LeavesConverted}
use Rattle.hol_just.specs.declared.reason.Reason.TheVariants.{Truth, Conversion}
use Rattle.hol_just.proofs.Allowed.{allowed_none, allowed_union}
use Rattle.hol_just.proofs.OneMove.{one, one_valid, by_none, by_one, IsAnswer, answer_by}

pub truth_closes : ClosesTruth (one Truth)
truth_closes extra assumptions =
    one_valid always extra Truth (goal_at assumptions truth) []
    (λ basis suit typed. record {
      typed = tt;
      fits = tt;
      justifies = by_none extra (goal_at assumptions truth) true_sequent (record { concludes = refl; allowed = allowed_none extra assumptions });
    })

-- from what a term became, the term, by the equation of the trace
module _ (extra : Hyps) (assumptions : List Nameless) (t : TraceValue) (allowed : AreAllowed extra assumptions (all_hyps t.used)) (s : Sequent) (h : Achieves extra s (goal_at assumptions t.new)) where
  abbrev traced_on : Items → TypeTree → Theorem
  traced_on basis a = theorem_on basis (sequent_of (all_hyps t.used) (equation a t.old t.new))

  back : (basis : Items) → option_and_then (λ r. eq_mp_of r s) (sym_of (traced_on basis bool_type).sequent) ≡ Some (sequent_of (set.union (all_hyps t.used) s.hyps) t.old)
  back basis =
      ap (λ o. option_and_then (λ r. eq_mp_of r s) (option_map (reversed (all_hyps t.used)) o)) (dest_eq_equation bool_type t.old t.new)
      ∙ ap (λ o. eq_mp_sides (set.union (all_hyps t.used) s.hyps) o s.concl) (dest_eq_equation bool_type t.new t.old)
      ∙ ap (λ b. cond b (Some (sequent_of (set.union (all_hyps t.used) s.hyps) t.old)) None) ((alpha_eq_decides t.new s.concl).1 (sym h.concludes))

  pub converted_achieves : (basis : Items) → IsTrue (all_hold t.used basis) → HasType basis t.old bool_type → IsAnswer extra (converted_back basis t s) (goal_at assumptions t.old)
  converted_achieves basis held typed =
      answer_by extra (converted_back basis t s) (sequent_of (set.union (all_hyps t.used) s.hyps) t.old) (goal_at assumptions t.old)
      (ap (λ b. expanded_by (cond b (option_map (traced_on basis) (type_over basis t.old)) None) s) held ∙ ap (λ o. expanded_by (option_map (traced_on basis) o) s) typed ∙ back basis)
      (record { concludes = refl; allowed = allowed_union extra assumptions (all_hyps t.used) s.hyps allowed h.allowed })

pub conversion_leaves : (t : TraceValue) → KeepsTypes t → LeavesConverted t (one (Conversion t))
conversion_leaves t keeps suits extra assumptions held allowed =
    one_valid suits extra (Conversion t) (goal_at assumptions t.old) (goal_at assumptions t.new ∷ [])
    (λ basis suit typed.
    let read = held basis suit typed.assumptions in
    record {
      typed = (record { assumptions = typed.assumptions; conclusion = keeps basis bool_type read typed.conclusion }, tt);
      fits = tt;
      justifies = by_one extra (goal_at assumptions t.old) (converted_back basis t) (goal_at assumptions t.new)
          (λ s h. converted_achieves extra assumptions t allowed s h basis read typed.conclusion);
    })
