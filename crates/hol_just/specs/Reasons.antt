-- What each reason makes of sequents, by the functions of the rules.
use Rattle.std.specs.Prelude.{[], Option, Some, None}
use Rattle.std.specs.Option.{option_map, option_and_then}
use Rattle.hol_terms.specs.Nameless.{Nameless, nameless}
use Rattle.hol_kernel.specs.Items.{Items}
use Rattle.hol_kernel.specs.Sequent.{Sequent, no_hyps, sequent_of}
use Rattle.hol_kernel.specs.Theorem.{Theorem}
use Rattle.hol_kernel.specs.Given as premise
use Rattle.hol_kernel.specs.Rules.{refl_of, mk_comb_of, eq_mp_of, deduct_antisym_of}
use Rattle.hol_formulas.specs.Formula.{truth}
use Rattle.hol_terms.specs.Named.{Named}
use Rattle.hol_equal.specs.Rules.{sym_of, subst_of, prove_hyp_of}
use Rattle.hol_derived.specs.Rules.{conj_of, conjunct1_of, conjunct2_of, disj1_of, disj2_of, disj_cases_of, disch_of, undisch_of, not_intro_of, mp_of, contr_of, gen_of, spec_of, exists_of, choose_of}
use Rattle.hol_conv.specs.Traces.{TraceValue}
use Rattle.hol_replay.specs.Replays.{trace_equation}
use Rattle.hol_just.specs.Matching.{bound_variables, matching}
use Rattle.hol_just.specs.Inference.{Inference, from_none, from_one, from_two, from_three}
use Rattle.hol_just.specs.declared.reason.Reason.{Reason}
use Rattle.hol_just.specs.declared.reason.Reason.TheVariants.{Reflexivity, Premise, Combination, Antisymmetry, Conjunction, LeftDisjunct, RightDisjunct, Discharge, Undischarge, Negation, ModusPonens, Contradiction, Generalization, Existence, LeftConjunct, RightConjunct, Cases, Cut, Symmetry, Replacement, Specialization, Choice, Truth, Conversion, Matching}

-- the sequent of a premise over a basis
abbrev pub premise_of : Items → premise.Given → Option Sequent
premise_of basis given = option_map (λ th. th.sequent) (premise.given_over basis given)

-- p = q, from q with p among the hypotheses and p with q among them
abbrev pub antisymmetric : Sequent → Sequent → Option Sequent
antisymmetric a b = Some (deduct_antisym_of b a)

-- p /\ q, from p and q
abbrev pub conjoined : Sequent → Sequent → Option Sequent
conjoined a b = Some (conj_of a b)

-- p \/ q, from p
abbrev pub left_disjunct : Items → Nameless → Sequent → Option Sequent
left_disjunct basis q a = disj1_of basis a q

-- q, from p and q with p among the hypotheses
abbrev pub cut : Sequent → Sequent → Option Sequent
cut a b = Some (prove_hyp_of a b)

-- m with t for v, from s = t and m with s for v
abbrev pub replaced : Items → Named → Nameless → Sequent → Sequent → Option Sequent
replaced basis v m a b = subst_of basis a v m b

-- T
abbrev pub true_sequent : Option Sequent
true_sequent = Some (sequent_of no_hyps truth)

-- t, from u, by a theorem t = u
abbrev pub expanded_by : Option Theorem → Sequent → Option Sequent
expanded_by None a = None
expanded_by (Some th) a = option_and_then (λ s. eq_mp_of s a) (sym_of th.sequent)

-- The term that was rewritten, from what it became. A trace is said by its terms and what was used for it: that rewriting leads from one term to the other by that is the invariant of
-- the program's traces, and every reason of the program holds one of those.
abbrev pub converted_back : Items → TraceValue → Sequent → Option Sequent
converted_back basis t a = expanded_by (trace_equation basis t) a

-- the rule of a reason
abbrev pub inference : Items → Reason → Inference
inference basis (Reflexivity t) = from_none (refl_of basis (nameless [] t))
inference basis (Premise given) = from_none (premise_of basis given)
inference basis Combination = from_two mk_comb_of
inference basis Antisymmetry = from_two antisymmetric
inference basis Conjunction = from_two conjoined
inference basis (LeftDisjunct q) = from_one (left_disjunct basis (nameless [] q))
inference basis (RightDisjunct p) = from_one (disj2_of basis (nameless [] p))
inference basis (Discharge p) = from_one (disch_of basis (nameless [] p))
inference basis Undischarge = from_one undisch_of
inference basis Negation = from_one not_intro_of
inference basis ModusPonens = from_two mp_of
inference basis (Contradiction p) = from_one (contr_of basis (nameless [] p))
inference basis (Generalization v) = from_one (gen_of basis v)
inference basis (Existence e t) = from_one (exists_of basis (nameless [] e) (nameless [] t))
inference basis LeftConjunct = from_one conjunct1_of
inference basis RightConjunct = from_one conjunct2_of
inference basis Cases = from_three disj_cases_of
inference basis Cut = from_two cut
inference basis Symmetry = from_one sym_of
inference basis (Replacement v m) = from_two (replaced basis v (nameless [] m))
inference basis (Specialization t) = from_one (spec_of basis (nameless [] t))
inference basis (Choice v) = from_two (choose_of v)
inference basis Truth = from_none true_sequent
inference basis (Conversion t) = from_one (converted_back basis t)
inference basis (Matching given formula t) = from_none (option_and_then (matching basis (bound_variables formula) (nameless [] t)) (premise_of basis given))

-- what a reason asks of the basis: that it contains the bases of the theorems that the reason holds
abbrev pub Fits : Items → Reason → Type 0
Fits basis (Reflexivity t) = Unit {0}
Fits basis (Premise given) = premise.IsOver given basis
Fits basis Combination = Unit {0}
Fits basis Antisymmetry = Unit {0}
Fits basis Conjunction = Unit {0}
Fits basis (LeftDisjunct q) = Unit {0}
Fits basis (RightDisjunct p) = Unit {0}
Fits basis (Discharge p) = Unit {0}
Fits basis Undischarge = Unit {0}
Fits basis Negation = Unit {0}
Fits basis ModusPonens = Unit {0}
Fits basis (Contradiction p) = Unit {0}
Fits basis (Generalization v) = Unit {0}
Fits basis (Existence e t) = Unit {0}
Fits basis LeftConjunct = Unit {0}
Fits basis RightConjunct = Unit {0}
Fits basis Cases = Unit {0}
Fits basis Cut = Unit {0}
Fits basis Symmetry = Unit {0}
Fits basis (Replacement v m) = Unit {0}
Fits basis (Specialization t) = Unit {0}
Fits basis (Choice v) = Unit {0}
Fits basis Truth = Unit {0}
Fits basis (Conversion t) = Unit {0}
Fits basis (Matching given formula t) = premise.IsOver given basis
