-- Choosing a variable that a goal and a theorem do not have is justified, and what CHOOSE_TAC answers.
use Rattle.std.specs.Prelude.{◌≡◌, ℕ, true, false, List, [], ◌∷◌, codes, Option, Some, Ok, refl}
use Rattle.std.specs.FinSet as set
use Rattle.std.specs.Option.{option_map}
use Rattle.std.proofs.Common.{ap, sym, ◌∙◌, subst}
use Rattle.std.proofs.lemmas.Bool.{or_parts}
use Rattle.hol_types.specs.Tree.{TypeTree}
use Rattle.hol_terms.specs.Nameless.{Nameless, free, free_occurrences}
use Rattle.hol_terms.specs.Scoped.{binds}
use Rattle.hol_subst.specs.Variant.{is_free_in}
use Rattle.hol_subst.specs.Hypotheses.{Hyps}
use Rattle.hol_subst.proofs.HypothesisLists.{hyps_total, hyps_same}
use Rattle.hol_formulas.specs.Formula.{Abstraction, existential, dest_exists}
use Rattle.hol_formulas.proofs.FormulaLaws.{dest_quantifier_is}
use Rattle.hol_kernel.specs.Given.{Given, given_sequent}
use Rattle.hol_kernel.proofs.Members.{in_union_left}
use Rattle.hol_goal.specs.Answer.{starting, naming}
use Rattle.hol_goal.specs.Arguments.{Theorem}
use Rattle.hol_goal.specs.Goal.{GoalValue}
use Rattle.hol_goal.specs.Achieves.{assumed, AreAllowed}
use Rattle.hol_goal.specs.declared.tac_code.TacCode.TheVariants as code
use Rattle.hol_just.specs.Answering.{IsAnswered, AnswersCode}
use Rattle.hol_just.specs.Fresh.{fresh}
use Rattle.hol_just.specs.Leaving.{goal_terms, theorem_terms}
use Rattle.hol_just.specs.QuantifierTacs.{terms_by, assuming_of, assuming_fresh}
use Rattle.hol_just.specs.Valid.{IsValid}
use Rattle.hol_just.specs.Justifies.{holds_given, LeavesChosen}
use Rattle.hol_just.specs.declared.reason.Move.{Move}
use Rattle.hol_just.specs.declared.tried.Tried.{Tried}
use Rattle.hol_just.proofs.QuantifierRules.{allowed_fresh}
use Rattle.hol_steps.proofs.TermsBy.{free_in_both}

pub chosen_valid :
    (th : Given) (goal : GoalValue) (c : Nameless) (x : Abstraction) (v : List ℕ × TypeTree) (moves : List Move) → c ≡ (given_sequent th).concl → dest_exists c ≡ Some x → v.1 ≡ x.domain →
    is_free_in (terms_by th goal) v ≡ false → LeavesChosen v th moves → (extra : Hyps) → set.is_subset extra (given_sequent th).hyps ≡ true → AreAllowed extra goal.assumptions (given_sequent th).hyps →
    IsValid (holds_given th) extra moves (goal ∷ []) (assuming_of goal (free v) x ∷ [])
chosen_valid th goal c x v moves concl taken same absent leaves extra among allowed =
    let hs = (given_sequent th).hyps in
    let is : (given_sequent th).concl ≡ existential x = sym concl ∙ dest_quantifier_is (codes "?") c x taken in
    let parts = or_parts (is_free_in (goal_terms goal) v) (is_free_in (theorem_terms th) v) (sym (free_in_both (goal_terms goal) (theorem_terms th) v) ∙ absent) in
    let own = or_parts (binds (free_occurrences goal.conclusion) v) (is_free_in goal.assumptions v) parts.0 in
    let others = or_parts (binds (free_occurrences (given_sequent th).concl) v) (is_free_in (set.items hs) v) parts.1 in
    let within : AreAllowed hs [] extra = λ p h. in_union_left hyps_total hyps_same hs (assumed []) p (set.is_subset-contains hyps_total extra hs among p h) in
    leaves extra goal.assumptions x goal.conclusion is same
    (record { of_extra = allowed_fresh hs [] extra v others.1 refl within; of_assumptions = own.1; of_conclusion = own.0 })
    (ap (λ t. binds (free_occurrences t) v) (sym is) ∙ others.0) allowed

pub choose_answers :
    (th : Given) (goal : GoalValue) (names : List (List ℕ)) (turns : ℕ) (c : Nameless) (x : Abstraction) (tried : Tried) → c ≡ (given_sequent th).concl → dest_exists c ≡ Some x → tried.left ≡ turns →
    ◌≡◌ {A = List GoalValue × List (List ℕ)} (tried.step.goals.items, tried.tested.items) (assuming_fresh goal x (fresh names (terms_by th goal) x.base)) → AnswersCode code.ChooseTac (Theorem th) goal names turns (Ok tried)
choose_answers th goal names turns c x tried same taken left is =
    subst (λ (o : Option (List GoalValue × List (List ℕ))). IsAnswered (naming o (starting turns)) (Ok tried))
    (sym (ap (λ (o : Option Abstraction). option_map (λ y. assuming_fresh goal y (fresh names (terms_by th goal) y.base)) o) (ap dest_exists (sym same) ∙ taken)))
    (ap (λ (p : List GoalValue × List (List ℕ)). p.0) is, (left, ap (λ (p : List GoalValue × List (List ℕ)). p.1) is))
