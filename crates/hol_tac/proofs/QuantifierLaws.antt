-- What the functions on quantifiers leave is justified, and what GEN_TAC answers.
use Rattle.std.specs.Prelude.{◌≡◌, ℕ, false, List, [], ◌∷◌, codes, Option, Some, Ok, refl}
use Rattle.std.specs.Option.{option_map}
use Rattle.std.proofs.Common.{ap, sym, ◌∙◌, subst}
use Rattle.std.proofs.lemmas.Bool.{or_parts}
use Rattle.hol_types.specs.Tree.{TypeTree}
use Rattle.hol_terms.specs.Nameless.{Nameless, free, nameless_type, free_occurrences}
use Rattle.hol_terms.specs.Scoped.{binds}
use Rattle.hol_subst.specs.Closing.{open_with}
use Rattle.hol_subst.specs.Variant.{is_free_in}
use Rattle.hol_formulas.specs.Formula.{Abstraction, existential, universal, dest_exists, dest_forall}
use Rattle.hol_formulas.proofs.FormulaLaws.{dest_quantifier_is}
use Rattle.hol_kernel.specs.Sequent.{no_hyps}
use Rattle.hol_kernel.proofs.HypothesisLists.{hyps_total}
use Rattle.hol_kernel.proofs.Sets.{items_empty}
use Rattle.hol_goal.specs.Answer.{starting, naming}
use Rattle.hol_goal.specs.Arguments.{Nothing}
use Rattle.hol_goal.specs.Goal.{GoalValue}
use Rattle.hol_goal.specs.declared.tac_code.TacCode.TheVariants as code
use Rattle.hol_just.specs.Answering.{IsAnswered, AnswersCode}
use Rattle.hol_just.specs.Fresh.{fresh}
use Rattle.hol_just.specs.Leaving.{concluding, goal_terms}
use Rattle.hol_just.specs.QuantifierTacs.{of_fresh}
use Rattle.hol_just.specs.Valid.{IsValid}
use Rattle.hol_just.specs.Justifies.{goal_at, always, holds_term, LeavesProperty, LeavesAtWitness}
use Rattle.hol_just.specs.declared.reason.Move.{Move}
use Rattle.hol_just.specs.declared.tried.Tried.{Tried}
use Rattle.hol_just.proofs.Validity.{valid_under}

abbrev Variable : Type 0
Variable = List ℕ × TypeTree

module _ (goal : GoalValue) (w : Nameless) (same : w ≡ goal.conclusion) (moves : List Move) (x : Abstraction) where
  pub exists_valid :
      (t : Nameless) → dest_exists w ≡ Some x → nameless_type [] t ≡ Some x.domain → LeavesAtWitness goal.conclusion t moves →
      IsValid (holds_term t) no_hyps moves (goal ∷ []) (concluding goal (open_with t 0 x.body) ∷ [])
  exists_valid t taken typed leaves =
      let is : goal.conclusion ≡ existential x = sym same ∙ dest_quantifier_is (codes "?") w x taken in
      subst (λ (g : Nameless). IsValid (holds_term t) no_hyps moves (goal_at goal.assumptions g ∷ []) (concluding goal (open_with t 0 x.body) ∷ [])) (sym is)
      (leaves no_hyps goal.assumptions x is typed)

  pub gen_valid :
      (v : Variable) → dest_forall w ≡ Some x → v.1 ≡ x.domain → is_free_in (goal_terms goal) v ≡ false → LeavesProperty v moves →
      IsValid always no_hyps moves (goal ∷ []) (concluding goal (open_with (free v) 0 x.body) ∷ [])
  gen_valid v taken typed absent leaves =
      let is : goal.conclusion ≡ universal x = sym same ∙ dest_quantifier_is (codes "!") w x taken in
      let each = or_parts (binds (free_occurrences goal.conclusion) v) (is_free_in goal.assumptions v) absent in
      subst (λ (g : Nameless). IsValid always no_hyps moves (goal_at goal.assumptions g ∷ []) (concluding goal (open_with (free v) 0 x.body) ∷ [])) (sym is)
      (leaves no_hyps goal.assumptions x typed (ap (λ (ns : List Nameless). is_free_in ns v) (items_empty hyps_total)) each.1
      (ap (λ t. binds (free_occurrences t) v) (sym is) ∙ each.0))

  pub x_gen_valid :
      (v : Variable) → dest_forall w ≡ Some x → v.1 ≡ x.domain → is_free_in (goal_terms goal) v ≡ false → LeavesProperty v moves →
      IsValid (holds_term (free v)) no_hyps moves (goal ∷ []) (concluding goal (open_with (free v) 0 x.body) ∷ [])
  x_gen_valid v taken typed absent leaves =
      valid_under always (holds_term (free v)) no_hyps moves (goal ∷ []) (concluding goal (open_with (free v) 0 x.body) ∷ []) (λ basis suit. refl) (gen_valid v taken typed absent leaves)

-- ---- the answer

pub gen_answers :
    (goal : GoalValue) (names : List (List ℕ)) (turns : ℕ) (w : Nameless) (x : Abstraction) (tried : Tried) → w ≡ goal.conclusion → dest_forall w ≡ Some x → tried.left ≡ turns →
    ◌≡◌ {A = List GoalValue × List (List ℕ)} (tried.step.goals.items, tried.tested.items) (of_fresh goal x (fresh names (goal_terms goal) x.base)) → AnswersCode code.GenTac Nothing goal names turns (Ok tried)
gen_answers goal names turns w x tried same taken left is =
    subst (λ (o : Option (List GoalValue × List (List ℕ))). IsAnswered (naming o (starting turns)) (Ok tried)) (sym (ap (λ (o : Option Abstraction). option_map (λ y. of_fresh goal y (fresh names (goal_terms goal) y.base)) o) (ap dest_forall (sym same) ∙ taken)))
    (ap (λ (p : List GoalValue × List (List ℕ)). p.0) is, (left, ap (λ (p : List GoalValue × List (List ℕ)). p.1) is))
