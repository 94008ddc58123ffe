-- What is given to rewriting: that it holds, and whose hypotheses it has.
use Rattle.std.specs.Prelude.{◌≡◌, ◌⊎◌, true, List, [], ◌∷◌, ◌++◌, map, Result, Ok, Err, IfOk, refl}
use Rattle.std.specs.List.{AllByRecursion}
use Rattle.std.specs.FinSet as set
use Rattle.std.proofs.Common.{sym, subst, inl, inr}
use Rattle.std.proofs.lemmas.Bool.{and_from}
use Rattle.hol_terms.specs.Named.{Named}
use Rattle.hol_terms.specs.Nameless.{Nameless}
use Rattle.hol_formulas.specs.Equation.{bool_type}
use Rattle.hol_kernel.specs.Given.{Given, proved, assumed, given_sequent}
use Rattle.hol_kernel.specs.Items.{Items, no_items}
use Rattle.hol_kernel.specs.Sequent.{Hyps, no_hyps, only_hyp}
use Rattle.hol_kernel.specs.Typing.{has_type, HasType}
use Rattle.hol_kernel.proofs.Declared.{has_type_of}
use Rattle.hol_kernel.proofs.HypothesisLists.{hyps_total, hyps_same}
use Rattle.hol_kernel.proofs.Members.{Among, in_union_left, in_union_right, in_union_cases, not_in_empty}
use Rattle.hol_kernel.proofs.Subsets.{none_within}
use Rattle.hol_clauses.specs.Statements.{stated, refl_clause, eq_clauses, not_clauses_weak, and_clauses, or_clauses, imp_clauses}
use Rattle.hol_match.specs.Givens.{all_hold, all_hyps}
use Rattle.hol_match.specs.SetView.{set_givens, AreOf, AreGivenIn}
use Rattle.hol_match.specs.declared.set_rule.SetRule.{SetRule}
use Rattle.hol_match.proofs.Held.{held_both}
use Rattle.hol_match.proofs.RuleSets.{all_given}
use Rattle.hol_conv.proofs.Traces.{given_through}
use Rattle.hol_conv.specs.declared.rewritten.Rewritten.{Rewritten}
use Rattle.hol_conv.specs.declared.error.ConvError.{ConvError}
use Rattle.hol_goal.specs.Goal.{GoalValue}
use Rattle.hol_goal.specs.Achieves.{AreAllowed}
use Rattle.hol_goal.specs.Arguments.{TacArgsValue, Nothing, Theorems}
use Rattle.hol_just.specs.Answering.{IsJustified}
use Rattle.hol_just.specs.ConversionTacs.{basic}
use Rattle.hol_just.specs.declared.tried.Step.{Step}
use Rattle.hol_just.specs.declared.tried.Tried.{Tried}
use Rattle.hol_just.specs.declared.tried.TacFault.{TacFault}
use Rattle.hol_just.proofs.Weaker.{assumed_allowed}
use Rattle.hol_steps.specs.Converting.{LeadsBy}

-- what a trace used was given where its rules are of what was given
pub used_given : (all : List Given) (rules : List SetRule) (o : Result Rewritten ConvError) → AreOf all rules → IfOk o (λ r. AreGivenIn (set_givens rules) r.trace.used) → IfOk o (λ r. AreGivenIn all r.trace.used)
used_given all rules (Ok r) h k = given_through all (set_givens rules) r.trace.used (all_given all rules h) k
used_given all rules (Err x) h k = tt

pub none_used : (o : Result Rewritten ConvError) → IfOk o (λ r. r.trace.used ≡ []) → IfOk o (λ r. AreGivenIn [] r.trace.used)
none_used (Ok r) e = subst (AreGivenIn []) (sym e) tt
none_used (Err x) e = tt

-- ---- what is given beside the theorems

-- it holds wherever the assumptions are formulas, and has no hypothesis that is none of these
pub record IsBeside (goal : GoalValue) (gs : List Given) : Type 0 where
  pub held : (basis : Items) → AllByRecursion (λ p. HasType basis p bool_type) goal.assumptions → all_hold gs basis ≡ true
  pub allowed : (extra : Hyps) → AreAllowed extra goal.assumptions (all_hyps gs)

hyps_cases : (xs ys : List Given) (q : Nameless) → set.contains (all_hyps (xs ++ ys)) q ≡ true → (set.contains (all_hyps xs) q ≡ true) ⊎ (set.contains (all_hyps ys) q ≡ true)
hyps_cases [] ys q h = inr h
hyps_cases (x ∷ xs) ys q h =
    elim (in_union_cases hyps_total hyps_same (given_sequent x).hyps (all_hyps (xs ++ ys)) q h) [
      | inl e ↦ inl (in_union_left hyps_total hyps_same (given_sequent x).hyps (all_hyps xs) q e)
      | inr e ↦ elim (hyps_cases xs ys q e) [ inl f ↦ inl (in_union_right hyps_total hyps_same (given_sequent x).hyps (all_hyps xs) q f) | inr f ↦ inr f ]
    ]

beside_both : (goal : GoalValue) (xs ys : List Given) → IsBeside goal xs → IsBeside goal ys → IsBeside goal (xs ++ ys)
beside_both goal xs ys h k = record {
  held = λ basis typed. held_both basis xs ys (h.held basis typed) (k.held basis typed);
  allowed = λ extra q e. elim (hyps_cases xs ys q e) [ inl f ↦ h.allowed extra q f | inr f ↦ k.allowed extra q f ];
}

stated_held : (ps : List Named) (basis : Items) → all_hold (map proved (map stated ps)) basis ≡ true
stated_held [] basis = refl
stated_held (p ∷ ps) basis = and_from (set.is_subset no_items basis) (all_hold (map proved (map stated ps)) basis) (none_within no_items basis refl) (stated_held ps basis)

stated_hyps : (ps : List Named) (q : Nameless) → set.contains (all_hyps (map proved (map stated ps))) q ≡ true → ⊥
stated_hyps [] q h = not_in_empty hyps_total hyps_same q h
stated_hyps (p ∷ ps) q h =
    elim (in_union_cases hyps_total hyps_same no_hyps (all_hyps (map proved (map stated ps))) q h) [ inl e ↦ not_in_empty hyps_total hyps_same q e | inr e ↦ stated_hyps ps q e ]

stated_beside : (goal : GoalValue) (ps : List Named) → IsBeside goal (map proved (map stated ps))
stated_beside goal ps = record { held = λ basis typed. stated_held ps basis; allowed = λ extra q h. absurd (stated_hyps ps q h) }

pub basic_beside : (goal : GoalValue) → IsBeside goal basic
unfolding basic
basic_beside goal = stated_beside goal (refl_clause ∷ eq_clauses ∷ not_clauses_weak ∷ and_clauses ∷ or_clauses ∷ imp_clauses ∷ [])

assumed_held : (ps : List Nameless) (basis : Items) → AllByRecursion (λ p. HasType basis p bool_type) ps → all_hold (map assumed ps) basis ≡ true
assumed_held [] basis h = refl
assumed_held (p ∷ ps) basis h = and_from (has_type basis p bool_type) (all_hold (map assumed ps) basis) (has_type_of basis p bool_type h.0) (assumed_held ps basis h.1)

assumed_hyps : (extra : Hyps) (all ps : List Nameless) → ((p : Nameless) → Among p ps → Among p all) → AreAllowed extra all (all_hyps (map assumed ps))
assumed_hyps extra all [] among q h = absurd (not_in_empty hyps_total hyps_same q h)
assumed_hyps extra all (p ∷ ps) among q h =
    elim (in_union_cases hyps_total hyps_same (only_hyp p) (all_hyps (map assumed ps)) q h) [
      | inl e ↦ assumed_allowed extra all p (among p (inl refl)) q e
      | inr e ↦ assumed_hyps extra all ps (λ r m. among r (inr m)) q e
    ]

assumed_beside : (goal : GoalValue) → IsBeside goal (map assumed goal.assumptions)
assumed_beside goal = record { held = λ basis typed. assumed_held goal.assumptions basis typed; allowed = λ extra. assumed_hyps extra goal.assumptions goal.assumptions (λ p m. m) }

pub all_beside : (goal : GoalValue) → IsBeside goal (map assumed goal.assumptions ++ basic)
all_beside goal = beside_both goal (map assumed goal.assumptions) basic (assumed_beside goal) (basic_beside goal)

-- ---- the justification

pub justified_by_none : (v : TacArgsValue) (goal : GoalValue) (r : Result Tried TacFault) → v ≡ Nothing → IfOk r (λ tried. LeadsBy goal [] tried.step) → IfOk r (λ tried. IsJustified v goal tried.step)
justified_by_none v goal (Ok tried) is leads = subst (λ (b : TacArgsValue). IsJustified b goal tried.step) (sym is) (λ extra over. leads (λ basis. true) extra (λ basis suit typed. refl) over.all)
justified_by_none v goal (Err x) is leads = tt

alone : (goal : GoalValue) (ths : List Given) (step : Step) → LeadsBy goal ths step → IsJustified (Theorems ths) goal step
alone goal ths step leads extra over = leads (λ basis. all_hold ths basis) extra (λ basis suit typed. suit) over.all

beside : (goal : GoalValue) (ths more : List Given) (step : Step) → IsBeside goal more → LeadsBy goal (ths ++ more) step → IsJustified (Theorems ths) goal step
beside goal ths more step is leads extra over =
    leads (λ basis. all_hold ths basis) extra (λ basis suit typed. held_both basis ths more suit (is.held basis typed))
    (λ q h. elim (hyps_cases ths more q h) [ inl e ↦ over.all q e | inr e ↦ is.allowed extra q e ])

module _ (v : TacArgsValue) (goal : GoalValue) (ths : List Given) (is : v ≡ Theorems ths) where
  pub justified_alone : (r : Result Tried TacFault) → IfOk r (λ tried. LeadsBy goal ths tried.step) → IfOk r (λ tried. IsJustified v goal tried.step)
  justified_alone (Ok tried) leads = subst (λ (b : TacArgsValue). IsJustified b goal tried.step) (sym is) (alone goal ths tried.step leads)
  justified_alone (Err x) leads = tt

  pub justified_beside :
      (more givens : List Given) (r : Result Tried TacFault) → IsBeside goal more → givens ≡ ths ++ more → IfOk r (λ tried. LeadsBy goal givens tried.step) → IfOk r (λ tried. IsJustified v goal tried.step)
  justified_beside more givens (Ok tried) with_more all leads =
      subst (λ (b : TacArgsValue). IsJustified b goal tried.step) (sym is)
      (beside goal ths more tried.step with_more (subst (λ (gs : List Given). LeadsBy goal gs tried.step) all leads))
  justified_beside more givens (Err x) with_more all leads = tt
