-- From which goals to which the justifications of the functions on goals are valid (HOL Light Reference Manual; LNCS 78). Terms are taken up to bound names where the
-- functions compare them so; the extra hypotheses are those of theorems that were handed in and are no assumptions.
use Rattle.std.specs.Prelude.{◌≡◌, ◌⊎◌, IsTrue, ℕ, Bool, true, false, List, [], ◌∷◌, ◌++◌, Some}
use Rattle.std.specs.List.{AllByRecursion}
use Rattle.std.specs.FinSet as set
use Rattle.hol_types.specs.Tree.{TypeTree}
use Rattle.hol_types.specs.Fun.{fun_type}
use Rattle.hol_terms.specs.Nameless.{Nameless, free, app, nameless_type, free_occurrences}
use Rattle.hol_terms.specs.Scoped.{binds}
use Rattle.hol_subst.specs.Closing.{open_with}
use Rattle.hol_subst.specs.Variant.{is_free_in}
use Rattle.hol_terms.specs.Alpha.{strip}
use Rattle.hol_formulas.specs.Equation.{bool_type, equation, Sides, dest_eq}
use Rattle.hol_formulas.specs.Formula.{Abstraction, truth, falsity, conjunction, disjunction, implication, negation, universal, existential}
use Rattle.hol_kernel.specs.Items.{Items}
use Rattle.hol_kernel.specs.Sequent.{Hyps, sequent_of}
use Rattle.hol_kernel.specs.Typing.{is_typed, has_type, HasType}
use Rattle.hol_kernel.specs.Given.{Given, proved, assumed, given_sequent}
use Rattle.hol_goal.specs.Goal.{GoalValue}
use Rattle.hol_goal.specs.Achieves.{AreAllowed}
use Rattle.hol_derived.specs.Rules.{over_variable}
pub use Rattle.hol_match.specs.Givens.{holds_given}
use Rattle.hol_match.specs.Givens.{all_hold, all_hyps}
use Rattle.hol_match.specs.Instance.{InstanceValue}
use Rattle.hol_match.specs.Fixed.{stays_of}
use Rattle.hol_match.specs.Matches.{IsMatch}
use Rattle.hol_match.specs.Patterns.{is_apart}
use Rattle.hol_conv.specs.Traces.{TraceValue}
use Rattle.hol_just.specs.Matching.{specialized}
use Rattle.hol_just.specs.MatchMp.{existentials}
use Rattle.hol_just.specs.Valid.{IsValid}
use Rattle.hol_just.specs.Replacing.{replace_each}
use Rattle.hol_just.specs.declared.reason.Move.{Move}

abbrev pub goal_at : List Nameless → Nameless → GoalValue
goal_at assumptions conclusion = record { assumptions = assumptions; conclusion = conclusion }

-- ---- conditions on bases

-- every basis suits
abbrev pub always : Items → Bool
always basis = true

-- the term is well typed over the basis
abbrev pub holds_term : Nameless → Items → Bool
holds_term t basis = is_typed basis t

-- the term is a formula over the basis
abbrev pub holds_formula : Nameless → Items → Bool
holds_formula p basis = has_type basis p bool_type

-- ---- goals that are closed

-- REFL_TAC closes `s = t`, where s and t are equal up to bound names.
abbrev pub ClosesEquation : Nameless → List Move → Type 0
ClosesEquation s moves =
    (extra : Hyps) (assumptions : List Nameless) (a : TypeTree) (t : Nameless) → strip s ≡ strip t → IsValid always extra moves (goal_at assumptions (equation a s t) ∷ []) []

-- ACCEPT_TAC closes what the theorem concludes.
abbrev pub ClosesByGiven : Given → List Move → Type 0
ClosesByGiven th moves =
    (extra : Hyps) (goal : GoalValue) → strip (given_sequent th).concl ≡ strip goal.conclusion → AreAllowed extra goal.assumptions (given_sequent th).hyps → IsValid (holds_given th) extra moves (goal ∷ []) []

-- CONTR_TAC closes the goal p by a theorem F.
abbrev pub ClosesByFalsity : Nameless → Given → List Move → Type 0
ClosesByFalsity p th moves =
    (extra : Hyps) (assumptions : List Nameless) → (given_sequent th).concl ≡ falsity → AreAllowed extra assumptions (given_sequent th).hyps → IsValid (holds_given th) extra moves (goal_at assumptions p ∷ []) []

-- ---- equations

-- MK_COMB_TAC leaves `f = g` and `x = y` of `f x = g y`, where f and g are of one type.
abbrev pub SplitsApplications : List Move → Type 0
SplitsApplications moves =
    (extra : Hyps) (assumptions : List Nameless) (a b : TypeTree) (f g x y : Nameless) → nameless_type [] f ≡ Some (fun_type a b) → nameless_type [] g ≡ Some (fun_type a b) →
    IsValid always extra moves (goal_at assumptions (equation b (app f x) (app g y)) ∷ []) (goal_at assumptions (equation (fun_type a b) f g) ∷ goal_at assumptions (equation a x y) ∷ [])

-- AP_TERM_TAC leaves `x = y` of `f x = f y`.
abbrev pub LeavesArguments : Nameless → List Move → Type 0
LeavesArguments f moves =
    (extra : Hyps) (assumptions : List Nameless) (a b : TypeTree) (g x y : Nameless) → nameless_type [] f ≡ Some (fun_type a b) → strip f ≡ strip g →
    IsValid always extra moves (goal_at assumptions (equation b (app f x) (app g y)) ∷ []) (goal_at assumptions (equation a x y) ∷ [])

-- AP_THM_TAC leaves `f = g` of `f x = g x`, where f and g are of one type.
abbrev pub LeavesFunctions : Nameless → List Move → Type 0
LeavesFunctions x moves =
    (extra : Hyps) (assumptions : List Nameless) (a b : TypeTree) (f g y : Nameless) → nameless_type [] f ≡ Some (fun_type a b) → nameless_type [] g ≡ Some (fun_type a b) → strip x ≡ strip y →
    IsValid always extra moves (goal_at assumptions (equation b (app f x) (app g y)) ∷ []) (goal_at assumptions (equation (fun_type a b) f g) ∷ [])

-- `p <=> q` from q, with p assumed, and p, with q assumed
abbrev pub SplitsEquivalence : List Move → Type 0
SplitsEquivalence moves =
    (extra : Hyps) (assumptions : List Nameless) (p q : Nameless) →
    IsValid always extra moves (goal_at assumptions (equation bool_type p q) ∷ []) (goal_at (p ∷ assumptions) q ∷ goal_at (q ∷ assumptions) p ∷ [])

-- EQ_TAC leaves `p ==> q` and `q ==> p` of `p <=> q`.
abbrev pub SplitsIntoImplications : List Move → Type 0
SplitsIntoImplications moves =
    (extra : Hyps) (assumptions : List Nameless) (p q : Nameless) →
    IsValid always extra moves (goal_at assumptions (equation bool_type p q) ∷ []) (goal_at assumptions (implication p q) ∷ goal_at assumptions (implication q p) ∷ [])

-- SUBST1_TAC leaves the conclusion with t for each s, by a theorem `s = t`; m has v in the place of each s, and v isn't free in the conclusion.
abbrev pub LeavesReplaced : List ℕ × TypeTree → Nameless → Given → List Move → Type 0
LeavesReplaced v m th moves =
    (extra : Hyps) (assumptions : List Nameless) (e : Sides) (p : Nameless) → dest_eq (given_sequent th).concl ≡ Some e → v.1 ≡ e.sides_type → m ≡ replace_each e.left (free v) p →
    binds (free_occurrences p) v ≡ false → AreAllowed extra assumptions (given_sequent th).hyps →
    IsValid (holds_given th) extra moves (goal_at assumptions p ∷ []) (goal_at assumptions (replace_each e.left e.right p) ∷ [])

-- `s = t` from `t = s`
abbrev pub TurnsEquation : List Move → Type 0
TurnsEquation moves =
    (extra : Hyps) (assumptions : List Nameless) (a : TypeTree) (s t : Nameless) → IsValid always extra moves (goal_at assumptions (equation a s t) ∷ []) (goal_at assumptions (equation a t s) ∷ [])

-- p from `t = s` and p with t for each s
abbrev pub SplitsByEquation : List ℕ × TypeTree → Nameless → List Move → Type 0
SplitsByEquation v m moves =
    (extra : Hyps) (assumptions : List Nameless) (s t p : Nameless) → m ≡ replace_each s (free v) p → binds (free_occurrences p) v ≡ false →
    IsValid (holds_formula (equation v.1 t s)) extra moves (goal_at assumptions p ∷ []) (goal_at assumptions (equation v.1 t s) ∷ goal_at assumptions (replace_each s t p) ∷ [])

-- ---- connectives

-- CONJ_TAC leaves p and q of `p /\ q`.
abbrev pub SplitsConjunction : List Move → Type 0
SplitsConjunction moves =
    (extra : Hyps) (assumptions : List Nameless) (p q : Nameless) → IsValid always extra moves (goal_at assumptions (conjunction p q) ∷ []) (goal_at assumptions p ∷ goal_at assumptions q ∷ [])

-- DISJ1_TAC leaves p of `p \/ q`, and DISJ2_TAC leaves q.
abbrev pub LeavesLeft : Nameless → List Move → Type 0
LeavesLeft q moves = (extra : Hyps) (assumptions : List Nameless) (p : Nameless) → IsValid always extra moves (goal_at assumptions (disjunction p q) ∷ []) (goal_at assumptions p ∷ [])

abbrev pub LeavesRight : Nameless → List Move → Type 0
LeavesRight p moves = (extra : Hyps) (assumptions : List Nameless) (q : Nameless) → IsValid always extra moves (goal_at assumptions (disjunction p q) ∷ []) (goal_at assumptions q ∷ [])

-- DISCH_TAC leaves q of `p ==> q`, with p assumed.
abbrev pub LeavesConsequent : Nameless → List Move → Type 0
LeavesConsequent p moves = (extra : Hyps) (assumptions : List Nameless) (q : Nameless) → IsValid always extra moves (goal_at assumptions (implication p q) ∷ []) (goal_at (p ∷ assumptions) q ∷ [])

-- `~p` from `p ==> F`
abbrev pub UnfoldsNegation : List Move → Type 0
UnfoldsNegation moves =
    (extra : Hyps) (assumptions : List Nameless) (p : Nameless) → IsValid always extra moves (goal_at assumptions (negation p) ∷ []) (goal_at assumptions (implication p falsity) ∷ [])

-- DISCH_TAC leaves F of `~p`, with p assumed.
abbrev pub LeavesRefutation : Nameless → List Move → Type 0
LeavesRefutation p moves = (extra : Hyps) (assumptions : List Nameless) → IsValid always extra moves (goal_at assumptions (negation p) ∷ []) (goal_at (p ∷ assumptions) falsity ∷ [])

-- UNDISCH_TAC takes the assumption p out, and leaves `p ==> q` of q.
abbrev pub TakesOut : List Move → Type 0
TakesOut moves =
    (extra : Hyps) (newer older : List Nameless) (p q : Nameless) → IsValid always extra moves (goal_at (newer ++ (p ∷ older)) q ∷ []) (goal_at (newer ++ older) (implication p q) ∷ [])

-- q from `p ==> q` and p, for a formula p
abbrev pub SplitsByImplication : List Move → Type 0
SplitsByImplication moves =
    (extra : Hyps) (assumptions : List Nameless) (p q : Nameless) → IsValid (holds_formula p) extra moves (goal_at assumptions q ∷ []) (goal_at assumptions (implication p q) ∷ goal_at assumptions p ∷ [])

-- MP_TAC leaves `c ==> q` of q, for a theorem c.
abbrev pub LeavesImplication : Given → List Move → Type 0
LeavesImplication th moves =
    (extra : Hyps) (assumptions : List Nameless) (q : Nameless) → AreAllowed extra assumptions (given_sequent th).hyps →
    IsValid (holds_given th) extra moves (goal_at assumptions q ∷ []) (goal_at assumptions (implication (given_sequent th).concl q) ∷ [])

-- ASSUME_TAC leaves q with c assumed, for a theorem c.
abbrev pub LeavesAssuming : Given → List Move → Type 0
LeavesAssuming th moves =
    (extra : Hyps) (assumptions : List Nameless) (q : Nameless) → AreAllowed extra assumptions (given_sequent th).hyps →
    IsValid (holds_given th) extra moves (goal_at assumptions q ∷ []) (goal_at ((given_sequent th).concl ∷ assumptions) q ∷ [])

-- q from p, and q with p assumed, for a formula p
abbrev pub CutsBy : List Move → Type 0
CutsBy moves =
    (extra : Hyps) (assumptions : List Nameless) (p q : Nameless) → IsValid (holds_formula p) extra moves (goal_at assumptions q ∷ []) (goal_at assumptions p ∷ goal_at (p ∷ assumptions) q ∷ [])

-- r from `p \/ q`, r with p assumed, and r with q assumed, for formulas p and q
abbrev pub SplitsByCases : List Move → Type 0
SplitsByCases moves =
    (extra : Hyps) (assumptions : List Nameless) (p q r : Nameless) →
    IsValid (holds_formula (disjunction p q)) extra moves (goal_at assumptions r ∷ []) (goal_at assumptions (disjunction p q) ∷ goal_at (p ∷ assumptions) r ∷ goal_at (q ∷ assumptions) r ∷ [])

-- DISJ_CASES_TAC leaves r with p assumed, and with q assumed, by a theorem `p \/ q`.
abbrev pub LeavesCases : Given → List Move → Type 0
LeavesCases th moves =
    (extra : Hyps) (assumptions : List Nameless) (p q r : Nameless) → (given_sequent th).concl ≡ disjunction p q → AreAllowed extra assumptions (given_sequent th).hyps →
    IsValid (holds_given th) extra moves (goal_at assumptions r ∷ []) (goal_at (p ∷ assumptions) r ∷ goal_at (q ∷ assumptions) r ∷ [])

-- CONJUNCT1 leaves `p /\ q` of p, for a formula q, and CONJUNCT2 leaves it of q, for a formula p
abbrev pub LeavesConjunctionRight : List Move → Type 0
LeavesConjunctionRight moves =
    (extra : Hyps) (assumptions : List Nameless) (p q : Nameless) → IsValid (holds_formula q) extra moves (goal_at assumptions p ∷ []) (goal_at assumptions (conjunction p q) ∷ [])

abbrev pub LeavesConjunctionLeft : List Move → Type 0
LeavesConjunctionLeft moves =
    (extra : Hyps) (assumptions : List Nameless) (p q : Nameless) → IsValid (holds_formula p) extra moves (goal_at assumptions q ∷ []) (goal_at assumptions (conjunction p q) ∷ [])

-- p, and q, by a theorem `p /\ q`
abbrev pub ClosesByLeft : Given → List Move → Type 0
ClosesByLeft th moves =
    (extra : Hyps) (assumptions : List Nameless) (p q : Nameless) → (given_sequent th).concl ≡ conjunction p q → AreAllowed extra assumptions (given_sequent th).hyps →
    IsValid (holds_given th) extra moves (goal_at assumptions p ∷ []) []

abbrev pub ClosesByRight : Given → List Move → Type 0
ClosesByRight th moves =
    (extra : Hyps) (assumptions : List Nameless) (p q : Nameless) → (given_sequent th).concl ≡ conjunction p q → AreAllowed extra assumptions (given_sequent th).hyps →
    IsValid (holds_given th) extra moves (goal_at assumptions q ∷ []) []

-- r with q and p assumed, by a theorem `p /\ q`
abbrev pub LeavesConjuncts : Given → List Move → Type 0
LeavesConjuncts th moves =
    (extra : Hyps) (assumptions : List Nameless) (p q r : Nameless) → (given_sequent th).concl ≡ conjunction p q → AreAllowed extra assumptions (given_sequent th).hyps →
    IsValid (holds_given th) extra moves (goal_at assumptions r ∷ []) (goal_at (q ∷ p ∷ assumptions) r ∷ [])

-- CONTR leaves F of p
abbrev pub LeavesFalsity : Nameless → List Move → Type 0
LeavesFalsity p moves = (extra : Hyps) (assumptions : List Nameless) → IsValid always extra moves (goal_at assumptions p ∷ []) (goal_at assumptions falsity ∷ [])

-- TRUTH closes T
abbrev pub ClosesTruth : List Move → Type 0
ClosesTruth moves = (extra : Hyps) (assumptions : List Nameless) → IsValid always extra moves (goal_at assumptions truth ∷ []) []

-- ---- conversions

-- all of them can be read over each basis that suits and over which the assumptions are formulas
abbrev pub AreHeld : (Items → Bool) → List Nameless → List Given → Type 0
AreHeld suits assumptions gs = (basis : Items) → IsTrue (suits basis) → AllByRecursion (λ p. HasType basis p bool_type) assumptions → IsTrue (all_hold gs basis)

-- A conversion leaves what the term became, where all that was used for it can be read, and its hypotheses are assumptions or left over.
abbrev pub LeavesConverted : TraceValue → List Move → Type 0
LeavesConverted t moves =
    (suits : Items → Bool) (extra : Hyps) (assumptions : List Nameless) → AreHeld suits assumptions t.used → AreAllowed extra assumptions (all_hyps t.used) →
    IsValid suits extra moves (goal_at assumptions t.old ∷ []) (goal_at assumptions t.new ∷ [])

-- ---- instances

-- b is what stands under the outer quantifiers of the theorem, whose variables are these and apart
pub record StandsUnder (th : Given) (vs : List (List ℕ × TypeTree)) (b : Nameless) : Type 0 where
  pub apart : IsTrue (is_apart (set.items (given_sequent th).hyps) b)
  pub gives : (basis : Items) → IsTrue (holds_given th basis) → (specialized basis vs (given_sequent th) ≡ Some (sequent_of (given_sequent th).hyps b)) × HasType basis b bool_type

-- there is an instance of b that is t, and leaves what the theorem's hypotheses have
abbrev pub HasInstance : Given → Nameless → Nameless → Type 0
HasInstance th b t = (i : InstanceValue) × IsMatch (stays_of (set.items (given_sequent th).hyps)) b t i

-- an instance of what stands under the theorem's outer quantifiers
abbrev pub ClosesByInstance : Given → List (List ℕ × TypeTree) → Nameless → List Move → Type 0
ClosesByInstance th vs t moves =
    (extra : Hyps) (assumptions : List Nameless) (b : Nameless) → StandsUnder th vs b → HasInstance th b t → AreAllowed extra assumptions (given_sequent th).hyps →
    IsValid (holds_given th) extra moves (goal_at assumptions t ∷ []) []

-- ---- quantifiers

-- GEN_TAC and X_GEN_TAC leave p of `!x. p` at a variable of x's type that is free neither in the goal nor in an extra hypothesis.
abbrev pub LeavesProperty : List ℕ × TypeTree → List Move → Type 0
LeavesProperty v moves =
    (extra : Hyps) (assumptions : List Nameless) (x : Abstraction) → v.1 ≡ x.domain → is_free_in (set.items extra) v ≡ false → is_free_in assumptions v ≡ false →
    binds (free_occurrences x.body) v ≡ false → IsValid always extra moves (goal_at assumptions (universal x) ∷ []) (goal_at assumptions (open_with (free v) 0 x.body) ∷ [])

-- EXISTS_TAC leaves p of e, that is `?x. p`, at a term of x's type.
abbrev pub LeavesAtWitness : Nameless → Nameless → List Move → Type 0
LeavesAtWitness e t moves =
    (extra : Hyps) (assumptions : List Nameless) (x : Abstraction) → e ≡ existential x → nameless_type [] t ≡ Some x.domain →
    IsValid (holds_term t) extra moves (goal_at assumptions (existential x) ∷ []) (goal_at assumptions (open_with t 0 x.body) ∷ [])

-- SPEC_TAC leaves `!x. w`, with x for each t of w, for a variable x of t's type that is t or not free in w.
abbrev pub LeavesGeneralized : Nameless → List ℕ × TypeTree → List Move → Type 0
LeavesGeneralized t v moves =
    (extra : Hyps) (assumptions : List Nameless) (w : Nameless) → nameless_type [] t ≡ Some v.1 → (strip t ≡ free v) ⊎ (binds (free_occurrences w) v ≡ false) →
    IsValid (holds_term t) extra moves (goal_at assumptions w ∷ []) (goal_at assumptions (universal (over_variable v (replace_each t (free v) w))) ∷ [])

-- the variable is free neither in the assumptions, nor in an extra hypothesis, nor in the term
pub record IsNew (extra : Hyps) (assumptions : List Nameless) (q : Nameless) (v : List ℕ × TypeTree) : Type 0 where
  pub of_extra : is_free_in (set.items extra) v ≡ false
  pub of_assumptions : is_free_in assumptions v ≡ false
  pub of_conclusion : binds (free_occurrences q) v ≡ false

-- q from `?x. p`, and q with p at a new variable of x's type assumed
abbrev pub SplitsByExistence : List ℕ × TypeTree → List Move → Type 0
SplitsByExistence v moves =
    (extra : Hyps) (assumptions : List Nameless) (x : Abstraction) (q : Nameless) → v.1 ≡ x.domain → IsNew extra assumptions q v → binds (free_occurrences x.body) v ≡ false →
    IsValid (holds_formula (existential x)) extra moves (goal_at assumptions q ∷ []) (goal_at assumptions (existential x) ∷ goal_at (open_with (free v) 0 x.body ∷ assumptions) q ∷ [])

-- CHOOSE_TAC and X_CHOOSE_TAC leave q with p at a new variable of x's type assumed, by a theorem `?x. p`.
abbrev pub LeavesChosen : List ℕ × TypeTree → Given → List Move → Type 0
LeavesChosen v th moves =
    (extra : Hyps) (assumptions : List Nameless) (x : Abstraction) (q : Nameless) → (given_sequent th).concl ≡ existential x → v.1 ≡ x.domain → IsNew extra assumptions q v →
    binds (free_occurrences x.body) v ≡ false → AreAllowed extra assumptions (given_sequent th).hyps →
    IsValid (holds_given th) extra moves (goal_at assumptions q ∷ []) (goal_at (open_with (free v) 0 x.body ∷ assumptions) q ∷ [])

-- ---- a premise of an instance

-- each of the variables is new
abbrev pub AreNew : Hyps → List Nameless → Nameless → List (List ℕ × TypeTree) → Type 0
AreNew extra assumptions q vs = (v : List ℕ × TypeTree) → binds vs v ≡ true → IsNew extra assumptions q v

-- w, with `?vs. p` as the newest assumption, where `p ==> w` is an instance of what stands under the theorem's outer quantifiers, for new variables
abbrev pub ClosesByPremise : Given → List (List ℕ × TypeTree) → List (List ℕ × TypeTree) → Nameless → Nameless → List Move → Type 0
ClosesByPremise th own vs p w moves =
    (extra : Hyps) (assumptions : List Nameless) (b : Nameless) → StandsUnder th own b → HasInstance th b (implication p w) → AreNew extra assumptions w vs →
    AreAllowed extra assumptions (given_sequent th).hyps → IsValid (holds_given th) extra moves (goal_at (existentials vs p ∷ assumptions) w ∷ []) []

-- wherever the theorem holds and w is a formula, e is one
abbrev pub IsFormulaWith : Given → Nameless → Nameless → Type 0
IsFormulaWith th w e = (basis : Items) → IsTrue (holds_given th basis) → HasType basis w bool_type → HasType basis e bool_type

-- MATCH_MP_TAC leaves `?vs. p` of w, by a theorem of which `p ==> w` is such an instance.
abbrev pub LeavesPremise : Given → List (List ℕ × TypeTree) → List (List ℕ × TypeTree) → Nameless → Nameless → List Move → Type 0
LeavesPremise th own vs p w moves =
    (extra : Hyps) (assumptions : List Nameless) (b : Nameless) → StandsUnder th own b → HasInstance th b (implication p w) → IsFormulaWith th w (existentials vs p) →
    AreNew extra assumptions w vs → AreAllowed extra assumptions (given_sequent th).hyps →
    IsValid (holds_given th) extra moves (goal_at assumptions w ∷ []) (goal_at assumptions (existentials vs p) ∷ [])
