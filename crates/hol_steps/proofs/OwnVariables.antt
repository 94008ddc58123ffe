-- A theorem, generalized over its own variables: what is free in it, that it may be generalized, and that what stands under its quantifiers has variables that are apart.
use Rattle.std.specs.Prelude.{◌≡◌, ℕ, Bool, true, false, cond, not, ◌||◌, List, [], ◌∷◌, ◌++◌, map, codes, Result, Ok, Err, IfOk, refl}
use Rattle.std.specs.List.{AllByRecursion, filter}
use Rattle.std.specs.FinSet as set
use Rattle.std.proofs.Common.{ap, sym, ◌∙◌, subst}
use Rattle.std.proofs.lemmas.Bool.{or_left, or_right}
use Rattle.hol_types.specs.Tree.{TypeTree}
use Rattle.hol_types.specs.Equal.{variable_eq}
use Rattle.hol_terms.specs.Named.{Named}
use Rattle.hol_terms.specs.Nameless.{Nameless, app, fixed, nameless, free_occurrences}
use Rattle.hol_terms.specs.Scoped.{binds, add_all}
use Rattle.hol_terms.proofs.Same.{variable_eq_decides}
use Rattle.hol_subst.specs.Closing.{close}
use Rattle.hol_subst.specs.FreeName.{is_taken}
use Rattle.hol_subst.specs.Variant.{is_free_in}
use Rattle.hol_subst.proofs.Closing.{eq_same, close_binds, nameless_abs}
use Rattle.hol_subst.proofs.HypothesisLists.{free_in_hyps}
use Rattle.hol_formulas.specs.Equation.{bool_type}
use Rattle.hol_formulas.specs.Formula.{quantifier_type, universal}
use Rattle.hol_formulas.specs.Making.{mk_forall}
use Rattle.hol_derived.specs.Rules.{over_variable}
use Rattle.hol_kernel.specs.Given.{Given, assumed, given_sequent}
use Rattle.hol_kernel.specs.Items.{Items}
use Rattle.hol_kernel.specs.Sequent.{Hyps, hyps_of, only_hyp, sequent_of}
use Rattle.hol_kernel.specs.Typing.{HasType}
use Rattle.hol_kernel.proofs.Variables.{known_typed}
use Rattle.hol_match.specs.Fixed.{fixed_variables}
use Rattle.hol_match.specs.Patterns.{is_apart}
use Rattle.hol_match.specs.Rules.{pattern_variables}
use Rattle.hol_goal.specs.Goal.{GoalValue}
use Rattle.hol_just.specs.Leaving.{goal_terms, theorem_terms}
use Rattle.hol_just.specs.QuantifierTacs.{terms_by}
use Rattle.hol_just.specs.MatchMp.{universals, own_variables, generalized_concl}
use Rattle.hol_just.proofs.MatchApart.{pattern_there, pattern_from, apart_is}
use Rattle.hol_just.proofs.MatchStays.{same_variables}
use Rattle.hol_just.proofs.MatchChain.{closed_keeps}
use Rattle.hol_just.proofs.MatchTyped.{occurrence_stands}
use Rattle.hol_steps.specs.Fresh.{DifferInNames}
use Rattle.hol_steps.specs.Matching.{AreGeneral, IsGeneralized}
use Rattle.hol_steps.proofs.FreshNames.{not_free}
use Rattle.hol_steps.proofs.TermsBy.{free_in_both}

abbrev Variable : Type 0
Variable = List ℕ × TypeTree

-- ---- what is free under quantifiers

module _ (u : Variable) where
  universal_bound : (vs : List Variable) (p : Nameless) → binds vs u ≡ true → binds (free_occurrences (universals vs p)) u ≡ false
  universal_bound [] p h = absurd (cc)
  universal_bound (v ∷ vs) p h = by (variable_eq v u) refl h (universal_bound vs p)
    where
      by :
          (b : Bool) → variable_eq v u ≡ b → (b || binds vs u) ≡ true → (binds vs u ≡ true → binds (free_occurrences (universals vs p)) u ≡ false) →
          binds (free_occurrences (close v 0 (universals vs p))) u ≡ false
      by true e g r = subst (λ (z : List ℕ × TypeTree). binds (free_occurrences (close v 0 (universals vs p))) z ≡ false) ((variable_eq_decides v u).0 e) (close_binds v 0 (universals vs p))
      by false e g r = closed_keeps v u 0 (universals vs p) (r g)

  universal_keeps : (vs : List Variable) (p : Nameless) → binds (free_occurrences p) u ≡ false → binds (free_occurrences (universals vs p)) u ≡ false
  universal_keeps [] p h = h
  universal_keeps (v ∷ vs) p h = closed_keeps v u 0 (universals vs p) (universal_keeps vs p h)

  free_under : (vs : List Variable) (p : Nameless) → binds (free_occurrences (universals vs p)) u ≡ true → (binds (free_occurrences p) u ≡ true) × (binds vs u ≡ false)
  free_under vs p h = (inner (binds (free_occurrences p) u) refl, outer (binds vs u) refl)
    where
      inner : (b : Bool) → binds (free_occurrences p) u ≡ b → binds (free_occurrences p) u ≡ true
      inner true e = e
      inner false e = let none : true ≡ false = sym h ∙ universal_keeps vs p e in absurd (cc)

      outer : (b : Bool) → binds vs u ≡ b → binds vs u ≡ false
      outer true e = let none : true ≡ false = sym h ∙ universal_bound vs p e in absurd (cc)
      outer false e = e

-- what is free in the generalized conclusion stays
free_stays : (th : Given) (v : Variable) → binds (free_occurrences (generalized_concl th)) v ≡ true → is_free_in (set.items (given_sequent th).hyps) v ≡ true
free_stays th v h = by (is_free_in (set.items (given_sequent th).hyps) v) refl
  where
    parts : (binds (free_occurrences (given_sequent th).concl) v ≡ true) × (binds (own_variables th) v ≡ false)
    parts = free_under v (own_variables th) (given_sequent th).concl h

    by : (b : Bool) → is_free_in (set.items (given_sequent th).hyps) v ≡ b → is_free_in (set.items (given_sequent th).hyps) v ≡ true
    by true e = e
    by false e = let own : true ≡ false = sym (pattern_there (set.items (given_sequent th).hyps) (given_sequent th).concl v parts.0 e) ∙ parts.1 in absurd (cc)

-- ---- variables that are apart

in_terms : (th : Given) (goal : GoalValue) (v : Variable) → is_free_in (set.items (given_sequent th).hyps) v ≡ true → is_free_in (terms_by th goal) v ≡ true
in_terms th goal v h =
    free_in_both (goal_terms goal) (theorem_terms th) v
    ∙ or_right (is_free_in (goal_terms goal) v) (is_free_in (theorem_terms th) v)
    (or_right (binds (free_occurrences (given_sequent th).concl) v) (is_free_in (set.items (given_sequent th).hyps) v) h)

-- a variable whose name the terms don't have has not the name of one that stays
pub not_of_hyps :
    (th : Given) (goal : GoalValue) (v w : List ℕ × TypeTree) → is_taken (terms_by th goal) v.0 ≡ false → v.0 ≡ w.0 → is_free_in (set.items (given_sequent th).hyps) w ≡ true → ⊥
not_of_hyps th goal v w new same stays =
    let one : (v.0, w.1) ≡ w = λ i. (same i, w.1) in
    let none : true ≡ false = sym (in_terms th goal w stays) ∙ ap (is_free_in (terms_by th goal)) (sym one) ∙ not_free (terms_by th goal) v.0 w.1 new in
    absurd (cc)

module _ (th : Given) (goal : GoalValue) (vs : List Variable) (body : Nameless)
    (new : (v : List ℕ × TypeTree) → binds vs v ≡ true → is_taken (terms_by th goal) v.0 ≡ false) (differ : DifferInNames vs)
    (within : (v : List ℕ × TypeTree) → binds (free_occurrences body) v ≡ true → (binds vs v || binds (free_occurrences (generalized_concl th)) v) ≡ true) where
  -- a variable of the body is one of those that were called apart, or stays
  called_apart : (v : Variable) → binds (free_occurrences body) v ≡ true → is_free_in (set.items (given_sequent th).hyps) v ≡ false → binds vs v ≡ true
  called_apart v h none = by (binds vs v) refl (within v h)
    where
      by : (b : Bool) → binds vs v ≡ b → (b || binds (free_occurrences (generalized_concl th)) v) ≡ true → binds vs v ≡ true
      by true e g = e
      by false e g = let stays : true ≡ false = sym (free_stays th v g) ∙ none in absurd (cc)

  pub opened_is_apart : is_apart (set.items (given_sequent th).hyps) body ≡ true
  opened_is_apart =
      apart_is (set.items (given_sequent th).hyps) body
      (λ v w mine none other same. by v w (called_apart v mine none) same (binds (free_occurrences body) w) (is_free_in (set.items (given_sequent th).hyps) w) refl refl other)
    where
      by :
          (v w : Variable) → binds vs v ≡ true → v.0 ≡ w.0 → (b c : Bool) → binds (free_occurrences body) w ≡ b → is_free_in (set.items (given_sequent th).hyps) w ≡ c → (b || c) ≡ true → v.1 ≡ w.1
      by v w h same b true q r g = absurd (not_of_hyps th goal v w (new v h) same r)
      by v w h same true false q r g = ap (λ (z : Variable). z.1) (differ v w h (called_apart w q r) same)
      by v w h same false false q r g = absurd (cc)

-- ---- generalizing

all_by : (P : Variable → Type 0) (vs : List Variable) → ((v : Variable) → binds vs v ≡ true → P v) → AllByRecursion P vs
all_by P [] h = tt
all_by P (v ∷ vs) h = (h v (or_left (variable_eq v v) (binds vs v) (eq_same v)), all_by P vs (λ w e. h w (or_right (variable_eq v w) (binds vs w) e)))

-- a theorem may be generalized over its own variables
pub own_general : (basis : Items) (th : Given) → HasType basis (given_sequent th).concl bool_type → AreGeneral basis (given_sequent th).hyps (own_variables th)
own_general basis th typed =
    all_by _ (own_variables th)
    (λ v e.
    let parts = pattern_from (set.items (given_sequent th).hyps) (given_sequent th).concl v e in
    (occurrence_stands basis (given_sequent th).concl v (known_typed basis (given_sequent th).concl bool_type typed).0 parts.0, parts.1))

nothing : (vs : List Variable) → ((v : Variable) → binds vs v ≡ true → ⊥) → vs ≡ []
nothing [] h = refl
nothing (v ∷ vs) h = absurd (h v (or_left (variable_eq v v) (binds vs v) (eq_same v)))

-- what is assumed has no variables of its own
assumed_own : (p : Named) → own_variables (assumed (nameless [] p)) ≡ []
assumed_own p =
    nothing (own_variables (assumed (nameless [] p)))
    (λ v e.
    let parts = pattern_from (set.items (only_hyp (nameless [] p))) (nameless [] p) v e in
    let there : is_free_in (set.items (only_hyp (nameless [] p))) v ≡ (binds (free_occurrences (nameless [] p)) v || false) = free_in_hyps (only_hyp (nameless [] p)) (p ∷ []) v refl in
    let none : true ≡ false = sym (or_left (binds (free_occurrences (nameless [] p)) v) false parts.0) ∙ sym there ∙ parts.1 in
    absurd (cc))

pub assumed_generalized : (p : Named) → IsGeneralized (assumed (nameless [] p)) (assumed (nameless [] p))
assumed_generalized p = record {
  sequent = ap (λ (vs : List (List ℕ × TypeTree)). sequent_of (only_hyp (nameless [] p)) (universals vs (nameless [] p))) (sym (assumed_own p));
  over = λ basis. refl;
}

-- ---- quantifiers, from the last one on

universals_last : (vs : List Variable) (v : Variable) (q : Nameless) → universals (vs ++ v ∷ []) q ≡ universals vs (universals (v ∷ []) q)
universals_last [] v q = refl
universals_last (w ∷ vs) v q = ap (λ n. universal (over_variable w n)) (universals_last vs v q)

-- a formula is quantified over the last variable that is left
pub universal_next :
    (left outer all : List (List ℕ × TypeTree)) (v : List ℕ × TypeTree) (q r p : Nameless) → left ≡ outer ++ v ∷ [] → r ≡ universal (over_variable v q) → universals left q ≡ universals all p → universals outer r ≡ universals all p
universal_next left outer all v q r p is made h =
    ap (universals outer) made ∙ sym (universals_last outer v q) ∙ ap (λ (us : List (List ℕ × TypeTree)). universals us q) (sym is) ∙ h

pub forall_formula : (v : List ℕ × TypeTree) (p : Named) → nameless [] (mk_forall v p) ≡ universal (over_variable v (nameless [] p))
forall_formula v p = ap (app (fixed (codes "!") (quantifier_type v.1))) (nameless_abs v p)

-- what holds of all holds of the last one, and of those before it
pub general_last : (basis : Items) (hs : Hyps) (left outer : List (List ℕ × TypeTree)) (v : List ℕ × TypeTree) → left ≡ outer ++ v ∷ [] → AreGeneral basis hs left → AreGeneral basis hs (v ∷ []) × AreGeneral basis hs outer
general_last basis hs left outer v is h = by outer (subst (AreGeneral basis hs) is h)
  where
    by : (us : List Variable) → AreGeneral basis hs (us ++ v ∷ []) → AreGeneral basis hs (v ∷ []) × AreGeneral basis hs us
    by [] h = (h, tt)
    by (u ∷ us) h = let rest = by us h.1 in (rest.0, (h.0, rest.1))

-- ---- what calls say

filter_same : (us ws vs : List Variable) → ((v : Variable) → binds us v ≡ binds ws v) → filter (λ v. not (binds us v)) vs ≡ filter (λ v. not (binds ws v)) vs
filter_same us ws [] h = refl
filter_same us ws (v ∷ vs) h = λ i. cond (not (h v i)) (v ∷ filter_same us ws vs h i) (filter_same us ws vs h i)

-- beside hypotheses, as the program lists them
pub own_listed :
    (th : Given) (ps : List Named) (n : Nameless) → hyps_of ps ≡ (given_sequent th).hyps → n ≡ (given_sequent th).concl → pattern_variables (fixed_variables [] (map (nameless []) ps)) n ≡ own_variables th
own_listed th ps n are is =
    ap (pattern_variables (fixed_variables [] (map (nameless []) ps))) is
    ∙ filter_same (fixed_variables [] (map (nameless []) ps)) (fixed_variables [] (set.items (given_sequent th).hyps)) (add_all [] (free_occurrences (given_sequent th).concl))
    (λ v. sym (same_variables (given_sequent th).hyps ps are v))

pub if_ok_three : {X E : Type 0} (r : Result X E) (A B C D : X → Type 0) → ((x : X) → A x → B x → C x → D x) → IfOk r A → IfOk r B → IfOk r C → IfOk r D
if_ok_three (Ok x) A B C D f a b c = f x a b c
if_ok_three (Err e) A B C D f a b c = tt
