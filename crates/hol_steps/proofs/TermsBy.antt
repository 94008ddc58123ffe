-- The terms of a goal and a theorem.
use Rattle.std.specs.Prelude.{◌≡◌, ℕ, true, false, ◌||◌, List, [], ◌∷◌, ◌++◌, map, refl}
use Rattle.std.specs.List.{list_any}
use Rattle.std.specs.FinSet as set
use Rattle.std.proofs.Common.{ap, sym, ◌∙◌}
use Rattle.std.proofs.Math.Bool.{or_assoc}
use Rattle.hol_match.proofs.OrderedHyps.{strip_has}
use Rattle.hol_types.specs.Tree.{TypeTree}
use Rattle.hol_terms.specs.Named.{Named}
use Rattle.hol_terms.specs.Nameless.{Nameless, nameless, free_occurrences}
use Rattle.hol_terms.specs.Scoped.{binds}
use Rattle.hol_subst.specs.FreeName.{has_name, is_taken}
use Rattle.hol_subst.specs.Variant.{is_free_in}
use Rattle.hol_subst.specs.Hypotheses.{Hyps, hyp_of, hyps_of}
use Rattle.hol_subst.proofs.HypothesisLists.{hyps_total, hyps_same, free_in_hyps}
use Rattle.hol_subst.proofs.SortedSets.{any_of_set}
use Rattle.hol_kernel.specs.Given.{Given, given_sequent}
use Rattle.hol_goal.specs.Goal.{GoalValue}
use Rattle.hol_just.specs.Leaving.{goal_terms, theorem_terms}
use Rattle.hol_just.specs.QuantifierTacs.{terms_by}

-- ---- two lists of terms

pub free_in_both : (ns ms : List Nameless) (v : List ℕ × TypeTree) → is_free_in (ns ++ ms) v ≡ (is_free_in ns v || is_free_in ms v)
free_in_both [] ms v = refl
free_in_both (n ∷ ns) ms v = ap (λ b. binds (free_occurrences n) v || b) (free_in_both ns ms v) ∙ sym (or_assoc (binds (free_occurrences n) v) (is_free_in ns v) (is_free_in ms v))

pub taken_in_both : (ns ms : List Nameless) (a : List ℕ) → is_taken (ns ++ ms) a ≡ (is_taken ns a || is_taken ms a)
taken_in_both [] ms a = refl
taken_in_both (n ∷ ns) ms a = ap (λ b. has_name a n || b) (taken_in_both ns ms a) ∙ sym (or_assoc (has_name a n) (is_taken ns a) (is_taken ms a))

-- ---- the terms of a goal and a theorem

pub in_goal : (th : Given) (goal : GoalValue) (v : List ℕ × TypeTree) → true ≡ is_free_in (goal_terms goal) v → true ≡ is_free_in (terms_by th goal) v
in_goal th goal v h = ap (λ b. b || is_free_in (theorem_terms th) v) h ∙ sym (free_in_both (goal_terms goal) (theorem_terms th) v)

pub in_conclusion :
    (th : Given) (goal : GoalValue) (c : Nameless) (v : List ℕ × TypeTree) → c ≡ (given_sequent th).concl → false ≡ is_free_in (goal_terms goal) v → true ≡ binds (free_occurrences c) v →
    true ≡ is_free_in (terms_by th goal) v
in_conclusion th goal c v concl none h =
    (λ i. none i || ((h ∙ ap (λ t. binds (free_occurrences t) v) concl) i || is_free_in (set.items (given_sequent th).hyps) v)) ∙ sym (free_in_both (goal_terms goal) (theorem_terms th) v)

free_by :
    (th : Given) (goal : GoalValue) (c : Nameless) (hyps : List Named) (v : List ℕ × TypeTree) → c ≡ (given_sequent th).concl → hyps_of hyps ≡ (given_sequent th).hyps →
    (is_free_in (goal_terms goal) v || (binds (free_occurrences c) v || list_any (λ p. binds (free_occurrences (nameless [] p)) v) hyps)) ≡ is_free_in (terms_by th goal) v
free_by th goal c hyps v concl are =
    (λ i. is_free_in (goal_terms goal) v || (binds (free_occurrences (concl i)) v || sym (free_in_hyps (given_sequent th).hyps hyps v are) i))
    ∙ sym (free_in_both (goal_terms goal) (theorem_terms th) v)

pub in_hypotheses :
    (th : Given) (goal : GoalValue) (c : Nameless) (hyps : List Named) (v : List ℕ × TypeTree) → c ≡ (given_sequent th).concl → hyps_of hyps ≡ (given_sequent th).hyps →
    false ≡ is_free_in (goal_terms goal) v → false ≡ binds (free_occurrences c) v → list_any (λ p. binds (free_occurrences (nameless [] p)) v) hyps ≡ is_free_in (terms_by th goal) v
in_hypotheses th goal c hyps v concl are none apart =
    (λ i. none i || (apart i || list_any (λ p. binds (free_occurrences (nameless [] p)) v) hyps)) ∙ free_by th goal c hyps v concl are

-- what is collected one after the other
pub collected :
    (first pushed all hyps : List Named) (c : Named) (ns : List Nameless) (n : Nameless) → map (nameless []) first ≡ ns → pushed ≡ first ++ (c ∷ []) → all ≡ pushed ++ hyps → nameless [] c ≡ n →
    map (nameless []) all ≡ ns ++ (n ∷ map (nameless []) hyps)
collected first pushed all hyps c ns n are push copies is =
    ap (map (nameless [])) (copies ∙ ap (λ (ps : List Named). ps ++ hyps) push) ∙ go first ∙ (λ i. are i ++ (is i ∷ map (nameless []) hyps))
  where
    go : (ps : List Named) → map (nameless []) ((ps ++ (c ∷ [])) ++ hyps) ≡ map (nameless []) ps ++ (nameless [] c ∷ map (nameless []) hyps)
    go [] = refl
    go (p ∷ ps) = ap (λ (ms : List Nameless). nameless [] p ∷ ms) (go ps)

taken_any : (ns : List Nameless) (a : List ℕ) → is_taken ns a ≡ list_any (has_name a) ns
taken_any [] a = refl
taken_any (n ∷ ns) a = ap (λ b. has_name a n || b) (taken_any ns a)

taken_keys : (ps : List Named) (a : List ℕ) → list_any (has_name a) (map hyp_of ps) ≡ is_taken (map (nameless []) ps) a
taken_keys [] a = refl
taken_keys (p ∷ ps) a = λ i. strip_has a (nameless [] p) i || taken_keys ps a i

pub taken_in_hyps : (hs : Hyps) (ps : List Named) (a : List ℕ) → hyps_of ps ≡ hs → is_taken (set.items hs) a ≡ is_taken (map (nameless []) ps) a
taken_in_hyps hs ps a is =
    ap (λ (s : Hyps). is_taken (set.items s) a) (sym is) ∙ taken_any (set.items (hyps_of ps)) a
    ∙ any_of_set hyps_total hyps_same (has_name a) (map hyp_of ps) ∙ taken_keys ps a

pub taken_by :
    (th : Given) (goal : GoalValue) (terms : List Nameless) (hyps : List Named) (a : List ℕ) → hyps_of hyps ≡ (given_sequent th).hyps →
    terms ≡ goal_terms goal ++ ((given_sequent th).concl ∷ map (nameless []) hyps) → is_taken terms a ≡ is_taken (terms_by th goal) a
taken_by th goal terms hyps a are is =
    ap (λ (ns : List Nameless). is_taken ns a) is
    ∙ taken_in_both (goal_terms goal) ((given_sequent th).concl ∷ map (nameless []) hyps) a
    ∙ ap (λ b. is_taken (goal_terms goal) a || (has_name a (given_sequent th).concl || b)) (sym (taken_in_hyps (given_sequent th).hyps hyps a are))
    ∙ sym (taken_in_both (goal_terms goal) (theorem_terms th) a)
