-- Hypotheses that are assumptions: the test over lists of terms is the test over sets.
use Rattle.std.specs.Prelude.{◌≡◌, Bool, true, ◌&&◌, ◌||◌, IsTrue, List, [], ◌∷◌, map, refl}
use Rattle.std.proofs.Common.{ap, sym, ◌∙◌}
use Rattle.std.specs.FinSet as set
use Rattle.std.specs.List.{list_any, list_all}
use Rattle.std.specs.Ordering.{eq_by_cmp}
use Rattle.std.specs.Cmp.{both_ways}
use Rattle.hol_terms.specs.Named.{Named}
use Rattle.hol_terms.specs.Nameless.{Nameless, nameless}
use Rattle.hol_terms.specs.Alpha.{strip, alpha_eq}
use Rattle.hol_terms.proofs.Alpha.{alpha_eq_decides}
use Rattle.hol_subst.specs.AlphaOrder.{nameless_cmp}
use Rattle.hol_subst.specs.Hypotheses.{Hyps, no_hyps, hyp_of, hyps_of}
use Rattle.hol_subst.proofs.HypothesisLists.{hyps_total, hyps_same, empty_in, insert_in, union_in}
use Rattle.hol_kernel.specs.Given.{Given, given_sequent}
use Rattle.hol_kernel.proofs.Members.{itself, equal_keys, in_union_right}
use Rattle.hol_goal.specs.Achieves.{assumed}
use Rattle.hol_goal.specs.Goal.{GoalValue}
use Rattle.hol_goal.specs.Arguments.{TacArgsValue}
use Rattle.hol_just.specs.Answering.{AreLeft, args_hyps, all_hyps, are_assumed}

-- ---- one hypothesis among assumptions

same_test : (a p : Nameless) → eq_by_cmp nameless_cmp (strip p) (strip a) ≡ alpha_eq a p
same_test a p =
    both_ways (eq_by_cmp nameless_cmp (strip p) (strip a)) (alpha_eq a p)
    (λ e. (alpha_eq_decides a p).1 (sym (equal_keys hyps_total hyps_same (strip p) (strip a) e)))
    (λ e. ap (λ z. eq_by_cmp nameless_cmp z (strip a)) (sym ((alpha_eq_decides a p).0 e)) ∙ itself hyps_total hyps_same (strip a))

any_same : (ts : List Named) (p : Nameless) → list_any (eq_by_cmp nameless_cmp (strip p)) (map strip (map (nameless []) ts)) ≡ list_any (λ t. alpha_eq (nameless [] t) p) ts
any_same [] p = refl
any_same (t ∷ ts) p = λ i. same_test (nameless [] t) p i || any_same ts p i

pub is_assumption_is : (ts : List Named) (assumptions : List Nameless) (p : Nameless) (r : Bool) → map (nameless []) ts ≡ assumptions → r ≡ list_any (λ t. alpha_eq (nameless [] t) p) ts → r ≡ set.contains (assumed assumptions) (strip p)
is_assumption_is ts assumptions p r e h =
    h ∙ sym (any_same ts p) ∙ sym (set.contains-from_list hyps_total (map strip (map (nameless []) ts)) (strip p)) ∙ ap (λ xs. set.contains (assumed xs) (strip p)) e

-- ---- hypotheses among assumptions

all_among : (ts : List Named) (s : Hyps) → set.is_subset (hyps_of ts) s ≡ list_all (λ t. set.contains s (hyp_of t)) ts
all_among [] s = empty_in s
all_among (t ∷ ts) s = insert_in (hyps_of ts) (hyp_of t) s ∙ ap (λ b. set.contains s (hyp_of t) && b) (all_among ts s)

pub given_is : (ts : List Named) (hyps s : Hyps) (r : Bool) → hyps_of ts ≡ hyps → r ≡ list_all (λ t. set.contains s (hyp_of t)) ts → r ≡ set.is_subset hyps s
given_is ts hyps s r e h = h ∙ sym (all_among ts s) ∙ ap (λ x. set.is_subset x s) e

all_givens : (ths : List Given) (s : Hyps) → set.is_subset (all_hyps ths) s ≡ list_all (λ th. set.is_subset (given_sequent th).hyps s) ths
all_givens [] s = empty_in s
all_givens (th ∷ ths) s = union_in (given_sequent th).hyps (all_hyps ths) s ∙ ap (λ b. set.is_subset (given_sequent th).hyps s && b) (all_givens ths s)

pub givens_are : (ths : List Given) (s : Hyps) (r : Bool) → r ≡ list_all (λ th. set.is_subset (given_sequent th).hyps s) ths → r ≡ set.is_subset (all_hyps ths) s
givens_are ths s r h = h ∙ sym (all_givens ths s)

pub none_are : (s : Hyps) → true ≡ set.is_subset no_hyps s
none_are s = sym (empty_in s)

-- ---- what the test says

pub nothing_left : (args : TacArgsValue) (goal : GoalValue) (r : Bool) → r ≡ are_assumed args goal → IsTrue r → AreLeft no_hyps args goal
nothing_left args goal r is e = record {
  among = empty_in (args_hyps args);
  all = λ p h. in_union_right hyps_total hyps_same no_hyps (assumed goal.assumptions) p (set.is_subset-contains hyps_total (args_hyps args) (assumed goal.assumptions) (sym is ∙ e) p h);
}
