-- What is valid by some of what was given is valid by all of it.
use Rattle.std.specs.Prelude.{◌≡◌, ℕ, zero, suc, true, List, [], ◌∷◌, slice_get, Some, refl}
use Rattle.std.specs.FinSet as set
use Rattle.std.proofs.Common.{subst, inl, inr}
use Rattle.std.proofs.lemmas.Bool.{and_from}
use Rattle.hol_terms.specs.Nameless.{Nameless}
use Rattle.hol_kernel.specs.Given.{Given, given_sequent}
use Rattle.hol_kernel.specs.Items.{Items}
use Rattle.hol_kernel.proofs.HypothesisLists.{hyps_total, hyps_same}
use Rattle.hol_kernel.proofs.Members.{in_union_left, in_union_right, in_union_cases, not_in_empty}
use Rattle.hol_kernel.proofs.Stands.{both}
use Rattle.hol_match.specs.Givens.{holds_given, all_hold, all_hyps}
use Rattle.hol_match.specs.SetView.{AreGivenIn}
use Rattle.hol_goal.specs.Goal.{GoalValue}
use Rattle.hol_just.specs.declared.tried.Step.{Step}
use Rattle.hol_steps.specs.Converting.{LeadsBy}

held_at : (basis : Items) (all : List Given) (i : ℕ) (g : Given) → all_hold all basis ≡ true → slice_get all i ≡ Some g → holds_given g basis ≡ true
held_at basis [] i g h at = absurd (cc)
held_at basis (x ∷ xs) zero g h at =
    let q : x ≡ g = cc in
    subst (λ (z : Given). holds_given z basis ≡ true) q (both (holds_given x basis) (all_hold xs basis) h).0
held_at basis (x ∷ xs) (suc i) g h at = held_at basis xs i g (both (holds_given x basis) (all_hold xs basis) h).1 at

all_held : (basis : Items) (all gs : List Given) → all_hold all basis ≡ true → AreGivenIn all gs → all_hold gs basis ≡ true
all_held basis all [] h among = refl
all_held basis all (g ∷ gs) h among = and_from (holds_given g basis) (all_hold gs basis) (held_at basis all among.0.0 g h among.0.1) (all_held basis all gs h among.1)

hyps_at : (all : List Given) (i : ℕ) (g : Given) (q : Nameless) → slice_get all i ≡ Some g → set.contains (given_sequent g).hyps q ≡ true → set.contains (all_hyps all) q ≡ true
hyps_at [] i g q at h = absurd (cc)
hyps_at (x ∷ xs) zero g q at h =
    let s : g ≡ x = cc in
    in_union_left hyps_total hyps_same (given_sequent x).hyps (all_hyps xs) q (subst (λ (z : Given). set.contains (given_sequent z).hyps q ≡ true) s h)
hyps_at (x ∷ xs) (suc i) g q at h = in_union_right hyps_total hyps_same (given_sequent x).hyps (all_hyps xs) q (hyps_at xs i g q at h)

hyps_among : (all gs : List Given) (q : Nameless) → AreGivenIn all gs → set.contains (all_hyps gs) q ≡ true → set.contains (all_hyps all) q ≡ true
hyps_among all [] q among h = absurd (not_in_empty hyps_total hyps_same q h)
hyps_among all (g ∷ gs) q among h =
    elim (in_union_cases hyps_total hyps_same (given_sequent g).hyps (all_hyps gs) q h) [ inl e ↦ hyps_at all among.0.0 g q among.0.1 e | inr e ↦ hyps_among all gs q among.1 e ]

pub leads_among : (goal : GoalValue) (all gs : List Given) (step : Step) → AreGivenIn all gs → LeadsBy goal gs step → LeadsBy goal all step
leads_among goal all gs step among leads suits extra held allowed =
    leads suits extra (λ basis suit typed. all_held basis all gs (held basis suit typed) among) (λ q h. allowed q (hyps_among all gs q among h))
