-- What the code says of instances that it finds, and of a theorem, generalized over its own variables. Only private clauses speak of it.
use Rattle.std.specs.Prelude.{◌≡◌, IsTrue, ◌++◌, ℕ, true, false, List, [], ◌∷◌, map, Some}
use Rattle.std.specs.List.{AllByRecursion, filter}
use Rattle.std.specs.FinSet as set
use Rattle.hol_types.specs.Tree.{TypeTree}
use Rattle.hol_terms.specs.Named.{Named}
use Rattle.hol_terms.specs.Nameless.{Nameless, nameless}
use Rattle.hol_subst.specs.Variant.{is_free_in}
use Rattle.hol_formulas.specs.Equation.{bool_type}
use Rattle.hol_kernel.specs.Given.{Given, given_sequent}
use Rattle.hol_kernel.specs.Items.{Items}
use Rattle.hol_kernel.specs.Sequent.{Hyps, hyps_of, sequent_of}
use Rattle.hol_kernel.specs.Typing.{is_type, HasType}
use Rattle.hol_match.specs.Instance.{InstanceValue, both}
use Rattle.hol_match.specs.Fixed.{stays_of}
use Rattle.hol_match.specs.Givens.{holds_given}
use Rattle.hol_match.specs.Matches.{IsMostGeneral}
use Rattle.hol_match.specs.Matching.{matched}
use Rattle.hol_goal.specs.Goal.{GoalValue}
use Rattle.hol_just.specs.MatchMp.{generalized_concl, is_undetermined, kept}
use Rattle.hol_just.specs.Justifies.{LeavesPremise}
use Rattle.hol_just.specs.declared.reason.Move.{Move}

-- beside the theorem's hypotheses, as they are listed, t matches the conclusion with this instance
pub record IsFound (th : Given) (goal : GoalValue) (t : Nameless) (f : InstanceValue) : Type 0 where
  pub listed : List Named
  pub are : hyps_of listed ≡ (given_sequent th).hyps
  pub found : matched 0 t (stays_of (map (nameless []) listed)) goal.conclusion ≡ Some (both (stays_of (map (nameless []) listed)) f)
  pub general : IsMostGeneral (stays_of (map (nameless []) listed)) t goal.conclusion f

-- ---- generalizing

-- each of the variables has a type over the basis, and is free in no hypothesis
abbrev pub AreGeneral : Items → Hyps → List (List ℕ × TypeTree) → Type 0
AreGeneral basis hs vs = AllByRecursion (λ v. (is_type basis v.1 ≡ true) × (is_free_in (set.items hs) v ≡ false)) vs

-- g is the theorem, generalized over its own variables
pub record IsGeneralized (th g : Given) : Type 0 where
  pub sequent : given_sequent g ≡ sequent_of (given_sequent th).hyps (generalized_concl th)
  pub over : (basis : Items) → holds_given g basis ≡ holds_given th basis

-- by it the moves leave `?us. p` of w, where the variables under its outer quantifiers are vs
pub record LeavesByGeneral (th : Given) (vs us : List (List ℕ × TypeTree)) (p w : Nameless) (moves : List Move) : Type 0 where
  pub general : Given
  pub is : IsGeneralized th general
  pub formula : (basis : Items) → IsTrue (holds_given general basis) → HasType basis (given_sequent general).concl bool_type
  pub leaves : LeavesPremise general vs us p w moves

-- ---- variables that stay as they are

-- what is kept of variables and what they are called, of which the first may be determined
abbrev pub kept_of : Nameless → Nameless → List (TypeTree × List ℕ) → List Nameless → List ((List ℕ × TypeTree) × (List ℕ × TypeTree)) → List (Nameless × (List ℕ × TypeTree))
kept_of s t types terms ps = kept types terms (filter (λ p. is_undetermined s t p.1) ps)

-- the first of them is done: the new instance has it, and the terms have its variable
pub record IsKept (s t : Nameless) (p : (List ℕ × TypeTree) × (List ℕ × TypeTree)) (old_terms new_terms : List Nameless) (old new : InstanceValue) : Type 0 where
  pub types : new.types ≡ old.types
  pub goes :
      (ps : List ((List ℕ × TypeTree) × (List ℕ × TypeTree))) → old.terms ++ kept_of s t old.types old_terms (p ∷ ps) ≡ new.terms ++ kept_of s t old.types new_terms ps
