-- Validity has one proof at most: what is stored with a function as a ghost field may speak of it.
use Rattle.std.specs.Prelude.{Bool, List, [], ◌∷◌, Option, Some, None}
use Rattle.std.specs.List.{AllByRecursion-prop}
use Rattle.std.specs.Coded.{Coded-set, coded_bool, coded_option, Unit-prop}
use Rattle.hol_types.specs.Code.{coded_type}
use Rattle.hol_terms.specs.Code.{coded_nameless}
use Rattle.hol_kernel.specs.Items.{Items}
use Rattle.hol_kernel.specs.Given as premise
use Rattle.hol_kernel.specs.Sequent.{Hyps, Sequent}
use Rattle.hol_goal.specs.Goal.{GoalValue}
use Rattle.hol_goal.specs.Achieves.{Achieves, IsTyped}
use Rattle.hol_just.specs.Reasons.{Fits}
use Rattle.hol_just.specs.Valid.{AchieveAll, Answers, FitsAt, IsValid}
use Rattle.hol_just.specs.declared.reason.Reason.{Reason}
use Rattle.hol_just.specs.declared.reason.Reason.TheVariants.{Reflexivity, Premise, Combination, Antisymmetry, Conjunction, LeftDisjunct, RightDisjunct, Discharge, Undischarge, Negation, ModusPonens, Contradiction, Generalization, Existence, LeftConjunct, RightConjunct, Cases, Cut, Symmetry, Replacement, Specialization, Choice, Truth, Conversion, Matching}
use Rattle.hol_just.specs.declared.reason.Move.{Move}

achieves_prop : (extra : Hyps) (s : Sequent) (g : GoalValue) → IsProp (Achieves extra s g)
achieves_prop extra s g = hlevel (Coded-set coded_nameless, Coded-set coded_bool)

all_prop : (extra : Hyps) (ss : List Sequent) (gs : List GoalValue) → IsProp (AchieveAll extra ss gs)
all_prop extra [] [] = Unit-prop
all_prop extra [] (g ∷ gs) = hlevel
all_prop extra (s ∷ ss) [] = hlevel
all_prop extra (s ∷ ss) (g ∷ gs) = hlevel (achieves_prop extra s g, all_prop extra ss gs)

answers_prop : (extra : Hyps) (o : Option (List Sequent)) (gs : List GoalValue) → IsProp (Answers extra o gs)
answers_prop extra None gs = hlevel
answers_prop extra (Some ss) gs = all_prop extra ss gs

typed_prop : (basis : Items) (g : GoalValue) → IsProp (IsTyped basis g)
typed_prop basis g = hlevel (Coded-set (coded_option coded_type), AllByRecursion-prop)

over_prop : (th : premise.Given) (basis : Items) → IsProp (premise.IsOver th basis)
over_prop (premise.proved th) basis = hlevel (Coded-set coded_bool)
over_prop (premise.assumed p) basis = Unit-prop

fits_prop : (basis : Items) (reason : Reason) → IsProp (Fits basis reason)
fits_prop basis (Reflexivity t) = Unit-prop
fits_prop basis (Premise th) = over_prop th basis
fits_prop basis Combination = Unit-prop
fits_prop basis Antisymmetry = Unit-prop
fits_prop basis Conjunction = Unit-prop
fits_prop basis (LeftDisjunct q) = Unit-prop
fits_prop basis (RightDisjunct p) = Unit-prop
fits_prop basis (Discharge p) = Unit-prop
fits_prop basis Undischarge = Unit-prop
fits_prop basis Negation = Unit-prop
fits_prop basis ModusPonens = Unit-prop
fits_prop basis (Contradiction p) = Unit-prop
fits_prop basis (Generalization v) = Unit-prop
fits_prop basis (Existence e t) = Unit-prop
fits_prop basis LeftConjunct = Unit-prop
fits_prop basis RightConjunct = Unit-prop
fits_prop basis Cases = Unit-prop
fits_prop basis Cut = Unit-prop
fits_prop basis Symmetry = Unit-prop
fits_prop basis (Replacement v m) = Unit-prop
fits_prop basis (Specialization t) = Unit-prop
fits_prop basis (Choice v) = Unit-prop
fits_prop basis Truth = Unit-prop
fits_prop basis (Conversion t) = Unit-prop
fits_prop basis (Matching th formula t) = over_prop th basis

fits_at_prop : (basis : Items) (one : Move) → IsProp (FitsAt basis one)
fits_at_prop basis one = fits_prop basis one.reason

pub valid_prop : (suits : Items → Bool) (extra : Hyps) (moves : List Move) (before after : List GoalValue) → IsProp (IsValid suits extra moves before after)
valid_prop suits extra moves before after = hlevel (AllByRecursion-prop, typed_prop, fits_at_prop, answers_prop)
