-- Justifications made of others.
use Rattle.std.specs.Prelude.{◌≡◌, List, [], ◌∷◌, ◌++◌, refl}
use Rattle.std.proofs.Common.{ap, sym, ◌∙◌, subst}
use Rattle.hol_types.specs.Fun.{fun_type}
use Rattle.hol_terms.specs.Nameless.{Nameless, app, nameless_type}
use Rattle.hol_terms.specs.Alpha.{strip}
use Rattle.hol_formulas.specs.Equation.{bool_type, equation}
use Rattle.hol_formulas.specs.Formula.{falsity, implication, negation}
use Rattle.hol_kernel.specs.Given.{Given, given_sequent}
use Rattle.hol_kernel.proofs.Declared.{has_type_of}
use Rattle.hol_kernel.proofs.Sound.{strip_type}
use Rattle.hol_just.specs.Gives.{moved}
use Rattle.hol_just.specs.Justifies.{goal_at, always, holds_given, holds_formula, ClosesEquation, ClosesByGiven, ClosesByFalsity, SplitsApplications, LeavesArguments, LeavesFunctions, SplitsEquivalence, SplitsIntoImplications, LeavesConsequent, UnfoldsNegation, LeavesRefutation, TakesOut, SplitsByImplication, LeavesImplication, LeavesAssuming, LeavesFalsity}
use Rattle.hol_just.specs.declared.reason.Move.{Move}
use Rattle.hol_match.proofs.Formulas.{IsFormula}
use Rattle.hol_just.proofs.Validity.{valid_at, valid_under}

pub leaves_arguments : (f : Nameless) (splits closes all : List Move) → SplitsApplications splits → ClosesEquation f closes → all ≡ splits ++ moved 0 closes → LeavesArguments f all
leaves_arguments f splits closes all s c is =
    subst (LeavesArguments f) (sym is)
    (λ extra assumptions a b g x y typed same.
    valid_at always extra splits closes (goal_at assumptions (equation b (app f x) (app g y)) ∷ []) [] (goal_at assumptions (equation (fun_type a b) f g) ∷ []) [] (goal_at assumptions (equation a x y) ∷ []) 0 refl
    (s extra assumptions a b f g x y typed (sym (strip_type [] g) ∙ ap (nameless_type []) (sym same) ∙ strip_type [] f ∙ typed))
    (c extra assumptions (fun_type a b) g same))

pub leaves_functions : (x : Nameless) (splits closes all : List Move) → SplitsApplications splits → ClosesEquation x closes → all ≡ splits ++ moved 1 closes → LeavesFunctions x all
leaves_functions x splits closes all s c is =
    subst (LeavesFunctions x) (sym is)
    (λ extra assumptions a b f g y left right same.
    valid_at always extra splits closes (goal_at assumptions (equation b (app f x) (app g y)) ∷ []) (goal_at assumptions (equation (fun_type a b) f g) ∷ []) (goal_at assumptions (equation a x y) ∷ []) [] [] 1 refl
    (s extra assumptions a b f g x y left right)
    (c extra assumptions a y same))

pub splits_into_implications : (splits takes all : List Move) → SplitsEquivalence splits → TakesOut takes → all ≡ (splits ++ moved 0 takes) ++ moved 1 takes → SplitsIntoImplications all
splits_into_implications splits takes all s t is =
    subst SplitsIntoImplications (sym is)
    (λ extra assumptions p q.
    valid_at always extra (splits ++ moved 0 takes) takes (goal_at assumptions (equation bool_type p q) ∷ []) (goal_at assumptions (implication p q) ∷ []) (goal_at (q ∷ assumptions) p ∷ []) (goal_at assumptions (implication q p) ∷ []) [] 1 refl
    (valid_at always extra splits takes (goal_at assumptions (equation bool_type p q) ∷ []) [] (goal_at (p ∷ assumptions) q ∷ []) (goal_at assumptions (implication p q) ∷ []) (goal_at (q ∷ assumptions) p ∷ []) 0 refl
    (s extra assumptions p q)
    (t extra [] assumptions p q))
    (t extra [] assumptions q p))

pub leaves_implication : (th : Given) (splits closes all : List Move) → IsFormula th → SplitsByImplication splits → ClosesByGiven th closes → all ≡ splits ++ moved 1 closes → LeavesImplication th all
leaves_implication th splits closes all formula s c is =
    subst (LeavesImplication th) (sym is)
    (λ extra assumptions q allowed.
    valid_at (holds_given th) extra splits closes (goal_at assumptions q ∷ []) (goal_at assumptions (implication (given_sequent th).concl q) ∷ []) (goal_at assumptions (given_sequent th).concl ∷ []) [] [] 1 refl
    (valid_under (holds_formula (given_sequent th).concl) (holds_given th) extra splits (goal_at assumptions q ∷ []) (goal_at assumptions (implication (given_sequent th).concl q) ∷ goal_at assumptions (given_sequent th).concl ∷ [])
    (λ basis suit. has_type_of basis (given_sequent th).concl bool_type (formula basis suit))
    (s extra assumptions (given_sequent th).concl q))
    (c extra (goal_at assumptions (given_sequent th).concl) refl allowed))

pub leaves_assuming : (th : Given) (c : Nameless) (leaves assumes all : List Move) → c ≡ (given_sequent th).concl → LeavesImplication th leaves → LeavesConsequent c assumes → all ≡ leaves ++ moved 0 assumes → LeavesAssuming th all
leaves_assuming th c leaves assumes all concl l a is =
    subst (LeavesAssuming th) (sym is)
    (λ extra assumptions q allowed.
    valid_at (holds_given th) extra leaves assumes (goal_at assumptions q ∷ []) [] (goal_at assumptions (implication (given_sequent th).concl q) ∷ []) (goal_at ((given_sequent th).concl ∷ assumptions) q ∷ []) [] 0 refl
    (l extra assumptions q allowed)
    (valid_under always (holds_given th) extra assumes (goal_at assumptions (implication (given_sequent th).concl q) ∷ []) (goal_at ((given_sequent th).concl ∷ assumptions) q ∷ []) (λ basis suit. refl)
    (subst (λ p. LeavesConsequent p assumes) concl a extra assumptions q)))

pub closes_by_falsity : (p : Nameless) (th : Given) (splits closes all : List Move) → LeavesFalsity p splits → ClosesByGiven th closes → all ≡ splits ++ moved 0 closes → ClosesByFalsity p th all
closes_by_falsity p th splits closes all s c is =
    subst (ClosesByFalsity p th) (sym is)
    (λ extra assumptions false_is allowed.
    valid_at (holds_given th) extra splits closes (goal_at assumptions p ∷ []) [] (goal_at assumptions falsity ∷ []) [] [] 0 refl
    (valid_under always (holds_given th) extra splits (goal_at assumptions p ∷ []) (goal_at assumptions falsity ∷ []) (λ basis suit. refl) (s extra assumptions))
    (c extra (goal_at assumptions falsity) (ap strip false_is) allowed))

pub leaves_refutation : (p : Nameless) (unfolds assumes all : List Move) → UnfoldsNegation unfolds → LeavesConsequent p assumes → all ≡ unfolds ++ moved 0 assumes → LeavesRefutation p all
leaves_refutation p unfolds assumes all u c is =
    subst (LeavesRefutation p) (sym is)
    (λ extra assumptions.
    valid_at always extra unfolds assumes (goal_at assumptions (negation p) ∷ []) [] (goal_at assumptions (implication p falsity) ∷ []) (goal_at (p ∷ assumptions) falsity ∷ []) [] 0 refl
    (u extra assumptions p)
    (c extra assumptions falsity))
