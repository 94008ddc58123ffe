-- Justifications stay valid where the goals that are left have fewer assumptions; and those by a term that is assumed already need nothing of the basis.
use Rattle.std.specs.Prelude.{◌≡◌, Bool, true, List, [], ◌∷◌, map, refl}
use Rattle.std.specs.List.{AllByRecursion}
use Rattle.std.specs.FinSet as set
use Rattle.std.proofs.Common.{ap, sym, subst, inl, inr}
use Rattle.hol_terms.specs.Nameless.{Nameless}
use Rattle.hol_terms.specs.Alpha.{strip}
use Rattle.hol_formulas.specs.Equation.{bool_type}
use Rattle.hol_kernel.specs.Items.{Items}
use Rattle.hol_kernel.specs.Sequent.{Hyps, only_hyp, Sequent}
use Rattle.hol_kernel.specs.Given as given
use Rattle.hol_kernel.specs.Typing.{HasType}
use Rattle.hol_kernel.proofs.Declared.{has_type_of}
use Rattle.hol_kernel.proofs.HypothesisLists.{hyps_total, hyps_same}
use Rattle.hol_kernel.proofs.Members.{Among, among_from_list, from_list_among}
use Rattle.hol_goal.specs.Goal.{GoalValue}
use Rattle.hol_goal.specs.Achieves.{assumed, AreAllowed, IsTyped}
use Rattle.hol_just.specs.Justifies.{goal_at, always, holds_given}
use Rattle.hol_just.specs.Valid.{AchieveAll, IsValid}
use Rattle.hol_just.specs.declared.reason.Move.{Move}
use Rattle.hol_just.proofs.Allowed.{allowed_more, allowed_only}

abbrev pub AreAmong : List Nameless → List Nameless → Type 0
AreAmong few many = (p : Nameless) → Among p few → Among p many

-- ---- assumptions among others

pub all_at : (P : Nameless → Type 0) (many : List Nameless) (p : Nameless) → Among p many → AllByRecursion P many → P p
all_at P [] p h a = absurd h
all_at P (x ∷ many) p (inl e) a = subst P (sym e) a.0
all_at P (x ∷ many) p (inr h) a = all_at P many p h a.1

all_among : (P : Nameless → Type 0) (few many : List Nameless) → AreAmong few many → AllByRecursion P many → AllByRecursion P few
all_among P [] many among a = tt
all_among P (x ∷ few) many among a = (all_at P many x (among x (inl refl)) a, all_among P few many (λ p h. among p (inr h)) a)

among_mapped : (ps : List Nameless) (p : Nameless) → Among p ps → Among (strip p) (map strip ps)
among_mapped [] p h = absurd h
among_mapped (x ∷ ps) p (inl e) = inl (ap strip e)
among_mapped (x ∷ ps) p (inr h) = inr (among_mapped ps p h)

mapped_among : (few many : List Nameless) → AreAmong few many → (r : Nameless) → Among r (map strip few) → Among r (map strip many)
mapped_among [] many among r h = absurd h
mapped_among (x ∷ few) many among r (inl e) = subst (λ (z : Nameless). Among z (map strip many)) (sym e) (among_mapped many x (among x (inl refl)))
mapped_among (x ∷ few) many among r (inr h) = mapped_among few many (λ p k. among p (inr k)) r h

assumed_among : (few many : List Nameless) → AreAmong few many → (r : Nameless) → set.contains (assumed few) r ≡ true → set.contains (assumed many) r ≡ true
assumed_among few many among r h =
    from_list_among hyps_total hyps_same (map strip many) r (mapped_among few many among r (among_from_list hyps_total hyps_same (map strip few) r h))

-- ---- fewer assumptions

pub record IsWeaker (few many : GoalValue) : Type 0 where
  pub conclusion : few.conclusion ≡ many.conclusion
  pub assumptions : AreAmong few.assumptions many.assumptions

abbrev pub AreWeaker : List GoalValue → List GoalValue → Type 0
AreWeaker [] [] = Unit {0}
AreWeaker [] (g ∷ gs) = ⊥
AreWeaker (f ∷ fs) [] = ⊥
AreWeaker (f ∷ fs) (g ∷ gs) = IsWeaker f g × AreWeaker fs gs

achieve_weaker : (extra : Hyps) (ss : List Sequent) (few many : List GoalValue) → AreWeaker few many → AchieveAll extra ss few → AchieveAll extra ss many
achieve_weaker extra [] [] [] w a = tt
achieve_weaker extra [] [] (g ∷ gs) w a = absurd w
achieve_weaker extra [] (f ∷ fs) gs w a = absurd a
achieve_weaker extra (s ∷ ss) [] gs w a = absurd a
achieve_weaker extra (s ∷ ss) (f ∷ fs) [] w a = absurd w
achieve_weaker extra (s ∷ ss) (f ∷ fs) (g ∷ gs) w a = (
  record {
    concludes = subst (λ (q : Nameless). strip s.concl ≡ strip q) w.0.conclusion a.0.concludes;
    allowed = allowed_more extra f.assumptions g.assumptions s.hyps (assumed_among f.assumptions g.assumptions w.0.assumptions) a.0.allowed;
  },
  achieve_weaker extra ss fs gs w.1 a.1,
)

typed_weaker : (basis : Items) (few many : List GoalValue) → AreWeaker few many → AllByRecursion (IsTyped basis) many → AllByRecursion (IsTyped basis) few
typed_weaker basis [] [] w a = tt
typed_weaker basis [] (g ∷ gs) w a = absurd w
typed_weaker basis (f ∷ fs) [] w a = absurd w
typed_weaker basis (f ∷ fs) (g ∷ gs) w a = (
  record {
    assumptions = all_among (λ p. HasType basis p bool_type) f.assumptions g.assumptions w.0.assumptions a.0.assumptions;
    conclusion = subst (λ (q : Nameless). HasType basis q bool_type) (sym w.0.conclusion) a.0.conclusion;
  },
  typed_weaker basis fs gs w.1 a.1,
)

pub valid_weaker : (suits : Items → Bool) (extra : Hyps) (moves : List Move) (before many few : List GoalValue) → AreWeaker few many → IsValid suits extra moves before many → IsValid suits extra moves before few
valid_weaker suits extra moves before many few w v basis suit typed =
    let a = v basis suit typed in
    record { typed = typed_weaker basis few many w a.typed; fits = a.fits; answers = λ ss h. a.answers ss (achieve_weaker extra ss few many w h) }

-- ---- a term that is assumed

pub valid_assumed :
    (extra : Hyps) (moves : List Move) (assumptions : List Nameless) (q p : Nameless) (after : List GoalValue) → Among p assumptions →
    IsValid (holds_given (given.assumed p)) extra moves (goal_at assumptions q ∷ []) after → IsValid always extra moves (goal_at assumptions q ∷ []) after
valid_assumed extra moves assumptions q p after here v basis suit typed =
    v basis (has_type_of basis p bool_type (all_at (λ r. HasType basis r bool_type) assumptions p here typed.0.assumptions)) typed

pub assumed_allowed : (extra : Hyps) (assumptions : List Nameless) (p : Nameless) → Among p assumptions → AreAllowed extra assumptions (only_hyp p)
assumed_allowed extra assumptions p here = allowed_only extra assumptions p (from_list_among hyps_total hyps_same (map strip assumptions) (strip p) (among_mapped assumptions p here))
