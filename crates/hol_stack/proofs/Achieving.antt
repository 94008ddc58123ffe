-- Sequents that achieve goals.
use Rattle.std.specs.Prelude.{◌≡◌, ℕ, ◌-◌, List, [], ◌∷◌, ◌++◌, length, drop, take, refl}
use Rattle.std.proofs.Common.{ap, sym, ◌∙◌, subst, arith, suc, inl, inr}
use Rattle.std.proofs.lemmas.List.{take-append-drop, length-drop, length-append, length-map, map-append, drop-map, take-map}
use Rattle.hol_kernel.specs.Sequent.{Hyps, Sequent, no_hyps}
use Rattle.hol_kernel.specs.Theorem.{Theorem}
use Rattle.hol_kernel.proofs.HypothesisLists.{hyps_total, hyps_same}
use Rattle.hol_kernel.proofs.Members.{in_union_cases, not_in_empty, same_members}
use Rattle.hol_goal.specs.Goal.{GoalValue}
use Rattle.hol_goal.specs.Achieves.{Achieves, AreAllowed, assumed}
use Rattle.hol_just.specs.Over.{sequents}
use Rattle.hol_just.specs.Valid.{AchieveAll}

achieve_length : (extra : Hyps) (ss : List Sequent) (gs : List GoalValue) → AchieveAll extra ss gs → length ss ≡ length gs
achieve_length extra [] [] a = refl
achieve_length extra [] (g ∷ gs) a = absurd a
achieve_length extra (s ∷ ss) [] a = absurd a
achieve_length extra (s ∷ ss) (g ∷ gs) a = ap suc (achieve_length extra ss gs a.1)

achieve_first : (extra : Hyps) (ss : List Sequent) (gs hs : List GoalValue) → AchieveAll extra ss (gs ++ hs) → AchieveAll extra (take (length gs) ss) gs
achieve_first extra ss [] hs a = tt
achieve_first extra [] (g ∷ gs) hs a = absurd a
achieve_first extra (s ∷ ss) (g ∷ gs) hs a = (a.0, achieve_first extra ss gs hs a.1)

achieve_rest : (extra : Hyps) (ss : List Sequent) (gs hs : List GoalValue) → AchieveAll extra ss (gs ++ hs) → AchieveAll extra (drop (length gs) ss) hs
achieve_rest extra ss [] hs a = a
achieve_rest extra [] (g ∷ gs) hs a = absurd a
achieve_rest extra (s ∷ ss) (g ∷ gs) hs a = achieve_rest extra ss gs hs a.1

achieve_both : (extra : Hyps) (ss ts : List Sequent) (gs hs : List GoalValue) → AchieveAll extra ss gs → AchieveAll extra ts hs → AchieveAll extra (ss ++ ts) (gs ++ hs)
achieve_both extra [] ts [] hs a b = b
achieve_both extra [] ts (g ∷ gs) hs a b = absurd a
achieve_both extra (s ∷ ss) ts [] hs a b = absurd a
achieve_both extra (s ∷ ss) ts (g ∷ gs) hs a b = (a.0, achieve_both extra ss ts gs hs a.1 b)

-- ---- goals that were turned

turned_length : (n : ℕ) (gs : List GoalValue) → length (drop n gs ++ take n gs) ≡ length gs
turned_length n gs =
    length-append (drop n gs) (take n gs) ∙ omega arith ∙ sym (length-append (take n gs) (drop n gs)) ∙ ap length (take-append-drop n gs)

pub as_many : (extra : Hyps) (n : ℕ) (gs : List GoalValue) (thms : List Theorem) → AchieveAll extra (sequents thms) (drop n gs ++ take n gs) → length thms ≡ length gs
as_many extra n gs thms a = sym (length-map thms (λ th. th.sequent)) ∙ achieve_length extra (sequents thms) (drop n gs ++ take n gs) a ∙ turned_length n gs

pub turned_back :
    (extra : Hyps) (n : ℕ) (gs : List GoalValue) (thms out : List Theorem) → AchieveAll extra (sequents thms) (drop n gs ++ take n gs) →
    out ≡ drop (length thms - n) thms ++ take (length thms - n) thms → AchieveAll extra (sequents out) gs
turned_back extra n gs thms out a is =
    let k : length (drop n gs) ≡ length thms - n = length-drop n gs ∙ ap (λ m. m - n) (sym (as_many extra n gs thms a)) in
    let both =
    achieve_both extra (drop (length (drop n gs)) (sequents thms)) (take (length (drop n gs)) (sequents thms)) (take n gs) (drop n gs)
    (achieve_rest extra (sequents thms) (drop n gs) (take n gs) a)
    (achieve_first extra (sequents thms) (drop n gs) (take n gs) a) in
    let same : sequents out ≡ drop (length (drop n gs)) (sequents thms) ++ take (length (drop n gs)) (sequents thms) =
    ap sequents is
    ∙ map-append _ (drop (length thms - n) thms) (take (length thms - n) thms)
    ∙ (λ i. sym (drop-map (λ th. th.sequent) (length thms - n) thms) i ++ sym (take-map (λ th. th.sequent) (length thms - n) thms) i)
    ∙ ap (λ m. drop m (sequents thms) ++ take m (sequents thms)) (sym k) in
    subst (λ ss. AchieveAll extra ss gs) (sym same) (subst (AchieveAll extra _) (take-append-drop n gs) both)

-- ---- one goal without assumptions

pub no_hypotheses : (s : Sequent) (goal : GoalValue) → goal.assumptions ≡ [] → Achieves no_hyps s goal → s.hyps ≡ no_hyps
no_hypotheses s goal plain a =
    let none : AreAllowed no_hyps [] s.hyps = subst (λ ps. AreAllowed no_hyps ps s.hyps) plain a.allowed in
    same_members hyps_total hyps_same s.hyps no_hyps
    (λ q h. elim (in_union_cases hyps_total hyps_same no_hyps (assumed []) q (none q h)) [ inl i ↦ i | inr i ↦ i ])
    (λ q h. absurd (not_in_empty hyps_total hyps_same q h))
