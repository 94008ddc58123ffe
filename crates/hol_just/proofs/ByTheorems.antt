-- Justifications by theorems, made of others.
use Rattle.std.specs.Prelude.{◌≡◌, IsTrue, ℕ, List, [], ◌∷◌, ◌++◌, codes, refl}
use Rattle.std.proofs.Common.{ap, sym, ◌∙◌, subst}
use Rattle.hol_types.specs.Tree.{TypeTree}
use Rattle.hol_terms.specs.Nameless.{Nameless, free}
use Rattle.hol_terms.specs.Alpha.{strip}
use Rattle.hol_subst.specs.Closing.{open_with}
use Rattle.hol_formulas.specs.Equation.{bool_type, equation}
use Rattle.hol_formulas.specs.Formula.{conjunction, disjunction, existential}
use Rattle.hol_kernel.specs.Given.{Given, given_sequent}
use Rattle.hol_kernel.specs.Sequent.{Hyps}
use Rattle.hol_kernel.specs.Items.{Items}
use Rattle.hol_kernel.specs.Typing.{HasType, has_type}
use Rattle.hol_kernel.proofs.Declared.{has_type_is, has_type_of}
use Rattle.hol_kernel.proofs.HypothesisLists.{hyps_total, hyps_same}
use Rattle.hol_kernel.proofs.Members.{in_insert_old}
use Rattle.hol_kernel.proofs.Sound.{sides_is}
use Rattle.hol_kernel.proofs.WellTyped.{sides_typed, equation_of}
use Rattle.hol_goal.specs.Goal.{GoalValue}
use Rattle.hol_goal.specs.Achieves.{assumed, AreAllowed}
use Rattle.hol_just.specs.Gives.{moved}
use Rattle.hol_just.specs.Replacing.{replace_each}
use Rattle.hol_just.specs.Valid.{IsValid}
use Rattle.hol_just.specs.Justifies.{goal_at, always, holds_given, holds_formula, ClosesByGiven, CutsBy, SplitsByCases, LeavesCases, LeavesConjunctionRight, LeavesConjunctionLeft, ClosesByLeft, ClosesByRight, LeavesConjuncts, TurnsEquation, SplitsByEquation, LeavesReplaced, SplitsByExistence, LeavesChosen}
use Rattle.hol_just.specs.declared.reason.Move.{Move}
use Rattle.hol_just.proofs.Allowed.{allowed_more}
use Rattle.hol_match.proofs.Formulas.{IsFormula}
use Rattle.hol_just.proofs.Typings.{operands_typed}
use Rattle.hol_just.proofs.Validity.{valid_at, valid_under}

-- the first goal that is left is closed by the theorem
module _ (th : Given) (formula : IsFormula th) (closes : List Move) (c : ClosesByGiven th closes) where
  closed_first :
      (extra : Hyps) (assumptions : List Nameless) (p : Nameless) (splits : List Move) (before : GoalValue) (rest : List GoalValue) → (given_sequent th).concl ≡ p →
      AreAllowed extra assumptions (given_sequent th).hyps → IsValid (holds_formula p) extra splits (before ∷ []) (goal_at assumptions p ∷ rest) →
      IsValid (holds_given th) extra (splits ++ moved 0 closes) (before ∷ []) rest
  closed_first extra assumptions p splits before rest is allowed s =
      valid_at (holds_given th) extra splits closes (before ∷ []) [] (goal_at assumptions p ∷ []) [] rest 0 refl
      (valid_under (holds_formula p) (holds_given th) extra splits (before ∷ []) (goal_at assumptions p ∷ rest)
      (λ basis suit. ap (λ n. has_type basis n bool_type) (sym is) ∙ has_type_of basis (given_sequent th).concl bool_type (formula basis suit)) s)
      (c extra (goal_at assumptions p) (ap strip is) allowed)

  pub leaves_cases : (splits all : List Move) → SplitsByCases splits → all ≡ splits ++ moved 0 closes → LeavesCases th all
  leaves_cases splits all s is =
      subst (LeavesCases th) (sym is)
      (λ extra assumptions p q r concl allowed.
      closed_first extra assumptions (disjunction p q) splits (goal_at assumptions r) (goal_at (p ∷ assumptions) r ∷ goal_at (q ∷ assumptions) r ∷ []) concl allowed (s extra assumptions p q r))

  pub leaves_chosen : (v : List ℕ × TypeTree) (splits all : List Move) → SplitsByExistence v splits → all ≡ splits ++ moved 0 closes → LeavesChosen v th all
  leaves_chosen v splits all s is =
      subst (LeavesChosen v th) (sym is)
      (λ extra assumptions x q concl same new absent allowed.
      closed_first extra assumptions (existential x) splits (goal_at assumptions q) (goal_at (open_with (free v) 0 x.body ∷ assumptions) q ∷ []) concl allowed (s extra assumptions x q same new absent))

  pub leaves_replaced :
      (v : List ℕ × TypeTree) (m : Nameless) (splits turns all : List Move) → SplitsByEquation v m splits → TurnsEquation turns → all ≡ (splits ++ moved 0 turns) ++ moved 0 closes → LeavesReplaced v m th all
  leaves_replaced v m splits turns all s t is =
      subst (LeavesReplaced v m th) (sym is)
      (λ extra assumptions e p sides of_type template absent allowed.
      let there = equation v.1 e.left e.right in
      let back = equation v.1 e.right e.left in
      let left = goal_at assumptions (replace_each e.left e.right p) in
      closed_first extra assumptions there (splits ++ moved 0 turns) (goal_at assumptions p) (left ∷ [])
      (sides_is (given_sequent th).concl e sides ∙ ap (λ a. equation a e.left e.right) (sym of_type)) allowed
      (valid_at (holds_formula there) extra splits turns (goal_at assumptions p ∷ []) [] (goal_at assumptions back ∷ []) (goal_at assumptions there ∷ []) (left ∷ []) 0 refl
      (valid_under (holds_formula back) (holds_formula there) extra splits (goal_at assumptions p ∷ []) (goal_at assumptions back ∷ left ∷ [])
      (λ basis suit.
      let typed = sides_typed basis v.1 bool_type e.left e.right (has_type_is basis there bool_type suit) in
      has_type_of basis back bool_type (equation_of basis v.1 e.right e.left typed.1 typed.0))
      (s extra assumptions e.left e.right p template absent))
      (valid_under always (holds_formula there) extra turns (goal_at assumptions back ∷ []) (goal_at assumptions there ∷ []) (λ basis suit. refl) (t extra assumptions v.1 e.right e.left))))

  -- ---- conjunctions

  operand : (extra : Hyps) (assumptions : List Nameless) (p q r : Nameless) (splits : List Move) → IsValid (holds_formula q) extra splits (goal_at assumptions r ∷ []) (goal_at assumptions (conjunction p q) ∷ []) → IsValid (holds_formula (conjunction p q)) extra splits (goal_at assumptions r ∷ []) (goal_at assumptions (conjunction p q) ∷ [])
  operand extra assumptions p q r splits s =
      valid_under (holds_formula q) (holds_formula (conjunction p q)) extra splits (goal_at assumptions r ∷ []) (goal_at assumptions (conjunction p q) ∷ [])
      (λ basis suit. has_type_of basis q bool_type (operands_typed basis (codes "/\\") p q bool_type (has_type_is basis (conjunction p q) bool_type suit)).1) s

  pub closes_by_left : (splits all : List Move) → LeavesConjunctionRight splits → all ≡ splits ++ moved 0 closes → ClosesByLeft th all
  closes_by_left splits all s is =
      subst (ClosesByLeft th) (sym is)
      (λ extra assumptions p q concl allowed.
      closed_first extra assumptions (conjunction p q) splits (goal_at assumptions p) [] concl allowed (operand extra assumptions p q p splits (s extra assumptions p q)))

  pub closes_by_right : (splits all : List Move) → LeavesConjunctionLeft splits → all ≡ splits ++ moved 0 closes → ClosesByRight th all
  closes_by_right splits all s is =
      subst (ClosesByRight th) (sym is)
      (λ extra assumptions p q concl allowed.
      closed_first extra assumptions (conjunction p q) splits (goal_at assumptions q) [] concl allowed
      (valid_under (holds_formula p) (holds_formula (conjunction p q)) extra splits (goal_at assumptions q ∷ []) (goal_at assumptions (conjunction p q) ∷ [])
      (λ basis suit. has_type_of basis p bool_type (operands_typed basis (codes "/\\") p q bool_type (has_type_is basis (conjunction p q) bool_type suit)).0)
      (s extra assumptions p q)))

module _ (th : Given) (formula : IsFormula th) where
  allowed_with : (extra : Hyps) (assumptions : List Nameless) (p : Nameless) → AreAllowed extra assumptions (given_sequent th).hyps → AreAllowed extra (p ∷ assumptions) (given_sequent th).hyps
  allowed_with extra assumptions p allowed =
      allowed_more extra assumptions (p ∷ assumptions) (given_sequent th).hyps (λ r h. in_insert_old hyps_total hyps_same (assumed assumptions) (strip p) r h) allowed

  pub leaves_conjuncts :
      (cuts again left right all : List Move) → CutsBy cuts → CutsBy again → ClosesByLeft th left → ClosesByRight th right → all ≡ ((cuts ++ moved 0 left) ++ moved 0 again) ++ moved 0 right →
      LeavesConjuncts th all
  leaves_conjuncts cuts again left right all k a l r is =
      subst (LeavesConjuncts th) (sym is)
      (λ extra assumptions p q w concl allowed.
      let first = goal_at (p ∷ assumptions) w in
      let second = goal_at (q ∷ p ∷ assumptions) w in
      valid_at (holds_given th) extra ((cuts ++ moved 0 left) ++ moved 0 again) right (goal_at assumptions w ∷ []) [] (goal_at (p ∷ assumptions) q ∷ []) [] (second ∷ []) 0 refl
      (valid_at (holds_given th) extra (cuts ++ moved 0 left) again (goal_at assumptions w ∷ []) [] (first ∷ []) (goal_at (p ∷ assumptions) q ∷ second ∷ []) [] 0 refl
      (valid_at (holds_given th) extra cuts left (goal_at assumptions w ∷ []) [] (goal_at assumptions p ∷ []) [] (first ∷ []) 0 refl
      (valid_under (holds_formula p) (holds_given th) extra cuts (goal_at assumptions w ∷ []) (goal_at assumptions p ∷ first ∷ []) (λ basis suit. has_type_of basis p bool_type (parts p q concl basis suit).0)
      (k extra assumptions p w))
      (l extra assumptions p q concl allowed))
      (valid_under (holds_formula q) (holds_given th) extra again (first ∷ []) (goal_at (p ∷ assumptions) q ∷ second ∷ []) (λ basis suit. has_type_of basis q bool_type (parts p q concl basis suit).1)
      (a extra (p ∷ assumptions) q w)))
      (r extra (p ∷ assumptions) p q concl (allowed_with extra assumptions p allowed)))
    where
      parts : (p q : Nameless) → (given_sequent th).concl ≡ conjunction p q → (basis : Items) → IsTrue (holds_given th basis) → HasType basis p bool_type × HasType basis q bool_type
      parts p q concl basis suit = operands_typed basis (codes "/\\") p q bool_type (subst (λ n. HasType basis n bool_type) concl (formula basis suit))
