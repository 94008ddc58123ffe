-- The justification of MATCH_MP_TAC: of an implication from `?vs. p`, the conclusion is proved with p at new variables assumed.
use Rattle.std.specs.Prelude.{◌≡◌, ℕ, ◌+◌, Bool, true, false, cond, ◌||◌, List, [], ◌∷◌, ◌++◌, codes, refl}
use Rattle.std.proofs.Common.{ap, sym, ◌∙◌, subst}
use Rattle.std.proofs.lemmas.Bool.{or_left, or_right, or_parts}
use Rattle.hol_types.specs.Tree.{TypeTree}
use Rattle.hol_types.specs.Equal.{variable_eq}
use Rattle.hol_terms.specs.Named.{Named}
use Rattle.hol_terms.specs.Nameless.{Nameless, free, bound, fixed, app, lam, nameless, free_occurrences}
use Rattle.hol_terms.specs.Alpha.{strip}
use Rattle.hol_terms.specs.Scoped.{binds}
use Rattle.hol_terms.proofs.Occurs.{binds_append}
use Rattle.hol_terms.proofs.Same.{variable_eq_decides}
use Rattle.hol_subst.specs.Closing.{close, bind}
use Rattle.hol_subst.proofs.Closing.{eq_same, close_binds, open_close, nameless_abs}
use Rattle.hol_subst.proofs.HypothesisLists.{hyps_total, hyps_same}
use Rattle.hol_formulas.specs.Equation.{bool_type}
use Rattle.hol_formulas.specs.Formula.{quantifier_type, implication}
use Rattle.hol_formulas.specs.Making.{mk_exists}
use Rattle.hol_kernel.specs.Sequent.{Hyps}
use Rattle.hol_kernel.specs.Given.{Given, assumed, given_sequent}
use Rattle.hol_kernel.proofs.Declared.{has_type_of}
use Rattle.hol_kernel.proofs.Members.{in_insert_here, in_insert_old}
use Rattle.hol_derived.specs.Rules.{over_variable}
use Rattle.hol_goal.specs.Goal.{GoalValue}
use Rattle.hol_goal.specs.Achieves as achieves
use Rattle.hol_just.specs.MatchMp.{existentials}
use Rattle.hol_just.specs.Gives.{moved}
use Rattle.hol_just.specs.Valid.{IsValid}
use Rattle.hol_just.specs.Justifies.{goal_at, always, holds_given, AreNew, LeavesChosen, LeavesConsequent, LeavesImplication, SplitsByImplication, ClosesByInstance, ClosesByPremise, LeavesPremise}
use Rattle.hol_just.specs.declared.reason.Move.{Move}
use Rattle.hol_just.proofs.Allowed.{allowed_only, allowed_more}
use Rattle.hol_just.proofs.Validity.{valid_at, valid_under}

-- ---- variables that are bound are not free

pub closed_keeps : (v u : List ℕ × TypeTree) (k : ℕ) (n : Nameless) → binds (free_occurrences n) u ≡ false → binds (free_occurrences (close v k n)) u ≡ false
closed_keeps v u k (free w) h = by (variable_eq v w)
  where
    by : (b : Bool) → binds (free_occurrences (cond b (bound k) (free w))) u ≡ false
    by true = refl
    by false = h
closed_keeps v u k (bound i) h = refl
closed_keeps v u k (fixed c s) h = refl
closed_keeps v u k (app f x) h =
    let parts = or_parts (binds (free_occurrences f) u) (binds (free_occurrences x) u) (sym (binds_append (free_occurrences f) (free_occurrences x) u) ∙ h) in
    binds_append (free_occurrences (close v k f)) (free_occurrences (close v k x)) u ∙ (λ i. closed_keeps v u k f parts.0 i || closed_keeps v u k x parts.1 i)
closed_keeps v u k (lam a s b) h = closed_keeps v u (k + 1) b h

bound_apart : (vs : List (List ℕ × TypeTree)) (p : Nameless) (u : List ℕ × TypeTree) → binds vs u ≡ true → binds (free_occurrences (existentials vs p)) u ≡ false
bound_apart [] p u h = absurd (cc)
bound_apart (v ∷ vs) p u h = by (variable_eq v u) refl h (bound_apart vs p u)
  where
    by :
        (b : Bool) → variable_eq v u ≡ b → (b || binds vs u) ≡ true → (binds vs u ≡ true → binds (free_occurrences (existentials vs p)) u ≡ false) →
        binds (free_occurrences (close v 0 (existentials vs p))) u ≡ false
    by true e g r = subst (λ (z : List ℕ × TypeTree). binds (free_occurrences (close v 0 (existentials vs p))) z ≡ false) ((variable_eq_decides v u).0 e) (close_binds v 0 (existentials vs p))
    by false e g r = closed_keeps v u 0 (existentials vs p) (r g)

-- what is new stays so where one of the formulas is assumed
still_new :
    (extra : Hyps) (assumptions : List Nameless) (p w : Nameless) (v : List ℕ × TypeTree) (vs : List (List ℕ × TypeTree)) → AreNew extra assumptions w (v ∷ vs) →
    AreNew extra (existentials (v ∷ vs) p ∷ assumptions) w (v ∷ vs)
still_new extra assumptions p w v vs new u h =
    let n = new u h in
    record { of_extra = n.of_extra; of_assumptions = λ i. bound_apart (v ∷ vs) p u h i || n.of_assumptions i; of_conclusion = n.of_conclusion }

-- the formula that the program makes of the variable
pub exists_made : (v : List ℕ × TypeTree) (p : Named) (vs : List (List ℕ × TypeTree)) (q : Nameless) → nameless [] p ≡ existentials vs q → nameless [] (mk_exists v p) ≡ existentials (v ∷ vs) q
exists_made v p vs q e = ap (app (fixed (codes "?") (quantifier_type v.1))) (nameless_abs v p ∙ ap (bind v) e)

-- ---- moves

module _ (extra : Hyps) (assumptions : List Nameless) where
  -- what is assumed is a formula
  by_assumed :
      (th : Given) (q w : Nameless) (moves : List Move) (after : List GoalValue) → IsValid (holds_given (assumed q)) extra moves (goal_at (q ∷ assumptions) w ∷ []) after →
      IsValid (holds_given th) extra moves (goal_at (q ∷ assumptions) w ∷ []) after
  by_assumed th q w moves after valid basis suit typed = valid basis (has_type_of basis q bool_type typed.0.assumptions.0) typed

  own_allowed : (q : Nameless) → achieves.AreAllowed extra (q ∷ assumptions) (given_sequent (assumed q)).hyps
  own_allowed q = allowed_only extra (q ∷ assumptions) q (in_insert_here hyps_total hyps_same (achieves.assumed assumptions) (strip q))

  still_allowed : (q : Nameless) (hs : Hyps) → achieves.AreAllowed extra assumptions hs → achieves.AreAllowed extra (q ∷ assumptions) hs
  still_allowed q hs allowed = allowed_more extra assumptions (q ∷ assumptions) hs (λ r h. in_insert_old hyps_total hyps_same (achieves.assumed assumptions) (strip q) r h) allowed

module _ (th : Given) (own : List (List ℕ × TypeTree)) (p w : Nameless) where
  -- with p assumed
  pub closes_last :
      (using closing all : List Move) → LeavesImplication (assumed p) using → ClosesByInstance th own (implication p w) closing → all ≡ using ++ moved 0 closing → ClosesByPremise th own [] p w all
  closes_last using closing all leaves closes is =
      subst (ClosesByPremise th own [] p w) (sym is)
      (λ extra assumptions b under found new allowed.
      valid_at (holds_given th) extra using closing (goal_at (p ∷ assumptions) w ∷ []) [] (goal_at (p ∷ assumptions) (implication p w) ∷ []) [] [] 0 refl
      (by_assumed extra assumptions th p w using (goal_at (p ∷ assumptions) (implication p w) ∷ []) (leaves extra (p ∷ assumptions) w (own_allowed extra assumptions p)))
      (closes extra (p ∷ assumptions) b under found (still_allowed extra assumptions p (given_sequent th).hyps allowed)))

  -- with `?v. q` assumed, where q is what is assumed next
  pub closes_next :
      (v : List ℕ × TypeTree) (vs : List (List ℕ × TypeTree)) (choosing rest all : List Move) → LeavesChosen v (assumed (existentials (v ∷ vs) p)) choosing → ClosesByPremise th own vs p w rest →
      all ≡ choosing ++ moved 0 rest → ClosesByPremise th own (v ∷ vs) p w all
  closes_next v vs choosing rest all leaves closes is =
      subst (ClosesByPremise th own (v ∷ vs) p w) (sym is)
      (λ extra assumptions b under found new allowed.
      let q = existentials vs p in
      let e = existentials (v ∷ vs) p in
      let newer = still_new extra assumptions p w v vs new in
      valid_at (holds_given th) extra choosing rest (goal_at (e ∷ assumptions) w ∷ []) [] (goal_at (q ∷ e ∷ assumptions) w ∷ []) [] [] 0 refl
      (by_assumed extra assumptions th e w choosing (goal_at (q ∷ e ∷ assumptions) w ∷ [])
      (subst (λ (n : Nameless). IsValid (holds_given (assumed e)) extra choosing (goal_at (e ∷ assumptions) w ∷ []) (goal_at (n ∷ e ∷ assumptions) w ∷ [])) (open_close v 0 q)
      (leaves extra (e ∷ assumptions) (over_variable v q) w refl refl (newer v (or_left (variable_eq v v) (binds vs v) (eq_same v))) (close_binds v 0 q) (own_allowed extra assumptions e))))
      (closes extra (e ∷ assumptions) b under found (λ u h. newer u (or_right (variable_eq v u) (binds vs u) h)) (still_allowed extra assumptions e (given_sequent th).hyps allowed)))

  -- `?vs. p` is left, and assumed
  pub leaves_premise :
      (vs : List (List ℕ × TypeTree)) (splits assuming chosen all : List Move) → SplitsByImplication splits → LeavesConsequent (existentials vs p) assuming → ClosesByPremise th own vs p w chosen →
      all ≡ (splits ++ moved 0 assuming) ++ moved 0 chosen → LeavesPremise th own vs p w all
  leaves_premise vs splits assuming chosen all s d c is =
      subst (LeavesPremise th own vs p w) (sym is)
      (λ extra assumptions b under found formula new allowed.
      let e = existentials vs p in
      let before = goal_at assumptions w in
      let left = goal_at assumptions e in
      let inner = goal_at (e ∷ assumptions) w in
      valid_at (holds_given th) extra (splits ++ moved 0 assuming) chosen (before ∷ []) [] (inner ∷ []) [] (left ∷ []) 0 refl
      (valid_at (holds_given th) extra splits assuming (before ∷ []) [] (goal_at assumptions (implication e w) ∷ []) (inner ∷ []) (left ∷ []) 0 refl
      (λ basis suit typed. s extra assumptions e w basis (has_type_of basis e bool_type (formula basis suit typed.0.conclusion)) typed)
      (valid_under always (holds_given th) extra assuming (goal_at assumptions (implication e w) ∷ []) (inner ∷ []) (λ basis suit. refl) (d extra assumptions w)))
      (c extra assumptions b under found new allowed))
