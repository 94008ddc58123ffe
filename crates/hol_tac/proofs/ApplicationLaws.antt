-- What is left of equations of applications, and that it is justified.
use Rattle.std.specs.Prelude.{◌≡◌, List, [], ◌∷◌, Some}
use Rattle.std.specs.Option.{option_map}
use Rattle.std.proofs.Common.{ap, sym, ◌∙◌, subst}
use Rattle.hol_kernel.proofs.Stands.{some_is}
use Rattle.hol_types.specs.Tree.{TypeTree}
use Rattle.hol_types.specs.Fun.{fun_type}
use Rattle.hol_terms.specs.Named.{Named, named_type}
use Rattle.hol_terms.specs.Nameless.{Nameless, nameless, nameless_type}
use Rattle.hol_terms.specs.Alpha.{strip}
use Rattle.hol_terms.proofs.Typing.{type_outside}
use Rattle.hol_formulas.specs.Equation.{equation}
use Rattle.hol_formulas.proofs.TakingApart.{applied_parts}
use Rattle.hol_kernel.specs.Sequent.{Hyps}
use Rattle.hol_kernel.proofs.Sound.{strip_type}
use Rattle.hol_goal.specs.Goal.{GoalValue}
use Rattle.hol_just.specs.Valid.{IsValid}
use Rattle.hol_just.specs.EquationTacs.{equating, only, both}
use Rattle.hol_just.specs.Leaving.{concluding}
use Rattle.hol_just.specs.Justifies.{goal_at, always, SplitsApplications, LeavesArguments, LeavesFunctions}
use Rattle.hol_just.specs.declared.reason.Move.{Move}
use Rattle.hol_steps.specs.Applications.{AreApplications}

-- ---- types

same_domain : (d e r : TypeTree) → d ≡ e → fun_type d r ≡ fun_type e r
same_domain d e r h = ap (λ t. fun_type t r) h

some_domain : (d e r : TypeTree) → Some (fun_type d r) ≡ Some (fun_type e r) → d ≡ e
some_domain d e r h = cc

-- terms that are equal up to bound names have one type
like_types : (s t : Named) → strip (nameless [] s) ≡ strip (nameless [] t) → named_type s ≡ named_type t
like_types s t h =
    sym (type_outside s) ∙ sym (strip_type [] (nameless [] s)) ∙ ap (nameless_type []) h ∙ strip_type [] (nameless [] t) ∙ type_outside t

-- ---- what is left

some_goals : (goals items : List GoalValue) → Some goals ≡ Some items → items ≡ goals
some_goals goals items h = cc

module _ (goal : GoalValue) (s t : Nameless) (a : TypeTree) (typed : nameless_type [] s ≡ Some a) where
  equated : equating goal s t ≡ Some (concluding goal (equation a s t))
  equated = ap (option_map (λ b. concluding goal (equation b s t))) typed

module _ (goal : GoalValue) (f x g y : Named) (parts : AreApplications goal f x g y) where
  module _ (functions : named_type f ≡ named_type g) where
    pub same_arguments : named_type x ≡ named_type y
    same_arguments =
        let p = applied_parts f x parts.range parts.left in
        let q = applied_parts g y parts.range parts.right in
        p.argument ∙ ap Some (some_domain p.domain q.domain parts.range (sym p.function ∙ functions ∙ q.function)) ∙ sym q.argument

    pub mk_comb_valid :
        (extra : Hyps) (moves : List Move) (items : List GoalValue) → both (equating goal (nameless [] f) (nameless [] g)) (equating goal (nameless [] x) (nameless [] y)) ≡ Some items →
        SplitsApplications moves → IsValid always extra moves (goal ∷ []) items
    mk_comb_valid extra moves items leaves splits =
        let p = applied_parts f x parts.range parts.left in
        let l = type_outside f ∙ p.function in
        let r = type_outside g ∙ sym functions ∙ p.function in
        let first = concluding goal (equation (fun_type p.domain parts.range) (nameless [] f) (nameless [] g)) in
        let second = concluding goal (equation p.domain (nameless [] x) (nameless [] y)) in
        let made : both (equating goal (nameless [] f) (nameless [] g)) (equating goal (nameless [] x) (nameless [] y)) ≡ Some (first ∷ second ∷ []) =
        λ i. both (equated goal (nameless [] f) (nameless [] g) (fun_type p.domain parts.range) l i) (equated goal (nameless [] x) (nameless [] y) p.domain (type_outside x ∙ p.argument) i) in
        subst (λ (gs : List GoalValue). IsValid always extra moves (goal ∷ []) gs) (sym (some_goals (first ∷ second ∷ []) items (sym made ∙ leaves)))
        (subst (λ (w : Nameless). IsValid always extra moves (goal_at goal.assumptions w ∷ []) (first ∷ second ∷ [])) (sym parts.is)
        (splits extra goal.assumptions p.domain parts.range (nameless [] f) (nameless [] g) (nameless [] x) (nameless [] y) l r))

  module _ (like : strip (nameless [] f) ≡ strip (nameless [] g)) where
    pub arguments_of_like : named_type x ≡ named_type y
    arguments_of_like = same_arguments (like_types f g like)

    pub ap_term_valid :
        (extra : Hyps) (moves : List Move) (items : List GoalValue) → only (equating goal (nameless [] x) (nameless [] y)) ≡ Some items → LeavesArguments (nameless [] f) moves →
        IsValid always extra moves (goal ∷ []) items
    ap_term_valid extra moves items leaves arguments =
        let p = applied_parts f x parts.range parts.left in
        let one = concluding goal (equation p.domain (nameless [] x) (nameless [] y)) in
        subst (λ (gs : List GoalValue). IsValid always extra moves (goal ∷ []) gs)
        (sym (some_goals (one ∷ []) items (sym (ap only (equated goal (nameless [] x) (nameless [] y) p.domain (type_outside x ∙ p.argument))) ∙ leaves)))
        (subst (λ (w : Nameless). IsValid always extra moves (goal_at goal.assumptions w ∷ []) (one ∷ [])) (sym parts.is)
        (arguments extra goal.assumptions p.domain parts.range (nameless [] g) (nameless [] x) (nameless [] y) (type_outside f ∙ p.function) like))

  module _ (like : strip (nameless [] x) ≡ strip (nameless [] y)) where
    pub functions_of_like : named_type f ≡ named_type g
    functions_of_like =
        let p = applied_parts f x parts.range parts.left in
        let q = applied_parts g y parts.range parts.right in
        p.function
        ∙ ap Some (same_domain p.domain q.domain parts.range (some_is p.domain q.domain (sym p.argument ∙ like_types x y like ∙ q.argument)))
        ∙ sym q.function

    pub ap_thm_valid :
        (extra : Hyps) (moves : List Move) (items : List GoalValue) → only (equating goal (nameless [] f) (nameless [] g)) ≡ Some items → LeavesFunctions (nameless [] x) moves →
        IsValid always extra moves (goal ∷ []) items
    ap_thm_valid extra moves items leaves functions =
        let p = applied_parts f x parts.range parts.left in
        let l = type_outside f ∙ p.function in
        let one = concluding goal (equation (fun_type p.domain parts.range) (nameless [] f) (nameless [] g)) in
        subst (λ (gs : List GoalValue). IsValid always extra moves (goal ∷ []) gs)
        (sym (some_goals (one ∷ []) items (sym (ap only (equated goal (nameless [] f) (nameless [] g) (fun_type p.domain parts.range) l)) ∙ leaves)))
        (subst (λ (w : Nameless). IsValid always extra moves (goal_at goal.assumptions w ∷ []) (one ∷ [])) (sym parts.is)
        (functions extra goal.assumptions p.domain parts.range (nameless [] f) (nameless [] g) (nameless [] y) l (type_outside g ∙ sym functions_of_like ∙ p.function) like))
