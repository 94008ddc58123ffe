-- What rules on theorems over one basis come to, as what they make of sequents.
use Rattle.std.specs.Prelude.{◌≡◌, ℕ, [], Bool, true, false, cond, is_some, IsTrue, List, Option, Some, None, Result, Ok, Err, refl}
use Rattle.std.proofs.Common.{ap, sym, ◌∙◌, subst}
use Rattle.std.specs.Option.{option_map, option_and_then}
use Rattle.hol_types.specs.Tree.{TypeTree}
use Rattle.hol_terms.specs.Nameless.{Nameless, nameless_type}
use Rattle.hol_subst.specs.Closing.{open_with}
use Rattle.hol_formulas.specs.Equation.{bool_type}
use Rattle.hol_formulas.specs.Formula.{dest_forall}
use Rattle.hol_kernel.specs.Items.{Items}
use Rattle.hol_kernel.specs.Rules.{refl_of, assume_of, inst_type_of, reflexive}
use Rattle.hol_kernel.specs.Sequent.{only_hyp, Sequent, sequent_of}
use Rattle.hol_kernel.specs.Theorem.{Theorem, theorem_on, over}
use Rattle.hol_kernel.specs.Typing.{is_known, is_type_at, type_over, is_typed, are_types_for}
use Rattle.hol_bool.specs.Rules.{spec_of}
use Rattle.hol_resolve.specs.declared.forward_rule.ForwardRule.{ForwardRule}
use Rattle.hol_resolve.specs.declared.forward_rule.ForwardRule.TheVariants as rule
use Rattle.hol_resolve.specs.declared.refusal.Refusal.{Refusal}
use Rattle.hol_resolve.specs.declared.refusal.Refusal.TheVariants as refusal
use Rattle.hol_notation_tactics.specs.Text.{TypePairText}
use Rattle.hol_resolve.specs.Readings.{ReadingsValue}
use Rattle.hol_resolve.specs.Over.{AreOver}
use Rattle.hol_resolve.specs.Forward.{assumed, reflected, specialized, pairs_at, instantiated, small, given_by, then_by, then_by_both}
use Rattle.hol_resolve.specs.Steps.{placed, IsPlaced, then_step, then_step_both, IsTermOver}
use Rattle.hol_resolve.proofs.Over.{pairs_over}

-- ---- what a rule gave, or that it does not apply

pub gave : (by : ForwardRule) (basis : Items) (o : Option Sequent) (given : Theorem) (r : Result Theorem Refusal) → over basis o ≡ Some given → r ≡ placed given.basis (small given.sequent) → r ≡ placed basis (given_by by o)
gave by basis None given r e h = absurd (cc)
gave by basis (Some s) given r e h = let same : theorem_on basis s ≡ given = cc in h ∙ (λ i. placed (sym same i).basis (small (sym same i).sequent))

pub bad : (by : ForwardRule) (basis : Items) (o : Option Sequent) → over basis o ≡ None → Err (refusal.BadRule by) ≡ placed basis (given_by by o)
bad by basis None e = refl
bad by basis (Some s) e = absurd (cc)

-- ---- rules on terms that are well typed over the basis

of_known : (known : Bool) (o : Option TypeTree) → IsTrue (is_some (cond known o None)) → cond known o None ≡ o
of_known true o h = refl
of_known false o h = absurd (cc)

typed_type : (basis : Items) (t : Nameless) → IsTrue (is_typed basis t) → type_over basis t ≡ nameless_type [] t
typed_type basis t h = of_known (is_known basis t) (nameless_type [] t) h

assume_same : (basis : Items) (p : Nameless) → IsTrue (is_typed basis p) → assume_of basis p ≡ assumed p
assume_same basis p h = λ i. cond (is_type_at (typed_type basis p h i) bool_type) (Some (sequent_of (only_hyp p) p)) None

refl_same : (basis : Items) (t : Nameless) → IsTrue (is_typed basis t) → refl_of basis t ≡ reflected t
refl_same basis t h = λ i. option_map (reflexive t) (typed_type basis t h i)

spec_same : (basis : Items) (t : Nameless) (a : Sequent) → IsTrue (is_typed basis t) → spec_of basis t a ≡ specialized a t
spec_same basis t a h = λ i. option_and_then (λ x. cond (is_type_at (typed_type basis t h i) x.domain) (Some (sequent_of a.hyps (open_with t 0 x.body))) None) (dest_forall a.concl)

inst_same : (basis : Items) (pairs : List (TypeTree × List ℕ)) (a : Sequent) → IsTrue (are_types_for basis pairs) → inst_type_of basis pairs a ≡ Some (instantiated a pairs)
inst_same basis pairs a h = λ i. cond (h i) (Some (instantiated a pairs)) None

module _ (basis : Items) (p : Nameless) where
  pub assume_gave : (given : Theorem) (r : Result Theorem Refusal) → IsTrue (is_typed basis p) → over basis (assume_of basis p) ≡ Some given → r ≡ placed given.basis (small given.sequent) → r ≡ placed basis (given_by rule.Assume (assumed p))
  assume_gave given r h e s = gave rule.Assume basis (assumed p) given r (ap (over basis) (sym (assume_same basis p h)) ∙ e) s

  pub assume_bad : IsTrue (is_typed basis p) → over basis (assume_of basis p) ≡ None → Err (refusal.BadRule rule.Assume) ≡ placed basis (given_by rule.Assume (assumed p))
  assume_bad h e = bad rule.Assume basis (assumed p) (ap (over basis) (sym (assume_same basis p h)) ∙ e)

  pub refl_gave : (given : Theorem) (r : Result Theorem Refusal) → IsTrue (is_typed basis p) → over basis (refl_of basis p) ≡ Some given → r ≡ placed given.basis (small given.sequent) → r ≡ placed basis (given_by rule.Refl (reflected p))
  refl_gave given r h e s = gave rule.Refl basis (reflected p) given r (ap (over basis) (sym (refl_same basis p h)) ∙ e) s

  pub refl_bad : IsTrue (is_typed basis p) → over basis (refl_of basis p) ≡ None → Err (refusal.BadRule rule.Refl) ≡ placed basis (given_by rule.Refl (reflected p))
  refl_bad h e = bad rule.Refl basis (reflected p) (ap (over basis) (sym (refl_same basis p h)) ∙ e)

-- ---- rules on theorems

module _ (by : ForwardRule) (f : Sequent → Option Sequent) (part : Result Theorem Refusal) (th : Theorem) where
  pub step_gave : (given : Theorem) (r : Result Theorem Refusal) → part ≡ Ok th → over th.basis (f th.sequent) ≡ Some given → r ≡ placed given.basis (small given.sequent) → r ≡ then_step by f part
  step_gave given r is e s = gave by th.basis (f th.sequent) given r e s ∙ ap (then_step by f) (sym is)

  pub step_bad : part ≡ Ok th → over th.basis (f th.sequent) ≡ None → Err (refusal.BadRule by) ≡ then_step by f part
  step_bad is e = bad by th.basis (f th.sequent) e ∙ ap (then_step by f) (sym is)

module _ (by : ForwardRule) (f : Sequent → Sequent → Option Sequent) (first second : Result Theorem Refusal) (a b : Theorem) where
  pub both_gave : (given : Theorem) (r : Result Theorem Refusal) → first ≡ Ok a → second ≡ Ok b → a.basis ≡ b.basis → over a.basis (f a.sequent b.sequent) ≡ Some given → r ≡ placed given.basis (small given.sequent) → r ≡ then_step_both by f first second
  both_gave given r is is' same e s =
      gave by a.basis (f a.sequent b.sequent) given r e s ∙ (λ i. placed (same i) (given_by by (f a.sequent b.sequent))) ∙ (λ i. then_step_both by f (sym is i) (sym is' i))

  pub both_bad : first ≡ Ok a → second ≡ Ok b → a.basis ≡ b.basis → over a.basis (f a.sequent b.sequent) ≡ None → Err (refusal.BadRule by) ≡ then_step_both by f first second
  both_bad is is' same e =
      bad by a.basis (f a.sequent b.sequent) e ∙ (λ i. placed (same i) (given_by by (f a.sequent b.sequent))) ∙ (λ i. then_step_both by f (sym is i) (sym is' i))

-- ---- theorems over one basis

pub placed_is : (basis : Items) (v : Result Sequent Refusal) (r : Result Theorem Refusal) → r ≡ placed basis v → IsPlaced basis r
placed_is basis v r e = subst (IsPlaced basis) (sym e) (by v)
  where
    by : (v : Result Sequent Refusal) → IsPlaced basis (placed basis v)
    by (Ok s) = refl
    by (Err x) = tt

-- the same over the items under another name
pub placed_over_these : (basis own : Items) (r : Result Theorem Refusal) → IsPlaced basis r → own ≡ basis → IsPlaced own r
placed_over_these basis own r h same = subst (λ (b : Items). IsPlaced b r) (sym same) h

pub placed_step : (by : ForwardRule) (f : Sequent → Option Sequent) (basis : Items) (v : Result Sequent Refusal) (part r : Result Theorem Refusal) → part ≡ placed basis v → r ≡ then_step by f part → r ≡ placed basis (then_by by f v)
placed_step by f basis v part r e h = h ∙ ap (then_step by f) e ∙ same v
  where
    same : (v : Result Sequent Refusal) → then_step by f (placed basis v) ≡ placed basis (then_by by f v)
    same (Ok s) = refl
    same (Err x) = refl

pub placed_both : (by : ForwardRule) (f : Sequent → Sequent → Option Sequent) (basis : Items) (v w : Result Sequent Refusal) (first second r : Result Theorem Refusal) →
    first ≡ placed basis v → second ≡ placed basis w → r ≡ then_step_both by f first second → r ≡ placed basis (then_by_both by f v w)
placed_both by f basis v w first second r e d h = h ∙ (λ i. then_step_both by f (e i) (d i)) ∙ same v w
  where
    same : (v w : Result Sequent Refusal) → then_step_both by f (placed basis v) (placed basis w) ≡ placed basis (then_by_both by f v w)
    same (Ok s) (Ok t) = refl
    same (Ok s) (Err y) = refl
    same (Err x) w = refl

-- ---- SPEC and INST_TYPE, of what is over the basis

module _ (basis : Items) (o : Option Nameless) (t : Nameless) (part : Result Theorem Refusal) (th : Theorem) where
  at_term : o ≡ Some t → th.basis ≡ basis → IsTermOver basis o → spec_of th.basis t th.sequent ≡ option_and_then (specialized th.sequent) o
  at_term is same h = spec_same th.basis t th.sequent (subst (λ (b : Items). IsTrue (is_typed b t)) (sym same) (subst (IsTermOver basis) is h)) ∙ ap (option_and_then (specialized th.sequent)) (sym is)

  pub spec_gave : (given : Theorem) (r : Result Theorem Refusal) → o ≡ Some t → part ≡ Ok th → th.basis ≡ basis → IsTermOver basis o → over th.basis (spec_of th.basis t th.sequent) ≡ Some given → r ≡ placed given.basis (small given.sequent) →
      r ≡ then_step rule.Spec (λ a. option_and_then (specialized a) o) part
  spec_gave given r is by same h e s = step_gave rule.Spec (λ a. option_and_then (specialized a) o) part th given r by (ap (over th.basis) (sym (at_term is same h)) ∙ e) s

  pub spec_bad : o ≡ Some t → part ≡ Ok th → th.basis ≡ basis → IsTermOver basis o → over th.basis (spec_of th.basis t th.sequent) ≡ None → Err (refusal.BadRule rule.Spec) ≡ then_step rule.Spec (λ a. option_and_then (specialized a) o) part
  spec_bad is by same h e = step_bad rule.Spec (λ a. option_and_then (specialized a) o) part th by (ap (over th.basis) (sym (at_term is same h)) ∙ e)

module _ (basis : Items) (readings : ReadingsValue) (pairs : List TypePairText) (list : List (TypeTree × List ℕ)) (part : Result Theorem Refusal) (th : Theorem) where
  at_types : pairs_at readings pairs ≡ Some list → th.basis ≡ basis → AreOver basis readings → inst_type_of th.basis list th.sequent ≡ option_map (instantiated th.sequent) (pairs_at readings pairs)
  at_types is same h =
      inst_same th.basis list th.sequent (subst (λ (b : Items). IsTrue (are_types_for b list)) (sym same) (pairs_over basis readings pairs list h is)) ∙ ap (option_map (instantiated th.sequent)) (sym is)

  pub types_gave : (r : Result Theorem Refusal) → Some list ≡ pairs_at readings pairs → part ≡ Ok th → IsPlaced basis part → AreOver basis readings → r ≡ placed th.basis (given_by rule.InstType (inst_type_of th.basis list th.sequent)) →
      r ≡ then_step rule.InstType (λ a. option_map (instantiated a) (pairs_at readings pairs)) part
  types_gave r is by same h e = e ∙ ap (λ o. placed th.basis (given_by rule.InstType o)) (at_types (sym is) (subst (IsPlaced basis) by same) h) ∙ ap (then_step rule.InstType (λ a. option_map (instantiated a) (pairs_at readings pairs))) (sym by)

pub no_types : (readings : ReadingsValue) (pairs : List TypePairText) (part : Result Theorem Refusal) (th : Theorem) (r : Result Theorem Refusal) → None ≡ pairs_at readings pairs → part ≡ Ok th → r ≡ Err (refusal.BadRule rule.InstType) →
    r ≡ then_step rule.InstType (λ a. option_map (instantiated a) (pairs_at readings pairs)) part
no_types readings pairs part th r is by e = e ∙ (λ i. then_step rule.InstType (λ a. option_map (instantiated a) (is i)) (sym by i))
