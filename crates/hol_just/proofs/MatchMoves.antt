-- The justification by an instance of what stands under a theorem's outer quantifiers.
use Rattle.std.specs.Prelude.{◌≡◌, true, cond, List, [], Option, Some, None, refl}
use Rattle.std.specs.Option.{option_map, option_and_then}
use Rattle.std.specs.FinSet as set
use Rattle.std.proofs.Common.{ap, ◌∙◌, subst}
use Rattle.std.proofs.lemmas.Bool.{and_from}
use Rattle.hol_terms.specs.Named.{Named}
use Rattle.hol_terms.specs.Nameless.{Nameless, nameless}
use Rattle.hol_terms.specs.Alpha.{strip}
use Rattle.hol_formulas.specs.Equation.{bool_type}
use Rattle.hol_kernel.specs.Items.{Items}
use Rattle.hol_kernel.specs.Sequent.{Hyps, sequent_of}
use Rattle.hol_kernel.specs.Given.{Given, given_sequent}
use Rattle.hol_kernel.specs.Typing.{has_type, HasType}
use Rattle.hol_kernel.proofs.Declared.{has_type_of}
use Rattle.hol_match.specs.Instance.{InstanceValue, instantiated}
use Rattle.hol_match.specs.Fixed.{fixed_names, fixed_variables, stays_of}
use Rattle.hol_match.specs.Matches.{IsMatch}
use Rattle.hol_match.specs.Matching.{matched}
use Rattle.hol_match.specs.Patterns.{is_apart}
use Rattle.hol_match.proofs.MatchLaws.{Tells, Makes, matched_tells}
use Rattle.hol_match.proofs.Holding.{Holds, HoldsIn, matched_holds, holding_says, holding_typed}
use Rattle.hol_match.proofs.Staying.{none_is_missing, own_terms_hold, own_types_hold}
use Rattle.hol_just.specs.Matching.{bound_variables, instance_like, matching}
use Rattle.hol_just.specs.Reasons.{premise_of}
use Rattle.hol_just.specs.Justifies.{goal_at, holds_given, ClosesByInstance}
use Rattle.hol_just.specs.declared.reason.Reason.TheVariants.{Matching}
use Rattle.hol_just.proofs.EquationRules.{holds_premise}
use Rattle.hol_just.proofs.OneMove.{one, one_valid, by_none, answer_by}

-- ---- what stays holds in itself

pub stays_hold : (ns : List Nameless) → Holds (stays_of ns)
stays_hold ns = (own_types_hold [] (fixed_names [] ns), own_terms_hold [] (fixed_variables [] ns))

-- ---- what is found is a match

pub found_makes : (ns : List Nameless) (p t : Nameless) (f : InstanceValue) → matched 0 p (stays_of ns) t ≡ Some f → strip (instantiated f 0 p) ≡ strip t
found_makes ns p t f e =
    let h : Holds f = subst HoldsIn e (matched_holds 0 p (stays_of ns) t (stays_hold ns)) in
    let k : Tells (λ σ. Makes σ 0 p t) (stays_of ns) (Some f) = subst (Tells (λ σ. Makes σ 0 p t) (stays_of ns)) e (matched_tells 0 p (stays_of ns) t) in
    (k.0 f (holding_typed f.types f.terms f.terms h.1) (holding_says f h)).1

-- a sequent has an instance that is t, up to bound names
pub record IsLike (basis : Items) (hs : Hyps) (b t : Nameless) : Type 0 where
  pub instance : InstanceValue
  pub is : instance_like basis t (sequent_of hs b) ≡ Some (sequent_of hs (instantiated instance 0 b))
  pub like : strip (instantiated instance 0 b) ≡ strip t

like_found : (basis : Items) (hs : Hyps) (b t : Nameless) (i : InstanceValue) → HasType basis t bool_type → is_apart (set.items hs) b ≡ true → IsMatch (stays_of (set.items hs)) b t i → IsLike basis hs b t
like_found basis hs b t i typed apart m = by (matched 0 b (stays_of (set.items hs)) t) refl
  where
    by : (o : Option InstanceValue) → matched 0 b (stays_of (set.items hs)) t ≡ o → IsLike basis hs b t
    by None e = absurd (none_is_missing (set.items hs) b t e i m)
    by (Some f) e = record {
      instance = f;
      is =
          ap (λ c. cond c (option_map (λ j. sequent_of hs (instantiated j 0 b)) (matched 0 b (stays_of (set.items hs)) t)) None) (and_from (has_type basis t bool_type) (is_apart (set.items hs) b) (has_type_of basis t bool_type typed) apart)
          ∙ ap (option_map (λ j. sequent_of hs (instantiated j 0 b))) e;
      like = found_makes (set.items hs) b t f e;
    }

-- ---- the justification

pub instance_closes : (th : Given) (formula t : Named) → ClosesByInstance th (bound_variables formula) (nameless [] t) (one (Matching th formula t))
instance_closes th formula t extra assumptions b under found allowed =
    one_valid (holds_given th) extra (Matching th formula t) (goal_at assumptions (nameless [] t)) []
    (λ basis suit typed.
    let hs = (given_sequent th).hyps in
    let vs = bound_variables formula in
    let premise = holds_premise basis th suit in
    let like = like_found basis hs b (nameless [] t) found.0 typed.conclusion under.apart found.1 in
    let rule = option_and_then (matching basis vs (nameless [] t)) (premise_of basis th) in
    record {
      typed = tt;
      fits = premise.1;
      justifies = by_none extra (goal_at assumptions (nameless [] t)) rule
          (answer_by extra rule (sequent_of hs (instantiated like.instance 0 b)) (goal_at assumptions (nameless [] t))
          (ap (option_and_then (matching basis vs (nameless [] t))) premise.0 ∙ ap (option_and_then (instance_like basis (nameless [] t))) (under.gives basis suit).0 ∙ like.is)
          (record { concludes = like.like; allowed = allowed }));
    })
