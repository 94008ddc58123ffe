-- The reason by an instance of what stands under a theorem's quantifiers: the calls by which the code goes there.
use Rattle.std.specs.Prelude.{◌≡◌, ℕ, Bool, true, false, cond, ◌&&◌, List, [], ◌∷◌, map, codes, Option, Some, None, IsSome, is_some, refl}
use Rattle.std.specs.Option.{option_map, option_and_then}
use Rattle.std.specs.FinSet as set
use Rattle.std.proofs.Common.{ap, sym, ◌∙◌, subst}
use Rattle.std.proofs.lemmas.Bool.{and_parts}
use Rattle.hol_types.specs.Tree.{TypeTree}
use Rattle.hol_terms.specs.Named.{Named, var, constant, comb, abs}
use Rattle.hol_terms.specs.Nameless.{Nameless, free, app, base_of, nameless}
use Rattle.hol_subst.specs.Hypotheses.{Hyps, hyps_of, hyps_image}
use Rattle.hol_subst.specs.Pairs.{nameless_pairs, HasBadPair}
use Rattle.hol_subst.specs.Substitution.{term_subst, types_inst}
use Rattle.hol_formulas.specs.Equation.{bool_type}
use Rattle.hol_formulas.specs.Formula.{Abstraction, quantifier_type, is_constant, is_forall}
use Rattle.hol_kernel.specs.Given.{Given, given_over}
use Rattle.hol_kernel.specs.Items.{Items}
use Rattle.hol_kernel.specs.Rules.{inst_type_of, inst_of}
use Rattle.hol_kernel.specs.Sequent.{Sequent, sequent_of}
use Rattle.hol_kernel.specs.Theorem.{Theorem, theorem_on, over}
use Rattle.hol_kernel.specs.Typing.{has_type}
use Rattle.hol_kernel.proofs.Declared.{has_type_is}
use Rattle.hol_kernel.proofs.Variables.{known_typed}
use Rattle.hol_derived.specs.Rules.{spec_of}
use Rattle.hol_match.specs.Instance.{InstanceValue, both, instantiated}
use Rattle.hol_match.specs.Fixed.{stays_of}
use Rattle.hol_match.specs.Matches.{Says, IsMostGeneral}
use Rattle.hol_match.specs.Matching.{matched}
use Rattle.hol_match.specs.Patterns.{is_apart}
use Rattle.hol_match.specs.Standing.{TermsStand, Stands}
use Rattle.hol_match.proofs.Standing.{found_stands, types_all}
use Rattle.hol_replay.proofs.Instances.{pairs_over}
use Rattle.hol_just.specs.Inference.{from_none, inferred}
use Rattle.hol_just.specs.Matching.{bound_variables, bound_by, specialized, instance_like, matching}
use Rattle.hol_just.specs.Reasons.{premise_of}
use Rattle.hol_just.specs.Over.{CutValue, Infers}
use Rattle.hol_derived.proofs.Instances.{over_basis}
use Rattle.hol_just.proofs.Expanding.{over_sequent}
use Rattle.hol_just.proofs.MatchAlike.{AreAlike, matched_alike, alike_gives, same_instance}
use Rattle.hol_just.proofs.MatchStays.{stays_alike}
use Rattle.hol_just.proofs.MatchApart.{apart_listed}
use Rattle.hol_just.proofs.MatchFixed.{types_keep, terms_keep, alone}

-- ---- an instance of a sequent

alike_some : (o p : Option InstanceValue) → AreAlike o p → IsSome o → p ≡ None → ⊥
alike_some None p h some e = absurd (cc)
alike_some (Some a) None h some e = absurd h
alike_some (Some a) (Some b) h some e = absurd (cc)

module _ (basis : Items) (a : Sequent) (t : Nameless) (ps : List Named) (is : hyps_of ps ≡ a.hyps) (some : IsSome (over basis (instance_like basis t a))) where
  conditions : ((has_type basis t bool_type && is_apart (set.items a.hyps) a.concl) ≡ true) × IsSome (matched 0 a.concl (stays_of (set.items a.hyps)) t)
  conditions = by (has_type basis t bool_type && is_apart (set.items a.hyps) a.concl) (matched 0 a.concl (stays_of (set.items a.hyps)) t) some
    where
      by : (c : Bool) (o : Option InstanceValue) → IsSome (over basis (cond c (option_map (λ i. sequent_of a.hyps (instantiated i 0 a.concl)) o) None)) → (c ≡ true) × IsSome o
      by true (Some i) h = (refl, refl)
      by true None h = absurd (cc)
      by false o h = absurd (cc)

  tests : (has_type basis t bool_type ≡ true) × (is_apart (set.items a.hyps) a.concl ≡ true)
  tests = and_parts (has_type basis t bool_type) (is_apart (set.items a.hyps) a.concl) conditions.0

  -- its variables are apart beside the hypotheses, as the program lists them
  pub own_apart : is_apart (map (nameless []) ps) a.concl ≡ true
  own_apart = apart_listed a.hyps ps is a.concl tests.1

  alike : AreAlike (matched 0 a.concl (stays_of (set.items a.hyps)) t) (matched 0 a.concl (stays_of (map (nameless []) ps)) t)
  alike = matched_alike [] 0 a.concl (stays_of (set.items a.hyps)) (stays_of (map (nameless []) ps)) t (stays_alike a.hyps ps is)

  -- there is a match beside the hypotheses, as the program lists them
  pub is_found : matched 0 a.concl (stays_of (map (nameless []) ps)) t ≡ None → ⊥
  is_found e = alike_some (matched 0 a.concl (stays_of (set.items a.hyps)) t) (matched 0 a.concl (stays_of (map (nameless []) ps)) t) alike conditions.1 e

  module _ (f : InstanceValue) (found : matched 0 a.concl (stays_of (map (nameless []) ps)) t ≡ Some (both (stays_of (map (nameless []) ps)) f)) (says : Says f (stays_of (map (nameless []) ps))) where
    like_is : instance_like basis t a ≡ Some (sequent_of a.hyps (instantiated f 0 a.concl))
    like_is = (λ i. cond (conditions.0 i) (option_map (λ j. sequent_of a.hyps (instantiated j 0 a.concl)) (matched 0 a.concl (stays_of (set.items a.hyps)) t)) None) ∙ by (matched 0 a.concl (stays_of (set.items a.hyps)) t) alike_found conditions.1
      where
        alike_found : AreAlike (matched 0 a.concl (stays_of (set.items a.hyps)) t) (Some (both (stays_of (map (nameless []) ps)) f))
        alike_found = subst (λ (o : Option InstanceValue). AreAlike (matched 0 a.concl (stays_of (set.items a.hyps)) t) o) found alike

        by :
            (o : Option InstanceValue) → AreAlike o (Some (both (stays_of (map (nameless []) ps)) f)) → IsSome o →
            option_map (λ j. sequent_of a.hyps (instantiated j 0 a.concl)) o ≡ Some (sequent_of a.hyps (instantiated f 0 a.concl))
        by None h k = absurd h
        by (Some g) h k =
            ap (λ n. Some (sequent_of a.hyps n))
            (same_instance g (both (stays_of (map (nameless []) ps)) f) 0 a.concl (alike_gives g (both (stays_of (map (nameless []) ps)) f) h)
            ∙ same_instance (both (stays_of (map (nameless []) ps)) f) f 0 a.concl (alone f (map (nameless []) ps) says))

    stands : Stands basis f
    stands =
        found_stands basis 0 a.concl (stays_of (map (nameless []) ps)) t f (known_typed basis t bool_type (has_type_is basis t bool_type tests.0)).0 found

    types_is : inst_type_of basis f.types a ≡ Some (sequent_of a.hyps (types_inst f.types a.concl))
    types_is =
        ap (λ c. cond c (Some (sequent_of (hyps_image (types_inst f.types) a.hyps) (types_inst f.types a.concl))) None) (types_all basis f.types stands.0)
        ∙ ap (λ (hs : Hyps). Some (sequent_of hs (types_inst f.types a.concl))) (types_keep f a.hyps ps is says)

    -- INST_TYPE applies
    pub types_apply : IsSome (over basis (inst_type_of basis f.types a))
    types_apply = ap (λ o. is_some (over basis o)) types_is

    module _ (pairs : List (Named × Named)) (are : nameless_pairs pairs ≡ f.terms) (good : HasBadPair pairs → ⊥) (th : Theorem) (gave : over basis (inst_type_of basis f.types a) ≡ Some th) where
      th_is : th ≡ theorem_on basis (sequent_of a.hyps (types_inst f.types a.concl))
      th_is = let e : Some th ≡ Some (theorem_on basis (sequent_of a.hyps (types_inst f.types a.concl))) = sym gave ∙ ap (over basis) types_is in cc

      terms_are : inst_of basis pairs (sequent_of a.hyps (types_inst f.types a.concl)) ≡ Some (sequent_of a.hyps (instantiated f 0 a.concl))
      terms_are =
          ap (λ c. cond c (Some (sequent_of (hyps_image (term_subst (nameless_pairs pairs) 0) a.hyps) (term_subst (nameless_pairs pairs) 0 (types_inst f.types a.concl)))) None)
          (pairs_over basis pairs good (subst (TermsStand basis) (sym are) stands.1))
          ∙ ap (λ (qs : List (Nameless × (List ℕ × TypeTree))). Some (sequent_of (hyps_image (term_subst qs 0) a.hyps) (term_subst qs 0 (types_inst f.types a.concl)))) are
          ∙ ap (λ (hs : Hyps). Some (sequent_of hs (instantiated f 0 a.concl))) (terms_keep f a.hyps ps is says)

      both_are : over th.basis (inst_of th.basis pairs th.sequent) ≡ Some (theorem_on basis (sequent_of a.hyps (instantiated f 0 a.concl)))
      both_are = ap (λ (r : Theorem). over r.basis (inst_of r.basis pairs r.sequent)) th_is ∙ ap (over basis) terms_are

      -- and then INST
      pub terms_apply : IsSome (over th.basis (inst_of th.basis pairs th.sequent))
      terms_apply = ap is_some both_are

      pub terms_give : (r : Theorem) → over th.basis (inst_of th.basis pairs th.sequent) ≡ Some r → over basis (instance_like basis t a) ≡ Some r
      terms_give r e = ap (over basis) like_is ∙ sym both_are ∙ e

-- ---- the calls

-- the program's conclusion, hypotheses and pairs are these
module _ (th : Theorem) (t concl : Nameless) (ps : List Named) (is : hyps_of ps ≡ th.sequent.hyps) (same : concl ≡ th.sequent.concl) (some : IsSome (over th.basis (instance_like th.basis t th.sequent))) where
  pub apart_there : is_apart (map (nameless []) ps) concl ≡ true
  apart_there = ap (is_apart (map (nameless []) ps)) same ∙ own_apart th.basis th.sequent t ps is some

  pub found_there : matched 0 concl (stays_of (map (nameless []) ps)) t ≡ None → ⊥
  found_there e = is_found th.basis th.sequent t ps is some (ap (λ n. matched 0 n (stays_of (map (nameless []) ps)) t) (sym same) ∙ e)

  module _ (f : InstanceValue) (found : matched 0 concl (stays_of (map (nameless []) ps)) t ≡ Some (both (stays_of (map (nameless []) ps)) f)) (general : IsMostGeneral (stays_of (map (nameless []) ps)) concl t f) (types : List (TypeTree × List ℕ)) (types_are : types ≡ f.types) where
    own_found : matched 0 th.sequent.concl (stays_of (map (nameless []) ps)) t ≡ Some (both (stays_of (map (nameless []) ps)) f)
    own_found = ap (λ n. matched 0 n (stays_of (map (nameless []) ps)) t) (sym same) ∙ found

    pub inst_type_applies : IsSome (over th.basis (inst_type_of th.basis types th.sequent))
    inst_type_applies =
        subst (λ (qs : List (TypeTree × List ℕ)). IsSome (over th.basis (inst_type_of th.basis qs th.sequent))) (sym types_are) (types_apply th.basis th.sequent t ps is some f own_found general.fits.left)

    module _ (pairs : List (Named × Named)) (are : nameless_pairs pairs ≡ f.terms) (good : HasBadPair pairs → ⊥) (r : Theorem) (gave : over th.basis (inst_type_of th.basis types th.sequent) ≡ Some r) where
      own_gave : over th.basis (inst_type_of th.basis f.types th.sequent) ≡ Some r
      own_gave = ap (λ (qs : List (TypeTree × List ℕ)). over th.basis (inst_type_of th.basis qs th.sequent)) (sym types_are) ∙ gave

      pub inst_applies : IsSome (over r.basis (inst_of r.basis pairs r.sequent))
      inst_applies = terms_apply th.basis th.sequent t ps is some f own_found general.fits.left pairs are good r own_gave

      pub inst_gives : (new : Theorem) → over r.basis (inst_of r.basis pairs r.sequent) ≡ Some new → over th.basis (instance_like th.basis t th.sequent) ≡ Some new
      inst_gives new e = terms_give th.basis th.sequent t ps is some f own_found general.fits.left pairs are good r own_gave new e

-- ---- outer quantifiers

abbrev under_quantifier : List ℕ × TypeTree → Named → Abstraction
under_quantifier v b = record { base = base_of v.0; domain = v.1; body = nameless (v ∷ []) b }

none_on : (c : Bool) (x : Abstraction) (vs : List (List ℕ × TypeTree)) → false ≡ is_some (cond c (Some x) None) → cond c vs [] ≡ []
none_on true x vs h = absurd (cc)
none_on false x vs h = refl

-- a formula that is no universal quantification has none
pub no_variables : (p : Named) → false ≡ is_forall (nameless [] p) → bound_variables p ≡ []
no_variables (var v) e = refl
no_variables (constant c s) e = refl
no_variables (comb f x) e = by x e
  where
    by : (x : Named) → false ≡ is_forall (app (nameless [] f) (nameless [] x)) → bound_by (nameless [] f) x ≡ []
    by (var v) g = refl
    by (constant c s) g = refl
    by (comb g y) h = refl
    by (abs v b) g = none_on (is_constant (codes "!") (quantifier_type v.1) (nameless [] f)) (under_quantifier v b) (v ∷ bound_variables b) g
no_variables (abs v b) e = refl

-- ---- SPEC at the variables, one after the other

spec_first : (basis : Items) (v : List ℕ × TypeTree) (vs : List (List ℕ × TypeTree)) (a : Sequent) → IsSome (over basis (specialized basis (v ∷ vs) a)) → IsSome (over basis (spec_of basis (free v) a))
spec_first basis v vs a some = by (spec_of basis (free v) a) some
  where
    by : (o : Option Sequent) → IsSome (over basis (option_and_then (specialized basis vs) o)) → IsSome (over basis o)
    by None h = h
    by (Some s) h = refl

module _ (th : Theorem) (p : Named) (v : List ℕ × TypeTree) (b : Named) (are : bound_variables p ≡ v ∷ bound_variables b) (some : IsSome (over th.basis (specialized th.basis (bound_variables p) th.sequent))) where
  some_there : IsSome (over th.basis (specialized th.basis (v ∷ bound_variables b) th.sequent))
  some_there = subst (λ (vs : List (List ℕ × TypeTree)). IsSome (over th.basis (specialized th.basis vs th.sequent))) are some

  pub spec_applies : IsSome (over th.basis (spec_of th.basis (free v) th.sequent))
  spec_applies = spec_first th.basis v (bound_variables b) th.sequent some_there

  module _ (r : Theorem) (gave : over th.basis (spec_of th.basis (free v) th.sequent) ≡ Some r) where
    r_is : spec_of th.basis (free v) th.sequent ≡ Some r.sequent
    r_is = over_sequent th.basis (spec_of th.basis (free v) th.sequent) r gave

    r_basis : r.basis ≡ th.basis
    r_basis = over_basis th.basis (spec_of th.basis (free v) th.sequent) r gave

    rest_is : over th.basis (specialized th.basis (bound_variables p) th.sequent) ≡ over r.basis (specialized r.basis (bound_variables b) r.sequent)
    rest_is =
        ap (λ (vs : List (List ℕ × TypeTree)). over th.basis (specialized th.basis vs th.sequent)) are
        ∙ ap (λ o. over th.basis (option_and_then (specialized th.basis (bound_variables b)) o)) r_is
        ∙ ap (λ (i : Items). over i (specialized i (bound_variables b) r.sequent)) (sym r_basis)

    pub rest_applies : IsSome (over r.basis (specialized r.basis (bound_variables b) r.sequent))
    rest_applies = subst (λ (o : Option Theorem). IsSome o) rest_is some

    pub rest_gives : (new : Theorem) → over r.basis (specialized r.basis (bound_variables b) r.sequent) ≡ Some new → over th.basis (specialized th.basis (bound_variables p) th.sequent) ≡ Some new
    rest_gives new e = rest_is ∙ e

-- ---- the whole reason

some_of : {X : Type 0} (o : Option X) (rest : List X) → IsSome (option_map (λ r. r ∷ rest) o) → IsSome o
some_of None rest h = h
some_of (Some x) rest h = refl

module _ (old : CutValue) (given : Given) (vs : List (List ℕ × TypeTree)) (t : Nameless) (gives : IsSome (inferred (from_none (option_and_then (matching old.basis vs t) (premise_of old.basis given))) old.after)) where
  some_whole : IsSome (option_and_then (matching old.basis vs t) (premise_of old.basis given))
  some_whole = some_of (option_and_then (matching old.basis vs t) (premise_of old.basis given)) old.after gives

  pub premise_there : IsSome (given_over old.basis given)
  premise_there = by (given_over old.basis given) some_whole
    where
      by : (o : Option Theorem) → IsSome (option_and_then (matching old.basis vs t) (option_map (λ th. th.sequent) o)) → IsSome o
      by None h = h
      by (Some th) h = refl

  module _ (whole : Theorem) (gave : given_over old.basis given ≡ Some whole) (over_it : whole.basis ≡ old.basis) where
    as_whole : option_and_then (matching old.basis vs t) (premise_of old.basis given) ≡ option_and_then (instance_like old.basis t) (specialized old.basis vs whole.sequent)
    as_whole = ap (λ o. option_and_then (matching old.basis vs t) (option_map (λ th. th.sequent) o)) gave

    there : IsSome (option_and_then (instance_like old.basis t) (specialized old.basis vs whole.sequent))
    there = subst (λ (o : Option Sequent). IsSome o) as_whole some_whole

    pub specialized_applies : IsSome (over whole.basis (specialized whole.basis vs whole.sequent))
    specialized_applies = subst (λ (i : Items). IsSome (over i (specialized i vs whole.sequent))) (sym over_it) (by (specialized old.basis vs whole.sequent) there)
      where
        by : (o : Option Sequent) → IsSome (option_and_then (instance_like old.basis t) o) → IsSome (over old.basis o)
        by None h = h
        by (Some s) h = refl

    module _ (body : Theorem) (next : over whole.basis (specialized whole.basis vs whole.sequent) ≡ Some body) where
      body_basis : body.basis ≡ old.basis
      body_basis = over_basis whole.basis (specialized whole.basis vs whole.sequent) body next ∙ over_it

      as_body : option_and_then (instance_like old.basis t) (specialized old.basis vs whole.sequent) ≡ instance_like old.basis t body.sequent
      as_body =
          ap (option_and_then (instance_like old.basis t))
          (subst (λ (i : Items). specialized i vs whole.sequent ≡ Some body.sequent) over_it (over_sequent whole.basis (specialized whole.basis vs whole.sequent) body next))

      pub like_applies : IsSome (over body.basis (instance_like body.basis t body.sequent))
      like_applies = subst (λ (i : Items). IsSome (over i (instance_like i t body.sequent))) (sym body_basis) (by (instance_like old.basis t body.sequent) (subst (λ (o : Option Sequent). IsSome o) as_body there))
        where
          by : (o : Option Sequent) → IsSome o → IsSome (over old.basis o)
          by None h = h
          by (Some s) h = refl

      module _ (thm : Theorem) (last : over body.basis (instance_like body.basis t body.sequent) ≡ Some thm) where
        pub thm_over : thm.basis ≡ old.basis
        thm_over = over_basis body.basis (instance_like body.basis t body.sequent) thm last ∙ body_basis

        thm_is : option_and_then (matching old.basis vs t) (premise_of old.basis given) ≡ Some thm.sequent
        thm_is =
            as_whole ∙ as_body
            ∙ subst (λ (i : Items). instance_like i t body.sequent ≡ Some thm.sequent) body_basis (over_sequent body.basis (instance_like body.basis t body.sequent) thm last)

        pub matching_infers : (new : CutValue) → new ≡ record old { after = thm.sequent ∷ old.after } → Infers (from_none (option_and_then (matching old.basis vs t) (premise_of old.basis given))) old new
        matching_infers new put = record {
          basis = ap (λ (c : CutValue). c.basis) put;
          before = ap (λ (c : CutValue). c.before) put;
          after = ap (option_map (λ r. r ∷ old.after)) thm_is ∙ ap (λ (c : CutValue). Some c.after) (sym put);
        }
