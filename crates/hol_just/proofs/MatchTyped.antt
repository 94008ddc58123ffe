-- What MATCH_MP_TAC leaves is a formula wherever the theorem holds and the conclusion is one.
use Rattle.std.specs.Prelude.{◌≡◌, ℕ, Bool, true, false, cond, not, ◌&&◌, ◌||◌, List, [], ◌∷◌, ◌++◌, map, Some, refl}
use Rattle.std.specs.List.{AllByRecursion}
use Rattle.std.proofs.Common.{sym, ◌∙◌, subst}
use Rattle.std.proofs.lemmas.Bool.{and_parts}
use Rattle.hol_types.specs.Tree.{TypeTree}
use Rattle.hol_types.specs.Equal.{variable_eq}
use Rattle.hol_terms.specs.Named.{Named}
use Rattle.hol_terms.specs.Nameless.{Nameless, free, bound, fixed, app, lam, nameless, nameless_type, free_occurrences}
use Rattle.hol_terms.specs.Scoped.{binds}
use Rattle.hol_terms.proofs.Occurs.{binds_append}
use Rattle.hol_terms.proofs.Same.{variable_eq_decides}
use Rattle.hol_subst.specs.Substitution.{types_inst, variable_inst}
use Rattle.hol_subst.proofs.Typing.{subst_type}
use Rattle.hol_subst.proofs.TypesInst.{inst_type}
use Rattle.hol_formulas.specs.Equation.{bool_type}
use Rattle.hol_kernel.specs.Items.{Items}
use Rattle.hol_kernel.specs.Typing.{is_type, is_base, is_known, has_type, HasType, are_typed_for}
use Rattle.hol_kernel.proofs.Declared.{has_type_of}
use Rattle.hol_kernel.proofs.Stands.{both, known_inst, known_subst}
use Rattle.hol_kernel.proofs.Variables.{known_typed, typed_known}
use Rattle.hol_match.specs.Instance.{InstanceValue, instance_of, instantiated}
use Rattle.hol_match.specs.Instance as instance
use Rattle.hol_match.specs.Fixed.{stays_of}
use Rattle.hol_match.specs.Matches.{IsWellTyped}
use Rattle.hol_match.specs.Matching.{matched}
use Rattle.hol_match.proofs.Holding.{TermsHold, Holds, HoldsIn, hold_after, matched_holds}
use Rattle.hol_match.specs.Standing.{TermsStand, Stands}
use Rattle.hol_match.proofs.Standing.{found_stands, types_all}
use Rattle.hol_just.specs.MatchMp.{undetermined, existentials}
use Rattle.hol_just.proofs.MatchMoves.{stays_hold}
use Rattle.hol_just.proofs.Typings.{existential_typed}

-- ---- existential quantifiers

pub existentials_typed :
    (basis : Items) (vs : List (List ℕ × TypeTree)) (p : Nameless) → AllByRecursion (λ v. is_type basis v.1 ≡ true) vs → HasType basis p bool_type → HasType basis (existentials vs p) bool_type
existentials_typed basis [] p h k = k
existentials_typed basis (v ∷ vs) p h k = existential_typed basis v (existentials vs p) h.0 (existentials_typed basis vs p h.1 k)

-- ---- the instance

-- the type of a variable that is free in a term stands where the term does
pub occurrence_stands : (basis : Items) (n : Nameless) (v : List ℕ × TypeTree) → is_known basis n ≡ true → binds (free_occurrences n) v ≡ true → is_type basis v.1 ≡ true
occurrence_stands basis (free w) v h e = by (variable_eq w v) refl e
  where
    by : (b : Bool) → variable_eq w v ≡ b → (b || false) ≡ true → is_type basis v.1 ≡ true
    by true q g = subst (λ (z : List ℕ × TypeTree). is_type basis z.1 ≡ true) ((variable_eq_decides w v).0 q) h
    by false q g = absurd (cc)
occurrence_stands basis (bound i) v h e = absurd (cc)
occurrence_stands basis (fixed c s) v h e = absurd (cc)
occurrence_stands basis (app f x) v h e =
    let parts = both (is_known basis f) (is_known basis x) h in
    by (binds (free_occurrences f) v) refl (sym (binds_append (free_occurrences f) (free_occurrences x) v) ∙ e) (λ q. occurrence_stands basis f v parts.0 q) (λ q. occurrence_stands basis x v parts.1 q)
  where
    by :
        (b : Bool) → binds (free_occurrences f) v ≡ b → (b || binds (free_occurrences x) v) ≡ true → (binds (free_occurrences f) v ≡ true → is_type basis v.1 ≡ true) →
        (binds (free_occurrences x) v ≡ true → is_type basis v.1 ≡ true) → is_type basis v.1 ≡ true
    by true q g k l = k q
    by false q g k l = l g
occurrence_stands basis (lam a s b) v h e = occurrence_stands basis b v (both (is_type basis s) (is_known basis b) (both (is_base a) (is_type basis s && is_known basis b) h).1).1 e

typed_all : (basis : Items) (found ps : List (Nameless × (List ℕ × TypeTree))) → TermsHold found ps → TermsStand basis ps → are_typed_for basis ps ≡ true
typed_all basis found [] h k = refl
typed_all basis found (p ∷ ps) h k = λ i. has_type_of basis p.0 p.1.1 (typed_known basis p.0 p.1.1 k.0 h.0.1) i && typed_all basis found ps h.1 k.1 i

typed_both :
    (basis : Items) (ps qs : List (Nameless × (List ℕ × TypeTree))) → are_typed_for basis ps ≡ true → are_typed_for basis qs ≡ true → are_typed_for basis (ps ++ qs) ≡ true
typed_both basis [] qs h k = k
typed_both basis (p ∷ ps) qs h k =
    let parts = and_parts (has_type basis p.0 p.1.1) (are_typed_for basis ps) h in
    λ i. parts.0 i && typed_both basis ps qs parts.1 k i

module _ (basis : Items) (ps : List Named) (b t : Nameless) (f : InstanceValue) (known : HasType basis t bool_type) (found : matched 0 b (stays_of (map (nameless []) ps)) t ≡ Some (instance.both (stays_of (map (nameless []) ps)) f)) where
  stands : Stands basis f
  stands = found_stands basis 0 b (stays_of (map (nameless []) ps)) t f (known_typed basis t bool_type known).0 found

  typed_pairs : are_typed_for basis f.terms ≡ true
  typed_pairs =
      let s = stays_of (map (nameless []) ps) in
      let h : Holds (instance.both s f) = subst HoldsIn found (matched_holds 0 b s t (stays_hold (map (nameless []) ps))) in
      typed_all basis (instance.both s f).terms f.terms (hold_after (instance.both s f).terms s.terms f.terms h.1) stands.1

  pub type_at_instance : (v : List ℕ × TypeTree) → is_type basis v.1 ≡ true → is_type basis (variable_inst f.types v).1 ≡ true
  type_at_instance v h = known_inst basis f.types (types_all basis f.types stands.0) (free v) h

  -- where some more variables take terms
  module _ (more : List (Nameless × (List ℕ × TypeTree))) (more_typed : are_typed_for basis more ≡ true) (typed : IsWellTyped (instance_of f.types (f.terms ++ more))) where
    formula_at_instance : (p : Nameless) → HasType basis p bool_type → HasType basis (instantiated (instance_of f.types (f.terms ++ more)) 0 p) bool_type
    formula_at_instance p h =
        let k = known_typed basis p bool_type h in
        let typed_types : nameless_type [] (types_inst f.types p) ≡ Some bool_type = inst_type f.types [] p bool_type k.1 in
        typed_known basis (instantiated (instance_of f.types (f.terms ++ more)) 0 p) bool_type
        (known_subst basis (f.terms ++ more) (typed_both basis f.terms more typed_pairs more_typed) 0 (types_inst f.types p) (known_inst basis f.types (types_all basis f.types stands.0) p k.0))
        (subst_type (f.terms ++ more) [] 0 (types_inst f.types p) typed ∙ typed_types)

  undetermined_stand :
      (s u : Nameless) (vs : List (List ℕ × TypeTree)) → is_known basis s ≡ true → AllByRecursion (λ v. is_type basis v.1 ≡ true) (map (variable_inst f.types) (undetermined s u vs))
  undetermined_stand s u [] h = tt
  undetermined_stand s u (v ∷ vs) h = by (binds (free_occurrences s) v) (not (binds (free_occurrences u) v)) refl (undetermined_stand s u vs h)
    where
      by :
          (c d : Bool) → binds (free_occurrences s) v ≡ c → AllByRecursion (λ v. is_type basis v.1 ≡ true) (map (variable_inst f.types) (undetermined s u vs)) →
          AllByRecursion (λ v. is_type basis v.1 ≡ true) (map (variable_inst f.types) (cond (c && d) (v ∷ undetermined s u vs) (undetermined s u vs)))
      by true true e r = (type_at_instance v (occurrence_stands basis s v h e), r)
      by true false e r = r
      by false d e r = r

  -- what is left
  pub premise_typed :
      (s u : Nameless) (vs : List (List ℕ × TypeTree)) (more : List (Nameless × (List ℕ × TypeTree))) → are_typed_for basis more ≡ true → IsWellTyped (instance_of f.types (f.terms ++ more)) → HasType basis s bool_type →
      HasType basis (existentials (map (variable_inst f.types) (undetermined s u vs)) (instantiated (instance_of f.types (f.terms ++ more)) 0 s)) bool_type
  premise_typed s u vs more more_typed typed h =
      existentials_typed basis (map (variable_inst f.types) (undetermined s u vs)) (instantiated (instance_of f.types (f.terms ++ more)) 0 s)
      (undetermined_stand s u vs (known_typed basis s bool_type h).0) (formula_at_instance more more_typed typed s h)
