-- An instance that gives what stays by hypotheses itself leaves the hypotheses as they are.
use Rattle.std.specs.Prelude.{◌≡◌, ℕ, Bool, true, false, cond, bytes_eq, List, [], ◌∷◌, ◌++◌, map, Some, None, unwrap_or, refl}
use Rattle.std.specs.FinSet as set
use Rattle.std.proofs.Common.{ap, sym, ◌∙◌}
use Rattle.std.proofs.lemmas.Slice.Eq.{bytes_eq-Decides}
use Rattle.std.proofs.lemmas.Bool.{or_left, or_right}
use Rattle.hol_types.specs.Tree.{TypeTree, TyVar}
use Rattle.hol_types.specs.Equal.{variable_eq}
use Rattle.hol_types.specs.Names.{is_among}
use Rattle.hol_types.specs.Subst.{type_for}
use Rattle.hol_terms.specs.Named.{Named}
use Rattle.hol_terms.specs.Nameless.{Nameless, free, nameless}
use Rattle.hol_terms.specs.Alpha.{strip}
use Rattle.hol_terms.specs.Scoped.{binds}
use Rattle.hol_subst.specs.Hypotheses.{Hyps, hyps_of, hyps_image}
use Rattle.hol_subst.specs.Substitution.{term_for, term_subst, types_inst}
use Rattle.hol_subst.proofs.Closing.{eq_same}
use Rattle.hol_match.specs.Instance.{InstanceValue, both}
use Rattle.hol_match.specs.Fixed.{fixed_names, fixed_variables, stays_of}
use Rattle.hol_match.specs.Matches.{GivesTypes, GivesTerms, Says}
use Rattle.hol_match.proofs.Keeping.{names_fixed, variables_fixed}
use Rattle.hol_types.proofs.Lookups.{type_first, type_second}
use Rattle.hol_match.proofs.Lookups.{term_first, term_second, own_type, own_term}
use Rattle.hol_replay.proofs.Instances.{hyps_left, hyps_typed, term_stays, type_stays}
use Rattle.hol_just.proofs.MatchAlike.{GivesSame}
use Rattle.hol_just.proofs.MatchStays.{same_names, same_variables}

-- ---- hypotheses are left as they are

module _ (a : InstanceValue) (hs : Hyps) (ps : List Named) (is : hyps_of ps ≡ hs) (says : Says a (stays_of (map (nameless []) ps))) where
  pub types_keep : hyps_image (types_inst a.types) hs ≡ hs
  types_keep = hyps_typed a (fixed_names [] (map (nameless []) ps)) (fixed_variables [] (map (nameless []) ps)) says hs ps is (names_fixed hs ps is)

  pub terms_keep : hyps_image (term_subst a.terms 0) hs ≡ hs
  terms_keep = hyps_left a (fixed_names [] (map (nameless []) ps)) (fixed_variables [] (map (nameless []) ps)) says hs ps is (variables_fixed hs ps is)

-- ---- in whatever order they are listed

pub types_said : (a : InstanceValue) (names : List (List ℕ)) → ((x : List ℕ) → is_among names x ≡ true → type_for a.types x ≡ TyVar x) → GivesTypes a (map (λ b. (TyVar b, b)) names)
types_said a [] h = tt
types_said a (b ∷ names) h = (h b (or_left (bytes_eq b b) (is_among names b) ((bytes_eq-Decides b b).1 refl)), types_said a names (λ x e. h x (or_right (bytes_eq x b) (is_among names x) e)))

pub terms_said : (a : InstanceValue) (vs : List (List ℕ × TypeTree)) → ((v : List ℕ × TypeTree) → binds vs v ≡ true → term_for a.terms v ≡ free v) → GivesTerms a (map (λ w. (free w, w)) vs)
terms_said a [] h = tt
terms_said a (w ∷ vs) h = (ap strip (h w (or_left (variable_eq w w) (binds vs w) (eq_same w))), terms_said a vs (λ v e. h v (or_right (variable_eq w v) (binds vs v) e)))

pub stays_said : (a : InstanceValue) (hs : Hyps) (ps : List Named) → hyps_of ps ≡ hs → Says a (stays_of (map (nameless []) ps)) → Says a (stays_of (set.items hs))
stays_said a hs ps is says = (
  types_said a (fixed_names [] (set.items hs)) (λ x e. type_stays a (fixed_names [] (map (nameless []) ps)) x says.0 (sym (same_names hs ps is x) ∙ e)),
  terms_said a (fixed_variables [] (set.items hs)) (λ v e. term_stays a (fixed_variables [] (map (nameless []) ps)) v says.1 (sym (same_variables hs ps is v) ∙ e)),
)

-- an instance that says so by itself gives the same after what stays
alone_type :
    (a : InstanceValue) (names : List (List ℕ)) → GivesTypes a (map (λ b. (TyVar b, b)) names) → (x : List ℕ) → type_for (map (λ b. (TyVar b, b)) names ++ a.types) x ≡ type_for a.types x
alone_type a names says x = by (is_among names x) refl
  where
    by : (c : Bool) → is_among names x ≡ c → type_for (map (λ b. (TyVar b, b)) names ++ a.types) x ≡ type_for a.types x
    by true e =
        ap (λ o. unwrap_or o (TyVar x)) (type_first (map (λ b. (TyVar b, b)) names) a.types x (TyVar x) (own_type names x ∙ ap (λ c. cond c (Some (TyVar x)) None) e))
        ∙ sym (type_stays a names x says e)
    by false e = ap (λ o. unwrap_or o (TyVar x)) (type_second (map (λ b. (TyVar b, b)) names) a.types x (own_type names x ∙ ap (λ c. cond c (Some (TyVar x)) None) e))

alone_term :
    (a : InstanceValue) (vs : List (List ℕ × TypeTree)) → GivesTerms a (map (λ w. (free w, w)) vs) → (v : List ℕ × TypeTree) → term_for (map (λ w. (free w, w)) vs ++ a.terms) v ≡ term_for a.terms v
alone_term a vs says v = by (binds vs v) refl
  where
    by : (c : Bool) → binds vs v ≡ c → term_for (map (λ w. (free w, w)) vs ++ a.terms) v ≡ term_for a.terms v
    by true e =
        ap (λ o. unwrap_or o (free v)) (term_first (map (λ w. (free w, w)) vs) a.terms v (free v) (own_term vs v ∙ ap (λ c. cond c (Some (free v)) None) e))
        ∙ sym (term_stays a vs v says e)
    by false e = ap (λ o. unwrap_or o (free v)) (term_second (map (λ w. (free w, w)) vs) a.terms v (own_term vs v ∙ ap (λ c. cond c (Some (free v)) None) e))

pub alone : (a : InstanceValue) (ns : List Nameless) → Says a (stays_of ns) → GivesSame (both (stays_of ns) a) a
alone a ns says = (alone_type a (fixed_names [] ns) says.0, alone_term a (fixed_variables [] ns) says.1)
