-- The theorem of a rule at a match: the rules of the logic apply, and the hypotheses stay.
use Rattle.std.proofs.Common.{◌≡◌, ℕ, List, [], ◌∷◌, map, refl, sym, ap, ◌∙◌, subst, Bool, true, false, cond, ◌&&◌, ◌||◌, inl, inr, bytes_eq, Option, Some, None}
use Rattle.std.specs.Prelude.{IsSome, Result, Ok}
use Rattle.std.specs.List.{list_any}
use Rattle.std.specs.Option.{option_map}
use Rattle.std.specs.FinSet as set
use Rattle.std.proofs.lemmas.Bool.{false≢true, or_left, or_right}
use Rattle.std.proofs.lemmas.Slice.Eq.{bytes_eq-Decides}
use Rattle.hol_match.proofs.Keeping.{stripped}
use Rattle.hol_types.proofs.Filters.{among_append}
use Rattle.hol_types.specs.Tree.{TypeTree, TypeList, TyVar, TyApp, no_types, more_types}
use Rattle.hol_types.specs.Equal.{variable_eq}
use Rattle.hol_types.specs.Names.{is_among, type_names, types_names}
use Rattle.hol_types.specs.Subst.{type_for, type_subst, types_subst}
use Rattle.hol_terms.specs.Named.{Named, var, constant, comb, abs, named_type}
use Rattle.hol_terms.specs.Nameless.{Nameless, free, bound, fixed, app, lam, nameless, free_occurrences}
use Rattle.hol_terms.specs.Alpha.{strip}
use Rattle.hol_terms.specs.Scoped.{binds}
use Rattle.hol_terms.proofs.Same.{variable_eq_decides}
use Rattle.hol_terms.proofs.Typing.{type_outside}
use Rattle.hol_subst.specs.Hypotheses.{Hyps, hyp_of, hyps_of, hyps_image}
use Rattle.hol_subst.specs.Pairs.{nameless_pairs, HasBadPair}
use Rattle.hol_subst.specs.Substitution.{term_for, term_subst, types_inst}
use Rattle.hol_subst.specs.Variant.{is_free_in}
use Rattle.hol_subst.proofs.Commute.{subst_agree, subst_nothing}
use Rattle.hol_subst.proofs.HypothesisLists.{hyps_total, hyps_same, free_in_hyps}
use Rattle.hol_subst.proofs.Images.{strip_strip, types_hyps, image_hyps}
use Rattle.hol_subst.proofs.SortedSets.{any_of_set, union_none_left}
use Rattle.hol_subst.proofs.Strip.{subst_alpha}
use Rattle.hol_formulas.specs.Equation.{equation}
use Rattle.hol_kernel.specs.Items.{Items}
use Rattle.hol_kernel.specs.Given.{given_sequent}
use Rattle.hol_kernel.specs.NamedTyping.{is_known_named}
use Rattle.hol_kernel.specs.Rules.{inst_of, inst_type_of, is_pair_at, are_pairs_over, reflexive, sequent_image, trans_of}
use Rattle.hol_kernel.specs.Sequent.{no_hyps, Sequent, sequent_of}
use Rattle.hol_kernel.specs.Theorem.{Theorem, theorem_on, over}
use Rattle.hol_kernel.specs.Typing.{is_known, are_types_for}
use Rattle.hol_kernel.specs.Gives.{Gives, in_kernel}
use Rattle.hol_kernel.specs.declared.error.Rule.{Rule}
use Rattle.hol_kernel.specs.declared.error.KernelError.{KernelError}
use Rattle.hol_kernel.proofs.Declared.{has_type_of}
use Rattle.hol_kernel.proofs.Typed.{known_outside}
use Rattle.hol_kernel.proofs.Variables.{typed_known}
use Rattle.hol_equal.specs.Applied.{transitive}
use Rattle.hol_equal.specs.Unrefused.{IsUnrefused}
use Rattle.hol_equal.proofs.Applies.{trans_yes}
use Rattle.hol_equal.proofs.Steps as steps
use Rattle.hol_match.specs.Contracta.{contracted}
use Rattle.hol_match.specs.Instance.{InstanceValue, instantiated, staying}
use Rattle.hol_match.specs.Matches.{GivesTypes, GivesTerms, Says, IsMatch}
use Rattle.hol_match.specs.Opening.{has_type_var, has_type_var_in}
use Rattle.hol_match.specs.RuleSets.{RuleEntry, fit}
use Rattle.hol_match.specs.Rules.{RuleValue}
use Rattle.hol_match.specs.SetView.{set_rule, set_given}
use Rattle.hol_match.specs.Sources.{IsSound}
use Rattle.hol_match.specs.Standing.{TermsStand, Stands}
use Rattle.hol_match.specs.declared.set_rule.SetRule.{SetRule}
use Rattle.hol_match.specs.declared.source.Source.{Source}
use Rattle.hol_match.proofs.Standing.{fit_stands, types_all}
use Rattle.hol_replay.specs.RuleTheorems.{IsRuleTheorem, side_equation, redex_equation}

-- ---- what stays is given itself
pub type_stays : (a : InstanceValue) (names : List (List ℕ)) (c : List ℕ) → GivesTypes a (map (λ n. (TyVar n, n)) names) → is_among names c ≡ true → type_for a.types c ≡ TyVar c
type_stays a [] c h e = absurd (cc)
type_stays a (n ∷ names) c h e = by (bytes_eq c n) refl e (type_stays a names c h.1)
  where
    by : (b : Bool) → bytes_eq c n ≡ b → (b || is_among names c) ≡ true → (is_among names c ≡ true → type_for a.types c ≡ TyVar c) → type_for a.types c ≡ TyVar c
    by true q k r = let same : c ≡ n = (bytes_eq-Decides c n).0 q in subst (λ z. type_for a.types z ≡ TyVar z) (sym same) h.0
    by false q k r = r k

pub free_strip : (n : Nameless) (v : List ℕ × TypeTree) → strip n ≡ free v → n ≡ free v
free_strip (free w) v e = e
free_strip (bound i) v e = absurd (cc)
free_strip (fixed c s) v e = absurd (cc)
free_strip (app f x) v e = absurd (cc)
free_strip (lam a s b) v e = absurd (cc)

pub term_stays : (a : InstanceValue) (vs : List (List ℕ × TypeTree)) (w : List ℕ × TypeTree) → GivesTerms a (map (λ v. (free v, v)) vs) → binds vs w ≡ true → term_for a.terms w ≡ free w
term_stays a [] w h e = absurd (cc)
term_stays a (v ∷ vs) w h e = by (variable_eq v w) refl e (term_stays a vs w h.1)
  where
    by : (b : Bool) → variable_eq v w ≡ b → (b || binds vs w) ≡ true → (binds vs w ≡ true → term_for a.terms w ≡ free w) → term_for a.terms w ≡ free w
    by true q k r = let same : v ≡ w = (variable_eq_decides v w).0 q in subst (λ z. term_for a.terms z ≡ free z) same (free_strip (term_for a.terms v) v h.0)
    by false q k r = r k

-- ---- a term that has only what stays
module _ (pairs : List (TypeTree × List ℕ)) where
  mutual
    type_kept : (s : TypeTree) → ((c : List ℕ) → is_among (type_names s) c ≡ true → type_for pairs c ≡ TyVar c) → type_subst pairs s ≡ s
    type_kept (TyVar a) h = h a (ap (λ b. b || false) ((bytes_eq-Decides a a).1 refl))
    type_kept (TyApp c ts) h = ap (TyApp c) (types_kept ts h)

    types_kept : (ts : TypeList) → ((c : List ℕ) → is_among (types_names ts) c ≡ true → type_for pairs c ≡ TyVar c) → types_subst pairs ts ≡ ts
    types_kept no_types h = refl
    types_kept (more_types t ts) h = λ i. more_types
        (type_kept t (λ c k. h c (among_append (type_names t) (types_names ts) c ∙ or_left (is_among (type_names t) c) (is_among (types_names ts) c) k)) i)
        (types_kept ts (λ c k. h c (among_append (type_names t) (types_names ts) c ∙ or_right (is_among (type_names t) c) (is_among (types_names ts) c) k)) i)

  inst_kept : (n : Nameless) → ((c : List ℕ) → has_type_var c n ≡ true → type_for pairs c ≡ TyVar c) → types_inst pairs n ≡ n
  inst_kept (free v) h = ap (λ s. free (v.0, s)) (type_kept v.1 h)
  inst_kept (bound i) h = refl
  inst_kept (fixed c s) h = ap (fixed c) (type_kept s h)
  inst_kept (app f x) h = λ i. app
      (inst_kept f (λ c k. h c (or_left (has_type_var c f) (has_type_var c x) k)) i)
      (inst_kept x (λ c k. h c (or_right (has_type_var c f) (has_type_var c x) k)) i)
  inst_kept (lam a s b) h = λ i. lam a
      (type_kept s (λ c k. h c (or_left (is_among (type_names s) c) (has_type_var c b) k)) i)
      (inst_kept b (λ c k. h c (or_right (is_among (type_names s) c) (has_type_var c b) k)) i)

-- ---- hypotheses
vars_in : (hs : Hyps) (ps : List Named) (c : List ℕ) → hyps_of ps ≡ hs → has_type_var_in (set.items hs) c ≡ list_any (λ p. has_type_var c (nameless [] p)) ps
vars_in hs ps c is = ap (λ (s : Hyps). has_type_var_in (set.items s) c) (sym is) ∙ any_of_set hyps_total hyps_same (has_type_var c) (map hyp_of ps) ∙ keys ps
  where
    keys : (qs : List Named) → list_any (has_type_var c) (map hyp_of qs) ≡ list_any (λ p. has_type_var c (nameless [] p)) qs
    keys [] = refl
    keys (q ∷ qs) = λ i. stripped c (nameless [] q) i || keys qs i

-- these stay where what they have does
module _ (a : InstanceValue) (names : List (List ℕ)) (vs : List (List ℕ × TypeTree)) (says : Says a (staying names vs)) (hs : Hyps) (ps : List Named) (is : hyps_of ps ≡ hs) where
  types_left : (qs : List Named) → ((c : List ℕ) → list_any (λ p. has_type_var c (nameless [] p)) qs ≡ true → type_for a.types c ≡ TyVar c) → map (λ p. nameless [] p) qs ≡ map (λ p. types_inst a.types (nameless [] p)) qs
  types_left [] h = refl
  types_left (q ∷ qs) h = λ i.
      sym (inst_kept a.types (nameless [] q) (λ c k. h c (or_left (has_type_var c (nameless [] q)) (list_any (λ p. has_type_var c (nameless [] p)) qs) k))) i
      ∷ types_left qs (λ c k. h c (or_right (has_type_var c (nameless [] q)) (list_any (λ p. has_type_var c (nameless [] p)) qs) k)) i

  pub hyps_typed : ((c : List ℕ) → has_type_var_in (set.items hs) c ≡ true → is_among names c ≡ true) → hyps_image (types_inst a.types) hs ≡ hs
  hyps_typed stay = sym (types_hyps a.types hs ps ps is (types_left ps (λ c k. type_stays a names c says.0 (stay c (vars_in hs ps c is ∙ k))))) ∙ is

  terms_left : (qs : List Named) → ((w : List ℕ × TypeTree) → list_any (λ p. binds (free_occurrences (nameless [] p)) w) qs ≡ true → term_for a.terms w ≡ free w) → map (λ p. nameless [] p) qs ≡ map (λ p. term_subst a.terms 0 (nameless [] p)) qs
  terms_left [] h = refl
  terms_left (q ∷ qs) h = λ i.
      sym (subst_agree a.terms [] 0 (nameless [] q) (λ w f. h w (or_left (binds (free_occurrences (nameless [] q)) w) (list_any (λ p. binds (free_occurrences (nameless [] p)) w) qs) f)) ∙ subst_nothing 0 (nameless [] q)) i
      ∷ terms_left qs (λ w k. h w (or_right (binds (free_occurrences (nameless [] q)) w) (list_any (λ p. binds (free_occurrences (nameless [] p)) w) qs) k)) i

  pub hyps_left : ((v : List ℕ × TypeTree) → is_free_in (set.items hs) v ≡ true → binds vs v ≡ true) → hyps_image (term_subst a.terms 0) hs ≡ hs
  hyps_left stay =
      sym (image_hyps (term_subst a.terms 0) (λ n. subst_alpha a.terms 0 (strip n) n (strip_strip n)) hs ps ps is (terms_left ps (λ w k. term_stays a vs w says.1 (stay w (free_in_hyps hs ps w is ∙ k))))) ∙ is

module _ (s : Source) (sound : IsSound s) (a : InstanceValue) (says : Says a (staying s.fixed.names.items s.fixed.variables.items)) (ps : List Named) (is : hyps_of ps ≡ (given_sequent s.given).hyps) where
  abbrev pub hs : Hyps
  hs = (given_sequent s.given).hyps

  typed : hyps_image (types_inst a.types) hs ≡ hs
  typed = hyps_typed a s.fixed.names.items s.fixed.variables.items says hs ps is sound.names

  left : hyps_image (term_subst a.terms 0) hs ≡ hs
  left = hyps_left a s.fixed.names.items s.fixed.variables.items says hs ps is sound.variables

  -- the rule's equation at the instance
  pub image_is : (basis : Items) (b : TypeTree) (r : RuleValue) (th : Theorem) → th ≡ side_equation basis hs b r → theorem_on th.basis (sequent_image (term_subst a.terms 0) (sequent_image (types_inst a.types) th.sequent)) ≡ theorem_on basis (sequent_of hs (equation (type_subst a.types b) (instantiated a 0 r.left) (instantiated a 0 r.right)))
  image_is basis b r th e =
      (λ i. theorem_on (e i).basis (sequent_image (term_subst a.terms 0) (sequent_image (types_inst a.types) (e i).sequent)))
      ∙ (λ i. theorem_on basis (sequent_of ((ap (hyps_image (term_subst a.terms 0)) typed ∙ left) i) (equation (type_subst a.types b) (instantiated a 0 r.left) (instantiated a 0 r.right))))

-- ---- instantiation applies
module _ (basis : Items) where
  pair_over : (t : Named) (u : Named) (v : List ℕ × TypeTree) → u ≡ var v → named_type t ≡ Some v.1 → is_known basis (nameless [] t) ≡ true → is_pair_at basis (nameless [] t) u ≡ true
  pair_over t u v e typed known = ap (is_pair_at basis (nameless [] t)) e ∙ has_type_of basis (nameless [] t) v.1 (typed_known basis (nameless [] t) v.1 known (type_outside t ∙ typed))

  pub pairs_over : (ps : List (Named × Named)) → (HasBadPair ps → ⊥) → TermsStand basis (nameless_pairs ps) → are_pairs_over basis ps ≡ true
  pairs_over [] good h = refl
  pairs_over ((t, var v) ∷ ps) good h = by (is_pair_at basis (nameless [] t) (var v)) refl (pairs_over ps (λ b. good (inr b)) h.1)
    where
      by : (b : Bool) → is_pair_at basis (nameless [] t) (var v) ≡ b → are_pairs_over basis ps ≡ true → (b && are_pairs_over basis ps) ≡ true
      by true q r = r
      by false q r = absurd (good (inl (λ g. false≢true (sym q ∙ pair_over t (var v) g.0 g.1 g.2 h.0))))
  pairs_over ((t, constant c s) ∷ ps) good h = absurd (good (inl (λ g. no_variable g.1)))
    where
      no_variable : {w : List ℕ × TypeTree} → constant c s ≡ var w → ⊥
      no_variable e = absurd (cc)
  pairs_over ((t, comb f x) ∷ ps) good h = absurd (good (inl (λ g. no_variable g.1)))
    where
      no_variable : {w : List ℕ × TypeTree} → comb f x ≡ var w → ⊥
      no_variable e = absurd (cc)
  pairs_over ((t, abs w b) ∷ ps) good h = absurd (good (inl (λ g. no_variable g.1)))
    where
      no_variable : {u : List ℕ × TypeTree} → abs w b ≡ var u → ⊥
      no_variable e = absurd (cc)

type_applies : (basis : Items) (ps qs : List (TypeTree × List ℕ)) (s : Sequent) → ps ≡ qs → are_types_for basis qs ≡ true → inst_type_of basis ps s ≡ Some (sequent_image (types_inst qs) s)
type_applies basis ps qs s e h = ap (λ z. inst_type_of basis z s) e ∙ ap (λ b. cond b (Some (sequent_image (types_inst qs) s)) None) h

pub type_unrefused : (rule : Rule) (basis : Items) (ps qs : List (TypeTree × List ℕ)) (s : Sequent) (r : Result Theorem KernelError) → ps ≡ qs → are_types_for basis qs ≡ true → Gives in_kernel rule (over basis (inst_type_of basis ps s)) r → IsUnrefused r
type_unrefused rule basis ps qs s r e h g = steps.unrefused rule basis (inst_type_of basis ps s) (sequent_image (types_inst qs) s) (type_applies basis ps qs s e h) r g

pub type_told : (rule : Rule) (basis : Items) (ps qs : List (TypeTree × List ℕ)) (s : Sequent) (r : Result Theorem KernelError) (th : Theorem) → ps ≡ qs → are_types_for basis qs ≡ true → Gives in_kernel rule (over basis (inst_type_of basis ps s)) r → r ≡ Ok th → th ≡ theorem_on basis (sequent_image (types_inst qs) s)
type_told rule basis ps qs s r th e h g is =
    let made : Result Theorem KernelError = Ok th in
    steps.told rule basis (inst_type_of basis ps s) (sequent_image (types_inst qs) s) (type_applies basis ps qs s e h) r made g is

inst_applies : (basis : Items) (ps : List (Named × Named)) (qs : List (Nameless × (List ℕ × TypeTree))) (s : Sequent) → (HasBadPair ps → ⊥) → nameless_pairs ps ≡ qs → TermsStand basis qs → inst_of basis ps s ≡ Some (sequent_image (term_subst qs 0) s)
inst_applies basis ps qs s good e h =
    ap (λ b. cond b (Some (sequent_image (term_subst (nameless_pairs ps) 0) s)) None) (pairs_over basis ps good (subst (TermsStand basis) (sym e) h))
    ∙ ap (λ z. Some (sequent_image (term_subst z 0) s)) e

module _ (rule : Rule) (basis : Items) (image : Sequent) (th : Theorem) (typed : th ≡ theorem_on basis image) (ps : List (Named × Named)) (qs : List (Nameless × (List ℕ × TypeTree))) (good : HasBadPair ps → ⊥) (same : nameless_pairs ps ≡ qs) (stand : TermsStand basis qs) (r : Result Theorem KernelError) (gives : Gives in_kernel rule (over th.basis (inst_of th.basis ps th.sequent)) r) where
  stand_there : TermsStand th.basis qs
  stand_there = subst (λ z. TermsStand z qs) (sym (ap (λ z. z.basis) typed)) stand

  pub term_unrefused : IsUnrefused r
  term_unrefused = steps.unrefused rule th.basis (inst_of th.basis ps th.sequent) (sequent_image (term_subst qs 0) th.sequent) (inst_applies th.basis ps qs th.sequent good same stand_there) r gives

  pub term_told : (last : Theorem) → r ≡ Ok last → last ≡ theorem_on basis (sequent_image (term_subst qs 0) image)
  term_told last is =
      let made : Result Theorem KernelError = Ok last in
      steps.told rule th.basis (inst_of th.basis ps th.sequent) (sequent_image (term_subst qs 0) th.sequent) (inst_applies th.basis ps qs th.sequent good same stand_there) r made gives is
      ∙ (λ i. theorem_on (typed i).basis (sequent_image (term_subst qs 0) (typed i).sequent))

pub ruleset applying = (type_unrefused, type_told, term_unrefused, term_told)

-- ---- the redex
module _ (basis : Items) (r : SetRule) (general : Theorem) (is : IsRuleTheorem basis r general) (t : Named) (known : is_known_named basis t ≡ true) where
  own_basis : general.basis ≡ basis
  own_basis = ap (λ z. z.basis) is.1

  stands : (a : InstanceValue) → fit (set_rule r) (nameless [] t) ≡ Some a → Stands basis a
  stands a e = fit_stands basis (set_rule r) (nameless [] t) a (known_outside basis t ∙ known) e

  pub types_fit : (a : InstanceValue) → fit (set_rule r) (nameless [] t) ≡ Some a → are_types_for general.basis a.types ≡ true
  types_fit a e = ap (λ b. are_types_for b a.types) own_basis ∙ types_all basis a.types (stands a e).0

  pub terms_fit : (a : InstanceValue) → fit (set_rule r) (nameless [] t) ≡ Some a → TermsStand general.basis a.terms
  terms_fit a e = subst (λ b. TermsStand b a.terms) (sym own_basis) (stands a e).1

  module _ (sound : IsSound r.source.value) (ps : List Named) (hyps : hyps_of ps ≡ (given_sequent (set_given r)).hyps) (a : InstanceValue) (found : fit (set_rule r) (nameless [] t) ≡ Some a) (m : IsMatch (set_rule r).stays (set_rule r).rule.left (nameless [] t) a) (ty : TypeTree) (same own : Theorem) (left : same ≡ theorem_on basis (reflexive (nameless [] t) ty)) (right : own ≡ theorem_on general.basis (sequent_image (term_subst a.terms 0) (sequent_image (types_inst a.types) general.sequent))) where
    own_is : own ≡ theorem_on basis (sequent_of (given_sequent (set_given r)).hyps (equation (type_subst a.types is.0) (instantiated a 0 (set_rule r).rule.left) (instantiated a 0 (set_rule r).rule.right)))
    own_is = right ∙ image_is r.source.value sound a m.left ps hyps basis is.0 (set_rule r).rule general is.1

    pub both_bases : same.basis ≡ own.basis
    both_bases = ap (λ z. z.basis) left ∙ sym (ap (λ z. z.basis) own_is)

    pub joined_fits : trans_of same.sequent own.sequent ≡ Some (transitive same.sequent own.sequent)
    joined_fits =
        (λ i. trans_of (left i).sequent (own_is i).sequent)
        ∙ trans_yes no_hyps (given_sequent (set_given r)).hyps ty (type_subst a.types is.0) (nameless [] t) (nameless [] t) (instantiated a 0 (set_rule r).rule.left) (instantiated a 0 (set_rule r).rule.right) (sym m.gives)
        ∙ sym (λ i. Some (transitive (left i).sequent (own_is i).sequent))

    pub redex_is : (th : Theorem) → th ≡ theorem_on same.basis (transitive same.sequent own.sequent) → redex_equation basis ty r (nameless [] t) ≡ Some th
    redex_is th e =
        let u = instantiated a 0 (set_rule r).rule.right in
        ap (option_map (λ z. theorem_on basis (sequent_of (given_sequent (set_given r)).hyps (equation ty (nameless [] t) z)))) (ap (option_map (λ z. instantiated z 0 (set_rule r).rule.right)) found)
        ∙ sym (ap (λ z. Some z) (e ∙ (λ i. theorem_on (left i).basis (transitive (left i).sequent (own_is i).sequent)) ∙ ap (λ (hs : Hyps). theorem_on basis (sequent_of hs (equation ty (nameless [] t) u))) (union_none_left hyps_total hyps_same (given_sequent (set_given r)).hyps)))

pub not_missing : (e : RuleEntry) (t : Nameless) → IsSome (contracted [] e t) → fit e t ≡ None → ⊥
not_missing e t h n = false≢true (subst (λ (o : Option InstanceValue). IsSome (option_map (λ a. instantiated a 0 e.rule.right) o)) n h)

pub ruleset redexes = (types_fit, terms_fit, both_bases, joined_fits, redex_is, not_missing)
