-- MATCH_MP_TAC: what is left, and that it is justified.
use Rattle.std.specs.Prelude.{◌≡◌, ℕ, zero, suc, ◌+◌, Bool, true, false, cond, not, ◌&&◌, ◌||◌, List, [], ◌∷◌, ◌++◌, map, drop, length, codes, unwrap_or, Option, Some, None, Result, Ok, Err, IfOk, IfSome, IsNone, MatchOption, refl}
use Rattle.std.specs.Option.{option_map, option_and_then}
use Rattle.std.specs.FinSet as set
use Rattle.std.specs.List.{filter, zip}
use Rattle.std.proofs.Common.{ap, sym, ◌∙◌, subst}
use Rattle.std.proofs.lemmas.Bool.{or_left, or_right, or_parts, and_parts}
use Rattle.hol_types.specs.Tree.{TypeTree, TyVar}
use Rattle.hol_types.specs.Equal.{variable_eq}
use Rattle.hol_types.specs.Subst.{type_subst}
use Rattle.hol_terms.specs.Named.{Named, named_type}
use Rattle.hol_terms.specs.Nameless.{Nameless, free, bound, fixed, app, lam, nameless, nameless_type, free_occurrences}
use Rattle.hol_terms.specs.Alpha.{strip}
use Rattle.hol_terms.specs.Scoped.{binds}
use Rattle.hol_terms.proofs.Occurs.{binds_append}
use Rattle.hol_terms.proofs.Same.{variable_eq_decides}
use Rattle.hol_terms.proofs.Typing.{type_outside}
use Rattle.hol_subst.specs.FreeName.{is_taken}
use Rattle.hol_subst.specs.Hypotheses.{Hyps, hyps_of}
use Rattle.hol_subst.specs.Shift.{shift}
use Rattle.hol_subst.specs.Substitution.{term_lookup, term_for, term_subst, types_inst, variable_inst}
use Rattle.hol_subst.specs.Variant.{is_free_in}
use Rattle.hol_subst.proofs.Closing.{eq_same}
use Rattle.hol_subst.proofs.HypothesisLists.{hyps_total, hyps_same}
use Rattle.hol_subst.proofs.Typing.{subst_type}
use Rattle.hol_subst.proofs.TypesInst.{inst_type}
use Rattle.hol_formulas.specs.Equation.{bool_type}
use Rattle.hol_formulas.specs.Formula.{connective_type, implication, dest_imp}
use Rattle.hol_formulas.proofs.FormulaLaws.{dest_binary_is}
use Rattle.hol_kernel.specs.Given.{Given, given_sequent}
use Rattle.hol_kernel.specs.Items.{Items}
use Rattle.hol_kernel.specs.Sequent.{Sequent}
use Rattle.hol_kernel.specs.Typing.{is_type, HasType}
use Rattle.hol_kernel.proofs.Variables.{known_typed}
use Rattle.hol_kernel.proofs.Members.{in_union_left}
use Rattle.hol_match.specs.Instance.{InstanceValue, instance_of, both, instantiated}
use Rattle.hol_match.specs.Fixed.{fixed_names, fixed_variables, stays_of}
use Rattle.hol_match.specs.Matches.{GivesTypes, GivesTerms, Says, IsMostGeneral}
use Rattle.hol_match.specs.Matches as matches
use Rattle.hol_match.specs.Matching.{matched}
use Rattle.hol_match.specs.Patterns.{is_apart}
use Rattle.hol_match.specs.Rules.{nodes}
use Rattle.hol_match.proofs.Formulas.{IsFormula}
use Rattle.hol_match.proofs.Lookups.{term_first, term_second, own_term}
use Rattle.hol_match.proofs.Staying.{type_same}
use Rattle.hol_goal.specs.Goal.{GoalValue}
use Rattle.hol_goal.specs.Achieves.{assumed, AreAllowed}
use Rattle.hol_goal.specs.Arguments.{Theorem}
use Rattle.hol_just.specs.Leaving.{concluding, goal_terms, theorem_terms}
use Rattle.hol_just.specs.QuantifierTacs.{terms_by}
use Rattle.hol_just.specs.MatchMp.{OpenedValue, opened, own_variables, generalized_concl, is_undetermined, undetermined, kept, left_open, completed, existentials, premise_at, left_of_match, match_mp_by, match_mp_tac}
use Rattle.hol_just.specs.Valid.{IsValid}
use Rattle.hol_just.specs.Justifies.{holds_given, AreNew, StandsUnder, HasInstance, IsFormulaWith, LeavesPremise}
use Rattle.hol_just.specs.Answering.{IsJustified}
use Rattle.hol_just.specs.declared.reason.Move.{Move}
use Rattle.hol_just.specs.declared.tried.Step.{Step}
use Rattle.hol_just.proofs.QuantifierRules.{allowed_fresh}
use Rattle.hol_just.proofs.Typings.{operands_typed}
use Rattle.hol_just.proofs.MatchAlike.{Alike, AreAlike, GivesSame, matched_alike, alike_gives, same_instance}
use Rattle.hol_just.proofs.MatchApart.{fixed_free, free_listed, apart_tells, apart_part}
use Rattle.hol_just.proofs.MatchStays.{stays_alike}
use Rattle.hol_just.proofs.MatchFixed.{stays_said, alone}
use Rattle.hol_just.proofs.MatchOpened.{IsOpened, opened_is}
use Rattle.hol_just.proofs.MatchTyped.{occurrence_stands, type_at_instance, premise_typed}
use Rattle.hol_just.proofs.Validity.{valid_under}
use Rattle.hol_steps.specs.Matching.{IsFound, IsGeneralized, LeavesByGeneral}
use Rattle.hol_steps.proofs.FreshNames.{not_free}
use Rattle.hol_steps.proofs.KeptVariables.{kept_none, kept_typed, kept_stands, kept_same_types, all_undetermined}
use Rattle.hol_steps.proofs.OwnVariables.{not_of_hyps}
use Rattle.hol_steps.proofs.Stages.{AreApart}
use Rattle.hol_steps.proofs.TermsBy.{free_in_both}

-- ---- what is found

module _ (th : Given) (goal : GoalValue) (t : Nameless) where
  listed_alike :
      (ps : List Named) → hyps_of ps ≡ (given_sequent th).hyps →
      AreAlike (matched 0 t (stays_of (set.items (given_sequent th).hyps)) goal.conclusion) (matched 0 t (stays_of (map (nameless []) ps)) goal.conclusion)
  listed_alike ps are = matched_alike [] 0 t (stays_of (set.items (given_sequent th).hyps)) (stays_of (map (nameless []) ps)) goal.conclusion (stays_alike (given_sequent th).hyps ps are)

  none_alike : (o p : Option InstanceValue) → AreAlike o p → p ≡ None → o ≡ None
  none_alike None p h e = refl
  none_alike (Some a) None h e = absurd h
  none_alike (Some a) (Some b) h e = absurd (cc)

  pub found_by :
      {E : Type 0} (r : Result (Option InstanceValue) E) (ps : List Named) (w : Nameless) → hyps_of ps ≡ (given_sequent th).hyps → w ≡ goal.conclusion →
      IfOk r (λ found. IfSome found (λ a. matched 0 t (stays_of (map (nameless []) ps)) w ≡ Some (both (stays_of (map (nameless []) ps)) a))) →
      IfOk r (λ found. IsNone found → matched 0 t (stays_of (map (nameless []) ps)) w ≡ None) →
      IfOk r (λ found. IfSome found (λ a. IsMostGeneral (stays_of (map (nameless []) ps)) t w a)) →
      IfOk r (λ o. MatchOption o (matched 0 t (stays_of (set.items (given_sequent th).hyps)) goal.conclusion ≡ None) (λ f. IsFound th goal t f))
  found_by (Ok None) ps w are same first none general =
      none_alike (matched 0 t (stays_of (set.items (given_sequent th).hyps)) goal.conclusion) (matched 0 t (stays_of (map (nameless []) ps)) goal.conclusion) (listed_alike ps are)
      (ap (matched 0 t (stays_of (map (nameless []) ps))) (sym same) ∙ none refl)
  found_by (Ok (Some f)) ps w are same first none general = record {
    listed = ps;
    are = are;
    found = ap (matched 0 t (stays_of (map (nameless []) ps))) (sym same) ∙ first;
    general = subst (λ (n : Nameless). IsMostGeneral (stays_of (map (nameless []) ps)) t n f) same general;
  }
  found_by (Err e) ps w are same first none general = tt

-- ---- what is left

insts_same : (g f : InstanceValue) (vs : List (List ℕ × TypeTree)) → GivesSame g f → map (variable_inst g.types) vs ≡ map (variable_inst f.types) vs
insts_same g f [] h = refl
insts_same g f (v ∷ vs) h = λ i. (v.0, type_same g.types f.types v.1 h.0 i) ∷ insts_same g f vs h i

abbrev Terms : Type 0
Terms = List (Nameless × (List ℕ × TypeTree))

-- what the variable becomes, where this is found for it
abbrev given : List ℕ × TypeTree → Option Nameless → Nameless
given v o = unwrap_or o (free v)

-- what more pairs give besides, where both of the first lists give the same
extended_same :
    (g f more : Terms) (v : List ℕ × TypeTree) → term_for g v ≡ term_for f v → ((n : Nameless) → term_lookup g v ≡ Some n → term_lookup f v ≡ None → term_lookup more v ≡ None) →
    (term_lookup g v ≡ None → term_lookup f v ≡ None) → term_for (g ++ more) v ≡ term_for (f ++ more) v
extended_same g f more v same none absent = by (term_lookup g v) (term_lookup f v) refl refl
  where
    by : (o p : Option Nameless) → term_lookup g v ≡ o → term_lookup f v ≡ p → term_for (g ++ more) v ≡ term_for (f ++ more) v
    by (Some n) (Some m) e k =
        ap (given v) (term_first g more v n e) ∙ (sym (ap (given v) e) ∙ same ∙ ap (given v) k) ∙ sym (ap (given v) (term_first f more v m k))
    by (Some n) None e k =
        ap (given v) (term_first g more v n e) ∙ (sym (ap (given v) e) ∙ same ∙ ap (given v) k) ∙ sym (ap (given v) (term_second f more v k ∙ none n e k))
    by None (Some m) e k = let wrong : Some m ≡ None = sym k ∙ absent e in absurd (cc)
    by None None e k = ap (given v) (term_second g more v e) ∙ sym (ap (given v) (term_second f more v k))

-- where they give nothing
extended_by_none : (f more : Terms) (v : List ℕ × TypeTree) → term_lookup more v ≡ None → term_for (f ++ more) v ≡ term_for f v
extended_by_none f more v none = by (term_lookup f v) refl
  where
    by : (o : Option Nameless) → term_lookup f v ≡ o → term_for (f ++ more) v ≡ term_for f v
    by None e = ap (given v) (term_second f more v e ∙ none) ∙ sym (ap (given v) e)
    by (Some n) e = ap (given v) (term_first f more v n e) ∙ sym (ap (given v) e)

-- a term at instances that give the same for its variables
inst_agree :
    (types : List (TypeTree × List ℕ)) (ps qs : Terms) (k : ℕ) (n : Nameless) → ((w : List ℕ × TypeTree) → binds (free_occurrences n) w ≡ true → term_for ps (variable_inst types w) ≡ term_for qs (variable_inst types w)) →
    term_subst ps k (types_inst types n) ≡ term_subst qs k (types_inst types n)
inst_agree types ps qs k (free w) h = ap (shift k 0) (h w (or_left (variable_eq w w) false (eq_same w)))
inst_agree types ps qs k (bound i) h = refl
inst_agree types ps qs k (fixed c s) h = refl
inst_agree types ps qs k (app f x) h = λ i. app
    (inst_agree types ps qs k f (λ w e. h w (binds_append (free_occurrences f) (free_occurrences x) w ∙ or_left (binds (free_occurrences f) w) (binds (free_occurrences x) w) e)) i)
    (inst_agree types ps qs k x (λ w e. h w (binds_append (free_occurrences f) (free_occurrences x) w ∙ or_right (binds (free_occurrences f) w) (binds (free_occurrences x) w) e)) i)
inst_agree types ps qs k (lam a s b) h = ap (lam a (type_subst types s)) (inst_agree types ps qs (k + 1) b h)

-- more pairs leave what the first ones leave
types_more : (f : InstanceValue) (more : Terms) (ps : List (TypeTree × List ℕ)) → GivesTypes f ps → GivesTypes (instance_of f.types (f.terms ++ more)) ps
types_more f more [] h = tt
types_more f more (p ∷ ps) h = (h.0, types_more f more ps h.1)

terms_more :
    (f : InstanceValue) (more : Terms) (vs : List (List ℕ × TypeTree)) → ((v : List ℕ × TypeTree) → binds vs v ≡ true → term_lookup more v ≡ None) → GivesTerms f (map (λ v. (free v, v)) vs) →
    GivesTerms (instance_of f.types (f.terms ++ more)) (map (λ v. (free v, v)) vs)
terms_more f more [] absent h = tt
terms_more f more (v ∷ vs) absent h = (
  ap strip (extended_by_none f.terms more v (absent v (or_left (variable_eq v v) (binds vs v) (eq_same v)))) ∙ h.0,
  terms_more f more vs (λ w e. absent w (or_right (variable_eq v w) (binds vs w) e)) h.1,
)

-- each variable takes a term of its type
pub completed_typed :
    (f : InstanceValue) (terms : List Nameless) (pairs : List ((List ℕ × TypeTree) × (List ℕ × TypeTree))) → matches.IsWellTyped f →
    matches.IsWellTyped (instance_of f.types (f.terms ++ kept f.types terms pairs))
completed_typed f terms pairs typed v = by (term_lookup f.terms v) (term_lookup (kept f.types terms pairs) v) refl refl
  where
    by :
        (o p : Option Nameless) → term_lookup f.terms v ≡ o → term_lookup (kept f.types terms pairs) v ≡ p →
        nameless_type [] (term_for (f.terms ++ kept f.types terms pairs) v) ≡ Some v.1
    by (Some n) p e k =
        ap (λ q. nameless_type [] (given v q)) (term_first f.terms (kept f.types terms pairs) v n e) ∙ sym (ap (λ q. nameless_type [] (given v q)) e) ∙ typed v
    by None (Some n) e k =
        ap (λ q. nameless_type [] (given v q)) (term_second f.terms (kept f.types terms pairs) v e ∙ k) ∙ kept_typed f.types terms pairs v n k
    by None None e k = ap (λ q. nameless_type [] (given v q)) (term_second f.terms (kept f.types terms pairs) v e ∙ k)

-- ---- a match, where the theorem's own variables stay as they are if it does not determine them

module _ (th : Given) (goal : GoalValue) (own vs : List (List ℕ × TypeTree)) (s t : Nameless) (f : InstanceValue) (new : AreApart (terms_by th goal) vs) where
  abbrev hs : List Nameless
  hs = set.items (given_sequent th).hyps

  abbrev pairs : List ((List ℕ × TypeTree) × (List ℕ × TypeTree))
  pairs = filter (λ p. is_undetermined s t p.1) (zip own vs)

  abbrev more : List (Nameless × (List ℕ × TypeTree))
  more = kept f.types (map (λ v. free v) (left_open own vs (s, t) f) ++ set.items (given_sequent th).hyps) (filter (λ p. is_undetermined s t p.1) (zip own vs))

  abbrev whole : InstanceValue
  whole = completed (set.items (given_sequent th).hyps) own vs (s, t) f

  -- what stays is none of them
  stays_absent : (v : List ℕ × TypeTree) → is_free_in (set.items (given_sequent th).hyps) v ≡ true → term_lookup more v ≡ None
  stays_absent v stays =
      kept_none f.types (map (λ v. free v) (left_open own vs (s, t) f) ++ hs) pairs v
      (all_undetermined s t (λ u. u.0 ≡ v.0 → ⊥) own vs (λ u e k same. not_of_hyps th goal u v (new u e) same stays))

  -- what is left is the same, whether what stays is told or not
  module _ (g : InstanceValue) (listed : List Named) (are : hyps_of listed ≡ (given_sequent th).hyps) (alike : Alike g (both (stays_of (map (nameless []) listed)) f)) (left : Says f (stays_of (map (nameless []) listed))) where
    same : GivesSame g f
    same =
        let k = alike_gives g (both (stays_of (map (nameless []) listed)) f) alike in
        let l = alone f (map (nameless []) listed) left in
        (λ x. k.0 x ∙ l.0 x, λ v. k.1 v ∙ l.1 v)

    open_same : left_open own vs (s, t) g ≡ left_open own vs (s, t) f
    open_same = insts_same g f (undetermined s t (drop (length own) vs)) same

    more_same : kept g.types (map (λ v. free v) (left_open own vs (s, t) g) ++ hs) pairs ≡ more
    more_same =
        kept_same_types g.types f.types same.0 (map (λ v. free v) (left_open own vs (s, t) g) ++ hs) pairs
        ∙ ap (λ (us : List (List ℕ × TypeTree)). kept f.types (map (λ v. free v) us ++ hs) pairs) open_same

    abbrev fixed_terms : List (Nameless × (List ℕ × TypeTree))
    fixed_terms = (stays_of (map (nameless []) listed)).terms

    -- what only the longer one tells stays
    only_stays : (v : List ℕ × TypeTree) (n : Nameless) → term_lookup g.terms v ≡ Some n → term_lookup f.terms v ≡ None → term_lookup more v ≡ None
    only_stays v n e none = by (binds (fixed_variables [] (map (nameless []) listed)) v) refl
      where
        by : (b : Bool) → binds (fixed_variables [] (map (nameless []) listed)) v ≡ b → term_lookup more v ≡ None
        by true q = stays_absent v (free_listed (given_sequent th).hyps listed are v ∙ sym (fixed_free (map (nameless []) listed) v) ∙ q)
        by false q =
            let absent : term_lookup fixed_terms v ≡ None = own_term (fixed_variables [] (map (nameless []) listed)) v ∙ ap (λ c. cond c (Some (free v)) None) q in
            let wrong : Some n ≡ None = sym e ∙ alike.1 v ∙ term_second fixed_terms f.terms v absent ∙ none in
            absurd (cc)

    neither : (v : List ℕ × TypeTree) → term_lookup g.terms v ≡ None → term_lookup f.terms v ≡ None
    neither v e = by (term_lookup fixed_terms v) refl
      where
        by : (o : Option Nameless) → term_lookup fixed_terms v ≡ o → term_lookup f.terms v ≡ None
        by None q = sym (term_second fixed_terms f.terms v q) ∙ sym (alike.1 v) ∙ e
        by (Some n) q = let wrong : Some n ≡ None = sym (term_first fixed_terms f.terms v n q) ∙ sym (alike.1 v) ∙ e in absurd (cc)

    gives_same : GivesSame (completed (set.items (given_sequent th).hyps) own vs (s, t) g) whole
    gives_same = (
      same.0,
      λ v. ap (λ (m : List (Nameless × (List ℕ × TypeTree))). term_for (g.terms ++ m) v) more_same ∙ extended_same g.terms f.terms more v (same.1 v) (only_stays v) (neither v),
    )

    pub premise_same : premise_at (set.items (given_sequent th).hyps) own vs (s, t) g ≡ premise_at (set.items (given_sequent th).hyps) own vs (s, t) f
    premise_same = λ i. existentials (open_same i) (same_instance (completed (set.items (given_sequent th).hyps) own vs (s, t) g) whole 0 s gives_same i)

  abbrev own_terms : List Nameless
  own_terms = map (λ v. free v) (left_open own vs (s, t) f) ++ set.items (given_sequent th).hyps

  -- it leaves what stays
  completed_says : (listed : List Named) → hyps_of listed ≡ (given_sequent th).hyps → Says f (stays_of (map (nameless []) listed)) → Says whole (stays_of (set.items (given_sequent th).hyps))
  completed_says listed are says =
      let own = stays_said f (given_sequent th).hyps listed are says in
      (types_more f more (map (λ a. (TyVar a, a)) (fixed_names [] hs)) own.0, terms_more f more (fixed_variables [] hs) (λ v e. stays_absent v (sym (fixed_free hs v) ∙ e)) own.1)

  module _ (body : Nameless) (is : body ≡ implication s t) (apart : is_apart (set.items (given_sequent th).hyps) body ≡ true) where
    in_body : (v : List ℕ × TypeTree) → binds (free_occurrences body) v ≡ (binds (free_occurrences s) v || binds (free_occurrences t) v)
    in_body v = ap (λ n. binds (free_occurrences n) v) is ∙ binds_append (free_occurrences s) (free_occurrences t) v

    not_there : (u w : List ℕ × TypeTree) → binds vs u ≡ true → is_undetermined s t u ≡ true → binds (free_occurrences t) w ≡ true → u.0 ≡ w.0 → ⊥
    not_there u w e k there same = by (is_free_in hs u) refl
      where
        parts : (binds (free_occurrences s) u ≡ true) × (not (binds (free_occurrences t) u) ≡ true)
        parts = and_parts (binds (free_occurrences s) u) (not (binds (free_occurrences t) u)) k

        by : (b : Bool) → is_free_in hs u ≡ b → ⊥
        by true q = not_of_hyps th goal u u (new u e) refl q
        by false q =
            let one : u.1 ≡ w.1 =
            apart_tells hs body apart u w (in_body u ∙ or_left (binds (free_occurrences s) u) (binds (free_occurrences t) u) parts.0) q
            (or_left (binds (free_occurrences body) w) (is_free_in hs w) (in_body w ∙ or_right (binds (free_occurrences s) w) (binds (free_occurrences t) w) there)) same in
            let it : u ≡ w = λ i. (same i, one i) in
            let wrong : false ≡ true = ap not (sym (ap (binds (free_occurrences t)) it ∙ there)) ∙ parts.1 in
            absurd (cc)

    -- t is the same at it
    matched_same : instantiated whole 0 t ≡ instantiated f 0 t
    matched_same =
        inst_agree f.types (f.terms ++ more) f.terms 0 t
        (λ w there. extended_by_none f.terms more (variable_inst f.types w)
        (kept_none f.types (map (λ v. free v) (left_open own vs (s, t) f) ++ hs) pairs (variable_inst f.types w)
        (all_undetermined s t (λ u. u.0 ≡ w.0 → ⊥) own vs (λ u e k same. not_there u w e k there same))))

    pub completed_matches :
        (listed : List Named) (w : Nameless) → hyps_of listed ≡ (given_sequent th).hyps → matches.IsMatch (stays_of (map (nameless []) listed)) t w f →
        matches.IsMatch (stays_of (set.items (given_sequent th).hyps)) body (implication (instantiated (completed (set.items (given_sequent th).hyps) own vs (s, t) f) 0 s) w)
        (completed (set.items (given_sequent th).hyps) own vs (s, t) f)
    completed_matches listed w are fits = record {
      typed = completed_typed f own_terms pairs fits.typed;
      left = completed_says listed are fits.left;
      gives = ap (λ n. strip (instantiated whole 0 n)) is ∙ ap (app (app (fixed (codes "==>") connective_type) (strip (instantiated whole 0 s)))) (ap strip matched_same ∙ fits.gives);
    }

  -- what is left is a formula
  pub premise_formula :
      (basis : Items) (listed : List Named) (w : Nameless) → HasType basis w bool_type → matched 0 t (stays_of (map (nameless []) listed)) w ≡ Some (both (stays_of (map (nameless []) listed)) f) → matches.IsWellTyped f →
      HasType basis s bool_type → HasType basis (premise_at (set.items (given_sequent th).hyps) own vs (s, t) f) bool_type
  premise_formula basis listed w known found typed formula =
      premise_typed basis listed t w f known found s t (drop (length own) vs) more
      (kept_stands f.types basis (map (λ v. free v) (left_open own vs (s, t) f) ++ hs) pairs
      (all_undetermined s t (λ u. is_type basis (variable_inst f.types u).1 ≡ true) own vs
      (λ u e k. type_at_instance basis listed t w f known found u
      (occurrence_stands basis s u (known_typed basis s bool_type formula).0 (and_parts (binds (free_occurrences s) u) (not (binds (free_occurrences t) u)) k).0))))
      (completed_typed f own_terms pairs typed) formula

module _ (th : Given) (goal : GoalValue) (o : OpenedValue) (is : opened (terms_by th goal) (generalized_concl th) ≡ o) where
  pub no_implication : dest_imp o.body ≡ None → match_mp_tac th goal ≡ None
  no_implication e = ap (match_mp_by th goal) is ∙ ap (option_and_then (left_of_match th goal o)) e

  pub no_match : (s t : Nameless) → dest_imp o.body ≡ Some (s, t) → matched 0 t (stays_of (set.items (given_sequent th).hyps)) goal.conclusion ≡ None → match_mp_tac th goal ≡ None
  no_match s t e none =
      ap (match_mp_by th goal) is ∙ ap (option_and_then (left_of_match th goal o)) e
      ∙ ap (option_map (λ a. concluding goal (premise_at (set.items (given_sequent th).hyps) (own_variables th) o.variables (s, t) a) ∷ [])) none

  pub leaves :
      (s t : Nameless) (f : InstanceValue) → dest_imp o.body ≡ Some (s, t) → IsFound th goal t f → AreApart (terms_by th goal) o.variables →
      match_mp_tac th goal ≡ Some (concluding goal (premise_at (set.items (given_sequent th).hyps) (own_variables th) o.variables (s, t) f) ∷ [])
  leaves s t f e found new =
      ap (match_mp_by th goal) is ∙ ap (option_and_then (left_of_match th goal o)) e
      ∙ by (matched 0 t (stays_of (set.items (given_sequent th).hyps)) goal.conclusion)
      (subst (λ (p : Option InstanceValue). AreAlike (matched 0 t (stays_of (set.items (given_sequent th).hyps)) goal.conclusion) p) found.found (listed_alike th goal t found.listed found.are))
    where
      by :
          (p : Option InstanceValue) → AreAlike p (Some (both (stays_of (map (nameless []) found.listed)) f)) →
          option_map (λ a. concluding goal (premise_at (set.items (given_sequent th).hyps) (own_variables th) o.variables (s, t) a) ∷ []) p
          ≡ Some (concluding goal (premise_at (set.items (given_sequent th).hyps) (own_variables th) o.variables (s, t) f) ∷ [])
      by None h = absurd h
      by (Some g) h = ap (λ n. Some (concluding goal n ∷ [])) (premise_same th goal (own_variables th) o.variables s t f new g found.listed found.are h found.general.fits.left)

-- ---- the variables that the match does not determine are new

names_absent :
    (names : List Nameless) (f : InstanceValue) (s t : Nameless) (vs : List (List ℕ × TypeTree)) → AreApart names vs → (v : List ℕ × TypeTree) →
    binds (map (variable_inst f.types) (undetermined s t vs)) v ≡ true → is_taken names v.0 ≡ false
names_absent names f s t [] apart v e = absurd (cc)
names_absent names f s t (u ∷ vs) apart v e =
    by (binds (free_occurrences s) u && not (binds (free_occurrences t) u)) e (names_absent names f s t vs (λ w g. apart w (or_right (variable_eq u w) (binds vs w) g)) v)
  where
    first : (c : Bool) → variable_eq (variable_inst f.types u) v ≡ c → (c || binds (map (variable_inst f.types) (undetermined s t vs)) v) ≡ true →
        (binds (map (variable_inst f.types) (undetermined s t vs)) v ≡ true → is_taken names v.0 ≡ false) → is_taken names v.0 ≡ false
    first true q g r =
        subst (λ (z : List ℕ × TypeTree). is_taken names z.0 ≡ false) ((variable_eq_decides (variable_inst f.types u) v).0 q) (apart u (or_left (variable_eq u u) (binds vs u) (eq_same u)))
    first false q g r = r g

    by :
        (c : Bool) → binds (map (variable_inst f.types) (cond c (u ∷ undetermined s t vs) (undetermined s t vs))) v ≡ true →
        (binds (map (variable_inst f.types) (undetermined s t vs)) v ≡ true → is_taken names v.0 ≡ false) → is_taken names v.0 ≡ false
    by true g r = first (variable_eq (variable_inst f.types u) v) refl g r
    by false g r = r g

module _ (th : Given) (goal : GoalValue) where
  all_new :
      (extra : Hyps) (us : List (List ℕ × TypeTree)) → set.is_subset extra (given_sequent th).hyps ≡ true → ((v : List ℕ × TypeTree) → binds us v ≡ true → is_taken (terms_by th goal) v.0 ≡ false) →
      AreNew extra goal.assumptions goal.conclusion us
  all_new extra us among absent v h =
      let hs = (given_sequent th).hyps in
      let none : is_free_in (terms_by th goal) v ≡ false = not_free (terms_by th goal) v.0 v.1 (absent v h) in
      let parts = or_parts (is_free_in (goal_terms goal) v) (is_free_in (theorem_terms th) v) (sym (free_in_both (goal_terms goal) (theorem_terms th) v) ∙ none) in
      let mine = or_parts (binds (free_occurrences goal.conclusion) v) (is_free_in goal.assumptions v) parts.0 in
      let others = or_parts (binds (free_occurrences (given_sequent th).concl) v) (is_free_in (set.items hs) v) parts.1 in
      let within : AreAllowed hs [] extra = λ p g. in_union_left hyps_total hyps_same hs (assumed []) p (set.is_subset-contains hyps_total extra hs among p g) in
      record { of_extra = allowed_fresh hs [] extra v others.1 refl within; of_assumptions = mine.1; of_conclusion = mine.0 }

-- ---- the justification

apart_after : (names : List Nameless) (n : ℕ) (vs : List (List ℕ × TypeTree)) → AreApart names vs → AreApart names (drop n vs)
apart_after names zero vs h = h
apart_after names (suc n) [] h = h
apart_after names (suc n) (v ∷ vs) h = apart_after names n vs (λ w e. h w (or_right (variable_eq v w) (binds vs w) e))

module _ (th : Given) (goal : GoalValue) (o : OpenedValue) (is : opened (terms_by th goal) (generalized_concl th) ≡ o) (new : AreApart (terms_by th goal) o.variables)
    (apart : is_apart (set.items (given_sequent th).hyps) o.body ≡ true) where
  -- by the theorem, generalized over its own variables
  module _ (g : Given) (general : IsGeneralized th g) (conclusion : IsFormula g) where
    hyps_are : (given_sequent g).hyps ≡ (given_sequent th).hyps
    hyps_are = ap (λ (z : Sequent). z.hyps) general.sequent

    stands_under : StandsUnder g o.variables o.body
    stands_under = record {
      apart = subst (λ (hs : Hyps). is_apart (set.items hs) o.body ≡ true) (sym hyps_are) apart;
      gives = λ basis suit.
          subst (IsOpened basis (given_sequent g).hyps (given_sequent g).concl) (ap (λ (z : Sequent). opened (terms_by th goal) z.concl) general.sequent ∙ is)
          (opened_is basis (given_sequent g).hyps (nodes (given_sequent g).concl) (terms_by th goal) (given_sequent g).concl (conclusion basis suit));
    }

    module _ (s t : Nameless) (f : InstanceValue) (parts : dest_imp o.body ≡ Some (s, t)) (found : IsFound th goal t f) where
      body_is : o.body ≡ implication s t
      body_is = dest_binary_is (codes "==>") connective_type o.body (s, t) parts

      has_instance : HasInstance g o.body (implication (instantiated (completed (set.items (given_sequent th).hyps) (own_variables th) o.variables (s, t) f) 0 s) goal.conclusion)
      has_instance =
          let whole = completed (set.items (given_sequent th).hyps) (own_variables th) o.variables (s, t) f in (
            whole,
            subst (λ (hs : Hyps). matches.IsMatch (stays_of (set.items hs)) o.body (implication (instantiated whole 0 s) goal.conclusion) whole) (sym hyps_are)
                (completed_matches th goal (own_variables th) o.variables s t f new o.body body_is apart found.listed goal.conclusion found.are found.general.fits),
          )

      is_formula : IsFormulaWith g goal.conclusion (premise_at (set.items (given_sequent th).hyps) (own_variables th) o.variables (s, t) f)
      is_formula basis suit typed =
          let formula = subst (λ (n : Nameless). HasType basis n bool_type) body_is (stands_under.gives basis suit).1 in
          premise_formula th goal (own_variables th) o.variables s t f new basis found.listed goal.conclusion typed found.found found.general.fits.typed
          (operands_typed basis (codes "==>") s t bool_type formula).0

      pub justified_by :
          (step : Step) →
          LeavesPremise g o.variables (left_open (own_variables th) o.variables (s, t) f) (instantiated (completed (set.items (given_sequent th).hyps) (own_variables th) o.variables (s, t) f) 0 s) goal.conclusion step.just →
          step.goals.items ≡ concluding goal (premise_at (set.items (given_sequent th).hyps) (own_variables th) o.variables (s, t) f) ∷ [] → IsJustified (Theorem th) goal step
      justified_by step leaves goals extra over =
          let us = left_open (own_variables th) o.variables (s, t) f in
          let rest = drop (length (own_variables th)) o.variables in
          let after = concluding goal (premise_at (set.items (given_sequent th).hyps) (own_variables th) o.variables (s, t) f) in
          subst (λ (gs : List GoalValue). IsValid (holds_given th) extra step.just (goal ∷ []) gs) (sym goals)
          (valid_under (holds_given g) (holds_given th) extra step.just (goal ∷ []) (after ∷ []) (λ basis suit. general.over basis ∙ suit)
          (leaves extra goal.assumptions o.body stands_under has_instance is_formula
          (all_new th goal extra us over.among (names_absent (terms_by th goal) f s t rest (apart_after (terms_by th goal) (length (own_variables th)) o.variables new)))
          (subst (AreAllowed extra goal.assumptions) (sym hyps_are) over.all)))

  pub justified :
      (s t : Nameless) (f : InstanceValue) → dest_imp o.body ≡ Some (s, t) → IsFound th goal t f → (step : Step) →
      LeavesByGeneral th o.variables (left_open (own_variables th) o.variables (s, t) f)
      (instantiated (completed (set.items (given_sequent th).hyps) (own_variables th) o.variables (s, t) f) 0 s) goal.conclusion step.just →
      step.goals.items ≡ concluding goal (premise_at (set.items (given_sequent th).hyps) (own_variables th) o.variables (s, t) f) ∷ [] → IsJustified (Theorem th) goal step
  justified s t f parts found step by goals = justified_by by.general by.is by.formula s t f parts found step by.leaves goals

-- ---- what calls say

pub conclusion_apart : (hs : List Nameless) (body s t : Nameless) → dest_imp body ≡ Some (s, t) → is_apart hs body ≡ true → is_apart hs t ≡ true
conclusion_apart hs body s t parts h =
    apart_part hs body t
    (λ v e.
    ap (λ n. binds (free_occurrences n) v) (dest_binary_is (codes "==>") connective_type body (s, t) parts) ∙ binds_append (free_occurrences s) (free_occurrences t) v
    ∙ or_right (binds (free_occurrences s) v) (binds (free_occurrences t) v) e)
    h

pub instance_formula : (f : InstanceValue) (s : Named) → matches.IsWellTyped f → named_type s ≡ Some bool_type → nameless_type [] (instantiated f 0 (nameless [] s)) ≡ Some bool_type
instance_formula f s typed h =
    subst_type f.terms [] 0 (types_inst f.types (nameless [] s)) typed ∙ inst_type f.types [] (nameless [] s) bool_type (type_outside s ∙ h)

pub typed_as : {E : Type 0} (r : Result Named E) (n : Nameless) → nameless_type [] n ≡ Some bool_type → IfOk r (λ p. nameless [] p ≡ n) → IfOk r (λ p. named_type p ≡ Some bool_type)
typed_as (Ok p) n typed is = sym (type_outside p) ∙ ap (nameless_type []) is ∙ typed
typed_as (Err e) n typed is = is

pub leaves_as :
    (th : Given) (own mine vs us : List (List ℕ × TypeTree)) (p q w c : Nameless) (moves : List Move) → own ≡ mine → vs ≡ us → p ≡ q → w ≡ c → LeavesPremise th own vs p w moves → LeavesPremise th mine us q c moves
leaves_as th own mine vs us p q w c moves a b d e h =
    subst (λ (ns : List (List ℕ × TypeTree)). LeavesPremise th ns us q c moves) a
    (subst (λ (ns : List (List ℕ × TypeTree)). LeavesPremise th own ns q c moves) b
    (subst (λ (n : Nameless). LeavesPremise th own vs n c moves) d (subst (λ (n : Nameless). LeavesPremise th own vs p n moves) e h)))
