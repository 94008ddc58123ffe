-- What a rule makes of a term has the term's type, wherever what the rule was made of can be read.
use Rattle.std.proofs.Common.{◌≡◌, ℕ, List, [], ◌∷◌, ◌++◌, refl, sym, ap, ◌∙◌, subst, Bool, true, false, cond, not, ◌&&◌, ◌||◌, codes, Option, Some, None, unwrap_or}
use Rattle.std.specs.List.{AllByRecursion, list_any, filter}
use Rattle.std.specs.Option.{option_map, option_and_then}
use Rattle.hol_types.specs.Tree.{TypeTree, TyVar}
use Rattle.hol_types.specs.Equal.{type_eq}
use Rattle.hol_types.specs.Fun.{fun_type}
use Rattle.hol_types.specs.Subst.{type_subst}
use Rattle.hol_types.proofs.OrderLaws.{type_cmp_decides}
use Rattle.hol_terms.specs.Nameless.{Nameless, free, bound, fixed, app, lam, nameless_type, free_occurrences, base_of}
use Rattle.hol_terms.specs.Scoped.{binds, add_new, add_all}
use Rattle.hol_subst.specs.Closing.{bind, close, open_with}
use Rattle.hol_subst.specs.Substitution.{types_inst}
use Rattle.hol_subst.proofs.Typing.{typed_closed, mapped_part}
use Rattle.hol_subst.proofs.TypeLaws.{open_type}
use Rattle.hol_formulas.specs.Equation.{Sides, bool_type, equation, dest_eq}
use Rattle.hol_formulas.specs.Formula.{Abstraction, connective_type, negation_type, quantifier_type, connected, conjunction, negation, universal, dest_forall, dest_conj, dest_neg}
use Rattle.hol_formulas.proofs.FormulaLaws.{dest_unary_is, dest_binary_is, dest_quantifier_is}
use Rattle.hol_formulas.proofs.Instance.{instance_of_subst}
use Rattle.hol_kernel.specs.Given.{given_sequent}
use Rattle.hol_kernel.specs.Items.{Items, in_order}
use Rattle.hol_kernel.specs.Signature.{has_constant, makes_constant}
use Rattle.hol_kernel.specs.Typing.{is_type, is_base, is_known, are_types_for, are_typed_for, HasType}
use Rattle.hol_kernel.proofs.Declared.{has_type_is, has_type_of}
use Rattle.hol_kernel.proofs.Sound.{sides_is, strip_type}
use Rattle.hol_kernel.proofs.Stands.{both, some_is, known_open, known_inst, known_subst}
use Rattle.hol_kernel.proofs.Variables.{typed_known, known_typed, variable_typed}
use Rattle.hol_kernel.proofs.WellTyped.{sides_typed}
use Rattle.hol_equal.proofs.Abstractions.{bound_typed}
use Rattle.hol_equal.proofs.Typings.{parts_typed, applied_typed}
use Rattle.hol_match.specs.Contracta.{contracted}
use Rattle.hol_match.specs.Givens.{holds_given}
use Rattle.hol_match.specs.Instance.{InstanceValue, instantiated, both as joint}
use Rattle.hol_match.specs.Matches.{IsWellTyped}
use Rattle.hol_match.specs.Matching.{matched}
use Rattle.hol_match.specs.RuleSets.{beside}
use Rattle.hol_match.specs.Rules.{RuleValue, rule, is_determined, equation_rule, statement_rule, single_rule, generalized}
use Rattle.hol_match.specs.RuleView.{rule_value}
use Rattle.hol_match.specs.SetView.{set_rule, set_given}
use Rattle.hol_match.specs.Sources.{source_whole}
use Rattle.hol_match.specs.Ways.{body_at, stepped, way}
use Rattle.hol_match.specs.declared.rule_step.RuleStep.{RuleStep}
use Rattle.hol_match.specs.declared.rule_step.RuleStep.TheVariants.{At, First, Second}
use Rattle.hol_match.specs.declared.set_rule.SetRule.{SetRule}
use Rattle.hol_match.specs.declared.source.Source.{Source}
use Rattle.hol_match.proofs.Contracta.{instance_type}
use Rattle.hol_match.proofs.Holding.{TermsHold}
use Rattle.hol_match.proofs.RuleSets.{beside_both}
use Rattle.hol_match.specs.Standing.{TermsStand}
use Rattle.hol_match.proofs.Standing.{Adds, matched_stands, types_all}
use Rattle.hol_match.proofs.Staying.{most_general, joint_holds, terms_after}

module _ (basis : Items) where
  -- ---- abstractions
  pub record IsFunction (s : TypeTree) (d : Nameless) (c : TypeTree) : Type 0 where
    pub range : TypeTree
    pub is : fun_type s range ≡ c
    pub domain : is_type basis s ≡ true
    pub known : is_known basis d ≡ true
    pub typed : nameless_type (s ∷ []) d ≡ Some range

  pub function_parts : (b : List ℕ) (s : TypeTree) (d : Nameless) (c : TypeTree) → HasType basis (lam b s d) c → IsFunction s d c
  function_parts b s d c h =
      let p = known_typed basis (lam b s d) c h in
      let outer = both (is_base b) (is_type basis s && is_known basis d) p.0 in
      let inner = both (is_type basis s) (is_known basis d) outer.1 in
      let under = mapped_part (λ t. fun_type s t) (nameless_type (s ∷ []) d) c p.1 in
      record { range = under.0; is = some_is (fun_type s under.0) c (sym (ap (option_map (λ t. fun_type s t)) under.1) ∙ p.1); domain = inner.0; known = inner.1; typed = under.1 }

  pub body_typed : (x : Nameless) (s r : TypeTree) (d : Nameless) → HasType basis x s → is_known basis d ≡ true → nameless_type (s ∷ []) d ≡ Some r → HasType basis (open_with x 0 d) r
  body_typed x s r d h known e =
      let p = known_typed basis x s h in
      typed_known basis (open_with x 0 d) r (known_open basis x 0 d p.0 known) (open_type x s [] d p.1 (typed_closed (s ∷ []) d r e) ∙ e)

  -- ---- generalizing
  forall_stands : (a : TypeTree) → has_constant basis (codes "!") (quantifier_type a) ≡ true
  forall_stands a = ap (λ b. b || list_any (makes_constant (codes "!") (quantifier_type a)) (in_order basis)) (instance_of_subst (quantifier_type (TyVar (codes "A"))) (quantifier_type a) ((a, codes "A") ∷ []) refl)

  quantifier_stands : (a : TypeTree) → is_type basis a ≡ true → is_type basis (quantifier_type a) ≡ true
  quantifier_stands a stands = rw stands refl

  universal_typed : (v : List ℕ × TypeTree) (n : Nameless) → is_type basis v.1 ≡ true → HasType basis n bool_type → HasType basis (universal (record { base = base_of v.0; domain = v.1; body = close v 0 n })) bool_type
  universal_typed v n stands h =
      applied_typed basis (fun_type v.1 bool_type) bool_type (fixed (codes "!") (quantifier_type v.1)) (bind v n)
      (typed_known basis (fixed (codes "!") (quantifier_type v.1)) (quantifier_type v.1) (λ i. quantifier_stands v.1 stands i && forall_stands v.1 i) refl)
      (bound_typed basis v bool_type n stands h)

  abbrev pub Standing : List (List ℕ × TypeTree) → Type 0
  Standing vs = AllByRecursion (λ v. is_type basis v.1 ≡ true) vs

  generalized_typed : (vs : List (List ℕ × TypeTree)) (p : Nameless) → Standing vs → HasType basis p bool_type → HasType basis (generalized vs p) bool_type
  generalized_typed [] p h k = k
  generalized_typed (v ∷ vs) p h k = generalized_typed vs (universal (record { base = base_of v.0; domain = v.1; body = close v 0 p })) h.1 (universal_typed v p h.0 k)

  -- the types of a term's free variables stand
  standing_more : (vs : List (List ℕ × TypeTree)) (w : List ℕ × TypeTree) → Standing vs → is_type basis w.1 ≡ true → Standing (vs ++ w ∷ [])
  standing_more [] w h t = (t, tt)
  standing_more (v ∷ vs) w h t = (h.0, standing_more vs w h.1 t)

  standing_new : (vs ws : List (List ℕ × TypeTree)) → Standing vs → Standing ws → Standing (add_all vs ws)
  standing_new vs [] h t = h
  standing_new vs (w ∷ ws) h t = standing_new (add_new vs w) ws (by (binds vs w)) t.1
    where
      by : (b : Bool) → Standing (cond b vs (vs ++ w ∷ []))
      by true = h
      by false = standing_more vs w h t.0

  standing_both : (vs ws : List (List ℕ × TypeTree)) → Standing vs → Standing ws → Standing (vs ++ ws)
  standing_both [] ws h t = t
  standing_both (v ∷ vs) ws h t = (h.0, standing_both vs ws h.1 t)

  standing_free : (n : Nameless) → is_known basis n ≡ true → Standing (free_occurrences n)
  standing_free (free v) h = (h, tt)
  standing_free (bound i) h = tt
  standing_free (fixed c s) h = tt
  standing_free (app f x) h = let p = both (is_known basis f) (is_known basis x) h in standing_both (free_occurrences f) (free_occurrences x) (standing_free f p.0) (standing_free x p.1)
  standing_free (lam a s b) h = standing_free b (both (is_type basis s) (is_known basis b) (both (is_base a) (is_type basis s && is_known basis b) h).1).1

  pub variables_stand : (n : Nameless) → is_known basis n ≡ true → Standing (add_all [] (free_occurrences n))
  variables_stand n h = standing_new [] (free_occurrences n) tt (standing_free n h)

  standing_some : (f : List ℕ × TypeTree → Bool) (ws : List (List ℕ × TypeTree)) → Standing ws → Standing (filter f ws)
  standing_some f [] h = tt
  standing_some f (w ∷ ws) h = by (f w) (standing_some f ws h.1)
    where
      by : (b : Bool) → Standing (filter f ws) → Standing (cond b (w ∷ filter f ws) (filter f ws))
      by true r = (h.0, r)
      by false r = r

  -- ---- along the way
  sign_fits : (c : List ℕ) (s d : TypeTree) → HasType basis (fixed c s) d → s ≡ d
  sign_fits c s d h = some_is s d (known_typed basis (fixed c s) d h).1

  connected_typed : (c : List ℕ) (p q : Nameless) → HasType basis (connected c p q) bool_type → HasType basis p bool_type × HasType basis q bool_type
  connected_typed c p q h =
      let outer = parts_typed basis (app (fixed c connective_type) p) q bool_type h in
      let inner = parts_typed basis (fixed c connective_type) p (fun_type outer.domain bool_type) outer.function in
      let is : fun_type bool_type (fun_type bool_type bool_type) ≡ fun_type inner.domain (fun_type outer.domain bool_type) = sign_fits c connective_type (fun_type inner.domain (fun_type outer.domain bool_type)) inner.function in
      let first : inner.domain ≡ bool_type = cc in
      let second : outer.domain ≡ bool_type = cc in
      (inner.argument ∙ ap (λ a. Some a) first, outer.argument ∙ ap (λ a. Some a) second)

  -- the body of what p quantifies over, at a variable of its type
  at_typed : (v : List ℕ × TypeTree) (p q : Nameless) (x : Abstraction) (b : Bool) → p ≡ universal x → type_eq v.1 x.domain ≡ b → cond b (Some (open_with (free v) 0 x.body)) None ≡ Some q → HasType basis p bool_type → HasType basis q bool_type
  at_typed v p q x false is k e h = absurd (cc)
  at_typed v p q x true is k e h =
      let same : v.1 ≡ x.domain = (type_cmp_decides v.1 x.domain).0 k in
      let made : open_with (free v) 0 x.body ≡ q = cc in
      let parts = parts_typed basis (fixed (codes "!") (quantifier_type x.domain)) (lam x.base x.domain x.body) bool_type (subst (λ z. HasType basis z bool_type) is h) in
      let sign : fun_type (fun_type x.domain bool_type) bool_type ≡ fun_type parts.domain bool_type = sign_fits (codes "!") (quantifier_type x.domain) (fun_type parts.domain bool_type) parts.function in
      let domain : parts.domain ≡ fun_type x.domain bool_type = cc in
      let f = function_parts x.base x.domain x.body parts.domain parts.argument in
      let whole : fun_type x.domain f.range ≡ fun_type x.domain bool_type = f.is ∙ domain in
      let range : f.range ≡ bool_type = cc in
      subst (λ z. HasType basis z bool_type) made
      (body_typed (free v) x.domain bool_type x.body (variable_typed basis v (ap (is_type basis) same ∙ f.domain) ∙ ap (λ a. Some a) same) f.known (f.typed ∙ ap (λ a. Some a) range))

  part_typed : (first : Bool) (p q : Nameless) (o : Option (Nameless × Nameless)) → dest_conj p ≡ o → option_map (λ d. cond first d.0 d.1) o ≡ Some q → HasType basis p bool_type → HasType basis q bool_type
  part_typed first p q None k e h = absurd (cc)
  part_typed first p q (Some d) k e h =
      let is : p ≡ conjunction d.0 d.1 = dest_binary_is (codes "/\\") connective_type p d k in
      by first (connected_typed (codes "/\\") d.0 d.1 (subst (λ z. HasType basis z bool_type) is h)) e
    where
      by : (b : Bool) → HasType basis d.0 bool_type × HasType basis d.1 bool_type → Some (cond b d.0 d.1) ≡ Some q → HasType basis q bool_type
      by true t f = let made : d.0 ≡ q = cc in subst (λ z. HasType basis z bool_type) made t.0
      by false t f = let made : d.1 ≡ q = cc in subst (λ z. HasType basis z bool_type) made t.1

  step_typed : (s : RuleStep) (p q : Nameless) → stepped s p ≡ Some q → HasType basis p bool_type → HasType basis q bool_type
  step_typed (At v) p q e h = by (dest_forall p) refl e
    where
      by : (o : Option Abstraction) → dest_forall p ≡ o → option_and_then (body_at v) o ≡ Some q → HasType basis q bool_type
      by None k g = absurd (cc)
      by (Some x) k g = at_typed v p q x (type_eq v.1 x.domain) (dest_quantifier_is (codes "!") p x k) refl g h
  step_typed First p q e h = part_typed true p q (dest_conj p) refl e h
  step_typed Second p q e h = part_typed false p q (dest_conj p) refl e h

  way_typed : (steps : List RuleStep) (p q : Nameless) → way steps p ≡ Some q → HasType basis p bool_type → HasType basis q bool_type
  way_typed [] p q e h = let is : p ≡ q = cc in subst (λ z. HasType basis z bool_type) is h
  way_typed (s ∷ steps) p q e h = by (way steps p) (λ m k. way_typed steps p m k h) e
    where
      by : (o : Option Nameless) → ((m : Nameless) → o ≡ Some m → HasType basis m bool_type) → option_and_then (stepped s) o ≡ Some q → HasType basis q bool_type
      by None r g = absurd (cc)
      by (Some m) r g = step_typed s m q g (r m refl)

  -- ---- the rule of a formula
  pub record AreSides (r : RuleValue) : Type 0 where
    pub sides_type : TypeTree
    pub left : HasType basis r.left sides_type
    pub right : HasType basis r.right sides_type

  stated_typed : (p : Nameless) (o : Option Nameless) → dest_neg p ≡ o → HasType basis p bool_type → AreSides (statement_rule o p)
  stated_typed p None k h = record { sides_type = bool_type; left = h; right = refl }
  stated_typed p (Some q) k h =
      let is : p ≡ negation q = dest_unary_is (codes "~") negation_type p q k in
      let parts = parts_typed basis (fixed (codes "~") negation_type) q bool_type (subst (λ z. HasType basis z bool_type) is h) in
      let sign : fun_type bool_type bool_type ≡ fun_type parts.domain bool_type = sign_fits (codes "~") negation_type (fun_type parts.domain bool_type) parts.function in
      let domain : parts.domain ≡ bool_type = cc in
      record { sides_type = bool_type; left = parts.argument ∙ ap (λ a. Some a) domain; right = refl }

  single_typed : (names : List (List ℕ)) (variables : List (List ℕ × TypeTree)) (p : Nameless) → HasType basis p bool_type → AreSides (single_rule names variables p)
  single_typed names variables p h = by (dest_eq p) refl
    where
      taken : (x : Sides) (b : Bool) → p ≡ equation x.sides_type x.left x.right → AreSides (unwrap_or (cond b (Some (rule x.left x.right)) None) (statement_rule (dest_neg p) p))
      taken x false is = stated_typed p (dest_neg p) refl h
      taken x true is =
          let s = sides_typed basis x.sides_type bool_type x.left x.right (subst (λ z. HasType basis z bool_type) is h) in
          record { sides_type = x.sides_type; left = s.0; right = s.1 }

      by : (o : Option Sides) → dest_eq p ≡ o → AreSides (unwrap_or (option_and_then (equation_rule names variables) o) (statement_rule (dest_neg p) p))
      by None k = stated_typed p (dest_neg p) refl h
      by (Some x) k = taken x (is_determined names variables x.left x.right) (sides_is p x k)

  -- ---- a rule
  whole_typed : (s : Source) → holds_given s.given basis ≡ true → HasType basis (source_whole s) bool_type
  whole_typed s h =
      let n = (given_sequent s.given).concl in
      let concl : HasType basis n bool_type = has_type_is basis n bool_type (s.formula basis h) in
      let all = variables_stand n (known_typed basis n bool_type concl).0 in
      generalized_typed s.variables.items n (subst (λ vs. Standing vs) (sym s.own) (standing_some (λ v. not (binds s.fixed.variables.items v)) (add_all [] (free_occurrences n)) all)) concl

  -- its sides have one type
  rule_typed : (r : SetRule) → holds_given (set_given r) basis ≡ true → AreSides (set_rule r).rule
  rule_typed r h = by (way r.rule.way (source_whole r.source.value)) refl r.way
    where
      names : List (List ℕ)
      names = r.source.value.fixed.names.items

      variables : List (List ℕ × TypeTree)
      variables = r.source.value.fixed.variables.items

      by : (o : Option Nameless) → way r.rule.way (source_whole r.source.value) ≡ o → option_map (single_rule names variables) o ≡ Some (rule_value r.rule) → AreSides (rule_value r.rule)
      by None k g = absurd (cc)
      by (Some p) k g =
          let is : single_rule names variables p ≡ rule_value r.rule = cc in
          subst (λ z. AreSides z) is (single_typed names variables p (way_typed r.rule.way (source_whole r.source.value) p k (whole_typed r.source.value h)))

  -- ---- what it makes
  terms_for : (found ps : List (Nameless × (List ℕ × TypeTree))) → TermsHold found ps → TermsStand basis ps → are_typed_for basis ps ≡ true
  terms_for found [] h k = refl
  terms_for found (p ∷ ps) h k = λ i. has_type_of basis p.0 p.1.1 (typed_known basis p.0 p.1.1 k.0 h.0.1) i && terms_for found ps h.1 k.1 i

  instance_typed : (a : InstanceValue) (p : Nameless) (s : TypeTree) → IsWellTyped a → are_types_for basis a.types ≡ true → are_typed_for basis a.terms ≡ true → HasType basis p s → HasType basis (instantiated a 0 p) (type_subst a.types s)
  instance_typed a p s w types terms h =
      let k = known_typed basis p s h in
      typed_known basis (instantiated a 0 p) (type_subst a.types s) (known_subst basis a.terms terms 0 (types_inst a.types p) (known_inst basis a.types types p k.0)) (instance_type a p s w k.1)

  pub contracted_typed : (r : SetRule) (t u : Nameless) (b : TypeTree) → holds_given (set_given r) basis ≡ true → contracted [] (set_rule r) t ≡ Some u → HasType basis t b → HasType basis u b
  contracted_typed r t u b h e k = by (matched 0 left stay t) refl (matched_stands basis 0 left stay t own.0) e
    where
      left : Nameless
      left = (set_rule r).rule.left

      right : Nameless
      right = (set_rule r).rule.right

      stay : InstanceValue
      stay = (set_rule r).stays

      names : List (List ℕ)
      names = r.source.value.fixed.names.items

      variables : List (List ℕ × TypeTree)
      variables = r.source.value.fixed.variables.items

      own : (is_known basis t ≡ true) × (nameless_type [] t ≡ Some b)
      own = known_typed basis t b k

      by : (o : Option InstanceValue) → matched 0 left stay t ≡ o → Adds basis stay o → option_map (λ a. instantiated a 0 right) (option_map (beside stay) o) ≡ Some u → HasType basis u b
      by None q g f = absurd (cc)
      by (Some all) q g f =
          let sides = rule_typed r h in
          let a = g.0 in
          let is : beside stay all ≡ a = ap (beside stay) g.1 ∙ beside_both stay a in
          let made : instantiated (beside stay all) 0 right ≡ u = cc in
          let m : matched 0 left stay t ≡ Some (joint stay a) = q ∙ ap (λ z. Some z) g.1 in
          let fits = (most_general names variables left t a m).fits in
          let types = types_all basis a.types g.2.0 in
          let terms = terms_for (joint stay a).terms a.terms (terms_after names variables a (joint_holds names variables left t a m)) g.2.1 in
          let l = instance_typed a left sides.sides_type fits.typed types terms sides.left in
          let same : Some (type_subst a.types sides.sides_type) ≡ Some b =
          sym (known_typed basis (instantiated a 0 left) (type_subst a.types sides.sides_type) l).1 ∙ sym (strip_type [] (instantiated a 0 left)) ∙ ap (nameless_type []) fits.gives ∙ strip_type [] t ∙ own.1 in
          subst (λ z. HasType basis z b) (ap (λ z. instantiated z 0 right) (sym is) ∙ made) (instance_typed a right sides.sides_type fits.typed types terms sides.right ∙ same)
