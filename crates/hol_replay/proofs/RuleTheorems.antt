-- The way to a rule's theorem: that the rules of the logic apply, and what they give.
use Rattle.std.proofs.Common.{◌≡◌, ℕ, zero, suc, ◌+◌, ◌<◌, ◌≤◌, List, [], ◌∷◌, drop, length, get_or, refl, sym, ap, ◌∙◌, subst, Bool, true, false, cond, not, codes, Option, Some, None, unwrap_or, arith}
use Rattle.std.specs.Prelude.{IsSome, is_some, Result, Ok, Err}
use Rattle.std.specs.List.{AllByRecursion, filter}
use Rattle.std.specs.Option.{option_map, option_and_then}
use Rattle.std.specs.FinSet as set
use Rattle.std.proofs.lemmas.Bool.{false≢true}
use Rattle.std.proofs.lemmas.List.{drop_all}
use Rattle.std.proofs.lemmas.Option.{same_Some}
use Rattle.hol_types.specs.Tree.{TypeTree}
use Rattle.hol_types.specs.Equal.{type_eq}
use Rattle.hol_types.specs.Fun.{fun_type}
use Rattle.hol_types.proofs.OrderLaws.{type_cmp_decides}
use Rattle.hol_types.proofs.Steps.{next_of}
use Rattle.hol_terms.specs.Named.{Named, var}
use Rattle.hol_terms.specs.Nameless.{Nameless, free, lam, nameless, free_occurrences}
use Rattle.hol_terms.specs.Scoped.{binds, add_all}
use Rattle.hol_subst.specs.Closing.{open_with}
use Rattle.hol_subst.specs.Variant.{is_free_in}
use Rattle.hol_formulas.specs.Equation.{bool_type, equation, dest_eq, Sides}
use Rattle.hol_formulas.specs.Formula.{Abstraction, negation_type, universal, negation, falsity, truth, dest_forall, dest_conj, dest_neg}
use Rattle.hol_formulas.proofs.FormulaLaws.{dest_quantifier_is, dest_unary_is, dest_eq_equation}
use Rattle.hol_kernel.specs.Given.{Given, proved, assumed, given_sequent, given_over, IsOver}
use Rattle.hol_kernel.specs.Gives.{Gives, in_kernel}
use Rattle.hol_kernel.specs.Items.{Items}
use Rattle.hol_kernel.specs.Sequent.{Hyps, sequent_of, only_hyp}
use Rattle.hol_kernel.specs.Theorem.{Theorem, theorem_on, over, IsWellTyped}
use Rattle.hol_kernel.specs.Typing.{is_type, is_known, HasType}
use Rattle.hol_kernel.specs.declared.error.Rule.{Rule}
use Rattle.hol_kernel.specs.declared.error.KernelError.{KernelError}
use Rattle.hol_kernel.specs.declared.error.KernelError.TheVariants.{Refused, Clash, Memory}
use Rattle.hol_kernel.proofs.Sound.{sides_is}
use Rattle.hol_kernel.proofs.Variables.{known_typed, variable_typed}
use Rattle.hol_equal.specs.Unrefused.{IsUnrefused}
use Rattle.hol_equal.specs.Applied.{rand, body}
use Rattle.hol_derived.specs.Applied.{abstraction_in, bound_type, specialized, false_of, generalized as generalized_sequent}
use Rattle.hol_derived.specs.Rules.{conjunct1_of, conjunct2_of, eqt_intro_of}
use Rattle.hol_derived.proofs.Typed.{predicate_typed, domain_stands}
use Rattle.hol_conv.proofs.RuleTypes.{variables_stand}
use Rattle.hol_match.specs.Rules.{RuleValue, rule, single_rule, equation_rule, statement_rule, is_determined, generalized, pattern_variables}
use Rattle.hol_match.specs.Givens.{holds_given}
use Rattle.hol_match.specs.SetView.{set_rule, set_given}
use Rattle.hol_match.specs.Sources.{IsSound, IsFrom}
use Rattle.hol_match.specs.Ways.{body_at, stepped, way, rule_way}
use Rattle.hol_match.specs.declared.rule_step.RuleStep.{RuleStep}
use Rattle.hol_match.specs.declared.rule_step.RuleStep.TheVariants.{At, First, Second}
use Rattle.hol_match.specs.declared.set_rule.SetRule.{SetRule}
use Rattle.hol_match.specs.declared.source.Source.{Source}
use Rattle.hol_replay.specs.RuleTheorems.{IsRuleTheorem, side_equation}
use Rattle.hol_replay.specs.RuleSteps.{IsSame, IsStepped, IsFollowed, IsGeneral, AreGeneral, IsEquation, is_taken}

-- ---- what was given, over the basis
given_gives : (basis : Items) (g : Given) → holds_given g basis ≡ true → given_over basis g ≡ Some (theorem_on basis (given_sequent g))
given_gives basis (proved th) h = refl
given_gives basis (assumed p) h = ap (λ b. over basis (cond b (Some (sequent_of (only_hyp p) p)) None)) h

pub read_over : (basis : Items) (g : Given) → holds_given g basis ≡ true → IsOver g basis
read_over basis (proved th) h = h
read_over basis (assumed p) h = tt

module _ (basis : Items) (g : Given) (read : holds_given g basis ≡ true) (rule : Rule) where
  pub read_unrefused : (r : Result Theorem KernelError) → Gives in_kernel rule (given_over basis g) r → IsUnrefused r
  read_unrefused (Ok th) h = tt
  read_unrefused (Err (Refused r)) h = let same : Some (theorem_on basis (given_sequent g)) ≡ None = sym (given_gives basis g read) ∙ h.1 in absurd (cc)
  read_unrefused (Err (Clash n)) h = absurd h
  read_unrefused (Err Memory) h = tt

  pub read_told : (r : Result Theorem KernelError) (th : Theorem) → Gives in_kernel rule (given_over basis g) r → r ≡ Ok th → th ≡ theorem_on basis (given_sequent g)
  read_told (Ok t) th h e =
      let same : t ≡ th = cc in
      let those : Some t ≡ Some (theorem_on basis (given_sequent g)) = sym h ∙ given_gives basis g read in
      let this : t ≡ theorem_on basis (given_sequent g) = cc in
      sym same ∙ this
  read_told (Err x) th h e = absurd (cc)

pub ruleset reading = (read_over, read_unrefused, read_told)

-- ---- generalizing
general_at : (basis : Items) (hs : Hyps) (vs : List (List ℕ × TypeTree)) (i : ℕ) (v : List ℕ × TypeTree) → AreGeneral basis hs vs → i < length vs → v ≡ get_or vs i v → IsGeneral basis hs v
general_at basis hs [] i v h l e = absurd (omega (arith, l))
general_at basis hs (w ∷ vs) zero v h l e = subst (IsGeneral basis hs) (sym e) h.0
general_at basis hs (w ∷ vs) (suc i) v h l e = general_at basis hs vs i v h.1 (omega (arith, l)) e

-- some variables are done, and the others are still to come
pub record IsGoing (vs rest : List (List ℕ × TypeTree)) (th whole : Theorem) : Type 0 where
  pub basis : whole.basis ≡ th.basis
  pub hyps : whole.sequent.hyps ≡ th.sequent.hyps
  pub concl : generalized vs th.sequent.concl ≡ generalized rest whole.sequent.concl

pub going_first : (vs : List (List ℕ × TypeTree)) (th whole : Theorem) → whole ≡ th → IsGoing vs (drop 0 vs) th whole
going_first vs th whole e = record { basis = ap (λ z. z.basis) e; hyps = ap (λ z. z.sequent.hyps) e; concl = ap (λ z. generalized vs z.sequent.concl) (sym e) ∙ ap (λ ws. generalized ws whole.sequent.concl) (whole_list vs) }
  where
    whole_list : (vs : List (List ℕ × TypeTree)) → vs ≡ drop 0 vs
    whole_list [] = refl
    whole_list (v ∷ vs) = refl

pub going_on : (vs : List (List ℕ × TypeTree)) (i : ℕ) (v : List ℕ × TypeTree) (th whole next : Theorem) → IsGoing vs (drop i vs) th whole → i < length vs → v ≡ get_or vs i v → next ≡ theorem_on whole.basis (generalized_sequent v whole.sequent) → IsGoing vs (drop (i + 1) vs) th next
going_on vs i v th whole next h l e is = record {
  basis = ap (λ z. z.basis) is ∙ h.basis;
  hyps = ap (λ z. z.sequent.hyps) is ∙ h.hyps;
  concl = h.concl ∙ ap (λ ws. generalized ws whole.sequent.concl) (next_of vs i v l e) ∙ ap (λ z. generalized (drop (i + 1) vs) z.sequent.concl) (sym is);
}

pub going_last : (vs : List (List ℕ × TypeTree)) (i : ℕ) (th whole : Theorem) → IsGoing vs (drop i vs) th whole → length vs ≤ i → IsSame (generalized vs th.sequent.concl) th whole
going_last vs i th whole h l = record { basis = h.basis; hyps = h.hyps; concl = sym (h.concl ∙ ap (λ ws. generalized ws whole.sequent.concl) (drop_all i vs l)) }

pub stands_next : (vs : List (List ℕ × TypeTree)) (i : ℕ) (v : List ℕ × TypeTree) (th whole : Theorem) → AreGeneral th.basis th.sequent.hyps vs → IsGoing vs (drop i vs) th whole → i < length vs → v ≡ get_or vs i v → is_type whole.basis v.1 ≡ true
stands_next vs i v th whole a h l e = ap (λ b. is_type b v.1) h.basis ∙ (general_at th.basis th.sequent.hyps vs i v a l e).0

pub absent_next : (vs : List (List ℕ × TypeTree)) (i : ℕ) (v : List ℕ × TypeTree) (th whole : Theorem) → AreGeneral th.basis th.sequent.hyps vs → IsGoing vs (drop i vs) th whole → i < length vs → v ≡ get_or vs i v → is_free_in (set.items whole.sequent.hyps) v ≡ false
absent_next vs i v th whole a h l e = ap (λ (hs : Hyps). is_free_in (set.items hs) v) h.hyps ∙ (general_at th.basis th.sequent.hyps vs i v a l e).1

pub over_next : (vs : List (List ℕ × TypeTree)) (i : ℕ) (th whole : Theorem) (b : Items) → b ≡ th.basis → IsGoing vs (drop i vs) th whole → b ≡ whole.basis
over_next vs i th whole b e h = e ∙ sym h.basis

pub ruleset generalizing = (going_first, going_on, going_last, stands_next, absent_next, over_next)

-- ---- steps
some_first : (go : Nameless → Option Nameless) (o : Option Nameless) → IsSome (option_and_then go o) → IsSome o
some_first go None h = absurd (false≢true h)
some_first go (Some p) h = refl

pub no_step : (steps : List RuleStep) (th r : Theorem) → steps ≡ [] → r ≡ th → IsFollowed steps th r
no_step steps th r e is = record { basis = ap (λ z. z.basis) is; hyps = ap (λ z. z.sequent.hyps) is; concl = ap (λ l. way l th.sequent.concl) e ∙ ap (λ z. Some z.sequent.concl) (sym is) }

-- a last step, after those before
module _ (steps before : List RuleStep) (s : RuleStep) (th : Theorem) (e : steps ≡ s ∷ before) where
  pub before_some : IsSome (way steps th.sequent.concl) → IsSome (way before th.sequent.concl)
  before_some h = some_first (stepped s) (way before th.sequent.concl) (subst (λ l. IsSome (way l th.sequent.concl)) e h)

  pub last_some : (part : Theorem) → IsSome (way steps th.sequent.concl) → IsFollowed before th part → IsSome (stepped s part.sequent.concl)
  last_some part h f = subst (λ (o : Option Nameless). IsSome (option_and_then (stepped s) o)) f.concl (subst (λ l. IsSome (way l th.sequent.concl)) e h)

  pub last_gives : (part r : Theorem) → IsFollowed before th part → IsStepped s part r → IsFollowed steps th r
  last_gives part r f is = record {
    basis = is.basis ∙ f.basis;
    hyps = is.hyps ∙ f.hyps;
    concl = ap (λ l. way l th.sequent.concl) e ∙ ap (option_and_then (stepped s)) f.concl ∙ is.concl;
  }

pub over_part : (steps : List RuleStep) (th part : Theorem) (a b : Items) → b ≡ a → a ≡ th.basis → IsFollowed steps th part → b ≡ part.basis
over_part steps th part a b k e f = k ∙ e ∙ sym f.basis

pub ruleset following = (no_step, before_some, last_some, last_gives, over_part)

-- ---- one step
pub record AtApplies (basis : Items) (v : List ℕ × TypeTree) (p : Nameless) : Type 0 where
  pub is : p ≡ universal (abstraction_in (rand p))
  pub typed : HasType basis (free v) (bound_type (rand p))
  pub gives : stepped (At v) p ≡ Some (open_with (free v) 0 (body (rand p)))

module _ (basis : Items) (v : List ℕ × TypeTree) where
  at_body : (p : Nameless) (x : Abstraction) (b : Bool) → HasType basis p bool_type → p ≡ universal x → dest_forall p ≡ Some x → type_eq v.1 x.domain ≡ b → IsSome (cond b (Some (open_with (free v) 0 x.body)) None) → AtApplies basis v p
  at_body p x true typed is e q h =
      let function : HasType basis (lam x.base x.domain x.body) (fun_type x.domain bool_type) = predicate_typed basis (codes "!") x.domain bool_type (lam x.base x.domain x.body) (subst (λ (z : Nameless). HasType basis z bool_type) is typed) in
      let stands : is_type basis x.domain ≡ true = domain_stands basis x.domain bool_type (lam x.base x.domain x.body) function in
      let same : v.1 ≡ x.domain = (type_cmp_decides v.1 x.domain).0 q in
      let domain : v.1 ≡ bound_type (rand p) = same ∙ ap (λ z. bound_type (rand z)) (sym is) in
      record {
        is = is ∙ ap (λ z. universal (abstraction_in (rand z))) (sym is);
        typed = subst (HasType basis (free v)) domain (variable_typed basis v (ap (is_type basis) same ∙ stands));
        gives = ap (option_and_then (body_at v)) e ∙ ap (λ c. cond c (Some (open_with (free v) 0 x.body)) None) q ∙ ap (λ z. Some (open_with (free v) 0 (body (rand z)))) (sym is);
      }
  at_body p x false typed is e q h = absurd (false≢true h)

  at_parts : (p : Nameless) (o : Option Abstraction) → HasType basis p bool_type → dest_forall p ≡ o → IsSome (option_and_then (body_at v) o) → AtApplies basis v p
  at_parts p None typed e h = absurd (false≢true h)
  at_parts p (Some x) typed e h = at_body p x (type_eq v.1 x.domain) typed (dest_quantifier_is (codes "!") p x e) e refl h

at_applies : (v : List ℕ × TypeTree) (th : Theorem) → IsSome (stepped (At v) th.sequent.concl) → IsWellTyped th → AtApplies th.basis v th.sequent.concl
at_applies v th h w = at_parts th.basis v th.sequent.concl (dest_forall th.sequent.concl) w.conclusion refl h

pub spec_is : (v : List ℕ × TypeTree) (th : Theorem) → IsSome (stepped (At v) th.sequent.concl) → IsWellTyped th → th.sequent.concl ≡ universal (abstraction_in (rand th.sequent.concl))
spec_is v th h w = (at_applies v th h w).is

pub spec_typed : (v : List ℕ × TypeTree) (th : Theorem) (own : Named) → own ≡ var v → IsSome (stepped (At v) th.sequent.concl) → IsWellTyped th → HasType th.basis (nameless [] own) (bound_type (rand th.sequent.concl))
spec_typed v th own e h w = subst (λ z. HasType th.basis (nameless [] z) (bound_type (rand th.sequent.concl))) (sym e) (at_applies v th h w).typed

pub spec_gives : (v : List ℕ × TypeTree) (th r : Theorem) (own : Named) → own ≡ var v → IsSome (stepped (At v) th.sequent.concl) → IsWellTyped th → r ≡ theorem_on th.basis (specialized (nameless [] own) th.sequent) → IsStepped (At v) th r
spec_gives v th r own e h w is = record {
  basis = ap (λ z. z.basis) is;
  hyps = ap (λ z. z.sequent.hyps) is;
  concl = (at_applies v th h w).gives ∙ sym (ap (λ z. Some z.sequent.concl) is ∙ ap (λ z. Some (open_with (nameless [] z) 0 (body (rand th.sequent.concl)))) e);
}

pub ruleset specializing = (spec_is, spec_typed, spec_gives)

-- the parts of a conjunction
module _ (f : Nameless × Nameless → Nameless) (s : RuleStep) (th : Theorem) where
  abbrev part : Option (Nameless × Nameless) → Option Theorem
  part o = over th.basis (option_map (λ q. sequent_of th.sequent.hyps (f q)) o)

  part_applies : (o : Option (Nameless × Nameless)) → stepped s th.sequent.concl ≡ option_map f o → IsSome (stepped s th.sequent.concl) → IsSome (part o)
  part_applies None e h = absurd (false≢true (ap is_some (sym e) ∙ h))
  part_applies (Some q) e h = refl

  part_gives : (r : Theorem) (o : Option (Nameless × Nameless)) → stepped s th.sequent.concl ≡ option_map f o → part o ≡ Some r → IsStepped s th r
  part_gives r None e h = (let none : None ≡ Some r = h in absurd (cc))
  part_gives r (Some q) e h =
      let is : theorem_on th.basis (sequent_of th.sequent.hyps (f q)) ≡ r = same_Some _ r h in
      record {
        basis = ap (λ z. z.basis) (sym is);
        hyps = ap (λ z. z.sequent.hyps) (sym is);
        concl = e ∙ ap (λ z. Some z.sequent.concl) is;
      }

module _ (s : RuleStep) (th : Theorem) where
  pub first_applies : s ≡ First → IsSome (stepped s th.sequent.concl) → IsSome (over th.basis (conjunct1_of th.sequent))
  first_applies e h = part_applies (λ q. q.0) s th (dest_conj th.sequent.concl) (ap (λ z. stepped z th.sequent.concl) e) h

  pub first_gives : (r : Theorem) → s ≡ First → over th.basis (conjunct1_of th.sequent) ≡ Some r → IsStepped s th r
  first_gives r e h = part_gives (λ q. q.0) s th r (dest_conj th.sequent.concl) (ap (λ z. stepped z th.sequent.concl) e) h

  pub second_applies : s ≡ Second → IsSome (stepped s th.sequent.concl) → IsSome (over th.basis (conjunct2_of th.sequent))
  second_applies e h = part_applies (λ q. q.1) s th (dest_conj th.sequent.concl) (ap (λ z. stepped z th.sequent.concl) e) h

  pub second_gives : (r : Theorem) → s ≡ Second → over th.basis (conjunct2_of th.sequent) ≡ Some r → IsStepped s th r
  second_gives r e h = part_gives (λ q. q.1) s th r (dest_conj th.sequent.concl) (ap (λ z. stepped z th.sequent.concl) e) h

pub at_stands : (s : RuleStep) (v : List ℕ × TypeTree) (p : Nameless) → s ≡ At v → IsSome (stepped s p) → IsSome (stepped (At v) p)
at_stands s v p e h = subst (λ z. IsSome (stepped z p)) e h

pub at_gives : (s : RuleStep) (v : List ℕ × TypeTree) (th r : Theorem) → s ≡ At v → IsStepped (At v) th r → IsStepped s th r
at_gives s v th r e h = subst (λ z. IsStepped z th r) (sym e) h

pub ruleset stepping = (first_applies, first_gives, second_applies, second_gives, at_stands, at_gives)

-- ---- the rule's own formula
module _ (names : List (List ℕ)) (variables : List (List ℕ × TypeTree)) where
  pub taken_some : (b : Bool) (p l r : Nameless) (a : TypeTree) → p ≡ equation a l r → b ≡ is_determined names variables l r → b ≡ is_taken names variables p
  taken_some b p l r a e h = h ∙ by (is_determined names variables l r) refl ∙ sym (ap (λ o. is_some (option_and_then (equation_rule names variables) o)) (ap dest_eq e ∙ dest_eq_equation a l r))
    where
      by : (c : Bool) → is_determined names variables l r ≡ c → c ≡ is_some (cond c (Some (rule l r)) None)
      by true q = refl
      by false q = refl

  pub taken_none : (p : Nameless) → dest_eq p ≡ None → false ≡ is_taken names variables p
  taken_none p e = sym (ap (λ o. is_some (option_and_then (equation_rule names variables) o)) e)

  taken_sides : (p : Nameless) (r : RuleValue) (o : Option Sides) → dest_eq p ≡ o → is_some (option_and_then (equation_rule names variables) o) ≡ true → single_rule names variables p ≡ r → (a : TypeTree) × (p ≡ equation a r.left r.right)
  taken_sides p r None e h s = absurd (false≢true h)
  taken_sides p r (Some x) e h s = by (is_determined names variables x.left x.right) refl h
    where
      by : (c : Bool) → is_determined names variables x.left x.right ≡ c → is_some (cond c (Some (rule x.left x.right)) None) ≡ true → (a : TypeTree) × (p ≡ equation a r.left r.right)
      by false q k = absurd (false≢true k)
      by true q k =
          let single : rule x.left x.right ≡ r =
          sym (ap (λ o. unwrap_or (option_and_then (equation_rule names variables) o) (statement_rule (dest_neg p) p)) e ∙ ap (λ c. unwrap_or (cond c (Some (rule x.left x.right)) None) (statement_rule (dest_neg p) p)) q) ∙ s in
          (x.sides_type, sides_is p x e ∙ ap (λ z. equation x.sides_type z.left z.right) single)

  stated : (p : Nameless) → is_taken names variables p ≡ false → single_rule names variables p ≡ statement_rule (dest_neg p) p
  stated p h = by (option_and_then (equation_rule names variables) (dest_eq p)) h
    where
      by : (o : Option RuleValue) → is_some o ≡ false → unwrap_or o (statement_rule (dest_neg p) p) ≡ statement_rule (dest_neg p) p
      by None k = refl
      by (Some r) k = absurd (false≢true (sym k))

  pub equation_taken : (th r : Theorem) (x : RuleValue) (b : Bool) → r ≡ th → b ≡ true → b ≡ is_taken names variables th.sequent.concl → single_rule names variables th.sequent.concl ≡ x → IsEquation x th r
  equation_taken th r x b e t h s =
      let is = taken_sides th.sequent.concl x (dest_eq th.sequent.concl) refl (sym h ∙ t) s in
      (is.0, e ∙ ap (λ z. theorem_on th.basis (sequent_of th.sequent.hyps z)) is.1)

  pub negation_is : (p q : Nameless) → dest_neg p ≡ Some q → p ≡ negation (rand p)
  negation_is p q e = let is : p ≡ negation q = dest_unary_is (codes "~") negation_type p q e in is ∙ ap (λ z. negation (rand z)) (sym is)

  pub refuted : (th r : Theorem) (x : RuleValue) (b : Bool) (q : Nameless) → dest_neg th.sequent.concl ≡ Some q → b ≡ false → b ≡ is_taken names variables th.sequent.concl → single_rule names variables th.sequent.concl ≡ x → r ≡ theorem_on th.basis (false_of th.sequent) → IsEquation x th r
  refuted th r x b q e f h s is =
      let p = th.sequent.concl in
      let whole : p ≡ negation q = dest_unary_is (codes "~") negation_type p q e in
      let rest : rule q falsity ≡ x = sym (stated p (sym h ∙ f) ∙ ap (λ o. statement_rule o p) e) ∙ s in
      (bool_type, is ∙ ap (λ z. theorem_on th.basis (sequent_of th.sequent.hyps (equation bool_type (rand z) falsity))) whole ∙ ap (λ z. side_equation th.basis th.sequent.hyps bool_type z) rest)

  pub established : (th r : Theorem) (x : RuleValue) (b : Bool) → dest_neg th.sequent.concl ≡ None → b ≡ false → b ≡ is_taken names variables th.sequent.concl → single_rule names variables th.sequent.concl ≡ x → r ≡ theorem_on th.basis (eqt_intro_of th.sequent) → IsEquation x th r
  established th r x b e f h s is =
      let p = th.sequent.concl in
      let rest : rule p truth ≡ x = sym (stated p (sym h ∙ f) ∙ ap (λ o. statement_rule o p) e) ∙ s in
      (bool_type, is ∙ ap (λ z. side_equation th.basis th.sequent.hyps bool_type z) rest)

pub ruleset taking = (taken_some, taken_none)

pub ruleset ending = (equation_taken, negation_is, refuted, established)

-- ---- all together
unfixed_all : (hs : Hyps) (basis : Items) (vs ws : List (List ℕ × TypeTree)) → ((v : List ℕ × TypeTree) → is_free_in (set.items hs) v ≡ true → binds vs v ≡ true) → AllByRecursion (λ v. is_type basis v.1 ≡ true) ws → AreGeneral basis hs (filter (λ v. not (binds vs v)) ws)
unfixed_all hs basis vs [] k t = tt
unfixed_all hs basis vs (w ∷ ws) k t = by (binds vs w) refl (unfixed_all hs basis vs ws k t.1)
  where
    absent : binds vs w ≡ false → is_free_in (set.items hs) w ≡ false
    absent q = at (is_free_in (set.items hs) w) refl
      where
        at : (b : Bool) → is_free_in (set.items hs) w ≡ b → b ≡ false
        at true e = absurd (false≢true (sym q ∙ k w e))
        at false e = refl

    by : (b : Bool) → binds vs w ≡ b → AreGeneral basis hs (filter (λ v. not (binds vs v)) ws) → AreGeneral basis hs (cond (not b) (w ∷ filter (λ v. not (binds vs v)) ws) (filter (λ v. not (binds vs v)) ws))
    by true q r = r
    by false q r = ((t.0, absent q), r)

pub general : (s : Source) (basis : Items) (th : Theorem) → IsSound s → th ≡ theorem_on basis (given_sequent s.given) → IsWellTyped th → AreGeneral th.basis th.sequent.hyps s.variables.items
general s basis th sound e w =
    let known : is_known th.basis th.sequent.concl ≡ true = (known_typed th.basis th.sequent.concl bool_type w.conclusion).0 in
    let all : AreGeneral th.basis th.sequent.hyps (pattern_variables s.fixed.variables.items th.sequent.concl) =
    unfixed_all th.sequent.hyps th.basis s.fixed.variables.items (add_all [] (free_occurrences th.sequent.concl)) (λ v f. sound.variables v (ap (λ z. is_free_in (set.items z.sequent.hyps) v) (sym e) ∙ f)) (variables_stand th.basis th.sequent.concl known) in
    subst (AreGeneral th.basis th.sequent.hyps) (sym (sound.own ∙ ap (λ z. pattern_variables s.fixed.variables.items z.sequent.concl) (sym e))) all

some_of : (f : Nameless → RuleValue) (o : Option Nameless) (r : RuleValue) → option_map f o ≡ Some r → IsSome o
some_of f None r e = absurd (cc)
some_of f (Some p) r e = refl

single_of : (f : Nameless → RuleValue) (o : Option Nameless) (p : Nameless) (r : RuleValue) → option_map f o ≡ Some r → o ≡ Some p → f p ≡ r
single_of f o p r e h = let same : Some (f p) ≡ Some r = sym (ap (option_map f) h) ∙ e in cc

-- the theorem's conclusion, generalized, is the source's
whole_is : (s : Source) (basis : Items) (th whole : Theorem) → th ≡ theorem_on basis (given_sequent s.given) → IsSame (generalized s.variables.items th.sequent.concl) th whole → whole.sequent.concl ≡ generalized s.variables.items (given_sequent s.given).concl
whole_is s basis th whole e h = h.concl ∙ ap (λ z. generalized s.variables.items z.sequent.concl) e

pub way_found : (r : SetRule) (basis : Items) (th whole : Theorem) → IsFrom r.source.value (rule_way r.rule) → th ≡ theorem_on basis (given_sequent (set_given r)) → IsSame (generalized r.source.value.variables.items th.sequent.concl) th whole → IsSome (way r.rule.way whole.sequent.concl)
way_found r basis th whole from e h =
    let s = r.source.value in
    subst (λ z. IsSome (way r.rule.way z)) (sym (whole_is s basis th whole e h)) (some_of (single_rule s.fixed.names.items s.fixed.variables.items) (way r.rule.way (generalized s.variables.items (given_sequent s.given).concl)) (set_rule r).rule from)

pub single_found : (r : SetRule) (basis : Items) (th whole part : Theorem) → IsFrom r.source.value (rule_way r.rule) → th ≡ theorem_on basis (given_sequent (set_given r)) → IsSame (generalized r.source.value.variables.items th.sequent.concl) th whole → IsFollowed r.rule.way whole part → single_rule r.source.value.fixed.names.items r.source.value.fixed.variables.items part.sequent.concl ≡ (set_rule r).rule
single_found r basis th whole part from e h f =
    let s = r.source.value in
    single_of (single_rule s.fixed.names.items s.fixed.variables.items) (way r.rule.way (generalized s.variables.items (given_sequent s.given).concl)) part.sequent.concl (set_rule r).rule from
    (ap (way r.rule.way) (sym (whole_is s basis th whole e h)) ∙ f.concl)

pub rule_found : (r : SetRule) (basis : Items) (th whole part last : Theorem) → th ≡ theorem_on basis (given_sequent (set_given r)) → IsSame (generalized r.source.value.variables.items th.sequent.concl) th whole → IsFollowed r.rule.way whole part → IsEquation (set_rule r).rule part last → IsRuleTheorem basis r last
rule_found r basis th whole part last e h f q =
    let basis_is : part.basis ≡ basis = f.basis ∙ h.basis ∙ ap (λ z. z.basis) e in
    let hyps_are : part.sequent.hyps ≡ (given_sequent (set_given r)).hyps = f.hyps ∙ h.hyps ∙ ap (λ z. z.sequent.hyps) e in
    (q.0, q.1 ∙ (λ i. side_equation (basis_is i) (hyps_are i) q.0 (set_rule r).rule))
