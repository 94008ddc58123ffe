-- What the rules make of a term that is handed in.
use Rattle.std.specs.Prelude.{◌≡◌, ℕ, Bool, true, false, cond, not, ◌&&◌, List, [], Option, Some, None, is_some, IsSome, refl}
use Rattle.std.specs.Option.{option_map}
use Rattle.std.specs.FinSet as set
use Rattle.std.proofs.Common.{ap, sym, ◌∙◌, subst}
use Rattle.std.proofs.lemmas.Bool.{and_right}
use Rattle.std.proofs.Math.Bool.{and-true}
use mathlib.Core.Bool.{true≢false}
use Rattle.hol_types.specs.Tree.{TypeTree}
use Rattle.hol_types.specs.Equal.{type_eq, variable_eq}
use Rattle.hol_types.specs.Fun.{fun_type}
use Rattle.hol_types.proofs.OrderLaws.{type_cmp_decides}
use Rattle.hol_terms.specs.Named.{Named, var, constant, comb, abs, named_type}
use Rattle.hol_terms.proofs.Same.{variable_eq_decides}
use Rattle.hol_terms.proofs.Typing.{abs_type}
use Rattle.hol_subst.specs.Closing.{bind, close}
use Rattle.hol_subst.specs.Variant.{is_free_in}
use Rattle.hol_subst.proofs.Closing.{nameless_abs, open_close, close_binds}
use Rattle.hol_terms.specs.Nameless.{Nameless, free, app, nameless}
use Rattle.hol_kernel.specs.Items.{Items}
use Rattle.hol_kernel.specs.NamedTyping.{is_known_named}
use Rattle.hol_kernel.specs.Sequent.{Hyps, no_hyps, only_hyp, Sequent, sequent_of}
use Rattle.hol_formulas.specs.Equation.{bool_type, equation, mk_eq}
use Rattle.hol_kernel.specs.Typing.{is_type, is_typed, is_type_at, has_type, type_over, HasType}
use Rattle.hol_kernel.specs.Derivation.{Derives, by_refl, by_assume, by_beta, by_abs}
use Rattle.hol_kernel.specs.Theorem.{IsDerived}
use Rattle.hol_kernel.specs.Rules.{reflexive, refl_of, assume_of, reduced, beta_of, abs_sides, abs_of}
use Rattle.hol_formulas.specs.Equation.{Sides, dest_eq}
use Rattle.hol_kernel.proofs.Typed.{typed_type, typed_named, type_over_named}
use Rattle.hol_formulas.proofs.EquationTypes.{equation_right}
use Rattle.hol_kernel.proofs.Sound.{sides_is}
use Rattle.hol_formulas.proofs.TakingApart.{IsApplied, applied_parts}

-- a derivation along equations of its parts
pub along : (b b' : Items) (h h' : Hyps) (c c' : Named) → b' ≡ b → h' ≡ h → c' ≡ c → Derives b h (nameless [] c) → named_type c ≡ Some bool_type → IsDerived b' h' c'
along b b' h h' c c' p q r d t = record {
  derives = subst (λ (s : Items). Derives s h' (nameless [] c')) (sym p)
      (subst (λ (hs : Hyps). Derives b hs (nameless [] c')) (sym q) (subst (λ (u : Named). Derives b h (nameless [] u)) (sym r) d));
  typed = ap named_type r ∙ t;
}

module _ (basis : Items) (t : Named) (a : TypeTree) (has : named_type t ≡ Some a) where
  -- ---- reflexivity

  pub refl_derived : (own : Items) (hyps : Hyps) (concl : Named) → own ≡ basis → hyps ≡ no_hyps → concl ≡ mk_eq a t t → is_typed basis (nameless [] t) ≡ true → IsDerived own hyps concl
  refl_derived own hyps concl p q r typed =
      along basis own no_hyps hyps (mk_eq a t t) concl p q r (by_refl (nameless [] t) a (typed_type basis t a has typed)) (equation_right a t t has has)

  pub refl_yes : is_typed basis (nameless [] t) ≡ true → refl_of basis (nameless [] t) ≡ Some (reflexive (nameless [] t) a)
  refl_yes typed = ap (option_map (reflexive (nameless [] t))) (typed_type basis t a has typed)

  -- ---- assumption

  test_by : (k : Bool) (b : TypeTree) → is_type_at (cond k (Some a) None) b ≡ (k && type_eq a b)
  test_by true b = refl
  test_by false b = refl

  pub has_type_test : (b : TypeTree) → has_type basis (nameless [] t) b ≡ (is_typed basis (nameless [] t) && type_eq a b)
  has_type_test b =
      ap (λ o. is_type_at o b) (type_over_named basis t a has) ∙ test_by (is_known_named basis t) b
      ∙ ap (λ k. k && type_eq a b) (sym (typed_named basis t a has))

  pub assume_yes : type_eq a bool_type ≡ true → is_typed basis (nameless [] t) ≡ true → assume_of basis (nameless [] t) ≡ Some (sequent_of (only_hyp (nameless [] t)) (nameless [] t))
  assume_yes e f =
      ap (λ k. cond k (Some (sequent_of (only_hyp (nameless [] t)) (nameless [] t))) None) (has_type_test bool_type ∙ (λ i. f i && e i))

  pub assume_no_bool : type_eq a bool_type ≡ false → assume_of basis (nameless [] t) ≡ None
  assume_no_bool e =
      ap (λ k. cond k (Some (sequent_of (only_hyp (nameless [] t)) (nameless [] t))) None)
      (has_type_test bool_type ∙ ap (λ k. is_typed basis (nameless [] t) && k) e ∙ and_right (is_typed basis (nameless [] t)) false refl)

  pub assume_no_type : is_typed basis (nameless [] t) ≡ false → assume_of basis (nameless [] t) ≡ None
  assume_no_type f =
      ap (λ k. cond k (Some (sequent_of (only_hyp (nameless [] t)) (nameless [] t))) None)
      (has_type_test bool_type ∙ ap (λ k. k && type_eq a bool_type) f)

  pub assume_derived : (own : Items) (hyps : Hyps) (concl : Named) → own ≡ basis → hyps ≡ only_hyp (nameless [] t) → concl ≡ t → type_eq a bool_type ≡ true → is_typed basis (nameless [] t) ≡ true → IsDerived own hyps concl
  assume_derived own hyps concl p q r e f =
      let is : a ≡ bool_type = (type_cmp_decides a bool_type).0 e in
      along basis own (only_hyp (nameless [] t)) hyps t concl p q r (by_assume (nameless [] t) (typed_type basis t a has f ∙ ap Some is)) (has ∙ ap Some is)

  -- a formula has the type that its named term has
  pub formula_type : HasType basis (nameless [] t) bool_type → type_eq a bool_type ≡ true
  formula_type h =
      let found : Some a ≡ Some bool_type = sym (typed_type basis t a has (ap is_some h)) ∙ h in
      let same : a ≡ bool_type = cc in
      (type_cmp_decides a bool_type).1 same

  pub formula_typed : type_eq a bool_type ≡ true → is_typed basis (nameless [] t) ≡ true → HasType basis (nameless [] t) bool_type
  formula_typed e f = typed_type basis t a has f ∙ ap Some ((type_cmp_decides a bool_type).0 e)

-- where the term is not well typed nothing is given
pub refl_none : (basis : Items) (t : Nameless) → is_typed basis t ≡ false → refl_of basis t ≡ None
refl_none basis t e = by (type_over basis t) e
  where
    by : (o : Option TypeTree) → is_some o ≡ false → option_map (reflexive t) o ≡ None
    by None f = refl
    by (Some a) f = absurd (cc)

-- ---- beta conversion

-- what the rule makes of the abstraction b of v, of type a at v
abbrev pub converted : Named → Named → TypeTree → Sequent
converted t b a = sequent_of no_hyps (equation a (nameless [] t) (nameless [] b))

module _ (basis : Items) (v w : List ℕ × TypeTree) (b : Named) where
  beta_cond : (k : Bool) → variable_eq v w ≡ k → beta_of basis (comb (abs v b) (var w)) ≡ cond k (option_map (reduced v b) (type_over basis (nameless [] (comb (abs v b) (var v))))) None
  beta_cond k e = ap (λ j. cond j (option_map (reduced v b) (type_over basis (nameless [] (comb (abs v b) (var v))))) None) e

  pub beta_other : variable_eq v w ≡ false → beta_of basis (comb (abs v b) (var w)) ≡ None
  beta_other e = beta_cond false e

  same_redex : variable_eq v w ≡ true → nameless [] (comb (abs v b) (var v)) ≡ nameless [] (comb (abs v b) (var w))
  same_redex e = ap (λ (u : List ℕ × TypeTree). nameless [] (comb (abs v b) (var u))) ((variable_eq_decides v w).0 e)

  pub beta_untyped : variable_eq v w ≡ true → is_typed basis (nameless [] (comb (abs v b) (var w))) ≡ false → beta_of basis (comb (abs v b) (var w)) ≡ None
  beta_untyped e f =
      beta_cond true e ∙ ap (λ (n : Nameless). option_map (reduced v b) (type_over basis n)) (same_redex e) ∙ by (type_over basis (nameless [] (comb (abs v b) (var w)))) f
    where
      by : (o : Option TypeTree) → is_some o ≡ false → option_map (reduced v b) o ≡ None
      by None g = refl
      by (Some a) g = absurd (cc)

  module _ (a : TypeTree) (e : variable_eq v w ≡ true) (typed : HasType basis (nameless [] (comb (abs v b) (var w))) a) where
    beta_yes : beta_of basis (comb (abs v b) (var w)) ≡ Some (converted (comb (abs v b) (var w)) b a)
    beta_yes =
        beta_cond true e ∙ ap (λ (n : Nameless). option_map (reduced v b) (type_over basis n)) (same_redex e) ∙ ap (option_map (reduced v b)) typed
        ∙ ap (λ (n : Nameless). Some (sequent_of no_hyps (equation a n (nameless [] b)))) (same_redex e)

    redex_is : nameless [] (comb (abs v b) (var w)) ≡ app (bind v (nameless [] b)) (free v)
    redex_is = sym (same_redex e) ∙ ap (λ (n : Nameless). app n (free v)) (nameless_abs v b)

    beta_derives : Derives basis no_hyps (equation a (nameless [] (comb (abs v b) (var w))) (nameless [] b))
    beta_derives =
        subst (λ (n : Nameless). Derives basis no_hyps (equation a n (nameless [] b))) (sym redex_is)
        (subst (λ (n : Nameless). Derives basis no_hyps (equation a (app (bind v (nameless [] b)) (free v)) n)) (open_close v 0 (nameless [] b))
        (by_beta a v (close v 0 (nameless [] b)) (subst (λ (n : Nameless). HasType basis n a) redex_is typed) (close_binds v 0 (nameless [] b))))

module _ (basis : Items) (t : Named) (v w : List ℕ × TypeTree) (b : Named) (a : TypeTree) (is : t ≡ comb (abs v b) (var w)) (has : named_type t ≡ Some a) (e : variable_eq v w ≡ true) (typed : is_typed basis (nameless [] t) ≡ true) where
  redex_typed : HasType basis (nameless [] (comb (abs v b) (var w))) a
  redex_typed = subst (λ (u : Named). HasType basis (nameless [] u) a) is (typed_type basis t a has typed)

  pub beta_gives : beta_of basis t ≡ Some (converted t b a)
  beta_gives = ap (beta_of basis) is ∙ beta_yes basis v w b a e redex_typed ∙ ap (λ (u : Named). Some (converted u b a)) (sym is)

  pub beta_derived : (own : Items) (hyps : Hyps) (concl : Named) → own ≡ basis → hyps ≡ no_hyps → concl ≡ mk_eq a t b → named_type b ≡ Some a → IsDerived own hyps concl
  beta_derived own hyps concl p q r f =
      along basis own no_hyps hyps (mk_eq a t b) concl p q r
      (subst (λ (u : Named). Derives basis no_hyps (equation a (nameless [] u) (nameless [] b))) (sym is) (beta_derives basis v w b a e redex_typed)) (equation_right a t b has f)

-- What a term is to which the rule applies: the abstraction of v in b, with its own variable.
pub record IsReduced (basis : Items) (t : Named) (v : List ℕ × TypeTree) (b : Named) : Type 0 where
  pub argument : List ℕ × TypeTree
  pub is : t ≡ comb (abs v b) (var argument)
  pub same : variable_eq v argument ≡ true
  pub typed : is_typed basis (nameless [] t) ≡ true

pub reduces : (basis : Items) (t : Named) (v : List ℕ × TypeTree) (b x : Named) → t ≡ comb (abs v b) x → IsSome (beta_of basis t) → IsReduced basis t v b
reduces basis t v b (var w) e h = by (variable_eq v w) refl (is_typed basis (nameless [] t)) refl
  where
    none : beta_of basis t ≡ None → IsReduced basis t v b
    none n = absurd (true≢false (sym (subst IsSome n h)))

    by : (k : Bool) → variable_eq v w ≡ k → (j : Bool) → is_typed basis (nameless [] t) ≡ j → IsReduced basis t v b
    by false r j s = none (ap (beta_of basis) e ∙ beta_other basis v w b r)
    by true r false s = none (ap (beta_of basis) e ∙ beta_untyped basis v w b r (sym (ap (λ (u : Named). is_typed basis (nameless [] u)) e) ∙ s))
    by true r true s = record { argument = w; is = e; same = r; typed = s }
reduces basis t v b (constant c s) e h = absurd (true≢false (sym (subst (λ (u : Named). IsSome (beta_of basis u)) e h)))
reduces basis t v b (comb f y) e h = absurd (true≢false (sym (subst (λ (u : Named). IsSome (beta_of basis u)) e h)))
reduces basis t v b (abs w d) e h = absurd (true≢false (sym (subst (λ (u : Named). IsSome (beta_of basis u)) e h)))

-- ---- typing

-- the body of an abstraction that is applied has the type of the whole
pub body_type : (t : Named) (v : List ℕ × TypeTree) (b x : Named) (a : TypeTree) → t ≡ comb (abs v b) x → named_type t ≡ Some a → named_type b ≡ Some a
body_type t v b x a is has = by (named_type b) refl parts.function
  where
    parts : IsApplied (abs v b) x a
    parts = applied_parts (abs v b) x a (ap named_type (sym is) ∙ has)

    by : (o : Option TypeTree) → named_type b ≡ o → option_map (fun_type v.1) o ≡ Some (fun_type parts.domain a) → named_type b ≡ Some a
    by None e f = absurd (cc)
    by (Some c) e f = let g : c ≡ a = cc in e ∙ ap Some g

-- ---- abstraction

pub abs_concl : (v : List ℕ × TypeTree) (a : TypeTree) (l r : Named) → nameless [] (mk_eq (fun_type v.1 a) (abs v l) (abs v r)) ≡ equation (fun_type v.1 a) (bind v (nameless [] l)) (bind v (nameless [] r))
abs_concl v a l r = λ i. equation (fun_type v.1 a) (nameless_abs v l i) (nameless_abs v r i)

pub abs_gives : (basis : Items) (v : List ℕ × TypeTree) (a : Sequent) (x : Sides) → dest_eq a.concl ≡ Some x → is_type basis v.1 ≡ true → is_free_in (set.items a.hyps) v ≡ false → abs_of basis (var v) a ≡ Some (sequent_of a.hyps (equation (fun_type v.1 x.sides_type) (bind v x.left) (bind v x.right)))
abs_gives basis v a x e f g =
    ap (abs_sides basis v a.hyps) e
    ∙ (λ i. cond (f i && not (g i)) (Some (sequent_of a.hyps (equation (fun_type v.1 x.sides_type) (bind v x.left) (bind v x.right)))) None)

pub abs_derived : (basis : Items) (v : List ℕ × TypeTree) (s : Sequent) (a : TypeTree) (l r : Named) → Derives basis s.hyps s.concl → dest_eq s.concl ≡ Some (record { sides_type = a; left = nameless [] l; right = nameless [] r }) → is_type basis v.1 ≡ true → is_free_in (set.items s.hyps) v ≡ false → named_type l ≡ Some a → named_type r ≡ Some a → (own : Items) (hyps : Hyps) (concl : Named) → own ≡ basis → hyps ≡ s.hyps → concl ≡ mk_eq (fun_type v.1 a) (abs v l) (abs v r) → IsDerived own hyps concl
abs_derived basis v s a l r d e f g m n own hyps concl p q is =
    let from : Derives basis s.hyps (equation a (nameless [] l) (nameless [] r)) = subst (λ (u : Nameless). Derives basis s.hyps u) (sides_is s.concl (record { sides_type = a; left = nameless [] l; right = nameless [] r }) e) d in
    along basis own s.hyps hyps (mk_eq (fun_type v.1 a) (abs v l) (abs v r)) concl p q is
    (subst (λ (u : Nameless). Derives basis s.hyps u) (sym (abs_concl v a l r))
    (by_abs s.hyps a v (nameless [] l) (nameless [] r) f g from))
    (equation_right (fun_type v.1 a) (abs v l) (abs v r) (abs_type v l a m) (abs_type v r a n))

pub ruleset betas = (beta_other, beta_untyped, beta_gives)

pub ruleset refls = (refl_yes, refl_none)

pub ruleset assumes = (assume_yes, assume_no_bool, assume_no_type)

-- whether a term is well typed, of a type, from tests of the one and of the other
pub typed_test : (basis : Items) (t : Named) (s b : TypeTree) → named_type t ≡ Some s → type_eq s b ≡ true → is_typed basis (nameless [] t) ≡ has_type basis (nameless [] t) b
typed_test basis t s b has e = sym (has_type_test basis t s has b ∙ ap (λ k. is_typed basis (nameless [] t) && k) e ∙ and-true (is_typed basis (nameless [] t)))

pub other_type : (basis : Items) (t : Named) (s b : TypeTree) → named_type t ≡ Some s → type_eq s b ≡ false → has_type basis (nameless [] t) b ≡ false
other_type basis t s b has e = has_type_test basis t s has b ∙ ap (λ k. is_typed basis (nameless [] t) && k) e ∙ and_right (is_typed basis (nameless [] t)) false refl

pub ruleset type_tests = (typed_test, other_type)
