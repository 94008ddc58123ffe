-- What the rules of equations answer, from what the code tested.
use Rattle.std.specs.Prelude.{◌≡◌, ℕ, Bool, true, false, cond, ◌&&◌, List, [], Option, Some, None, is_some, refl}
use Rattle.std.specs.Option.{option_map, option_and_then}
use Rattle.std.proofs.Common.{ap, sym, ◌∙◌}
use Rattle.std.proofs.Math.Bool.{and-false}
use Rattle.hol_types.specs.Tree.{TypeTree}
use Rattle.hol_types.specs.Equal.{type_eq}
use Rattle.hol_types.specs.Fun.{fun_type, fun_parts}
use Rattle.hol_terms.specs.Named.{Named, comb, abs, named_type}
use Rattle.hol_terms.specs.Nameless.{Nameless, app, nameless}
use Rattle.hol_types.proofs.OrderLaws.{type_cmp_decides}
use Rattle.hol_formulas.proofs.TypeTests.{fun_parts_is}
use Rattle.hol_terms.specs.Alpha.{alpha_eq}
use Rattle.hol_formulas.specs.Equation.{equation, dest_eq}
use Rattle.hol_formulas.proofs.FormulaLaws.{dest_eq_equation}
use Rattle.hol_kernel.specs.Items.{Items}
use Rattle.hol_kernel.specs.Sequent.{no_hyps, Sequent, sequent_of}
use Rattle.hol_kernel.specs.NamedTyping.{is_known_named}
use Rattle.hol_kernel.specs.Typing.{type_over, is_typed, has_type, HasType}
use Rattle.hol_kernel.specs.Rules.{reflexive, mk_comb_of}
use Rattle.hol_kernel.proofs.Typed.{typed_named, type_over_named}
use Rattle.hol_kernel.specs.Theorem.{Theorem, theorem_on, over}
use Rattle.hol_equal.specs.Applied.{symmetric, combined, under, at_argument, contraction}
use Rattle.hol_equal.specs.Rules.{reversed, sym_of, at_sides, ap_term_of, sides_at, ap_thm_of, beta_conv_of, alpha_of}
use Rattle.hol_equal.proofs.Applies.{sides, mk_comb_yes}

-- a rule that gives a sequent gives its theorem
pub gives : (basis : Items) (o : Option Sequent) (s : Sequent) (th : Theorem) → o ≡ Some s → th ≡ theorem_on basis s → over basis o ≡ Some th
gives basis o s th is given = ap (over basis) is ∙ ap Some (sym given)

pub sym_applies : (a : Sequent) (s : TypeTree) (l r : Nameless) → a.concl ≡ equation s l r → sym_of a ≡ Some (symmetric a)
sym_applies a s l r is = rw is (ap (option_map (reversed a.hyps)) (dest_eq_equation s l r))

module _ (basis : Items) (s t : Nameless) where
  pub alpha_gives : (a : TypeTree) → alpha_eq s t ≡ true → is_typed basis t ≡ true → HasType basis s a → alpha_of basis s t ≡ Some (sequent_of no_hyps (equation a s t))
  alpha_gives a e f typed = λ i. cond (e i && f i) (option_map (λ b. sequent_of no_hyps (equation b s t)) (typed i)) None

-- ---- AP_TERM

module _ (basis : Items) (f : Named) (ty : TypeTree) (has : named_type f ≡ Some ty) (a : Sequent) where
  pub ap_term_none : dest_eq a.concl ≡ None → ap_term_of basis (nameless [] f) a ≡ None
  ap_term_none e = ap (option_and_then (λ e. option_and_then (at_sides (nameless [] f) a.hyps e) (option_and_then fun_parts (type_over basis (nameless [] f))))) e

  module _ (s : TypeTree) (l r : Nameless) (is : a.concl ≡ equation s l r) where
    at : Option TypeTree → Option Sequent
    at o = option_and_then (at_sides (nameless [] f) a.hyps (sides s l r)) (option_and_then fun_parts o)

    ap_term_at : ap_term_of basis (nameless [] f) a ≡ at (cond (is_known_named basis f) (Some ty) None)
    unfolding at
    ap_term_at =
        ap (option_and_then (λ e. option_and_then (at_sides (nameless [] f) a.hyps e) (option_and_then fun_parts (type_over basis (nameless [] f))))) (ap dest_eq is ∙ dest_eq_equation s l r)
        ∙ ap (λ o. option_and_then (at_sides (nameless [] f) a.hyps (sides s l r)) (option_and_then fun_parts o)) (type_over_named basis f ty has)

    pub ap_term_no_function : fun_parts ty ≡ None → ap_term_of basis (nameless [] f) a ≡ None
    unfolding at
    ap_term_no_function e = ap_term_at ∙ by (is_known_named basis f)
      where
        by : (k : Bool) → at (cond k (Some ty) None) ≡ None
        by true = ap (option_and_then (at_sides (nameless [] f) a.hyps (sides s l r))) e
        by false = refl

    module _ (p : TypeTree × TypeTree) (parts : fun_parts ty ≡ Some p) where
      ap_term_test : (k j : Bool) → is_known_named basis f ≡ k → type_eq p.0 s ≡ j → ap_term_of basis (nameless [] f) a ≡ cond (k && j) (Some (sequent_of a.hyps (equation p.1 (app (nameless [] f) l) (app (nameless [] f) r)))) None
      unfolding at
      ap_term_test k j e g = ap_term_at ∙ ap (λ b. at (cond b (Some ty) None)) e ∙ by k
        where
          by : (k : Bool) → at (cond k (Some ty) None) ≡ cond (k && j) (Some (sequent_of a.hyps (equation p.1 (app (nameless [] f) l) (app (nameless [] f) r)))) None
          by true = ap (option_and_then (at_sides (nameless [] f) a.hyps (sides s l r))) parts ∙ ap (λ b. cond b (Some (sequent_of a.hyps (equation p.1 (app (nameless [] f) l) (app (nameless [] f) r)))) None) g
          by false = refl

      pub ap_term_other : type_eq p.0 s ≡ false → ap_term_of basis (nameless [] f) a ≡ None
      ap_term_other g = ap_term_test (is_known_named basis f) false refl g ∙ ap (λ b. cond b (Some (sequent_of a.hyps (equation p.1 (app (nameless [] f) l) (app (nameless [] f) r)))) None) (and-false (is_known_named basis f))

      pub ap_term_untyped : is_typed basis (nameless [] f) ≡ false → ap_term_of basis (nameless [] f) a ≡ None
      ap_term_untyped g = ap_term_test false (type_eq p.0 s) (sym (typed_named basis f ty has) ∙ g) refl

      pub ap_term_gives : type_eq p.0 s ≡ true → is_typed basis (nameless [] f) ≡ true → ap_term_of basis (nameless [] f) a ≡ Some (under ty (nameless [] f) a)
      ap_term_gives g h =
          ap_term_test true true (sym (typed_named basis f ty has) ∙ h) g
          ∙ sym ((λ i. Some (under (fun_parts_is ty p parts i) (nameless [] f) (sequent_of a.hyps (is i)))))

      pub ap_term_applies : type_eq p.0 s ≡ true → mk_comb_of (reflexive (nameless [] f) ty) a ≡ Some (combined (reflexive (nameless [] f) ty) a)
      ap_term_applies g =
          let same : ty ≡ fun_type s p.1 = fun_parts_is ty p parts ∙ ap (λ d. fun_type d p.1) ((type_cmp_decides p.0 s).0 g) in
          (λ i. mk_comb_of (reflexive (nameless [] f) (same i)) (sequent_of a.hyps (is i))) ∙ mk_comb_yes no_hyps a.hyps s p.1 (nameless [] f) (nameless [] f) l r
          ∙ sym (λ i. Some (combined (reflexive (nameless [] f) (same i)) (sequent_of a.hyps (is i))))

-- ---- AP_THM

module _ (basis : Items) (x : Nameless) (a : Sequent) where
  pub ap_thm_none : dest_eq a.concl ≡ None → ap_thm_of basis a x ≡ None
  ap_thm_none e = ap (option_and_then (λ e. option_and_then (sides_at basis x a.hyps e) (fun_parts e.sides_type))) e

  module _ (s : TypeTree) (l r : Nameless) (is : a.concl ≡ equation s l r) where
    ap_thm_at : ap_thm_of basis a x ≡ option_and_then (sides_at basis x a.hyps (sides s l r)) (fun_parts s)
    ap_thm_at = ap (option_and_then (λ e. option_and_then (sides_at basis x a.hyps e) (fun_parts e.sides_type))) (ap dest_eq is ∙ dest_eq_equation s l r)

    pub ap_thm_no_functions : fun_parts s ≡ None → ap_thm_of basis a x ≡ None
    ap_thm_no_functions e = ap_thm_at ∙ ap (option_and_then (sides_at basis x a.hyps (sides s l r))) e

    module _ (p : TypeTree × TypeTree) (parts : fun_parts s ≡ Some p) where
      ap_thm_test : (k : Bool) → has_type basis x p.0 ≡ k → ap_thm_of basis a x ≡ cond k (Some (sequent_of a.hyps (equation p.1 (app l x) (app r x)))) None
      ap_thm_test k e = ap_thm_at ∙ ap (option_and_then (sides_at basis x a.hyps (sides s l r))) parts ∙ ap (λ b. cond b (Some (sequent_of a.hyps (equation p.1 (app l x) (app r x)))) None) e

      pub ap_thm_other : has_type basis x p.0 ≡ false → ap_thm_of basis a x ≡ None
      ap_thm_other e = ap_thm_test false e

      concl_is : a.concl ≡ equation (fun_type p.0 p.1) l r
      concl_is = is ∙ ap (λ t. equation t l r) (fun_parts_is s p parts)

      pub ap_thm_gives : has_type basis x p.0 ≡ true → ap_thm_of basis a x ≡ Some (at_argument x a)
      ap_thm_gives e = ap_thm_test true e ∙ sym (λ i. Some (at_argument x (sequent_of a.hyps (concl_is i))))

      pub ap_thm_applies : mk_comb_of a (reflexive x p.0) ≡ Some (combined a (reflexive x p.0))
      ap_thm_applies =
          (λ i. mk_comb_of (sequent_of a.hyps (concl_is i)) (reflexive x p.0)) ∙ mk_comb_yes a.hyps no_hyps p.0 p.1 l r x x
          ∙ sym (λ i. Some (combined (sequent_of a.hyps (concl_is i)) (reflexive x p.0)))

-- ---- BETA_CONV

pub beta_conv_untyped : (basis : Items) (v : List ℕ × TypeTree) (b x : Named) → is_typed basis (nameless [] (comb (abs v b) x)) ≡ false → beta_conv_of basis (nameless [] (comb (abs v b) x)) ≡ None
beta_conv_untyped basis v b x e = by (type_over basis (nameless [] (comb (abs v b) x))) e
  where
    by : (o : Option TypeTree) → is_some o ≡ false → option_map (λ s. contraction s (nameless [] (comb (abs v b) x))) o ≡ None
    by None f = refl
    by (Some s) f = absurd (cc)

pub beta_conv_gives : (basis : Items) (v : List ℕ × TypeTree) (b x : Named) (s : TypeTree) → HasType basis (nameless [] (comb (abs v b) x)) s → beta_conv_of basis (nameless [] (comb (abs v b) x)) ≡ Some (contraction s (nameless [] (comb (abs v b) x)))
beta_conv_gives basis v b x s typed = ap (option_map (λ s. contraction s (nameless [] (comb (abs v b) x)))) typed

pub ruleset ap_terms = (ap_term_none, ap_term_no_function, ap_term_other, ap_term_untyped)

pub ruleset ap_thms = (ap_thm_none, ap_thm_no_functions, ap_thm_other)
