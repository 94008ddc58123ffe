-- What the rules of equations give over a set of items they give over every larger one.
use Rattle.std.specs.Prelude.{◌≡◌, Bool, true, false, cond, ◌&&◌, Option, Some, None, is_some, refl}
use Rattle.std.specs.Option.{option_map, option_and_then}
use Rattle.std.specs.FinSet as set
use Rattle.std.proofs.Common.{ap, ◌∙◌}
use Rattle.hol_types.specs.Tree.{TypeTree}
use Rattle.hol_types.specs.Equal.{type_eq}
use Rattle.hol_types.specs.Fun.{fun_parts}
use Rattle.hol_terms.specs.Named.{Named, var, constant, comb, abs}
use Rattle.hol_terms.specs.Nameless.{Nameless}
use Rattle.hol_terms.specs.Alpha.{alpha_eq}
use Rattle.hol_subst.specs.Closing.{open_with}
use Rattle.hol_formulas.specs.Equation.{bool_type, equation, Sides, dest_eq, dest_comb}
use Rattle.hol_formulas.specs.Formula.{Abstraction, dest_abs}
use Rattle.hol_kernel.specs.Items.{Items, IsWithin}
use Rattle.hol_kernel.specs.Sequent.{Sequent, no_hyps, sequent_of}
use Rattle.hol_kernel.specs.Typing.{type_over, is_typed, has_type}
use Rattle.hol_kernel.specs.Widening.{IsMonotone}
use Rattle.hol_kernel.proofs.Subsets.{within_of_subset}
use Rattle.hol_kernel.proofs.Weaken.{typed_wider, has_type_more}
use Rattle.hol_equal.specs.Rules.{at_sides, ap_term_of, sides_at, ap_thm_of, alpha_of, contracted, beta_conv_of, m_with, subst_sides, subst_of}

-- what is made of a term's type, and of no type nothing
pub typed_more : (basis more : Items) → IsWithin basis more → (g : Option TypeTree → Option Sequent) → g None ≡ None → (t : Nameless) (s : Sequent) → g (type_over basis t) ≡ Some s → g (type_over more t) ≡ Some s
typed_more basis more within g none t s e = by (type_over basis t) refl e
  where
    by : (o : Option TypeTree) → type_over basis t ≡ o → g o ≡ Some s → g (type_over more t) ≡ Some s
    by None h f = absurd (cc)
    by (Some a) h f = ap g (typed_wider basis more within t a h) ∙ f

pub ap_term_monotone : (f : Nameless) (a : Sequent) → IsMonotone (λ basis. ap_term_of basis f a)
ap_term_monotone f a basis more h s e = by (dest_eq a.concl) e
  where
    by : (o : Option Sides) → option_and_then (λ e. option_and_then (at_sides f a.hyps e) (option_and_then fun_parts (type_over basis f))) o ≡ Some s → option_and_then (λ e. option_and_then (at_sides f a.hyps e) (option_and_then fun_parts (type_over more f))) o ≡ Some s
    by None g = absurd (cc)
    by (Some x) g = typed_more basis more (within_of_subset basis more h) (λ o. option_and_then (at_sides f a.hyps x) (option_and_then fun_parts o)) refl f s g

pub tested : (a b : Bool) (x s : Sequent) → (a ≡ true → b ≡ true) → cond a (Some x) None ≡ Some s → cond b (Some x) None ≡ Some s
tested true b x s f e = ap (λ k. cond k (Some x) None) (f refl) ∙ e
tested false b x s f e = absurd (cc)

pub ap_thm_monotone : (a : Sequent) (x : Nameless) → IsMonotone (λ basis. ap_thm_of basis a x)
ap_thm_monotone a x basis more h s e = by (dest_eq a.concl) e
  where
    at : (y : Sides) (o : Option (TypeTree × TypeTree)) → option_and_then (sides_at basis x a.hyps y) o ≡ Some s → option_and_then (sides_at more x a.hyps y) o ≡ Some s
    at y None g = absurd (cc)
    at y (Some p) g = tested (has_type basis x p.0) (has_type more x p.0) _ s (has_type_more basis more (within_of_subset basis more h) x p.0) g

    by : (o : Option Sides) → option_and_then (λ e. option_and_then (sides_at basis x a.hyps e) (fun_parts e.sides_type)) o ≡ Some s → option_and_then (λ e. option_and_then (sides_at more x a.hyps e) (fun_parts e.sides_type)) o ≡ Some s
    by None g = absurd (cc)
    by (Some y) g = at y (fun_parts y.sides_type) g

pub alpha_monotone : (l r : Nameless) → IsMonotone (λ basis. alpha_of basis l r)
alpha_monotone l r basis more h s e =
    typed_more basis more (within_of_subset basis more h) (λ o. cond (alpha_eq l r && is_some o) (option_map (λ a. sequent_of no_hyps (equation a l r)) (type_over more l)) None) (second (alpha_eq l r)) r s
    (typed_more basis more (within_of_subset basis more h) (λ o. cond (alpha_eq l r && is_typed basis r) (option_map (λ a. sequent_of no_hyps (equation a l r)) o) None) (first (alpha_eq l r && is_typed basis r)) l s e)
  where
    first : (k : Bool) → cond {A = Option Sequent} k None None ≡ None
    first true = refl
    first false = refl

    second : (k : Bool) → cond (k && false) (option_map (λ a. sequent_of no_hyps (equation a l r)) (type_over more l)) None ≡ None
    second true = refl
    second false = refl

pub beta_conv_monotone : (t : Nameless) → IsMonotone (λ basis. beta_conv_of basis t)
beta_conv_monotone t basis more h s e = by (dest_comb t) e
  where
    at : (r : Nameless) (o : Option Abstraction) → option_and_then (contracted basis t r) o ≡ Some s → option_and_then (contracted more t r) o ≡ Some s
    at r None g = absurd (cc)
    at r (Some x) g = typed_more basis more (within_of_subset basis more h) (option_map (λ a. sequent_of no_hyps (equation a t (open_with r 0 x.body)))) refl t s g

    by : (o : Option (Nameless × Nameless)) → option_and_then (λ p. option_and_then (contracted basis t p.1) (dest_abs p.0)) o ≡ Some s → option_and_then (λ p. option_and_then (contracted more t p.1) (dest_abs p.0)) o ≡ Some s
    by None g = absurd (cc)
    by (Some p) g = at p.1 (dest_abs p.0) g

both_more : (i j k l : Bool) → (j ≡ true → k ≡ true) → (i && (j && l)) ≡ true → (i && (k && l)) ≡ true
both_more true true k l f e = ap (λ b. b && l) (f refl) ∙ e
both_more true false k l f e = absurd (cc)
both_more false j k l f e = absurd (cc)

pub subst_monotone : (a : Sequent) (v : Named) (m : Nameless) (b : Sequent) → IsMonotone (λ basis. subst_of basis a v m b)
subst_monotone a (var v) m b basis more h s e = by (dest_eq a.concl) e
  where
    by : (o : Option Sides) → option_and_then (subst_sides basis v m (set.union a.hyps b.hyps) b.concl) o ≡ Some s → option_and_then (subst_sides more v m (set.union a.hyps b.hyps) b.concl) o ≡ Some s
    by None g = absurd (cc)
    by (Some x) g =
        let same = type_eq v.1 x.sides_type in
        let alike = alpha_eq (m_with x.left v m) b.concl in
        let wider = has_type_more basis more (within_of_subset basis more h) m bool_type in
        tested (same && (has_type basis m bool_type && alike)) (same && (has_type more m bool_type && alike)) (sequent_of (set.union a.hyps b.hyps) (m_with x.right v m)) s (both_more same (has_type basis m bool_type) (has_type more m bool_type) alike wider) g
subst_monotone a (constant c t) m b basis more h s e = absurd (cc)
subst_monotone a (comb f x) m b basis more h s e = absurd (cc)
subst_monotone a (abs v p) m b basis more h s e = absurd (cc)
