-- Rules keep hypotheses.
use Rattle.std.specs.Prelude.{◌≡◌, Bool, true, false, cond, not, ◌&&◌, ◌||◌, Option, Some, None, refl}
use Rattle.std.specs.Option.{option_map, option_and_then}
use Rattle.std.specs.Ordering.{eq_by_cmp}
use Rattle.std.specs.FinSet as set
use Rattle.std.proofs.Common.{ap, sym, ◌∙◌}
use Rattle.hol_types.specs.Tree.{TypeTree}
use Rattle.hol_types.specs.Equal.{type_eq}
use Rattle.hol_types.specs.Fun.{fun_parts}
use Rattle.hol_terms.specs.Named.{Named, var, constant, comb, abs}
use Rattle.hol_terms.specs.Nameless.{Nameless, app}
use Rattle.hol_terms.specs.Alpha.{strip, alpha_eq}
use Rattle.hol_subst.specs.AlphaOrder.{nameless_cmp}
use Rattle.hol_subst.specs.Closing.{open_with}
use Rattle.hol_formulas.specs.Equation.{bool_type, equation, Sides, dest_eq, dest_comb}
use Rattle.hol_formulas.specs.Formula.{Abstraction, dest_abs}
use Rattle.hol_kernel.specs.Items.{Items}
use Rattle.hol_kernel.specs.Sequent.{Hyps, no_hyps, Sequent, sequent_of}
use Rattle.hol_kernel.specs.Typing.{type_over, is_typed, has_type}
use Rattle.hol_kernel.proofs.HypothesisLists.{hyps_total}
use Rattle.hol_equal.specs.Hypotheses.{StaysWithin}
use Rattle.hol_equal.specs.Rules.{reversed, sym_of, at_sides, function_over, ap_term_of, sides_at, ap_thm_of, alpha_of, contracted, beta_conv_of, prove_hyp_of, m_with, subst_sides, subst_of}

pub all_within : (hs : Hyps) → set.is_subset hs hs ≡ true
all_within hs = set.contains-is_subset hyps_total hs hs (λ q h. h)

pub tested_within : (hs ks : Hyps) (t : Nameless) (k : Bool) → set.is_subset ks hs ≡ true → StaysWithin hs (cond k (Some (sequent_of ks t)) None)
tested_within hs ks t true e = e
tested_within hs ks t false e = tt

pub removed : (a n b : Bool) → (a || (n && b)) ≡ true → (a || b) ≡ true
removed true n b e = refl
removed false true b e = e
removed false false b e = absurd (cc)

pub left_within : (hs ks : Hyps) (k : Nameless) → set.is_subset (set.union hs (set.remove ks k)) (set.union hs ks) ≡ true
left_within hs ks k =
    set.contains-is_subset hyps_total (set.union hs (set.remove ks k)) (set.union hs ks)
    (λ q h. set.contains-union hyps_total hs ks q
    ∙ removed (set.contains hs q) (not (eq_by_cmp nameless_cmp q k)) (set.contains ks q)
    (ap (λ b. set.contains hs q || b) (sym (set.contains-remove hyps_total ks k q)) ∙ sym (set.contains-union hyps_total hs (set.remove ks k) q) ∙ h))

pub sym_keeps : (a : Sequent) → StaysWithin a.hyps (sym_of a)
sym_keeps a = by (dest_eq a.concl)
  where
    by : (o : Option Sides) → StaysWithin a.hyps (option_map (reversed a.hyps) o)
    by None = tt
    by (Some e) = all_within a.hyps

pub ap_term_keeps : (basis : Items) (f : Nameless) (a : Sequent) → StaysWithin a.hyps (ap_term_of basis f a)
ap_term_keeps basis f a = by (dest_eq a.concl)
  where
    at : (e : Sides) (o : Option (TypeTree × TypeTree)) → StaysWithin a.hyps (option_and_then (at_sides f a.hyps e) o)
    at e None = tt
    at e (Some p) = tested_within a.hyps a.hyps (equation p.1 (app f e.left) (app f e.right)) (type_eq p.0 e.sides_type) (all_within a.hyps)

    by : (o : Option Sides) → StaysWithin a.hyps (option_and_then (λ e. option_and_then (at_sides f a.hyps e) (function_over basis f)) o)
    by None = tt
    by (Some e) = at e (function_over basis f)

pub ap_thm_keeps : (basis : Items) (a : Sequent) (x : Nameless) → StaysWithin a.hyps (ap_thm_of basis a x)
ap_thm_keeps basis a x = by (dest_eq a.concl)
  where
    at : (e : Sides) (o : Option (TypeTree × TypeTree)) → StaysWithin a.hyps (option_and_then (sides_at basis x a.hyps e) o)
    at e None = tt
    at e (Some p) = tested_within a.hyps a.hyps (equation p.1 (app e.left x) (app e.right x)) (has_type basis x p.0) (all_within a.hyps)

    by : (o : Option Sides) → StaysWithin a.hyps (option_and_then (λ e. option_and_then (sides_at basis x a.hyps e) (fun_parts e.sides_type)) o)
    by None = tt
    by (Some e) = at e (fun_parts e.sides_type)

pub alpha_keeps : (basis : Items) (s t : Nameless) → StaysWithin no_hyps (alpha_of basis s t)
alpha_keeps basis s t = by (alpha_eq s t && is_typed basis t) (type_over basis s)
  where
    by : (k : Bool) (o : Option TypeTree) → StaysWithin no_hyps (cond k (option_map (λ a. sequent_of no_hyps (equation a s t)) o) None)
    by false o = tt
    by true None = tt
    by true (Some a) = all_within no_hyps

pub beta_conv_keeps : (basis : Items) (t : Nameless) → StaysWithin no_hyps (beta_conv_of basis t)
beta_conv_keeps basis t = by (dest_comb t)
  where
    of : (r : Nameless) (x : Abstraction) (o : Option TypeTree) → StaysWithin no_hyps (option_map (λ a. sequent_of no_hyps (equation a t (open_with r 0 x.body))) o)
    of r x None = tt
    of r x (Some a) = all_within no_hyps

    at : (p : Nameless × Nameless) (o : Option Abstraction) → StaysWithin no_hyps (option_and_then (contracted basis t p.1) o)
    at p None = tt
    at p (Some x) = of p.1 x (type_over basis t)

    by : (o : Option (Nameless × Nameless)) → StaysWithin no_hyps (option_and_then (λ p. option_and_then (contracted basis t p.1) (dest_abs p.0)) o)
    by None = tt
    by (Some p) = at p (dest_abs p.0)

pub prove_hyp_keeps : (a b : Sequent) → StaysWithin (set.union a.hyps b.hyps) (Some (prove_hyp_of a b))
prove_hyp_keeps a b = left_within a.hyps b.hyps (strip a.concl)

pub subst_keeps : (basis : Items) (a : Sequent) (v : Named) (m : Nameless) (b : Sequent) → StaysWithin (set.union a.hyps b.hyps) (subst_of basis a v m b)
subst_keeps basis a (var v) m b = by (dest_eq a.concl)
  where
    by : (o : Option Sides) → StaysWithin (set.union a.hyps b.hyps) (option_and_then (subst_sides basis v m (set.union a.hyps b.hyps) b.concl) o)
    by None = tt
    by (Some e) =
        tested_within (set.union a.hyps b.hyps) (set.union a.hyps b.hyps) (m_with e.right v m)
        (type_eq v.1 e.sides_type && (has_type basis m bool_type && alpha_eq (m_with e.left v m) b.concl)) (all_within (set.union a.hyps b.hyps))
subst_keeps basis a (constant c s) m b = tt
subst_keeps basis a (comb f x) m b = tt
subst_keeps basis a (abs v p) m b = tt
