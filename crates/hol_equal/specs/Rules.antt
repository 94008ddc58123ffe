-- What each rule of equations makes of sequents, or nothing where it does not apply. A term that is handed in has to be well typed over the prelude and a set of items;
-- a rule on sequents alone asks nothing of items.
-- Hypotheses are sets of terms up to the names of bound variables (`strip`); conclusions keep base names.
-- Source: HOL Light's equal.ml (SYM, AP_TERM, AP_THM, ALPHA, BETA_CONV) and bool.ml (PROVE_HYP); SUBST is this project's own.
use Rattle.std.specs.Prelude.{ℕ, List, [], ◌∷◌, cond, ◌&&◌, Option, Some, None}
use Rattle.std.specs.Option.{option_map, option_and_then}
use Rattle.std.specs.FinSet as set
use Rattle.hol_types.specs.Tree.{TypeTree}
use Rattle.hol_types.specs.Equal.{type_eq}
use Rattle.hol_types.specs.Fun.{fun_parts}
use Rattle.hol_terms.specs.Named.{Named, var, constant, comb, abs}
use Rattle.hol_terms.specs.Nameless.{Nameless, app}
use Rattle.hol_terms.specs.Alpha.{strip, alpha_eq}
use Rattle.hol_subst.specs.Substitution.{term_subst}
use Rattle.hol_subst.specs.Closing.{open_with}
use Rattle.hol_formulas.specs.Equation.{bool_type, equation, Sides, dest_eq, dest_comb}
use Rattle.hol_formulas.specs.Formula.{Abstraction, dest_abs}
use Rattle.hol_kernel.specs.Items.{Items}
use Rattle.hol_kernel.specs.Sequent.{Hyps, no_hyps, Sequent, sequent_of}
use Rattle.hol_kernel.specs.Typing.{type_over, is_typed, has_type}

-- SYM: from s = t, t = s
abbrev pub reversed : Hyps → Sides → Sequent
reversed hs e = sequent_of hs (equation e.sides_type e.right e.left)

abbrev pub sym_of : Sequent → Option Sequent
sym_of a = option_map (reversed a.hyps) (dest_eq a.concl)

-- AP_TERM: from s = t, f s = f t, for a function f of what has the type of s
abbrev pub at_sides : Nameless → Hyps → Sides → TypeTree × TypeTree → Option Sequent
at_sides f hs e p = cond (type_eq p.0 e.sides_type) (Some (sequent_of hs (equation p.1 (app f e.left) (app f e.right)))) None

abbrev pub function_over : Items → Nameless → Option (TypeTree × TypeTree)
function_over basis f = option_and_then fun_parts (type_over basis f)

abbrev pub ap_term_of : Items → Nameless → Sequent → Option Sequent
ap_term_of basis f a = option_and_then (λ e. option_and_then (at_sides f a.hyps e) (function_over basis f)) (dest_eq a.concl)

-- AP_THM: from s = t, s x = t x, for an argument x of the functions s and t
abbrev pub sides_at : Items → Nameless → Hyps → Sides → TypeTree × TypeTree → Option Sequent
sides_at basis x hs e p = cond (has_type basis x p.0) (Some (sequent_of hs (equation p.1 (app e.left x) (app e.right x)))) None

abbrev pub ap_thm_of : Items → Sequent → Nameless → Option Sequent
ap_thm_of basis a x = option_and_then (λ e. option_and_then (sides_at basis x a.hyps e) (fun_parts e.sides_type)) (dest_eq a.concl)

-- ALPHA: s = t, for terms s and t that are equal up to bound names
abbrev pub alpha_of : Items → Nameless → Nameless → Option Sequent
alpha_of basis s t = cond (alpha_eq s t && is_typed basis t) (option_map (λ a. sequent_of no_hyps (equation a s t)) (type_over basis s)) None

-- BETA_CONV: (\x. b) r = b with r for x
abbrev pub contracted : Items → Nameless → Nameless → Abstraction → Option Sequent
contracted basis t r x = option_map (λ a. sequent_of no_hyps (equation a t (open_with r 0 x.body))) (type_over basis t)

abbrev pub beta_conv_of : Items → Nameless → Option Sequent
beta_conv_of basis t = option_and_then (λ p. option_and_then (contracted basis t p.1) (dest_abs p.0)) (dest_comb t)

-- PROVE_HYP: from A |- p and B |- q, A u (B - p) |- q
abbrev pub prove_hyp_of : Sequent → Sequent → Sequent
prove_hyp_of a b = sequent_of (set.union a.hyps (set.remove b.hyps (strip a.concl))) b.concl

-- SUBST: from s = t and m with s for the variable v, m with t for v; m is a formula
abbrev pub m_with : Nameless → List ℕ × TypeTree → Nameless → Nameless
m_with r v m = term_subst ((r, v) ∷ []) 0 m

abbrev pub subst_sides : Items → List ℕ × TypeTree → Nameless → Hyps → Nameless → Sides → Option Sequent
subst_sides basis v m hs q e =
    cond (type_eq v.1 e.sides_type && (has_type basis m bool_type && alpha_eq (m_with e.left v m) q)) (Some (sequent_of hs (m_with e.right v m))) None

abbrev pub subst_of : Items → Sequent → Named → Nameless → Sequent → Option Sequent
subst_of basis a (var v) m b = option_and_then (subst_sides basis v m (set.union a.hyps b.hyps) b.concl) (dest_eq a.concl)
subst_of basis a (constant c s) m b = None
subst_of basis a (comb f x) m b = None
subst_of basis a (abs v p) m b = None
