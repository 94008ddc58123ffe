-- What each rule makes of sequents, or nothing where it does not apply (fusion.ml). A term or type that is handed in has to be well typed over the prelude and a set
-- of items; a rule on sequents alone asks nothing of items.
use Rattle.std.specs.Prelude.{ℕ, List, [], Bool, false, cond, not, ◌&&◌, Option, Some, None}
use Rattle.std.specs.Option.{option_map}
use Rattle.std.specs.List.{list_all}
use Rattle.std.specs.FinSet as set
use Rattle.hol_types.specs.Tree.{TypeTree}
use Rattle.hol_types.specs.Equal.{type_eq, variable_eq}
use Rattle.hol_types.specs.Fun.{fun_type, fun_parts}
use Rattle.hol_terms.specs.Named.{Named, var, constant, comb, abs}
use Rattle.hol_terms.specs.Nameless.{Nameless, app, nameless}
use Rattle.hol_terms.specs.Alpha.{strip, alpha_eq}
use Rattle.hol_subst.specs.Substitution.{term_subst, types_inst}
use Rattle.hol_subst.specs.Closing.{bind}
use Rattle.hol_subst.specs.Variant.{is_free_in}
use Rattle.hol_subst.specs.Pairs.{nameless_pairs}
use Rattle.hol_formulas.specs.Equation.{bool_type, equation, Sides, dest_eq}
use Rattle.hol_formulas.specs.Prelude.{statement_of}
use Rattle.hol_formulas.specs.declared.postulate.Postulate.{Postulate}
use Rattle.hol_kernel.specs.Items.{Items}
use Rattle.hol_kernel.specs.Sequent.{Hyps, no_hyps, only_hyp, hyps_image, Sequent, sequent_of}
use Rattle.hol_kernel.specs.Typing.{is_type, type_over, has_type, are_types_for}

-- ---- rules on terms handed in

-- REFL: |- t = t, for t well typed over the prelude and the items
abbrev pub reflexive : Nameless → TypeTree → Sequent
reflexive t a = sequent_of no_hyps (equation a t t)

abbrev pub refl_of : Items → Nameless → Option Sequent
refl_of basis t = option_map (reflexive t) (type_over basis t)

-- ASSUME: {p} |- p, for p of type bool
abbrev pub assume_of : Items → Nameless → Option Sequent
assume_of basis p = cond (has_type basis p bool_type) (Some (sequent_of (only_hyp p) p)) None

-- BETA: (\v. b) v = b, for a term that is an abstraction applied to its own variable
abbrev pub reduced : List ℕ × TypeTree → Named → TypeTree → Sequent
reduced v b a = sequent_of no_hyps (equation a (nameless [] (comb (abs v b) (var v))) (nameless [] b))

abbrev pub beta_at : Items → List ℕ × TypeTree → Named → Named → Option Sequent
beta_at basis v b (var w) = cond (variable_eq v w) (option_map (reduced v b) (type_over basis (nameless [] (comb (abs v b) (var v))))) None
beta_at basis v b (constant c s) = None
beta_at basis v b (comb f x) = None
beta_at basis v b (abs w d) = None

abbrev pub beta_applied : Items → Named → Named → Option Sequent
beta_applied basis (var v) x = None
beta_applied basis (constant c s) x = None
beta_applied basis (comb f y) x = None
beta_applied basis (abs v b) x = beta_at basis v b x

abbrev pub beta_of : Items → Named → Option Sequent
beta_of basis (var v) = None
beta_of basis (constant c s) = None
beta_of basis (comb f x) = beta_applied basis f x
beta_of basis (abs v b) = None

-- ---- rules on sequents

-- TRANS: from s = m and n = t, where m and n are equal up to bound names, s = t
abbrev pub trans_sides : Hyps → Option Sides → Option Sides → Option Sequent
trans_sides hs (Some x) (Some y) = cond (alpha_eq x.right y.left) (Some (sequent_of hs (equation x.sides_type x.left y.right))) None
trans_sides hs (Some x) None = None
trans_sides hs None y = None

abbrev pub trans_of : Sequent → Sequent → Option Sequent
trans_of a b = trans_sides (set.union a.hyps b.hyps) (dest_eq a.concl) (dest_eq b.concl)

-- MK_COMB: from f = g and x = y, where the type of x is that of f's argument, f x = g y
abbrev pub comb_parts : Hyps → Sides → Sides → Option (TypeTree × TypeTree) → Option Sequent
comb_parts hs x y (Some p) = cond (type_eq p.0 y.sides_type) (Some (sequent_of hs (equation p.1 (app x.left y.left) (app x.right y.right)))) None
comb_parts hs x y None = None

abbrev pub comb_sides : Hyps → Option Sides → Option Sides → Option Sequent
comb_sides hs (Some x) (Some y) = comb_parts hs x y (fun_parts x.sides_type)
comb_sides hs (Some x) None = None
comb_sides hs None y = None

abbrev pub mk_comb_of : Sequent → Sequent → Option Sequent
mk_comb_of a b = comb_sides (set.union a.hyps b.hyps) (dest_eq a.concl) (dest_eq b.concl)

-- ABS: from l = r, for a variable v of a type over the items that is free in no hypothesis, (\v. l) = (\v. r)
abbrev pub abs_sides : Items → List ℕ × TypeTree → Hyps → Option Sides → Option Sequent
abs_sides basis v hs (Some x) =
    cond (is_type basis v.1 && not (is_free_in (set.items hs) v)) (Some (sequent_of hs (equation (fun_type v.1 x.sides_type) (bind v x.left) (bind v x.right)))) None
abs_sides basis v hs None = None

abbrev pub abs_of : Items → Named → Sequent → Option Sequent
abs_of basis (var v) a = abs_sides basis v a.hyps (dest_eq a.concl)
abs_of basis (constant c s) a = None
abs_of basis (comb f x) a = None
abs_of basis (abs v b) a = None

-- EQ_MP: from l = r and m, where l and m are equal up to bound names, r
abbrev pub eq_mp_sides : Hyps → Option Sides → Nameless → Option Sequent
eq_mp_sides hs (Some x) m = cond (alpha_eq x.left m) (Some (sequent_of hs x.right)) None
eq_mp_sides hs None m = None

abbrev pub eq_mp_of : Sequent → Sequent → Option Sequent
eq_mp_of a b = eq_mp_sides (set.union a.hyps b.hyps) (dest_eq a.concl) b.concl

-- DEDUCT_ANTISYM_RULE: from A |- p and B |- q, (A - q) u (B - p) |- p = q
abbrev pub deduct_antisym_of : Sequent → Sequent → Sequent
deduct_antisym_of a b = sequent_of (set.union (set.remove a.hyps (strip b.concl)) (set.remove b.hyps (strip a.concl))) (equation bool_type a.concl b.concl)

-- what a map of terms makes of a sequent
abbrev pub sequent_image : (Nameless → Nameless) → Sequent → Sequent
sequent_image f a = sequent_of (hyps_image f a.hyps) (f a.concl)

-- INST_TYPE: types over the items for type variables, in all terms
abbrev pub inst_type_of : Items → List (TypeTree × List ℕ) → Sequent → Option Sequent
inst_type_of basis pairs a = cond (are_types_for basis pairs) (Some (sequent_image (types_inst pairs) a)) None

-- INST: terms that are well typed over the items for variables of their types, in all terms
abbrev pub is_pair_at : Items → Nameless → Named → Bool
is_pair_at basis t (var v) = has_type basis t v.1
is_pair_at basis t (constant c s) = false
is_pair_at basis t (comb f x) = false
is_pair_at basis t (abs v b) = false

abbrev pub are_pairs_over : Items → List (Named × Named) → Bool
are_pairs_over basis pairs = list_all (λ p. is_pair_at basis (nameless [] p.0) p.1) pairs

abbrev pub inst_of : Items → List (Named × Named) → Sequent → Option Sequent
inst_of basis pairs a = cond (are_pairs_over basis pairs) (Some (sequent_image (term_subst (nameless_pairs pairs) 0) a)) None

-- ---- the prelude

-- a definition or an axiom of the prelude
abbrev pub postulate_of : Postulate → Sequent
postulate_of which = sequent_of no_hyps (statement_of which)
