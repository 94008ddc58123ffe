-- Each node of a derivation is what the rule's function makes of the sequents above it.
use Rattle.std.proofs.Common.{◌≡◌, ℕ, List, [], ◌∷◌, Bool, true, false, cond, not, Option, Some, None, refl, sym, ap, ◌∙◌}
use Rattle.std.proofs.lemmas.Bool.{and_from, and_parts}
use Rattle.std.specs.Option.{option_map}
use Rattle.std.specs.FinSet as set
use Rattle.hol_types.specs.Fun.{fun_type}
use Rattle.hol_types.specs.Tree.{TypeTree}
use Rattle.hol_terms.proofs.Alpha.{alpha_eq_decides}
use Rattle.hol_terms.proofs.SameNode.{variable_itself}
use Rattle.hol_terms.specs.Alpha.{strip}
use Rattle.hol_terms.specs.Named.{Named, abs, comb, var}
use Rattle.hol_terms.specs.Nameless.{Nameless, app, base_of, free, lam, nameless}
use Rattle.hol_subst.proofs.Closing.{close_under, open_close}
use Rattle.hol_subst.specs.Closing.{bind, open_with}
use Rattle.hol_subst.specs.Pairs.{nameless_pairs}
use Rattle.hol_subst.specs.Substitution.{term_subst, types_inst}
use Rattle.hol_subst.specs.Variant.{is_free_in}
use Rattle.hol_formulas.proofs.EquationTypes.{type_eq_itself}
use Rattle.hol_formulas.proofs.FormulaLaws.{dest_eq_equation}
use Rattle.hol_formulas.specs.Equation.{Sides, bool_type, equation, dest_eq}
use Rattle.hol_kernel.specs.Derivation.{Derives, by_refl, by_trans, by_mk_comb, by_abs, by_beta, by_assume, by_eq_mp, by_deduct_antisym, by_inst_type, by_inst, by_postulate, by_axiom, by_definition, by_abs_rep, by_rep_abs}
use Rattle.hol_kernel.specs.Items.{Items}
use Rattle.hol_kernel.specs.Rules.{reflexive, refl_of, assume_of, reduced, beta_of, trans_sides, trans_of, comb_sides, mk_comb_of, abs_sides, abs_of, eq_mp_sides, eq_mp_of, inst_type_of, are_pairs_over, inst_of, sequent_image}
use Rattle.hol_kernel.specs.Sequent.{Hyps, hyps_image, no_hyps, only_hyp, sequent_of}
use Rattle.hol_kernel.specs.Typing.{is_type_at, are_typed_for, type_over, HasType, IsType, AreTypes, AreTyped}
use Rattle.hol_model.specs.LastRule.{EndsWithRule}
use Rattle.hol_model.specs.LastRule as last
use Rattle.hol_model.specs.Pairs.{with_variables, without_names}

abbrev sides : TypeTree → Nameless → Nameless → Sides
sides a l r = record { sides_type = a; left = l; right = r }

-- what is made where a test holds
made_if : {A : Type 0} (b : Bool) (x : A) → b ≡ true → cond b (Some x) None ≡ Some x
made_if b x e = ap (λ (c : Bool). cond c (Some x) None) e

pub refl_node : (items : Items) (t : Nameless) (a : TypeTree) → HasType items t a → refl_of items t ≡ Some (sequent_of no_hyps (equation a t t))
refl_node items t a h = ap (option_map (reflexive t)) h

pub assume_node : (items : Items) (p : Nameless) → HasType items p bool_type → assume_of items p ≡ Some (sequent_of (only_hyp p) p)
assume_node items p h = made_if _ (sequent_of (only_hyp p) p) (ap (λ (o : Option TypeTree). is_type_at o bool_type) h ∙ type_eq_itself bool_type)

pub beta_node : (items : Items) (v : List ℕ × TypeTree) (b : Named) (a : TypeTree) → HasType items (app (lam (base_of v.0) v.1 (nameless (v ∷ []) b)) (free v)) a
    → beta_of items (comb (abs v b) (var v)) ≡ Some (sequent_of no_hyps (equation a (app (lam (base_of v.0) v.1 (nameless (v ∷ []) b)) (free v)) (open_with (free v) 0 (nameless (v ∷ []) b))))
beta_node items v b a h =
    let redex : Nameless = app (lam (base_of v.0) v.1 (nameless (v ∷ []) b)) (free v) in
    ap (λ (c : Bool). cond c (option_map (reduced v b) (type_over items redex)) None) (variable_itself v) ∙ ap (option_map (reduced v b)) h
    ∙ ap (λ (t : Nameless). Some (sequent_of no_hyps (equation a redex t)))
    (sym (ap (open_with (free v) 0) (close_under [] v b) ∙ open_close v 0 (nameless [] b)))

pub trans_node : (hs ks : Hyps) (a b : TypeTree) (s m n t : Nameless) → strip m ≡ strip n
    → trans_of (sequent_of hs (equation a s m)) (sequent_of ks (equation b n t)) ≡ Some (sequent_of (set.union hs ks) (equation a s t))
trans_node hs ks a b s m n t e =
    ap (λ (x : Option Sides). trans_sides (set.union hs ks) x (dest_eq (equation b n t))) (dest_eq_equation a s m)
    ∙ ap (λ (y : Option Sides). trans_sides (set.union hs ks) (Some (sides a s m)) y) (dest_eq_equation b n t)
    ∙ made_if _ (sequent_of (set.union hs ks) (equation a s t)) ((alpha_eq_decides m n).1 e)

pub mk_comb_node : (hs ks : Hyps) (a b : TypeTree) (f g x y : Nameless)
    → mk_comb_of (sequent_of hs (equation (fun_type a b) f g)) (sequent_of ks (equation a x y)) ≡ Some (sequent_of (set.union hs ks) (equation b (app f x) (app g y)))
mk_comb_node hs ks a b f g x y =
    ap (λ (u : Option Sides). comb_sides (set.union hs ks) u (dest_eq (equation a x y))) (dest_eq_equation (fun_type a b) f g)
    ∙ ap (λ (w : Option Sides). comb_sides (set.union hs ks) (Some (sides (fun_type a b) f g)) w) (dest_eq_equation a x y)
    ∙ made_if _ (sequent_of (set.union hs ks) (equation b (app f x) (app g y))) (type_eq_itself a)

pub abs_node : (items : Items) (hs : Hyps) (a : TypeTree) (v : List ℕ × TypeTree) (l r : Nameless) → IsType items v.1 → is_free_in (set.items hs) v ≡ false
    → abs_of items (var v) (sequent_of hs (equation a l r)) ≡ Some (sequent_of hs (equation (fun_type v.1 a) (bind v l) (bind v r)))
abs_node items hs a v l r is fresh =
    ap (λ (x : Option Sides). abs_sides items v hs x) (dest_eq_equation a l r)
    ∙ made_if _ (sequent_of hs (equation (fun_type v.1 a) (bind v l) (bind v r))) (and_from _ _ is (ap not fresh))

pub eq_mp_node : (hs ks : Hyps) (a : TypeTree) (l r m : Nameless) → strip l ≡ strip m
    → eq_mp_of (sequent_of hs (equation a l r)) (sequent_of ks m) ≡ Some (sequent_of (set.union hs ks) r)
eq_mp_node hs ks a l r m e =
    ap (λ (x : Option Sides). eq_mp_sides (set.union hs ks) x m) (dest_eq_equation a l r) ∙ made_if _ (sequent_of (set.union hs ks) r) ((alpha_eq_decides l m).1 e)

pub inst_type_node : (items : Items) (hs : Hyps) (p : Nameless) (pairs : List (TypeTree × List ℕ)) → AreTypes items pairs
    → inst_type_of items pairs (sequent_of hs p) ≡ Some (sequent_of (hyps_image (types_inst pairs) hs) (types_inst pairs p))
inst_type_node items hs p pairs are = made_if _ (sequent_of (hyps_image (types_inst pairs) hs) (types_inst pairs p)) are

without_names_are : (pairs : List (Named × (List ℕ × TypeTree))) → nameless_pairs (with_variables pairs) ≡ without_names pairs
without_names_are [] = refl
without_names_are (p ∷ pairs) = ap (λ l. (nameless [] p.0, p.1) ∷ l) (without_names_are pairs)

pairs_stand : (items : Items) (pairs : List (Named × (List ℕ × TypeTree))) → are_typed_for items (without_names pairs) ≡ true → are_pairs_over items (with_variables pairs) ≡ true
pairs_stand items [] h = refl
pairs_stand items (p ∷ pairs) h = let parts = and_parts _ _ h in and_from _ _ parts.0 (pairs_stand items pairs parts.1)

pub inst_node : (items : Items) (hs : Hyps) (p : Nameless) (pairs : List (Named × (List ℕ × TypeTree))) → AreTyped items (without_names pairs)
    → inst_of items (with_variables pairs) (sequent_of hs p) ≡ Some (sequent_of (hyps_image (term_subst (without_names pairs) 0) hs) (term_subst (without_names pairs) 0 p))
inst_node items hs p pairs are =
    made_if _ (sequent_image (term_subst (nameless_pairs (with_variables pairs)) 0) (sequent_of hs p)) (pairs_stand items pairs are)
    ∙ ap (λ l. Some (sequent_image (term_subst l 0) (sequent_of hs p))) (without_names_are pairs)

-- ---- with what a derivation ends

pub ends : (items : Items) (hs : Hyps) (p : Nameless) → Derives items hs p → EndsWithRule items (sequent_of hs p)
ends items _ _ (by_refl t a h) = last.refl t (refl_node items t a h)
ends items _ _ (by_trans hs ks a b s m n t d e same) = last.trans (sequent_of hs (equation a s m)) (sequent_of ks (equation b n t)) d e (trans_node hs ks a b s m n t same)
ends items _ _ (by_mk_comb hs ks a b f g x y d e) = last.mk_comb (sequent_of hs (equation (fun_type a b) f g)) (sequent_of ks (equation a x y)) d e (mk_comb_node hs ks a b f g x y)
ends items _ _ (by_abs hs a v l r is fresh d) = last.abs v (sequent_of hs (equation a l r)) d (abs_node items hs a v l r is fresh)
ends items _ _ (by_beta a v b h fresh) = last.beta a v b h fresh refl
ends items _ _ (by_assume p h) = last.assume p (assume_node items p h)
ends items _ _ (by_eq_mp hs ks a l r m d e same) = last.eq_mp (sequent_of hs (equation a l r)) (sequent_of ks m) d e (eq_mp_node hs ks a l r m same)
ends items _ _ (by_deduct_antisym hs ks p q d e) = last.deduct_antisym (sequent_of hs p) (sequent_of ks q) d e refl
ends items _ _ (by_inst_type hs p pairs are d) = last.inst_type pairs (sequent_of hs p) d (inst_type_node items hs p pairs are)
ends items _ _ (by_inst hs p pairs are d) = last.inst pairs (sequent_of hs p) d are refl
ends items _ _ (by_postulate which) = last.postulate which refl
ends items _ _ (by_axiom n p holds h) = last.stated n p holds refl
ends items _ _ (by_definition c r a holds h) = last.definition c r a holds h refl
ends items _ _ (by_abs_rep c to from p old holds h) = last.abs_of_rep c to from p old holds refl
ends items _ _ (by_rep_abs c to from p old holds h) = last.rep_of_abs c to from p old holds refl

pub ruleset nodes = (refl_node, assume_node, beta_node, trans_node, mk_comb_node, abs_node, eq_mp_node, inst_type_node, inst_node)
