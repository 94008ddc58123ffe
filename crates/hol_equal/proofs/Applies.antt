-- Rules that apply, on sequents whose conclusions are equations.
use Rattle.std.specs.Prelude.{◌≡◌, ℕ, true, false, cond, ◌&&◌, List, [], ◌∷◌, Some, None}
use Rattle.std.specs.Option.{option_map}
use Rattle.std.specs.FinSet as set
use Rattle.std.proofs.Common.{ap, sym, ◌∙◌}
use Rattle.hol_types.specs.Tree.{TypeTree}
use Rattle.hol_types.specs.Fun.{fun_type}
use Rattle.hol_terms.specs.Nameless.{Nameless, app, lam}
use Rattle.hol_equal.specs.Applied.{contraction}
use Rattle.hol_equal.specs.Rules.{reversed, sym_of, beta_conv_of}
use Rattle.hol_terms.specs.Alpha.{strip}
use Rattle.hol_terms.proofs.Alpha.{alpha_eq_decides}
use Rattle.hol_formulas.specs.Equation.{bool_type, equation, Sides, dest_eq}
use Rattle.hol_formulas.proofs.EquationTypes.{type_eq_itself}
use Rattle.hol_formulas.proofs.FormulaLaws.{dest_eq_equation}
use Rattle.hol_kernel.specs.Items.{Items}
use Rattle.hol_kernel.specs.Sequent.{Hyps, only_hyp, Sequent, sequent_of}
use Rattle.hol_kernel.specs.Typing.{HasType, is_type, is_type_at}
use Rattle.hol_kernel.proofs.TermRules.{abs_gives}
use Rattle.hol_subst.specs.Closing.{bind}
use Rattle.hol_subst.specs.Substitution.{types_inst}
use Rattle.hol_subst.specs.Variant.{is_free_in}
use Rattle.hol_terms.specs.Named.{var}
use Rattle.hol_kernel.specs.Rules.{trans_sides, trans_of, comb_sides, mk_comb_of, eq_mp_sides, eq_mp_of, assume_of, abs_of, inst_type_of, sequent_image}

abbrev pub sides : TypeTree → Nameless → Nameless → Sides
sides a l r = record { sides_type = a; left = l; right = r }

-- an equation has sides
pub has_sides : (c : Nameless) (s : TypeTree) (l r : Nameless) → c ≡ equation s l r → dest_eq c ≡ None → ⊥
has_sides c s l r is e =
    let found : Some (sides s l r) ≡ None = sym (ap dest_eq is ∙ dest_eq_equation s l r) ∙ e in absurd (cc)

pub mk_comb_yes : (hs ks : Hyps) (a b : TypeTree) (f g x y : Nameless) → mk_comb_of (sequent_of hs (equation (fun_type a b) f g)) (sequent_of ks (equation a x y)) ≡ Some (sequent_of (set.union hs ks) (equation b (app f x) (app g y)))
mk_comb_yes hs ks a b f g x y =
    (λ i. comb_sides (set.union hs ks) (dest_eq_equation (fun_type a b) f g i) (dest_eq_equation a x y i))
    ∙ ap (λ k. cond k (Some (sequent_of (set.union hs ks) (equation b (app f x) (app g y)))) None) (type_eq_itself a)

pub trans_yes : (hs ks : Hyps) (a b : TypeTree) (s m n t : Nameless) → strip m ≡ strip n → trans_of (sequent_of hs (equation a s m)) (sequent_of ks (equation b n t)) ≡ Some (sequent_of (set.union hs ks) (equation a s t))
trans_yes hs ks a b s m n t same =
    (λ i. trans_sides (set.union hs ks) (dest_eq_equation a s m i) (dest_eq_equation b n t i))
    ∙ ap (λ k. cond k (Some (sequent_of (set.union hs ks) (equation a s t))) None) ((alpha_eq_decides m n).1 same)

pub eq_mp_yes : (hs ks : Hyps) (a : TypeTree) (l r m : Nameless) → strip l ≡ strip m → eq_mp_of (sequent_of hs (equation a l r)) (sequent_of ks m) ≡ Some (sequent_of (set.union hs ks) r)
eq_mp_yes hs ks a l r m same =
    (λ i. eq_mp_sides (set.union hs ks) (dest_eq_equation a l r i) m)
    ∙ ap (λ k. cond k (Some (sequent_of (set.union hs ks) r)) None) ((alpha_eq_decides l m).1 same)

pub assume_yes : (basis : Items) (p : Nameless) → HasType basis p bool_type → assume_of basis p ≡ Some (sequent_of (only_hyp p) p)
assume_yes basis p typed = ap (λ o. cond (is_type_at o bool_type) (Some (sequent_of (only_hyp p) p)) None) typed

pub abs_yes : (basis : Items) (v : List ℕ × TypeTree) (hs : Hyps) (a : TypeTree) (l r : Nameless) → is_type basis v.1 ≡ true → is_free_in (set.items hs) v ≡ false → abs_of basis (var v) (sequent_of hs (equation a l r)) ≡ Some (sequent_of hs (equation (fun_type v.1 a) (bind v l) (bind v r)))
abs_yes basis v hs a l r stands absent = abs_gives basis v (sequent_of hs (equation a l r)) (sides a l r) (dest_eq_equation a l r) stands absent

pub beta_yes : (basis : Items) (n : List ℕ) (d : TypeTree) (b x : Nameless) (a : TypeTree) → HasType basis (app (lam n d b) x) a → beta_conv_of basis (app (lam n d b) x) ≡ Some (contraction a (app (lam n d b) x))
beta_yes basis n d b x a typed = ap (option_map (λ s. contraction s (app (lam n d b) x))) typed

pub sym_yes : (hs : Hyps) (a : TypeTree) (l r : Nameless) → sym_of (sequent_of hs (equation a l r)) ≡ Some (sequent_of hs (equation a r l))
sym_yes hs a l r = ap (option_map (reversed hs)) (dest_eq_equation a l r)

pub inst_type_yes : (basis : Items) (ty : TypeTree) (name : List ℕ) (a : Sequent) → is_type basis ty ≡ true → inst_type_of basis ((ty, name) ∷ []) a ≡ Some (sequent_image (types_inst ((ty, name) ∷ [])) a)
inst_type_yes basis ty name a stands = ap (λ k. cond (k && true) (Some (sequent_image (types_inst ((ty, name) ∷ [])) a)) None) stands
