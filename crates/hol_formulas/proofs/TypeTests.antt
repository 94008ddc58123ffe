-- What the tests of types of functions and of the type of truth values say.
use Rattle.std.specs.Prelude.{◌≡◌, ℕ, Bool, true, false, cond, ◌&&◌, List, bytes_eq, codes, Some, None, refl}
use Rattle.std.specs.Bool.{one_answer}
use Rattle.std.specs.Ordering.{ordering_then, is_eq}
use Rattle.std.specs.declared.cmp.Ordering.{Ordering}
use Rattle.std.specs.declared.cmp.Ordering.TheVariants.{Equal}
use Rattle.std.specs.Cmp.{Equal-is}
use Rattle.std.proofs.Common.{ap, sym, ◌∙◌}
use Rattle.std.proofs.lemmas.Slice.Eq.{bytes_eq-Decides}
use Rattle.hol_types.specs.Tree.{TypeTree, TypeList, TyVar, TyApp, no_types, more_types}
use Rattle.hol_types.specs.Basic.{is_empty, is_bool}
use Rattle.hol_types.specs.Equal.{type_eq}
use Rattle.hol_types.specs.Order.{name_cmp, type_cmp, types_cmp}
use Rattle.hol_types.specs.Fun.{fun_type, fun_parts, both_of}
use Rattle.hol_types.proofs.OrderLaws.{type_cmp_decides, name_equal, name_same, then_equal_right, is_eq_then}
use Rattle.hol_formulas.specs.Equation.{bool_type}

pub same_type : (s t : TypeTree) → type_eq s t ≡ true → s ≡ t
same_type s t e = (type_cmp_decides s t).0 e

-- ---- types of functions

both_is : (ts : TypeList) (p : TypeTree × TypeTree) → both_of ts ≡ Some p → ts ≡ more_types p.0 (more_types p.1 no_types)
both_is no_types p e = absurd (cc)
both_is (more_types s no_types) p e = absurd (cc)
both_is (more_types s (more_types t no_types)) p e = let f : (s, t) ≡ p = cc in λ i. more_types (f i).0 (more_types (f i).1 no_types)
both_is (more_types s (more_types t (more_types u us))) p e = absurd (cc)

pub fun_parts_is : (t : TypeTree) (p : TypeTree × TypeTree) → fun_parts t ≡ Some p → t ≡ fun_type p.0 p.1
fun_parts_is (TyVar a) p e = absurd (cc)
fun_parts_is (TyApp c ts) p e = by (bytes_eq c (codes "fun")) refl e
  where
    by : (b : Bool) → bytes_eq c (codes "fun") ≡ b → cond b (both_of ts) None ≡ Some p → TyApp c ts ≡ fun_type p.0 p.1
    by true f g = λ i. TyApp ((bytes_eq-Decides c (codes "fun")).0 f i) (both_is ts p g i)
    by false f g = absurd (cc)

then_test : (r s : Ordering) → is_eq (ordering_then r (ordering_then s Equal)) ≡ (is_eq r && is_eq s)
then_test r s = ap (λ o. is_eq (ordering_then r o)) (then_equal_right s) ∙ is_eq_then r s

fun_types_test : (a b d r : TypeTree) → type_eq (fun_type a b) (fun_type d r) ≡ (type_eq a d && type_eq b r)
fun_types_test a b d r = then_test (type_cmp a d) (type_cmp b r)

pub parts_test : (t d r : TypeTree) (p : TypeTree × TypeTree) → fun_parts t ≡ Some p → type_eq t (fun_type d r) ≡ (type_eq p.0 d && type_eq p.1 r)
parts_test t d r p e = ap (λ s. type_eq s (fun_type d r)) (fun_parts_is t p e) ∙ fun_types_test p.0 p.1 d r

pub no_parts_test : (t d r : TypeTree) → fun_parts t ≡ None → type_eq t (fun_type d r) ≡ false
no_parts_test t d r e = by (type_eq t (fun_type d r)) refl
  where
    by : (b : Bool) → type_eq t (fun_type d r) ≡ b → b ≡ false
    by true f = let g : fun_parts t ≡ Some (d, r) = ap fun_parts ((type_cmp_decides t (fun_type d r)).0 f) in absurd (cc)
    by false f = refl

pub ruleset function_types = (parts_test, no_parts_test)

-- ---- truth values

no_arguments : (ts : TypeList) → is_eq (types_cmp ts no_types) ≡ is_empty ts
no_arguments no_types = refl
no_arguments (more_types t ts) = refl

name_test : (a b : List ℕ) → is_eq (name_cmp a b) ≡ bytes_eq a b
name_test a b =
    one_answer (is_eq (name_cmp a b)) (bytes_eq a b)
    (λ e. name_equal a b ((Equal-is (name_cmp a b)).0 e), λ e. ap (λ c. is_eq (name_cmp a c)) (sym e) ∙ ap is_eq (name_same a)) (bytes_eq-Decides a b)

pub truth_test : (t : TypeTree) → is_bool t ≡ type_eq t bool_type
truth_test (TyVar a) = refl
truth_test (TyApp c ts) = sym (is_eq_then (name_cmp c (codes "bool")) (types_cmp ts no_types) ∙ (λ i. name_test c (codes "bool") i && no_arguments ts i))
