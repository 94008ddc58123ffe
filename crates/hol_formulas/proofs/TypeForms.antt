-- What the tests by form say of instances of the prelude's generic types.
use Rattle.std.specs.Prelude.{◌≡◌, Bool, true, false, ◌&&◌, [], ◌∷◌, codes, Some, None, refl}
use Rattle.std.specs.Bool.{one_answer}
use Rattle.std.proofs.Common.{ap, sym, ◌∙◌}
use Rattle.std.proofs.lemmas.Bool.{and_parts}
use Rattle.hol_types.specs.Tree.{TypeTree}
use Rattle.hol_types.specs.Subst.{type_for, type_subst}
use Rattle.hol_types.specs.Equal.{type_eq}
use Rattle.hol_types.specs.Fun.{fun_type, fun_parts}
use Rattle.hol_types.proofs.OrderLaws.{type_cmp_decides}
use Rattle.hol_formulas.specs.Equation.{bool_type, equality_type}
use Rattle.hol_formulas.specs.Formula.{negation_type, connective_type}
use Rattle.hol_formulas.specs.Constants.{var_a, binder_type, choice_type, function_property_type, is_instance}
use Rattle.hol_formulas.proofs.EquationTypes.{type_eq_itself}
use Rattle.hol_formulas.proofs.Instance.{Pairs, instance_decides}
use Rattle.hol_formulas.proofs.TypeTests.{same_type, fun_parts_is}

-- what stands for A and B
abbrev for_a : Pairs → TypeTree
for_a pairs = type_for pairs (codes "A")

abbrev for_b : Pairs → TypeTree
for_b pairs = type_for pairs (codes "B")

-- a test that is met exactly where a substitution gives the type is the test of instances
told_by : (generic t : TypeTree) (b : Bool) → (b ≡ true → (pairs : Pairs) × (type_subst pairs generic ≡ t)) → ((pairs : Pairs) → type_subst pairs generic ≡ t → b ≡ true) → is_instance generic t ≡ b
told_by generic t b to from = one_answer (is_instance generic t) b (instance_decides generic t) (to, λ p. from p.0 p.1)

-- ---- types without variables

closed_test : (generic t : TypeTree) → ((pairs : Pairs) → type_subst pairs generic ≡ generic) → is_instance generic t ≡ type_eq t generic
closed_test generic t closed =
    told_by generic t (type_eq t generic)
    (λ e. ([], closed [] ∙ sym (same_type t generic e)))
    (λ pairs g. (type_cmp_decides t generic).1 (sym g ∙ closed pairs))

pub bool_form : (t : TypeTree) → is_instance bool_type t ≡ type_eq t bool_type
bool_form t = closed_test bool_type t (λ pairs. refl)

pub connective_form : (t : TypeTree) → is_instance connective_type t ≡ type_eq t connective_type
connective_form t = closed_test connective_type t (λ pairs. refl)

pub negation_form : (t : TypeTree) → is_instance negation_type t ≡ type_eq t negation_type
negation_form t = closed_test negation_type t (λ pairs. refl)

pub ruleset closed_forms = (bool_form, connective_form, negation_form)

-- ---- types of functions

parts_of : (x y t : TypeTree) (p : TypeTree × TypeTree) → fun_type x y ≡ t → fun_parts t ≡ Some p → (x, y) ≡ p
parts_of x y t p g e = let f : Some (x, y) ≡ Some p = ap fun_parts g ∙ e in cc

not_both : (p : TypeTree × TypeTree) → Some p ≡ None → false ≡ true
not_both p e = absurd (cc)

pub no_function : (d r t : TypeTree) → fun_parts t ≡ None → is_instance (fun_type d r) t ≡ false
no_function d r t e = told_by (fun_type d r) t false (λ (f : false ≡ true). absurd (cc)) from
  where
    from : (pairs : Pairs) → type_subst pairs (fun_type d r) ≡ t → false ≡ true
    from pairs g = not_both (type_subst pairs d, type_subst pairs r) (ap fun_parts g ∙ e)

pub no_function_within : (a b r t : TypeTree) (p : TypeTree × TypeTree) → fun_parts t ≡ Some p → fun_parts p.0 ≡ None → is_instance (fun_type (fun_type a b) r) t ≡ false
no_function_within a b r t p e n = told_by (fun_type (fun_type a b) r) t false (λ (f : false ≡ true). absurd (cc)) from
  where
    from : (pairs : Pairs) → type_subst pairs (fun_type (fun_type a b) r) ≡ t → false ≡ true
    from pairs g =
        let f = parts_of (fun_type (type_subst pairs a) (type_subst pairs b)) (type_subst pairs r) t p g e in
        not_both (type_subst pairs a, type_subst pairs b) (ap (λ q. fun_parts q.0) f ∙ n)

pub equality_form : (t : TypeTree) (p : TypeTree × TypeTree) → fun_parts t ≡ Some p → is_instance (equality_type var_a) t ≡ type_eq p.1 (fun_type p.0 bool_type)
equality_form t p e = told_by (equality_type var_a) t (type_eq p.1 (fun_type p.0 bool_type)) to from
  where
    to : type_eq p.1 (fun_type p.0 bool_type) ≡ true → (pairs : Pairs) × (type_subst pairs (equality_type var_a) ≡ t)
    to f = ((p.0, codes "A") ∷ [], sym (fun_parts_is t p e ∙ ap (fun_type p.0) (same_type p.1 (fun_type p.0 bool_type) f)))

    from : (pairs : Pairs) → type_subst pairs (equality_type var_a) ≡ t → type_eq p.1 (fun_type p.0 bool_type) ≡ true
    from pairs g =
        let f = parts_of (for_a pairs) (fun_type (for_a pairs) bool_type) t p g e in
        sym (ap (λ q. type_eq q.1 (fun_type q.0 bool_type)) f) ∙ type_eq_itself (fun_type (for_a pairs) bool_type)

pub choice_form : (t : TypeTree) (p : TypeTree × TypeTree) → fun_parts t ≡ Some p → is_instance choice_type t ≡ type_eq p.0 (fun_type p.1 bool_type)
choice_form t p e = told_by choice_type t (type_eq p.0 (fun_type p.1 bool_type)) to from
  where
    to : type_eq p.0 (fun_type p.1 bool_type) ≡ true → (pairs : Pairs) × (type_subst pairs choice_type ≡ t)
    to f = ((p.1, codes "A") ∷ [], sym (fun_parts_is t p e ∙ ap (λ s. fun_type s p.1) (same_type p.0 (fun_type p.1 bool_type) f)))

    from : (pairs : Pairs) → type_subst pairs choice_type ≡ t → type_eq p.0 (fun_type p.1 bool_type) ≡ true
    from pairs g =
        let f = parts_of (fun_type (for_a pairs) bool_type) (for_a pairs) t p g e in
        sym (ap (λ q. type_eq q.0 (fun_type q.1 bool_type)) f) ∙ type_eq_itself (fun_type (for_a pairs) bool_type)

-- a type of functions whose domain is one has the parts of both
within : (t : TypeTree) (p q : TypeTree × TypeTree) → fun_parts t ≡ Some p → fun_parts p.0 ≡ Some q → t ≡ fun_type (fun_type q.0 q.1) p.1
within t p q e f = fun_parts_is t p e ∙ ap (λ s. fun_type s p.1) (fun_parts_is p.0 q f)

pub binder_form : (t : TypeTree) (p q : TypeTree × TypeTree) → fun_parts t ≡ Some p → fun_parts p.0 ≡ Some q → is_instance binder_type t ≡ (type_eq q.1 bool_type && type_eq p.1 bool_type)
binder_form t p q e f = told_by binder_type t (type_eq q.1 bool_type && type_eq p.1 bool_type) to from
  where
    to : (type_eq q.1 bool_type && type_eq p.1 bool_type) ≡ true → (pairs : Pairs) × (type_subst pairs binder_type ≡ t)
    to h =
        let both = and_parts (type_eq q.1 bool_type) (type_eq p.1 bool_type) h in
        let value = same_type q.1 bool_type both.0 in
        let truth = same_type p.1 bool_type both.1 in
        ((q.0, codes "A") ∷ [], sym (within t p q e f ∙ (λ i. fun_type (fun_type q.0 (value i)) (truth i))))

    from : (pairs : Pairs) → type_subst pairs binder_type ≡ t → (type_eq q.1 bool_type && type_eq p.1 bool_type) ≡ true
    from pairs g =
        let h = parts_of (fun_type (for_a pairs) bool_type) bool_type t p g e in
        let k = parts_of (for_a pairs) bool_type p.0 q (ap (λ r. r.0) h) f in
        sym (λ i. type_eq (k i).1 bool_type && type_eq (h i).1 bool_type)

pub function_property_form : (t : TypeTree) (p q : TypeTree × TypeTree) → fun_parts t ≡ Some p → fun_parts p.0 ≡ Some q → is_instance function_property_type t ≡ type_eq p.1 bool_type
function_property_form t p q e f = told_by function_property_type t (type_eq p.1 bool_type) to from
  where
    to : type_eq p.1 bool_type ≡ true → (pairs : Pairs) × (type_subst pairs function_property_type ≡ t)
    to h =
        let truth = same_type p.1 bool_type h in
        ((q.0, codes "A") ∷ (q.1, codes "B") ∷ [], sym (within t p q e f ∙ ap (fun_type (fun_type q.0 q.1)) truth))

    from : (pairs : Pairs) → type_subst pairs function_property_type ≡ t → type_eq p.1 bool_type ≡ true
    from pairs g = sym (ap (λ r. type_eq r.1 bool_type) (parts_of (fun_type (for_a pairs) (for_b pairs)) bool_type t p g e))
