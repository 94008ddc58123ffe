-- What has only types and constants of the prelude stands over every basis.
use Rattle.std.specs.Prelude.{◌≡◌, ℕ, suc, Bool, true, false, cond, List, [], ◌∷◌, bytes_eq, codes, Option, Some, None, is_some, refl}
use Rattle.std.specs.List.{list_any}
use Rattle.std.proofs.Common.{ap, sym, ◌∙◌}
use Rattle.std.proofs.lemmas.Bool.{and_parts, and_from, or_left}
use Rattle.std.proofs.lemmas.Slice.Eq.{bytes_eq-Decides}
use Rattle.hol_types.specs.Tree.{TypeTree, TypeList, TyVar, TyApp, no_types, more_types}
use Rattle.hol_types.specs.Fun.{fun_type, fun_parts}
use Rattle.hol_types.specs.Equal.{type_eq}
use Rattle.hol_types.specs.Basic.{is_basic_constructor, arguments, is_basic, are_basic, is_bool}
use Rattle.hol_types.proofs.OrderLaws.{type_cmp_decides}
use Rattle.hol_terms.specs.Named.{Named, var, constant, comb, abs}
use Rattle.hol_terms.specs.Basic.{is_property, is_predicate, is_equality, is_choice, is_negation, is_connective, is_binder, is_function_property, basic_constants, has_form, is_basic_constant, is_basic_term}
use Rattle.hol_formulas.specs.Equation.{bool_type, equality_type}
use Rattle.hol_formulas.specs.Formula.{negation_type, connective_type}
use Rattle.hol_formulas.specs.Constants.{prelude_types, prelude_constants, is_constructor, var_a, binder_type, choice_type, function_property_type, is_instance, generic_in, prelude_generic, is_instance_of}
use Rattle.hol_formulas.proofs.Instance.{instance_of_subst}
use Rattle.hol_formulas.proofs.TypeTests.{fun_parts_is}
use Rattle.hol_kernel.specs.Items.{Items, in_order}
use Rattle.hol_kernel.specs.Signature.{makes_type, has_arity, makes_constant, has_constant}
use Rattle.hol_kernel.specs.Typing.{types_count, is_type, are_types}
use Rattle.hol_kernel.specs.NamedTyping.{is_known_named}

-- ---- types
count_is : (ts : TypeList) → arguments ts ≡ types_count ts
count_is no_types = refl
count_is (more_types t ts) = ap suc (count_is ts)

mutual
  basic_type : (items : Items) (t : TypeTree) → is_basic t ≡ true → is_type items t ≡ true
  basic_type items (TyVar a) e = refl
  basic_type items (TyApp c ts) e =
      let both = and_parts (is_basic_constructor c (arguments ts)) (are_basic ts) e in
      let stands : list_any (is_constructor c (types_count ts)) prelude_types ≡ true = ap (is_basic_constructor c) (sym (count_is ts)) ∙ both.0 in
      and_from (has_arity items c (types_count ts)) (are_types items ts)
      (or_left (list_any (is_constructor c (types_count ts)) prelude_types) (list_any (makes_type c (types_count ts)) (in_order items)) stands)
      (basic_types items ts both.1)

  basic_types : (items : Items) (ts : TypeList) → are_basic ts ≡ true → are_types items ts ≡ true
  basic_types items no_types e = refl
  basic_types items (more_types t ts) e =
      let both = and_parts (is_basic t) (are_basic ts) e in
      and_from (is_type items t) (are_types items ts) (basic_type items t both.0) (basic_types items ts both.1)

-- ---- the forms
truth_is : (t : TypeTree) → is_bool t ≡ true → t ≡ bool_type
truth_is (TyVar a) e = absurd (cc)
truth_is (TyApp c no_types) e = let both = and_parts (bytes_eq c (codes "bool")) true e in ap (λ d. TyApp d no_types) ((bytes_eq-Decides c (codes "bool")).0 both.0)
truth_is (TyApp c (more_types t ts)) e = let both = and_parts (bytes_eq c (codes "bool")) false e in let f : false ≡ true = both.1 in absurd (cc)

property_is : (t a : TypeTree) → is_property a (fun_parts t) ≡ true → t ≡ fun_type a bool_type
property_is t a e = by (fun_parts t) refl e
  where
    by : (o : Option (TypeTree × TypeTree)) → fun_parts t ≡ o → is_property a o ≡ true → t ≡ fun_type a bool_type
    by None f g = absurd (cc)
    by (Some p) f g =
        let both = and_parts (type_eq p.0 a) (is_bool p.1) g in
        let own : p.0 ≡ a = (type_cmp_decides p.0 a).0 both.0 in
        let truth : p.1 ≡ bool_type = truth_is p.1 both.1 in
        fun_parts_is t p f ∙ (λ i. fun_type (own i) (truth i))

negation_is : (t : TypeTree) → is_negation (fun_parts t) ≡ true → t ≡ negation_type
negation_is t e = by (fun_parts t) refl e
  where
    by : (o : Option (TypeTree × TypeTree)) → fun_parts t ≡ o → is_negation o ≡ true → t ≡ negation_type
    by None f g = absurd (cc)
    by (Some p) f g =
        let both = and_parts (is_bool p.0) (is_bool p.1) g in
        let domain : p.0 ≡ bool_type = truth_is p.0 both.0 in
        let range : p.1 ≡ bool_type = truth_is p.1 both.1 in
        fun_parts_is t p f ∙ (λ i. fun_type (domain i) (range i))

-- ---- a type of the form is an instance
abbrev Told : (TypeTree → Bool) → TypeTree → Type 0
Told form generic = (t : TypeTree) → form t ≡ true → is_instance generic t ≡ true

truth_told : Told is_bool bool_type
truth_told t e = instance_of_subst bool_type t [] (sym (truth_is t e))

negation_told : Told (λ t. is_negation (fun_parts t)) negation_type
negation_told t e = instance_of_subst negation_type t [] (sym (negation_is t e))

connective_told : Told (λ t. is_connective (fun_parts t)) connective_type
connective_told t e = by (fun_parts t) refl e
  where
    by : (o : Option (TypeTree × TypeTree)) → fun_parts t ≡ o → is_connective o ≡ true → is_instance connective_type t ≡ true
    by None f g = absurd (cc)
    by (Some p) f g =
        let both = and_parts (is_bool p.0) (is_negation (fun_parts p.1)) g in
        let domain : p.0 ≡ bool_type = truth_is p.0 both.0 in
        let range : p.1 ≡ negation_type = negation_is p.1 both.1 in
        let is : t ≡ connective_type = fun_parts_is t p f ∙ (λ i. fun_type (domain i) (range i)) in
        instance_of_subst connective_type t [] (sym is)

equality_told : Told (λ t. is_equality (fun_parts t)) (equality_type var_a)
equality_told t e = by (fun_parts t) refl e
  where
    by : (o : Option (TypeTree × TypeTree)) → fun_parts t ≡ o → is_equality o ≡ true → is_instance (equality_type var_a) t ≡ true
    by None f g = absurd (cc)
    by (Some p) f g =
        let is : t ≡ equality_type p.0 = fun_parts_is t p f ∙ ap (fun_type p.0) (property_is p.1 p.0 g) in
        instance_of_subst (equality_type var_a) t ((p.0, codes "A") ∷ []) (sym is)

choice_told : Told (λ t. is_choice (fun_parts t)) choice_type
choice_told t e = by (fun_parts t) refl e
  where
    by : (o : Option (TypeTree × TypeTree)) → fun_parts t ≡ o → is_choice o ≡ true → is_instance choice_type t ≡ true
    by None f g = absurd (cc)
    by (Some p) f g =
        let is : t ≡ fun_type (fun_type p.1 bool_type) p.1 = fun_parts_is t p f ∙ ap (λ s. fun_type s p.1) (property_is p.0 p.1 g) in
        instance_of_subst choice_type t ((p.1, codes "A") ∷ []) (sym is)

binder_told : Told (λ t. is_binder (fun_parts t)) binder_type
binder_told t e = by (fun_parts t) refl e
  where
    inside : (p : TypeTree × TypeTree) → fun_parts t ≡ Some p → (q : Option (TypeTree × TypeTree)) → fun_parts p.0 ≡ q → is_predicate q ≡ true → p.1 ≡ bool_type → is_instance binder_type t ≡ true
    inside p f None h g truth = absurd (cc)
    inside p f (Some q) h g truth =
        let value : q.1 ≡ bool_type = truth_is q.1 g in
        let domain : p.0 ≡ fun_type q.0 bool_type = fun_parts_is p.0 q h ∙ ap (fun_type q.0) value in
        let is : t ≡ fun_type (fun_type q.0 bool_type) bool_type = fun_parts_is t p f ∙ (λ i. fun_type (domain i) (truth i)) in
        instance_of_subst binder_type t ((q.0, codes "A") ∷ []) (sym is)

    by : (o : Option (TypeTree × TypeTree)) → fun_parts t ≡ o → is_binder o ≡ true → is_instance binder_type t ≡ true
    by None f g = absurd (cc)
    by (Some p) f g =
        let both = and_parts (is_predicate (fun_parts p.0)) (is_bool p.1) g in
        inside p f (fun_parts p.0) refl both.0 (truth_is p.1 both.1)

function_property_told : Told (λ t. is_function_property (fun_parts t)) function_property_type
function_property_told t e = by (fun_parts t) refl e
  where
    inside : (p : TypeTree × TypeTree) → fun_parts t ≡ Some p → (q : Option (TypeTree × TypeTree)) → fun_parts p.0 ≡ q → is_some q ≡ true → p.1 ≡ bool_type → is_instance function_property_type t ≡ true
    inside p f None h g truth = absurd (cc)
    inside p f (Some q) h g truth =
        let is : t ≡ fun_type (fun_type q.0 q.1) bool_type = fun_parts_is t p f ∙ (λ i. fun_type (fun_parts_is p.0 q h i) (truth i)) in
        instance_of_subst function_property_type t ((q.0, codes "A") ∷ (q.1, codes "B") ∷ []) (sym is)

    by : (o : Option (TypeTree × TypeTree)) → fun_parts t ≡ o → is_function_property o ≡ true → is_instance function_property_type t ≡ true
    by None f g = absurd (cc)
    by (Some p) f g =
        let both = and_parts (is_some (fun_parts p.0)) (is_bool p.1) g in
        inside p f (fun_parts p.0) refl both.0 (truth_is p.1 both.1)

-- ---- constants

-- the constants with forms are those with generic types, in one order
abbrev AllTold : List (List ℕ × (TypeTree → Bool)) → List (List ℕ × TypeTree) → Type 0
AllTold [] [] = Unit {0}
AllTold [] (g ∷ generics) = ⊥
AllTold (f ∷ forms) [] = ⊥
AllTold (f ∷ forms) (g ∷ generics) = (f.0 ≡ g.0) × Told f.1 g.1 × AllTold forms generics

form_told : (forms : List (List ℕ × (TypeTree → Bool))) (generics : List (List ℕ × TypeTree)) → AllTold forms generics → (c : List ℕ) (s : TypeTree) → has_form forms c s ≡ true → is_instance_of (generic_in generics c) s ≡ true
form_told [] [] h c s e = absurd (cc)
form_told [] (g ∷ generics) h c s e = absurd h
form_told (f ∷ forms) [] h c s e = absurd h
form_told (f ∷ forms) (g ∷ generics) h c s e = by (bytes_eq c f.0) (bytes_eq c g.0) (ap (bytes_eq c) h.0) (form_told forms generics h.2 c s) e
  where
    by : (a b : Bool) → a ≡ b → (has_form forms c s ≡ true → is_instance_of (generic_in generics c) s ≡ true) → cond a (f.1 s) (has_form forms c s) ≡ true → is_instance_of (cond b (Some g.1) (generic_in generics c)) s ≡ true
    by true true k r e = h.1 s e
    by true false k r e = absurd (cc)
    by false true k r e = absurd (cc)
    by false false k r e = r e

all_told : AllTold basic_constants prelude_constants
all_told = (
  refl,
  equality_told,
  (
    refl,
    choice_told,
    (
      refl,
      truth_told,
      (
        refl,
        truth_told,
        (
          refl,
          connective_told,
          (
            refl,
            connective_told,
            (
              refl,
              connective_told,
              (refl, negation_told, (refl, binder_told, (refl, binder_told, (refl, binder_told, (refl, function_property_told, (refl, function_property_told, tt)))))),
            ),
          ),
        ),
      ),
    ),
  ),
)

basic_constant : (items : Items) (c : List ℕ) (s : TypeTree) → is_basic_constant c s ≡ true → has_constant items c s ≡ true
basic_constant items c s e = or_left (is_instance_of (prelude_generic c) s) (list_any (makes_constant c s) (in_order items)) (form_told basic_constants prelude_constants all_told c s e)

-- ---- terms
basic_known : (items : Items) (t : Named) → is_basic_term t ≡ true → is_known_named items t ≡ true
basic_known items (var v) e = basic_type items v.1 e
basic_known items (constant c s) e =
    let both = and_parts (is_basic s) (is_basic_constant c s) e in
    and_from (is_type items s) (has_constant items c s) (basic_type items s both.0) (basic_constant items c s both.1)
basic_known items (comb f x) e =
    let both = and_parts (is_basic_term f) (is_basic_term x) e in
    and_from (is_known_named items f) (is_known_named items x) (basic_known items f both.0) (basic_known items x both.1)
basic_known items (abs v b) e =
    let both = and_parts (is_basic v.1) (is_basic_term b) e in
    and_from (is_type items v.1) (is_known_named items b) (basic_type items v.1 both.0) (basic_known items b both.1)

-- ---- as the tests answer
pub basic_stands : (items : Items) (t : TypeTree) → is_basic t ≡ true → true ≡ is_type items t
basic_stands items t e = sym (basic_type items t e)

pub basic_knows : (items : Items) (t : Named) → is_basic_term t ≡ true → true ≡ is_known_named items t
basic_knows items t e = sym (basic_known items t e)
