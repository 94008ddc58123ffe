-- Equations and formulas taken apart.
use Rattle.std.specs.Prelude.{◌≡◌, ℕ, Bool, true, false, cond, ◌&&◌, List, [], bytes_eq, codes, Option, Some, None, refl}
use Rattle.std.specs.Option.{option_and_then, option_map}
use Rattle.std.proofs.Common.{ap, sym, ◌∙◌}
use Rattle.std.proofs.lemmas.Bool.{and_parts}
use Rattle.hol_types.specs.Tree.{TypeTree}
use Rattle.hol_types.specs.Equal.{type_eq}
use Rattle.hol_types.specs.Fun.{fun_type, fun_parts}
use Rattle.hol_terms.specs.Named.{Named, var, constant, comb, abs, named_type, applied_type}
use Rattle.hol_terms.specs.Nameless.{Nameless, fixed, app, nameless}
use Rattle.hol_terms.proofs.Typing.{applied_is}
use Rattle.hol_formulas.specs.Equation.{bool_type, equality_type, Sides, sides_at, dest_eq}
use Rattle.hol_formulas.specs.Formula.{connective_type, negation_type, quantifier_type, is_constant}
use Rattle.hol_formulas.proofs.EquationTypes.{type_eq_itself}
use Rattle.hol_formulas.proofs.TypeTests.{same_type, fun_parts_is, parts_test}

-- ---- applications

some_same : (s t : TypeTree) → Some s ≡ Some t → s ≡ t
some_same s t e = cc

-- What a well typed application says of its parts.
pub record IsApplied (f x : Named) (b : TypeTree) : Type 0 where
  pub domain : TypeTree
  pub argument : named_type x ≡ Some domain
  pub function : named_type f ≡ Some (fun_type domain b)

pub applied_parts : (f x : Named) (b : TypeTree) → named_type (comb f x) ≡ Some b → IsApplied f x b
applied_parts f x b e = by (named_type f) (named_type x) refl refl e
  where
    by : (p q : Option TypeTree) → named_type f ≡ p → named_type x ≡ q → option_and_then (λ s. option_and_then (λ t. applied_type s t) q) p ≡ Some b → IsApplied f x b
    by None q h k g = absurd (cc)
    by (Some s) None h k g = absurd (cc)
    by (Some s) (Some t) h k g = record { domain = t; argument = k; function = h ∙ ap Some (applied_is s t b g) }

-- What a well typed equation says of its parts.
pub record IsEquation (l r : Named) (a t : TypeTree) : Type 0 where
  pub left : named_type l ≡ Some a
  pub right : named_type r ≡ Some a
  pub whole : t ≡ bool_type

pub equation_parts : (c : List ℕ) (s : TypeTree) (l r : Named) (t : TypeTree) (p : TypeTree × TypeTree) → named_type (comb (comb (constant c s) l) r) ≡ Some t → fun_parts s ≡ Some p → type_eq p.1 (fun_type p.0 bool_type) ≡ true → IsEquation l r p.0 t
equation_parts c s l r t p e f g =
    let outer = applied_parts (comb (constant c s) l) r t e in
    let inner = applied_parts (constant c s) l (fun_type outer.domain t) outer.function in
    let own : s ≡ fun_type p.0 (fun_type p.0 bool_type) = fun_parts_is s p f ∙ ap (fun_type p.0) (same_type p.1 (fun_type p.0 bool_type) g) in
    let is : s ≡ fun_type inner.domain (fun_type outer.domain t) = some_same s (fun_type inner.domain (fun_type outer.domain t)) inner.function in
    let both : fun_type p.0 (fun_type p.0 bool_type) ≡ fun_type inner.domain (fun_type outer.domain t) = sym own ∙ is in
    let first : p.0 ≡ inner.domain = cc in
    let second : p.0 ≡ outer.domain = cc in
    let third : bool_type ≡ t = cc in
    record { left = inner.argument ∙ ap Some (sym first); right = outer.argument ∙ ap Some (sym second); whole = sym third }

-- ---- the sides of an equation

module _ (c : List ℕ) (s : TypeTree) (l r : Nameless) where
  abbrev found : TypeTree → Sides
  found a = record { sides_type = a; left = l; right = r }

  pub sides_yes : (p : TypeTree × TypeTree) → fun_parts s ≡ Some p → bytes_eq c (codes "=") ≡ true → type_eq p.1 (fun_type p.0 bool_type) ≡ true → dest_eq (app (app (fixed c s) l) r) ≡ Some (found p.0)
  sides_yes p e f g =
      ap (option_and_then (sides_at c s l r)) e
      ∙ (λ i. cond (f i && (parts_test s p.0 (fun_type p.0 bool_type) p e ∙ (λ j. type_eq_itself p.0 j && g j)) i) (Some (found p.0)) None)

  pub sides_no_name : (p : TypeTree × TypeTree) → fun_parts s ≡ Some p → bytes_eq c (codes "=") ≡ false → dest_eq (app (app (fixed c s) l) r) ≡ None
  sides_no_name p e f = ap (option_and_then (sides_at c s l r)) e ∙ (λ i. cond (f i && type_eq s (equality_type p.0)) (Some (found p.0)) None)

  pub sides_no_type : (p : TypeTree × TypeTree) → fun_parts s ≡ Some p → type_eq p.1 (fun_type p.0 bool_type) ≡ false → dest_eq (app (app (fixed c s) l) r) ≡ None
  sides_no_type p e g =
      ap (option_and_then (sides_at c s l r)) e
      ∙ by (bytes_eq c (codes "="))
    where
      at : type_eq s (equality_type p.0) ≡ false
      at = parts_test s p.0 (fun_type p.0 bool_type) p e ∙ (λ j. type_eq_itself p.0 j && g j)

      by : (b : Bool) → cond (b && type_eq s (equality_type p.0)) (Some (found p.0)) None ≡ None
      by true = ap (λ k. cond k (Some (found p.0)) None) at
      by false = refl

  pub sides_no_parts : fun_parts s ≡ None → dest_eq (app (app (fixed c s) l) r) ≡ None
  sides_no_parts e = ap (option_and_then (sides_at c s l r)) e

pub ruleset sides_found = (sides_yes, sides_no_name, sides_no_type, sides_no_parts)

-- ---- the operands of connectives and quantifiers

-- a constant that is tested at a type has it
pub constant_typed : (c : List ℕ) (s : TypeTree) (f : Named) → is_constant c s (nameless [] f) ≡ true → named_type f ≡ Some s
constant_typed c s (var v) e = absurd (cc)
constant_typed c s (constant d t) e = ap Some (same_type t s (and_parts (bytes_eq d c) (type_eq t s) e).1)
constant_typed c s (comb f x) e = absurd (cc)
constant_typed c s (abs v b) e = absurd (cc)

argument_of : (f x : Named) (a b r : TypeTree) → named_type f ≡ Some (fun_type a b) → named_type (comb f x) ≡ Some r → (named_type x ≡ Some a) × (r ≡ b)
argument_of f x a b r is e =
    let parts = applied_parts f x r e in
    let same : fun_type a b ≡ fun_type parts.domain r = some_same (fun_type a b) (fun_type parts.domain r) (sym is ∙ parts.function) in
    let first : a ≡ parts.domain = cc in
    let second : b ≡ r = cc in
    (parts.argument ∙ ap Some (sym first), sym second)

pub operand_typed : (c : List ℕ) (f x : Named) (r : TypeTree) → is_constant c negation_type (nameless [] f) ≡ true → named_type (comb f x) ≡ Some r → named_type x ≡ Some bool_type
operand_typed c f x r is e = (argument_of f x bool_type bool_type r (constant_typed c negation_type f is) e).0

module _ (c : List ℕ) (f x y : Named) (r : TypeTree) (is : is_constant c connective_type (nameless [] f) ≡ true) (e : named_type (comb (comb f x) y) ≡ Some r) where
  inner_typed : (named_type x ≡ Some bool_type) × (named_type (comb f x) ≡ Some negation_type)
  inner_typed =
      let parts = applied_parts (comb f x) y r e in
      let inner = argument_of f x bool_type negation_type (fun_type parts.domain r) (constant_typed c connective_type f is) parts.function in
      (inner.0, parts.function ∙ ap Some inner.1)

  pub first_typed : named_type x ≡ Some bool_type
  first_typed = inner_typed.0

  pub second_typed : named_type y ≡ Some bool_type
  second_typed = (argument_of (comb f x) y bool_type bool_type r inner_typed.1 e).0

pub ruleset operands_found = (operand_typed, first_typed, second_typed)

-- the body of an abstraction of a type of functions
abs_body : (v : List ℕ × TypeTree) (b : Named) (a r : TypeTree) → named_type (abs v b) ≡ Some (fun_type a r) → named_type b ≡ Some r
abs_body v b a r e = by (named_type b) refl e
  where
    by : (o : Option TypeTree) → named_type b ≡ o → option_map (λ t. fun_type v.1 t) o ≡ Some (fun_type a r) → named_type b ≡ Some r
    by None f g = absurd (cc)
    by (Some t) f g = let same : t ≡ r = cc in f ∙ ap Some same

pub body_typed : (c : List ℕ) (f : Named) (v : List ℕ × TypeTree) (b : Named) (r : TypeTree) → is_constant c (quantifier_type v.1) (nameless [] f) ≡ true → named_type (comb f (abs v b)) ≡ Some r → named_type b ≡ Some bool_type
body_typed c f v b r is e =
    abs_body v b v.1 bool_type (argument_of f (abs v b) (fun_type v.1 bool_type) bool_type r (constant_typed c (quantifier_type v.1) f is) e).0
