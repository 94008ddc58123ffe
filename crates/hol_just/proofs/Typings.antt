-- Well typed terms, taken apart and made.
use Rattle.std.specs.Prelude.{◌≡◌, ℕ, Bool, true, false, cond, ◌&&◌, List, [], ◌∷◌, codes, Some, None, is_some, refl}
use Rattle.std.proofs.Common.{ap, sym, ◌∙◌}
use Rattle.hol_types.specs.Tree.{TypeTree}
use Rattle.hol_types.specs.Fun.{fun_type}
use Rattle.hol_terms.specs.Nameless.{Nameless, fixed, app, lam, nameless_type}
use Rattle.std.specs.Option.{option_map}
use Rattle.hol_subst.specs.Closing.{open_with, bind}
use Rattle.hol_subst.proofs.Typing.{typed_closed, mapped_part}
use Rattle.hol_subst.proofs.TypeLaws.{open_type}
use Rattle.hol_formulas.specs.Equation.{bool_type}
use Rattle.hol_formulas.specs.Formula.{connective_type, negation_type, quantifier_type, conjunction, implication, Abstraction, quantified, universal, existential}
use Rattle.hol_kernel.specs.Items.{Items}
use Rattle.hol_kernel.specs.Typing.{is_type, is_base, is_known, is_typed, HasType}
use Rattle.hol_kernel.proofs.Stands.{some_is, both, app_parts, known_open}
use Rattle.hol_kernel.proofs.Variables.{typed_known, known_typed}
use Rattle.std.specs.Prelude.{◌||◌}
use Rattle.std.specs.List.{list_any}
use Rattle.hol_types.specs.Tree.{TyVar}
use Rattle.hol_formulas.proofs.Instance.{instance_of_subst}
use Rattle.hol_kernel.specs.Items.{in_order}
use Rattle.hol_kernel.specs.Signature.{has_constant, makes_constant}
use Rattle.hol_derived.specs.Rules.{over_variable}
use Rattle.hol_equal.proofs.Abstractions.{bound_typed}
use Rattle.hol_equal.proofs.Typings.{applied_typed}

-- the function and the argument of a well typed application, where the function's type is known
pub parts_at : (basis : Items) (a b c : TypeTree) (f x : Nameless) → nameless_type [] f ≡ Some (fun_type a b) → HasType basis (app f x) c → HasType basis f (fun_type a b) × HasType basis x a
parts_at basis a b c f x e h =
    let p = known_typed basis (app f x) c h in
    let known = both (is_known basis f) (is_known basis x) p.0 in
    let parts = app_parts [] f x c p.1 in
    let is : fun_type a b ≡ fun_type parts.0 c = some_is (fun_type a b) (fun_type parts.0 c) (sym e ∙ parts.1) in
    let first : parts.0 ≡ a = cc in
    (typed_known basis f (fun_type a b) known.0 e, typed_known basis x a known.1 (parts.2 ∙ ap Some first))

-- what stands over a basis is of its type there
pub typed_at : (basis : Items) (t : Nameless) (a : TypeTree) → is_typed basis t ≡ true → nameless_type [] t ≡ Some a → HasType basis t a
typed_at basis t a stands e = by (is_known basis t) refl stands
  where
    by : (k : Bool) → is_known basis t ≡ k → is_some (cond k (nameless_type [] t) None) ≡ true → HasType basis t a
    by true known h = typed_known basis t a known e
    by false known h = absurd (cc)

-- ---- connectives

-- what a connective stands between
pub operands_typed : (basis : Items) (c : List ℕ) (p q : Nameless) (b : TypeTree) → HasType basis (app (app (fixed c connective_type) p) q) b → HasType basis p bool_type × HasType basis q bool_type
operands_typed basis c p q b h =
    let k = known_typed basis (app (app (fixed c connective_type) p) q) b h in
    let outer = both (is_known basis (app (fixed c connective_type) p)) (is_known basis q) k.0 in
    let inner = both (is_known basis (fixed c connective_type)) (is_known basis p) outer.0 in
    let s = app_parts [] (app (fixed c connective_type) p) q b k.1 in
    let t = app_parts [] (fixed c connective_type) p (fun_type s.0 b) s.1 in
    let is : fun_type bool_type (fun_type bool_type bool_type) ≡ fun_type t.0 (fun_type s.0 b) = some_is connective_type (fun_type t.0 (fun_type s.0 b)) t.1 in
    let first : t.0 ≡ bool_type = cc in
    let second : s.0 ≡ bool_type = cc in
    (typed_known basis p bool_type inner.1 (t.2 ∙ ap Some first), typed_known basis q bool_type outer.1 (s.2 ∙ ap Some second))

-- an implication between formulas
pub implication_typed : (basis : Items) (p q : Nameless) → HasType basis p bool_type → HasType basis q bool_type → HasType basis (implication p q) bool_type
implication_typed basis p q h k =
    applied_typed basis bool_type bool_type (app (fixed (codes "==>") connective_type) p) q
    (applied_typed basis bool_type negation_type (fixed (codes "==>") connective_type) p (typed_known basis (fixed (codes "==>") connective_type) connective_type refl refl) h) k

-- a conjunction of formulas
pub conjunction_typed : (basis : Items) (p q : Nameless) → HasType basis p bool_type → HasType basis q bool_type → HasType basis (conjunction p q) bool_type
conjunction_typed basis p q h k =
    applied_typed basis bool_type bool_type (app (fixed (codes "/\\") connective_type) p) q
    (applied_typed basis bool_type negation_type (fixed (codes "/\\") connective_type) p (typed_known basis (fixed (codes "/\\") connective_type) connective_type refl refl) h) k

-- ---- quantifiers

-- the property under a quantifier
pub record IsProperty (basis : Items) (x : Abstraction) : Type 0 where
  pub domain : is_type basis x.domain ≡ true
  pub known : is_known basis x.body ≡ true
  pub typed : nameless_type (x.domain ∷ []) x.body ≡ Some bool_type

pub property_typed : (basis : Items) (c : List ℕ) (x : Abstraction) → HasType basis (quantified c x) bool_type → IsProperty basis x
property_typed basis c x h =
    let whole = parts_at basis (fun_type x.domain bool_type) bool_type bool_type (fixed c (quantifier_type x.domain)) (lam x.base x.domain x.body) refl h in
    let p = known_typed basis (lam x.base x.domain x.body) (fun_type x.domain bool_type) whole.1 in
    let known = both (is_type basis x.domain) (is_known basis x.body) (both (is_base x.base) (is_type basis x.domain && is_known basis x.body) p.0).1 in
    let under = mapped_part (λ t. fun_type x.domain t) (nameless_type (x.domain ∷ []) x.body) (fun_type x.domain bool_type) p.1 in
    let is : fun_type x.domain under.0 ≡ fun_type x.domain bool_type =
    some_is (fun_type x.domain under.0) (fun_type x.domain bool_type) (sym (ap (option_map (λ t. fun_type x.domain t)) under.1) ∙ p.1) in
    let same : under.0 ≡ bool_type = cc in
    record { domain = known.0; known = known.1; typed = under.1 ∙ ap Some same }

-- what it says of a term
pub opened_typed : (basis : Items) (x : Abstraction) (r : Nameless) → IsProperty basis x → HasType basis r x.domain → HasType basis (open_with r 0 x.body) bool_type
opened_typed basis x r property h =
    let k = known_typed basis r x.domain h in
    typed_known basis (open_with r 0 x.body) bool_type (known_open basis r 0 x.body k.0 property.known)
    (open_type r x.domain [] x.body k.1 (typed_closed (x.domain ∷ []) x.body bool_type property.typed) ∙ property.typed)

forall_stands : (basis : Items) (a : TypeTree) → has_constant basis (codes "!") (quantifier_type a) ≡ true
forall_stands basis a =
    ap (λ b. b || list_any (makes_constant (codes "!") (quantifier_type a)) (in_order basis))
    (instance_of_subst (quantifier_type (TyVar (codes "A"))) (quantifier_type a) ((a, codes "A") ∷ []) refl)

exists_stands : (basis : Items) (a : TypeTree) → has_constant basis (codes "?") (quantifier_type a) ≡ true
exists_stands basis a =
    ap (λ b. b || list_any (makes_constant (codes "?") (quantifier_type a)) (in_order basis))
    (instance_of_subst (quantifier_type (TyVar (codes "A"))) (quantifier_type a) ((a, codes "A") ∷ []) refl)

quantifier_stands : (basis : Items) (a : TypeTree) → is_type basis a ≡ true → is_type basis (quantifier_type a) ≡ true
quantifier_stands basis a stands = rw stands refl

-- a quantifier over a variable in a formula
quantified_typed :
    (basis : Items) (c : List ℕ) (v : List ℕ × TypeTree) (n : Nameless) → has_constant basis c (quantifier_type v.1) ≡ true → is_type basis v.1 ≡ true → HasType basis n bool_type →
    HasType basis (quantified c (over_variable v n)) bool_type
quantified_typed basis c v n constant stands h =
    applied_typed basis (fun_type v.1 bool_type) bool_type (fixed c (quantifier_type v.1)) (bind v n)
    (typed_known basis (fixed c (quantifier_type v.1)) (quantifier_type v.1) (λ i. quantifier_stands basis v.1 stands i && constant i) refl)
    (bound_typed basis v bool_type n stands h)

-- a formula for each value of a variable, and for some value
pub universal_typed : (basis : Items) (v : List ℕ × TypeTree) (n : Nameless) → is_type basis v.1 ≡ true → HasType basis n bool_type → HasType basis (universal (over_variable v n)) bool_type
universal_typed basis v n stands h = quantified_typed basis (codes "!") v n (forall_stands basis v.1) stands h

pub existential_typed : (basis : Items) (v : List ℕ × TypeTree) (n : Nameless) → is_type basis v.1 ≡ true → HasType basis n bool_type → HasType basis (existential (over_variable v n)) bool_type
existential_typed basis v n stands h = quantified_typed basis (codes "?") v n (exists_stands basis v.1) stands h
