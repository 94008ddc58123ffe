-- What stands in a term stands in its parts, and the types of parts.
use Rattle.std.specs.Prelude.{◌≡◌, List, [], ℕ, true, Some}
use Rattle.std.specs.Option.{option_map, option_and_then}
use Rattle.std.proofs.Common.{ap, sym, ◌∙◌}
use Rattle.hol_types.specs.Tree.{TypeTree}
use Rattle.hol_types.specs.Fun.{fun_type}
use Rattle.hol_terms.specs.Named.{Named, comb, abs, named_type, applied_type}
use Rattle.hol_terms.specs.Nameless.{nameless}
use Rattle.hol_terms.proofs.Typing.{type_outside}
use Rattle.hol_subst.proofs.TypesInst.{applied_is}
use Rattle.hol_kernel.specs.Items.{Items}
use Rattle.hol_kernel.specs.Typing.{is_type, HasType}
use Rattle.hol_kernel.specs.NamedTyping.{is_known_named}
use Rattle.hol_kernel.proofs.Stands.{both, some_is}
use Rattle.hol_kernel.proofs.Typed.{known_outside}
use Rattle.hol_kernel.proofs.Variables.{typed_known}

-- ---- types
-- the type of the function of an application that fits
pub fun_is : (f x : Named) (c s a : TypeTree) → named_type f ≡ Some c → named_type x ≡ Some s → named_type (comb f x) ≡ Some a → c ≡ fun_type s a
fun_is f x c s a p q h = applied_is c s a (sym (λ i. option_and_then (λ u. option_and_then (λ w. applied_type u w) (q i)) (p i)) ∙ h)

pub abs_is : (v : List ℕ × TypeTree) (b : Named) (c a : TypeTree) → named_type b ≡ Some c → named_type (abs v b) ≡ Some a → fun_type v.1 c ≡ a
abs_is v b c a p h = some_is (fun_type v.1 c) a (sym (ap (option_map (λ t. fun_type v.1 t)) p) ∙ h)

module _ (basis : Items) where
  -- what stands in a term stands in its parts
  pub known_parts : (t f x : Named) → t ≡ comb f x → is_known_named basis t ≡ true → (is_known_named basis f ≡ true) × (is_known_named basis x ≡ true)
  known_parts t f x e k = both (is_known_named basis f) (is_known_named basis x) (sym (ap (is_known_named basis) e) ∙ k)

  pub known_body : (t : Named) (v : List ℕ × TypeTree) (b : Named) → t ≡ abs v b → is_known_named basis t ≡ true → (is_type basis v.1 ≡ true) × (is_known_named basis b ≡ true)
  known_body t v b e k = both (is_type basis v.1) (is_known_named basis b) (sym (ap (is_known_named basis) e) ∙ k)

  -- a term whose types and constants stand is well typed
  pub known_has : (t : Named) (a : TypeTree) → is_known_named basis t ≡ true → named_type t ≡ Some a → HasType basis (nameless [] t) a
  known_has t a k e = typed_known basis (nameless [] t) a (known_outside basis t ∙ k) (type_outside t ∙ e)
