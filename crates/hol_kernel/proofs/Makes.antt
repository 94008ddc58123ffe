-- An item that does not have a constant's name does not make the constant.
use Rattle.std.specs.Prelude.{◌≡◌, ℕ, false, ◌||◌, ◌&&◌, List, [], bytes_eq, Option, Some, None, refl}
use Rattle.std.proofs.Common.{ap}
use Rattle.std.proofs.lemmas.Bool.{or_parts}
use Rattle.std.specs.List.{list_any}
use Rattle.std.specs.Option.{option_and_then}
use Rattle.hol_types.specs.Tree.{TypeTree}
use Rattle.hol_types.specs.Fun.{fun_type, fun_parts}
use Rattle.hol_terms.specs.Nameless.{nameless_type}
use Rattle.hol_formulas.specs.Constants.{is_instance, is_constant_at}
use Rattle.hol_kernel.specs.Item.{Item, declared_type, declared_constant, defined_constant, defined_type, declared_axiom}
use Rattle.hol_kernel.specs.Signature.{constant_key, has_key, makes_constant, term_tyvars, new_type, bijections, constant_of}

defined_none : (d c : List ℕ) (a : TypeTree) → bytes_eq c d ≡ false → (o : Option TypeTree) → list_any (is_constant_at c a) (constant_of d o) ≡ false
defined_none d c a e None = refl
defined_none d c a e (Some b) = ap (λ t. (t && is_instance b a) || false) e

bijections_none : (abs rep c : List ℕ) (a new : TypeTree) → bytes_eq c abs ≡ false → bytes_eq c rep ≡ false → (o : Option (TypeTree × TypeTree)) → list_any (is_constant_at c a) (bijections abs rep new o) ≡ false
bijections_none abs rep c a new p q None = refl
bijections_none abs rep c a new p q (Some parts) =
    λ i. (p i && is_instance (fun_type parts.0 new) a) || ((q i && is_instance (fun_type new parts.0) a) || false)

pub no_constant : (x : Item) (c : List ℕ) (a : TypeTree) → has_key x (constant_key c) ≡ false → makes_constant c a x ≡ false
no_constant (declared_type d n) c a e = refl
no_constant (declared_constant d b) c a e = ap (λ t. (t && is_instance b a) || false) (or_parts (bytes_eq c d) false e).0
no_constant (defined_constant d r) c a e = defined_none d c a (or_parts (bytes_eq c d) false e).0 (nameless_type [] r)
no_constant (defined_type d abs rep p) c a e =
    let first = or_parts (bytes_eq c abs) (bytes_eq c rep || false) e in
    bijections_none abs rep c a (new_type d (term_tyvars p)) first.0 (or_parts (bytes_eq c rep) false first.1).0 (option_and_then fun_parts (nameless_type [] p))
no_constant (declared_axiom n p) c a e = refl
