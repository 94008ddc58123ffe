-- Parts of well typed terms are well typed.
use Rattle.std.specs.Prelude.{◌≡◌, [], Some, None}
use Rattle.std.proofs.Common.{sym, ◌∙◌}
use Rattle.hol_types.specs.Tree.{TypeTree}
use Rattle.hol_terms.specs.Named.{Named, comb, named_type}
use Rattle.hol_terms.specs.Nameless.{Nameless, app, nameless}
use Rattle.hol_terms.proofs.Typing.{type_outside}
use Rattle.hol_kernel.specs.Items.{Items}
use Rattle.hol_kernel.specs.Typing.{HasType}
use Rattle.hol_kernel.proofs.Variables.{known_typed}
pub use Rattle.hol_kernel.proofs.WellTyped.{applied_typed}
pub use Rattle.hol_kernel.proofs.TypedParts.{AreParts, parts_typed}

-- a well typed application fits
pub typed_fits : (items : Items) (f x : Named) (a : TypeTree) → HasType items (app (nameless [] f) (nameless [] x)) a → named_type (comb f x) ≡ None → ⊥
typed_fits items f x a h none =
    let is : named_type (comb f x) ≡ Some a = sym (type_outside (comb f x)) ∙ (known_typed items (app (nameless [] f) (nameless [] x)) a h).1 in
    let same : Some a ≡ None = sym is ∙ none in
    absurd (cc)

-- the type of a term, from its form without bound names
pub named_as : (items : Items) (t : Named) (n : Nameless) (a : TypeTree) → nameless [] t ≡ n → HasType items n a → named_type t ≡ Some a
named_as items t n a is typed = sym (type_outside t) ∙ (known_typed items (nameless [] t) a (rw is typed)).1
