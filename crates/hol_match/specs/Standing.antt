-- That what an instance gives stands over a basis: its types, and the types and constants of its terms. What is kept private cites it.
use Rattle.std.specs.Prelude.{◌≡◌, ℕ, List, true}
use Rattle.std.specs.List.{AllByRecursion}
use Rattle.hol_types.specs.Tree.{TypeTree}
use Rattle.hol_terms.specs.Nameless.{Nameless}
use Rattle.hol_kernel.specs.Items.{Items}
use Rattle.hol_kernel.specs.Typing.{is_type, is_known}
use Rattle.hol_match.specs.Instance.{InstanceValue}

abbrev pub TypesStand : Items → List (TypeTree × List ℕ) → Type 0
TypesStand basis ps = AllByRecursion (λ p. is_type basis p.0 ≡ true) ps

abbrev pub TermsStand : Items → List (Nameless × (List ℕ × TypeTree)) → Type 0
TermsStand basis ps = AllByRecursion (λ p. is_known basis p.0 ≡ true) ps

abbrev pub Stands : Items → InstanceValue → Type 0
Stands basis a = TypesStand basis a.types × TermsStand basis a.terms
