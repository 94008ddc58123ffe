-- What matching answers is what the test of instances says.
use Rattle.std.specs.Prelude.{◌≡◌, ℕ, List, [], true, Option, Some, None, is_some, IsTrue, refl, ◌↔◌}
use Rattle.std.proofs.Common.{ap}
use Rattle.hol_types.specs.Tree.{TypeTree}
use Rattle.hol_types.specs.Subst.{type_subst}
use Rattle.hol_types.specs.Match.{match_type}
use Rattle.hol_types.proofs.MatchLaws.{match_found, match_missing}
use Rattle.hol_formulas.specs.Constants.{is_instance}

abbrev pub Pairs : Type 0
Pairs = List (TypeTree × List ℕ)

instance_by : (generic a : TypeTree) (o : Option Pairs) → match_type generic [] a ≡ o → (pairs : Pairs) → type_subst pairs generic ≡ a → is_instance generic a ≡ true
instance_by generic a None e pairs gives = absurd (match_missing generic a e pairs gives)
instance_by generic a (Some found) e pairs gives = ap is_some e

-- a type that a substitution gives is an instance
pub instance_of_subst : (generic a : TypeTree) (pairs : Pairs) → type_subst pairs generic ≡ a → is_instance generic a ≡ true
instance_of_subst generic a = instance_by generic a (match_type generic [] a) refl

subst_by : (generic a : TypeTree) (o : Option Pairs) → match_type generic [] a ≡ o → is_some o ≡ true → (pairs : Pairs) × (type_subst pairs generic ≡ a)
subst_by generic a None e is = absurd (cc)
subst_by generic a (Some found) e is = let m = match_found generic a found e in (_, m.gives)

-- an instance is what some substitution gives
pub subst_of_instance : (generic a : TypeTree) → is_instance generic a ≡ true → (pairs : Pairs) × (type_subst pairs generic ≡ a)
subst_of_instance generic a = subst_by generic a (match_type generic [] a) refl

pub instance_decides : (generic a : TypeTree) → IsTrue (is_instance generic a) ↔ ((pairs : Pairs) × (type_subst pairs generic ≡ a))
instance_decides generic a = (subst_of_instance generic a, λ p. instance_of_subst generic a p.0 p.1)
