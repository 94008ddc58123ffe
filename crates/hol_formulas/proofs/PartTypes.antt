-- The types of the parts of the prelude's statements.
use Rattle.std.specs.Prelude.{◌≡◌, Some, None, refl}
use Rattle.std.proofs.Common.{sym, ◌∙◌}
use Rattle.hol_types.specs.Tree.{TypeTree}
use Rattle.hol_types.specs.Fun.{fun_type}
use Rattle.hol_terms.specs.Named.{Named, comb, named_type}
use Rattle.hol_formulas.specs.Equation.{bool_type}
use Rattle.hol_formulas.specs.Prelude.{postulated}
use Rattle.hol_formulas.specs.declared.postulate.Postulate.{Postulate}
use Rattle.hol_formulas.specs.declared.postulate.Postulate.TheVariants.{TDef, AndDef, ImpDef, ForallDef, ExistsDef, OrDef, FDef, NotDef, ExistsUniqueDef, EtaAx, SelectAx, OneOne, Onto, InfinityAx}
use Rattle.hol_formulas.proofs.EquationTypes.{applied_fits}

pub applied_typed : (f x : Named) (a b : TypeTree) → named_type f ≡ Some (fun_type a b) → named_type x ≡ Some a → named_type (comb f x) ≡ Some b
applied_typed f x a b e g = rw (e, g) (applied_fits a b)

-- a function that fits its argument can be applied
pub applies : (f x : Named) (a b : TypeTree) → named_type f ≡ Some (fun_type a b) → named_type x ≡ Some a → ¬ (named_type (comb f x) ≡ None)
applies f x a b e g n = let absurdity : Some b ≡ None = sym (applied_typed f x a b e g) ∙ n in absurd (cc)

pub ruleset applications = (applied_typed, applies)

-- each statement is of type bool
pub postulated_typed : (which : Postulate) → named_type (postulated which) ≡ Some bool_type
postulated_typed TDef = refl
postulated_typed AndDef = refl
postulated_typed ImpDef = refl
postulated_typed ForallDef = refl
postulated_typed ExistsDef = refl
postulated_typed OrDef = refl
postulated_typed FDef = refl
postulated_typed NotDef = refl
postulated_typed ExistsUniqueDef = refl
postulated_typed EtaAx = refl
postulated_typed SelectAx = refl
postulated_typed OneOne = refl
postulated_typed Onto = refl
postulated_typed InfinityAx = refl
