-- The types of `=` and of its applications.
use Rattle.std.specs.Prelude.{◌≡◌, codes, Some}
use Rattle.std.proofs.Common.{ap, sym, ◌∙◌}
use Rattle.hol_types.specs.Tree.{TypeTree}
use Rattle.hol_types.specs.Fun.{fun_type}
use Rattle.hol_terms.specs.Named.{Named, constant, comb, named_type}
use Rattle.hol_formulas.specs.Equation.{bool_type, equality_type}
use Rattle.hol_formulas.proofs.EquationTypes.{equation_left, equation_right}

-- `=` with a left side
pub half_typed : (half left : Named) (a : TypeTree) → half ≡ comb (constant (codes "=") (equality_type a)) left → named_type left ≡ Some a → named_type half ≡ Some (fun_type a bool_type)
half_typed half left a e f = ap named_type e ∙ equation_left a left f

-- `=` applied, where the types of its applications are at hand
pub half_type : (sign left : Named) (a p : TypeTree) → sign ≡ constant (codes "=") (equality_type a) → p ≡ fun_type a bool_type → named_type left ≡ Some a → named_type (comb sign left) ≡ Some p
half_type sign left a p e f g = ap (λ (s : Named). named_type (comb s left)) e ∙ equation_left a left g ∙ sym (ap Some f)

pub whole_type : (sign left right : Named) (a t : TypeTree) → sign ≡ constant (codes "=") (equality_type a) → t ≡ bool_type → named_type left ≡ Some a → named_type right ≡ Some a → named_type (comb (comb sign left) right) ≡ Some t
whole_type sign left right a t e f g h = ap (λ (s : Named). named_type (comb (comb s left) right)) e ∙ equation_right a left right g h ∙ sym (ap Some f)
