-- The parts of an equation fit.
use Rattle.std.specs.Prelude.{◌≡◌, true, codes, Some, refl}
use Rattle.hol_types.specs.Tree.{TypeTree}
use Rattle.hol_types.specs.Equal.{type_eq}
use Rattle.hol_types.specs.Fun.{fun_type}
use Rattle.hol_types.proofs.OrderLaws.{type_cmp_decides}
use Rattle.hol_terms.specs.Named.{Named, constant, comb, named_type}
pub use Rattle.hol_terms.proofs.Typing.{applied_fits}
use Rattle.hol_formulas.specs.Equation.{bool_type, equality_type, mk_eq}

pub type_eq_itself : (a : TypeTree) → type_eq a a ≡ true
type_eq_itself a = (type_cmp_decides a a).1 refl

pub equation_left : (a : TypeTree) (l : Named) → named_type l ≡ Some a → named_type (comb (constant (codes "=") (equality_type a)) l) ≡ Some (fun_type a bool_type)
equation_left a l e = rw e (applied_fits a (fun_type a bool_type))

pub equation_right : (a : TypeTree) (l r : Named) → named_type l ≡ Some a → named_type r ≡ Some a → named_type (mk_eq a l r) ≡ Some bool_type
equation_right a l r e f = rw (equation_left a l e, f) (applied_fits a bool_type)

pub ruleset equations = (equation_left, equation_right)
