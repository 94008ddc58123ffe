-- The parts of a written term that has a type have types.
use Rattle.std.specs.Prelude.{◌≡◌, Bool, true, false, cond, Option, Some, None, IsSome, codes, refl}
use Rattle.std.specs.Option.{option_and_then}
use Rattle.std.proofs.Common.{ap, sym, subst}
use Rattle.hol_types.specs.Tree.{TypeTree}
use Rattle.hol_types.specs.Equal.{type_eq}
use Rattle.hol_types.specs.Fun.{fun_type}
use Rattle.hol_types.proofs.OrderLaws.{type_cmp_decides}
use Rattle.hol_terms.specs.Named.{Named, constant, comb, named_type, applied_type}
use Rattle.hol_formulas.specs.Equation.{bool_type, equality_type, mk_eq}
use Rattle.hol_formulas.proofs.EquationTypes.{equation_left}

-- the type of an application of these types
abbrev joined : Option TypeTree → Option TypeTree → Option TypeTree
joined a b = option_and_then (λ s. option_and_then (λ t. applied_type s t) b) a

function_part : (a b : Option TypeTree) → IsSome (joined a b) → IsSome a
function_part None b e = e
function_part (Some s) b e = refl

argument_part : (a b : Option TypeTree) → IsSome (joined a b) → IsSome b
argument_part None b e = absurd (cc)
argument_part (Some s) None e = e
argument_part (Some s) (Some t) e = refl

pub argument_stands : (f x : Named) → IsSome (named_type (comb f x)) → IsSome (named_type x)
argument_stands f x e = argument_part (named_type f) (named_type x) e

argument_type : (a b : TypeTree) (o : Option TypeTree) → IsSome (option_and_then (λ t. applied_type (fun_type a b) t) o) → o ≡ Some a
argument_type a b None e = absurd (cc)
argument_type a b (Some t) e = by (type_eq a t) refl e
  where
    by : (w : Bool) → type_eq a t ≡ w → IsSome (cond w (Some b) None) → Some t ≡ Some a
    by true is e = ap Some (sym ((type_cmp_decides a t).0 is))
    by false is e = absurd (cc)

pub left_typed : (a : TypeTree) (l r : Named) → IsSome (named_type (mk_eq a l r)) → named_type l ≡ Some a
left_typed a l r e =
    argument_type a (fun_type a bool_type) (named_type l) (function_part (named_type (comb (constant (codes "=") (equality_type a)) l)) (named_type r) e)

pub right_typed : (a : TypeTree) (l r : Named) → IsSome (named_type (mk_eq a l r)) → named_type r ≡ Some a
right_typed a l r e =
    argument_type a bool_type (named_type r) (subst (λ o. IsSome (joined o (named_type r))) (equation_left a l (left_typed a l r e)) e)

pub ruleset equation_sides = (left_typed, right_typed)
