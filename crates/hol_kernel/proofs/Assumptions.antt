-- Terms of type bool, that may be assumed.
use Rattle.std.specs.Prelude.{◌≡◌, true, false, cond, [], Some, None}
use Rattle.std.proofs.Common.{ap, ◌∙◌}
use Rattle.hol_types.specs.Tree.{TypeTree}
use Rattle.hol_types.specs.Equal.{type_eq}
use Rattle.hol_types.proofs.OrderLaws.{type_cmp_decides}
use Rattle.hol_terms.specs.Named.{Named, named_type}
use Rattle.hol_terms.specs.Nameless.{nameless}
use Rattle.hol_terms.proofs.Typing.{type_outside}
use Rattle.hol_formulas.specs.Equation.{bool_type}
use Rattle.hol_kernel.specs.Typing.{is_type_at}
use Rattle.hol_kernel.specs.Given.{assumed, assumption_of}

module _ (t : Named) (a : TypeTree) (has : named_type t ≡ Some a) where
  by_type : assumption_of (nameless [] t) ≡ cond (type_eq a bool_type) (Some (assumed (nameless [] t))) None
  by_type = ap (λ o. cond (is_type_at o bool_type) (Some (assumed (nameless [] t))) None) (type_outside t ∙ has)

  pub assumption_yes : type_eq a bool_type ≡ true → assumption_of (nameless [] t) ≡ Some (assumed (nameless [] t))
  assumption_yes e = by_type ∙ ap (λ b. cond b (Some (assumed (nameless [] t))) None) e

  pub assumption_no : type_eq a bool_type ≡ false → assumption_of (nameless [] t) ≡ None
  assumption_no e = by_type ∙ ap (λ b. cond b (Some (assumed (nameless [] t))) None) e

  pub assumption_typed : type_eq a bool_type ≡ true → named_type t ≡ Some bool_type
  assumption_typed e = has ∙ ap Some ((type_cmp_decides a bool_type).0 e)

pub ruleset assumptions = (assumption_yes, assumption_no, assumption_typed)
