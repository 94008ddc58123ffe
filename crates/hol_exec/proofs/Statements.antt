-- What elaboration says of a term, and what a statement is.
use Rattle.std.specs.Prelude.{◌≡◌, Bool, true, [], Option, Some, None}
use Rattle.std.proofs.Common.{ap, sym, ◌∙◌, subst}
use Rattle.hol_types.specs.Tree.{TypeTree}
use Rattle.hol_types.proofs.OrderLaws.{type_cmp_decides}
use Rattle.hol_terms.specs.Named.{Named, named_type}
use Rattle.hol_terms.specs.Nameless.{Nameless, nameless, nameless_type}
use Rattle.hol_terms.proofs.Typing.{type_outside}
use Rattle.hol_formulas.specs.Equation.{bool_type}
use Rattle.hol_kernel.specs.Items.{Items}
use Rattle.hol_kernel.specs.Typing.{is_type_at}
use Rattle.hol_kernel.proofs.Variables.{known_typed}
use Rattle.hol_goal.specs.Goal.{GoalValue}
use Rattle.hol_goal.specs.Achieves.{IsTyped}
use Rattle.hol_exec.specs.Valid.{IsStatement}

pub of_bool : (o : Option TypeTree) → is_type_at o bool_type ≡ true → o ≡ Some bool_type
of_bool None e = absurd (cc)
of_bool (Some a) e = ap Some ((type_cmp_decides a bool_type).0 e)

-- what is tested of a term is so of a copy of it
pub formula_typed : (t own : Named) (b : Bool) → b ≡ true → b ≡ is_type_at (nameless_type [] (nameless [] t)) bool_type → own ≡ t → named_type own ≡ Some bool_type
formula_typed t own b e f same = ap named_type same ∙ sym (type_outside t) ∙ of_bool (nameless_type [] (nameless [] t)) (sym f ∙ e)

-- a statement, as it is made, is a term of type bool
pub formula_of : (basis : Items) (t : Named) → IsStatement basis (nameless [] t) → named_type t ≡ Some bool_type
formula_of basis t h = sym (type_outside t) ∙ (known_typed basis (nameless [] t) bool_type h).1

-- and its goal is well typed
pub goal_typed : (basis own : Items) (t : Nameless) (g : GoalValue) → IsStatement basis t → own ≡ basis → g ≡ record { assumptions = []; conclusion = t } → IsTyped own g
goal_typed basis own t g h same is =
    subst (IsTyped own) (sym is) (subst (λ (b : Items). IsTyped b (record { assumptions = []; conclusion = t })) (sym same) (record { assumptions = tt; conclusion = h }))

pub goal_plain : (t : Nameless) (g : GoalValue) → g ≡ record { assumptions = []; conclusion = t } → g.assumptions ≡ []
goal_plain t g is = ap (λ (x : GoalValue). x.assumptions) is
