-- What the code says of a goal `f x = g y`. Only its clauses speak of it.
use Rattle.std.specs.Prelude.{◌≡◌, List, [], Option, Some, None}
use Rattle.hol_types.specs.Tree.{TypeTree}
use Rattle.hol_terms.specs.Named.{Named, comb, named_type}
use Rattle.hol_terms.specs.Nameless.{Nameless, nameless}
use Rattle.hol_formulas.specs.Equation.{equation}
use Rattle.hol_goal.specs.Goal.{GoalValue}
use Rattle.hol_just.specs.EquationTacs.{of_applications}

abbrev pub OnApplications : Type 0
OnApplications = Nameless × Nameless → Nameless × Nameless → Option (List GoalValue)

-- the goal is no such equation
abbrev pub HasNoApplications : GoalValue → Type 0
HasNoApplications goal = (on : OnApplications) → of_applications on goal ≡ None

pub record AreApplications (goal : GoalValue) (f x g y : Named) : Type 0 where
  pub range : TypeTree
  pub is : goal.conclusion ≡ equation range (nameless [] (comb f x)) (nameless [] (comb g y))
  pub left : named_type (comb f x) ≡ Some range
  pub right : named_type (comb g y) ≡ Some range
  pub meaning : (on : OnApplications) → of_applications on goal ≡ on (nameless [] f, nameless [] x) (nameless [] g, nameless [] y)
