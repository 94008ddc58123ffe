-- The steps that a node of the program stands for, the last one first.
use Rattle.std.specs.Prelude.{List, [], ◌∷◌}
use Rattle.hol_match.specs.declared.rule_step.RuleStep.{RuleStep}
use Rattle.hol_match.specs.declared.way.WayNode.{WayNode}
use Rattle.hol_match.specs.declared.way.WayNode.TheVariants.{Start, After}

abbrev pub steps_of : WayNode → List RuleStep
steps_of Start = []
steps_of (After before last) = last ∷ before
