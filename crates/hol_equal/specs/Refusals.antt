-- How the errors of the rules of equations are read.
use Rattle.hol_kernel.specs.Gives.{Failure, by_rule, of_memory}
use Rattle.hol_equal.specs.declared.error.Rule.{Rule}
use Rattle.hol_equal.specs.declared.error.EqualError.{EqualError}
use Rattle.hol_equal.specs.declared.error.EqualError.TheVariants.{Refused, Memory}

abbrev pub in_equal : EqualError → Failure Rule
in_equal (Refused r) = by_rule r
in_equal Memory = of_memory
